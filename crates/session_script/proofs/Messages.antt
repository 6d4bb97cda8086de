-- The message that bytes begin with, and the messages of all of them.
use Rattle.std.proofs.Common.{◌≡◌, ℕ, ◌+◌, ◌≤◌, ◌<◌, List, [], ◌∷◌, ◌++◌, length, take, drop, refl, sym, ap, subst, ◌∙◌, append_assoc, append-nil, length-append, arith, Err}
use Rattle.std.specs.Prelude.{option_to_list, IsErrOf}
use Rattle.std.proofs.Math.Seq.{take-append_seam, drop-append_seam}
use Rattle.std.proofs.lemmas.List.{nil_from_length}
use Rattle.std.proofs.lemmas.Option.{same_Some}
use Rattle.byteorder.specs.Endian.{little_number}
use Rattle.byteorder.specs.Numbers.{little_number-reads_back}
use Rattle.net_base.specs.declared.world.Step.{Step}
use Rattle.net_base.specs.declared.ninep.Tmsg.{Tmsg}
use Rattle.net_base.specs.NinepFields.{number_bytes}
use Rattle.net_base.specs.NinepMessages.{SpellsT, longest, t_bytes, t_fields, t_tag, t_type}
use Rattle.ninep_wire.proofs.Shared.{t_only}
use Rattle.net_base.specs.SessionScript.{AreMessages, Begins, IsBadStream, IsScript, IsStream, table_next, script, message_step, steps_of}
use Rattle.net_base.specs.SessionTable.{Table, opening}
use Rattle.session_script.specs.Streams.{TakesBytes}

-- ---- one message

-- a message has a header at least
long : (m : Tmsg) → 7 ≤ length (t_bytes m)
unfolding t_bytes
long m = omega arith

-- the size that it tells is its length
size_told : (m : Tmsg) (rest : List ℕ) → length (t_bytes m) ≤ longest → little_number 4 (t_bytes m ++ rest) ≡ length (t_bytes m)
unfolding t_bytes
size_told m rest short =
    let n : ℕ = 7 + length (t_fields m) in
    let behind : List ℕ = number_bytes 1 (t_type m) ++ (number_bytes 2 (t_tag m) ++ t_fields m) in
    ap (little_number 4) (append_assoc (number_bytes 4 n) behind rest)
    ∙ little_number-reads_back 4 n (behind ++ rest) (omega (arith, short))
    ∙ omega arith

pub size_is : (k : ℕ) (m : Tmsg) (bytes rest : List ℕ) → Begins k m bytes rest → little_number 4 bytes ≡ length (t_bytes m)
size_is k m bytes rest b = ap (little_number 4) b.whole ∙ size_told m rest b.spells.short

pub length_is : (k : ℕ) (m : Tmsg) (bytes rest : List ℕ) → Begins k m bytes rest → length bytes ≡ length (t_bytes m) + length rest
length_is k m bytes rest b = ap (λ (xs : List ℕ). length xs) b.whole ∙ length-append (t_bytes m) rest

pub has_header : (k : ℕ) (m : Tmsg) (bytes rest : List ℕ) → Begins k m bytes rest → 7 + length rest ≤ length bytes
has_header k m bytes rest b = omega (arith, length_is k m bytes rest b, long m)

pub none_begins : (k : ℕ) (m : Tmsg) (bytes rest : List ℕ) → bytes ≡ [] → Begins k m bytes rest → ⊥
none_begins k m bytes rest none b = absurd (omega (arith, has_header k m bytes rest b, ap (λ (xs : List ℕ). length xs) none))

-- bytes spell one message
same_spelled : (m n : Tmsg) → SpellsT m (t_bytes m) → SpellsT n (t_bytes n) → t_bytes m ≡ t_bytes n → m ≡ n
same_spelled m n a b e = same_Some m n (sym (t_only m (t_bytes m) a) ∙ t_only n (t_bytes m) (subst (SpellsT n) (sym e) b))

-- bytes begin with one message
pub one_beginning : (k : ℕ) (m n : Tmsg) (bytes p q : List ℕ) → Begins k m bytes p → Begins k n bytes q → (m ≡ n) × (p ≡ q)
one_beginning k m n bytes p q a b =
    let sizes : length (t_bytes m) ≡ length (t_bytes n) = sym (size_is k m bytes p a) ∙ size_is k n bytes q b in
    let both : t_bytes m ++ p ≡ t_bytes n ++ q = sym a.whole ∙ b.whole in
    let fronts : t_bytes m ≡ t_bytes n =
    sym (take-append_seam (t_bytes m) p)
    ∙ ap (take (length (t_bytes m))) both
    ∙ ap (λ (i : ℕ). take i (t_bytes n ++ q)) sizes
    ∙ take-append_seam (t_bytes n) q in
    let rests : p ≡ q =
    sym (drop-append_seam (t_bytes m) p)
    ∙ ap (drop (length (t_bytes m))) both
    ∙ ap (λ (i : ℕ). drop i (t_bytes n ++ q)) sizes
    ∙ drop-append_seam (t_bytes n) q in
    (same_spelled m n a.spells b.spells fronts, rests)

-- .. and what begins the bytes is what their size cuts off
pub front_spells : (k : ℕ) (m : Tmsg) (bytes rest : List ℕ) → Begins k m bytes rest → SpellsT m (take (little_number 4 bytes) bytes)
front_spells k m bytes rest b =
    let front : take (little_number 4 bytes) bytes ≡ t_bytes m =
    ap (λ (i : ℕ). take i bytes) (size_is k m bytes rest b)
    ∙ ap (take (length (t_bytes m))) b.whole
    ∙ take-append_seam (t_bytes m) rest in
    subst (SpellsT m) (sym front) b.spells

-- bytes without so many bytes begin with no message
pub no_size : (k : ℕ) (bytes : List ℕ) → (4 ≤ length bytes → little_number 4 bytes ≤ k → little_number 4 bytes ≤ length bytes → ⊥)
    → (m : Tmsg) (rest : List ℕ) → Begins k m bytes rest → ⊥
no_size k bytes none = λ m rest b.
    let size : little_number 4 bytes ≡ length (t_bytes m) = size_is k m bytes rest b in
    let all : length bytes ≡ length (t_bytes m) + length rest = length_is k m bytes rest b in
    none (omega (arith, all, long m)) (omega (arith, size, b.short)) (omega (arith, size, all))

-- .. nor do those whose front spells none
pub no_front : (k size : ℕ) (bytes front : List ℕ) → size ≡ little_number 4 bytes → front ≡ take size bytes → ((m : Tmsg) → SpellsT m front → ⊥)
    → (m : Tmsg) (rest : List ℕ) → Begins k m bytes rest → ⊥
no_front k size bytes front size_is front_is none = λ m rest b.
    none m (subst (SpellsT m) (sym (front_is ∙ ap (λ (i : ℕ). take i bytes) size_is)) (front_spells k m bytes rest b))

err_is : {U E : Type 0} (e x : E) → IsErrOf {T = U} {E = E} (Err e) x → e ≡ x
err_is e x h = cc

-- an error is the same error in place of another value
pub errs : {T U E : Type 0} (e x : E) → IsErrOf {T = U} {E = E} (Err e) x → IsErrOf {T = T} {E = E} (Err e) x
errs {T} {U} {E} e x h = ap (λ (y : E). Err y) (err_is e x h)

-- ---- all of them

-- bytes are one list of messages
same_messages : (t : Table) (ms ns : List Tmsg) (bytes : List ℕ) → IsStream t ms bytes → IsStream t ns bytes → ms ≡ ns
same_messages t [] [] bytes a b = refl
same_messages t [] (n ∷ ns) bytes a b = absurd (none_begins t.msize n bytes b.0 a b.1)
same_messages t (m ∷ ms) [] bytes a b = absurd (none_begins t.msize m bytes a.0 b a.1)
same_messages t (m ∷ ms) (n ∷ ns) bytes a b =
    let one = one_beginning t.msize m n bytes a.0 b.0 a.1 b.1 in
    let more : IsStream (table_next t n) ms b.0 =
    subst (λ (rest : List ℕ). IsStream (table_next t n) ms rest) one.1 (subst (λ (x : Tmsg). IsStream (table_next t x) ms a.0) one.0 a.2) in
    ap (λ (x : Tmsg). x ∷ ms) one.0 ∙ ap (λ (xs : List Tmsg). n ∷ xs) (same_messages (table_next t n) ms ns b.0 more b.2)

pub one_script : (bytes : List ℕ) (steps : List Step) (ms : List Tmsg) → IsScript bytes steps → AreMessages bytes ms → steps ≡ script ms
one_script bytes steps ms s are = s.2 ∙ ap script (same_messages opening s.0 ms bytes s.1 are)

-- what a loop over the messages keeps: those before are read, whatever follows
pub record Reads (bytes : List ℕ) (t : Table) (steps : List Step) (rest : List ℕ) : Type 0 where
  pub sound : (more : List Tmsg) → IsStream t more rest → IsScript bytes (steps ++ steps_of t more)
  pub full : (ms : List Tmsg) → AreMessages bytes ms → (more : List Tmsg) × IsStream t more rest

pub starts : (bytes : List ℕ) (t : Table) (steps : List Step) → t ≡ opening → steps ≡ [] → Reads bytes t steps bytes
starts bytes t steps is none = record {
  sound = λ more s. (more, subst (λ (x : Table). IsStream x more bytes) is s, ap (λ (xs : List Step). xs ++ steps_of t more) none ∙ ap (λ (x : Table). steps_of x more) is);
  full = λ ms are. (ms, subst (λ (x : Table). IsStream x ms bytes) (sym is) are);
}

further : (t u : Table) (before steps : List Step) (rest behind : List ℕ) (more : List Tmsg) → TakesBytes t u before steps rest behind → IsStream t more rest
    → (later : List Tmsg) × IsStream u later behind
further t u before steps rest behind [] k s = absurd (none_begins t.msize k.message rest behind s k.begins)
further t u before steps rest behind (m ∷ more) k s =
    let one = one_beginning t.msize m k.message rest s.0 behind s.1 k.begins in
    let table : table_next t m ≡ u = ap (table_next t) one.0 ∙ sym k.table in
    (more, subst (λ (xs : List ℕ). IsStream u more xs) one.1 (subst (λ (x : Table). IsStream x more s.0) table s.2))

pub goes_on : (bytes : List ℕ) (t u : Table) (before steps : List Step) (rest behind : List ℕ) → Reads bytes t before rest → TakesBytes t u before steps rest behind
    → Reads bytes u steps behind
goes_on bytes t u before steps rest behind r k = record {
  sound = λ more s.
      let stream : IsStream (table_next t k.message) more behind = subst (λ (x : Table). IsStream x more behind) k.table s in
      let same : before ++ (option_to_list (message_step t k.message) ++ steps_of (table_next t k.message) more) ≡ steps ++ steps_of u more =
      sym (append_assoc before (option_to_list (message_step t k.message)) (steps_of (table_next t k.message) more))
      ∙ ap (λ (xs : List Step). xs ++ steps_of (table_next t k.message) more) (sym k.adds)
      ∙ ap (λ (x : Table). steps ++ steps_of x more) (sym k.table) in
      subst (IsScript bytes) same (r.sound (k.message ∷ more) (behind, k.begins, stream));
  full = λ ms are.
      let left = r.full ms are in
      further t u before steps rest behind left.0 k left.1;
}

pub ends : (bytes : List ℕ) (t : Table) (steps : List Step) (rest : List ℕ) → length rest ≡ 0 → Reads bytes t steps rest → IsScript bytes steps
ends bytes t steps rest none r = subst (IsScript bytes) (append-nil steps) (r.sound [] (nil_from_length rest none))

-- no message begins what is left
pub is_bad : (bytes : List ℕ) (t : Table) (steps : List Step) (rest : List ℕ) → Reads bytes t steps rest → 0 < length rest
    → ((m : Tmsg) (behind : List ℕ) → Begins t.msize m rest behind → ⊥) → IsBadStream bytes
is_bad bytes t steps rest r some none = λ ms are.
    let left = r.full ms are in
    nothing left.0 left.1
  where
    nothing : (more : List Tmsg) → IsStream t more rest → ⊥
    nothing [] s = absurd (omega (arith, some, ap (λ (xs : List ℕ). length xs) s))
    nothing (m ∷ more) s = none m s.0 s.1

-- Fields are read exactly.
use Rattle.std.proofs.Common.{◌≡◌, ℕ, ◌+◌, ◌/◌, ◌%◌, ◌<◌, ◌≤◌, ◌^◌, ◌==◌, Bool, true, false, ◌&&◌, List, [], ◌∷◌, ◌++◌, refl, sym, ap, subst, ◌∙◌, arith, Option, Some, None, append_assoc, append-nil, cond, if◌then◌else◌, codes}
use Rattle.std.specs.Prelude.{bytes_eq, filter, nat_lt, option_map, slice_get}
use Rattle.std.proofs.lemmas.Bool.{ne_eqb}
use Rattle.std.proofs.lemmas.Bool.Decides.{nat_tests}
use Rattle.std.specs.List.{join_with_byte}
use Rattle.std.proofs.lemmas.Option.{none-some, same_Some}
use Rattle.std.proofs.lemmas.Slice.Eq.{bytes_eq-Decides}
use Rattle.net_base.specs.declared.actor.ActorName.{ActorName}
use Rattle.net_base.specs.declared.actor.ActorName.TheVariants as name
use Rattle.net_base.specs.declared.address.Addr.{Addr}
use Rattle.net_base.specs.declared.address.Proto.{Proto}
use Rattle.net_base.specs.declared.address.Proto.TheVariants as proto
use Rattle.net_base.specs.declared.il.Cause.{Cause}
use Rattle.net_base.specs.declared.il.Cause.TheVariants as cause
use Rattle.net_base.specs.declared.il.IlKind.{IlKind}
use Rattle.net_base.specs.declared.il.IlKind.TheVariants as kind
use Rattle.net_base.specs.declared.il.StateName.{StateName}
use Rattle.net_base.specs.declared.il.StateName.TheVariants as state
use Rattle.net_base.specs.declared.names.FileName.{FileName}
use Rattle.net_base.specs.declared.names.FileName.TheVariants as file
use Rattle.net_base.specs.declared.names.Mode.{Mode}
use Rattle.net_base.specs.declared.names.Mode.TheVariants as mode
use Rattle.net_base.specs.Addresses.{address_in, number_in, parts_at}
use Rattle.net_base.specs.Numeral.{numeral}
use Rattle.net_base.specs.Paths.{all_files, file_name, file_named, mode_named, proto_name, proto_named}
use Rattle.net_base.specs.StateWords.{state_word}
use Rattle.net_base.specs.Transcript.{actor_word, addr_word, cause_number, ip_or_star, ip_word, kind_word, mode_word, number_or_dash, number_or_star}
use Rattle.words.proofs.Shared.{addresses_alike, decimal_is_numeral, numeral_by_steps}
use Rattle.history_reader.specs.Fields as spec
use Rattle.history_reader.specs.Fields.{Words, Read, both_fields, read_as, one}
use Rattle.history_reader.specs.Wide.{IfAny, IsLongField, IsNarrow, IsOctet, IsPlace, IsPort, IsWideActor}
use Rattle.history_reader.proofs.Clean.{IsFree, AreFree, free_address, free_both, free_numeral, one_part, parts_back}
use Rattle.history_reader.proofs.Exact.{AreBare, AreRows, Exact, ExactWord, IsBare, bare_row, exact_as, exact_both, exact_made, exact_one, exact_parts, exact_spelled, made_told, row, rows_sound}
use Rattle.net_base.proofs.Shared.{number_in-spelled, number-back, within-is, address-dotted, address-back, proto_back}

-- Numbers.

pub bare_numeral : (n : ℕ) → IsBare (numeral n)
bare_numeral n = (free_numeral 32 n (omega arith), free_numeral 10 n (omega arith))

pub number_exact : (most : ℕ) → most < 2 ^ 64 → ExactWord ℕ (number_in 0 most) numeral (λ n. n ≤ most)
number_exact most fits =
    record {
      sound = λ word n e.
          let is = number_in-spelled 0 most word n fits e in
          let within = is.within in
          (is.is ∙ decimal_is_numeral n (omega (arith, within, fits)), is.within);
      told = λ n within.
          ap (number_in 0 most) (sym (decimal_is_numeral n (omega (arith, within, fits)))) ∙ number-back 0 most n fits (within-is 0 most n (omega arith) within);
      bare = λ n within. bare_numeral n;
    }

abbrev pub numbers : ℕ → Words
numbers n = numeral n ∷ []

-- Numbers by their widths.

number_reads : (most : ℕ) → most < 2 ^ 64 → Exact ℕ (one (number_in 0 most)) numbers (λ n. n ≤ most)
number_reads most fits = exact_one (number_in 0 most) numeral (λ n. n ≤ most) (number_exact most fits)

pub long_exact : Exact ℕ spec.long numbers IsLongField
long_exact =
    exact_as spec.long numbers (λ n. n ≤ 18446744073709551615) IsLongField (number_reads 18446744073709551615 (omega arith)) (λ n h. omega (arith, h)) (λ n h. omega (arith, h))

pub narrow_exact : Exact ℕ spec.narrow numbers IsNarrow
narrow_exact = exact_as spec.narrow numbers (λ n. n ≤ 4294967295) IsNarrow (number_reads 4294967295 (omega arith)) (λ n h. omega (arith, h)) (λ n h. omega (arith, h))

pub port_exact : Exact ℕ spec.port numbers IsPort
port_exact = exact_as spec.port numbers (λ n. n ≤ 65535) IsPort (number_reads 65535 (omega arith)) (λ n h. omega (arith, h)) (λ n h. omega (arith, h))

pub octet_exact : Exact ℕ spec.octet numbers IsOctet
octet_exact = exact_as spec.octet numbers (λ n. n ≤ 255) IsOctet (number_reads 255 (omega arith)) (λ n h. omega (arith, h)) (λ n h. omega (arith, h))

-- Literal words.

abbrev pub is_free : ℕ → List ℕ → Bool
is_free s [] = true
is_free s (b ∷ word) = if b == s then false else is_free s word

pub free : (s : ℕ) (word : List ℕ) → is_free s word ≡ true → IsFree s word
free s [] e = tt
free s (b ∷ word) e = by (b == s) refl e (free s word)
  where
    by : (v : Bool) → (b == s) ≡ v → (if v then false else is_free s word) ≡ true → (is_free s word ≡ true → IsFree s word) → ((b == s) ≡ false) × IsFree s word
    by true is f later = absurd (cc)
    by false is f later = (is, later f)

pub bare : (word : List ℕ) → is_free 32 word ≡ true → is_free 10 word ≡ true → IsBare word
bare word e f = (free 32 word e, free 10 word f)

-- A number or a mark.

abbrev spell_or : List ℕ → (ℕ → List ℕ) → Option ℕ → List ℕ
spell_or mark spell None = mark
spell_or mark spell (Some n) = spell n

marked_sound : (mark : List ℕ) (read : List ℕ → Option ℕ) (spell : ℕ → List ℕ) (P : ℕ → Type 0) → ExactWord ℕ read spell P
    → (word : List ℕ) (n : Option ℕ) → spec.read_marked mark read word ≡ Some n → (word ≡ spell_or mark spell n) × IfAny P n
marked_sound mark read spell P exact word n e = by (bytes_eq word mark) refl e
  where
    some : (o : Option ℕ) → read word ≡ o → option_map (λ (k : ℕ). Some k) o ≡ Some n → (word ≡ spell_or mark spell n) × IfAny P n
    some None q f = absurd (none-some n f)
    some (Some k) q f =
        let is = exact.sound word k q in
        let same = same_Some (Some k) n f in
        (is.0 ∙ ap (spell_or mark spell) same, subst (IfAny P) same is.1)

    by : (v : Bool) → bytes_eq word mark ≡ v → (if v then Some None else option_map (λ (k : ℕ). Some k) (read word)) ≡ Some n → (word ≡ spell_or mark spell n) × IfAny P n
    by true is f =
        let same = same_Some None n f in
        ((bytes_eq-Decides word mark).0 is ∙ ap (spell_or mark spell) same, subst (IfAny P) same tt)
    by false is f = some (read word) refl f

marked_told : (mark : List ℕ) (read : List ℕ → Option ℕ) (spell : ℕ → List ℕ) (P : ℕ → Type 0) → ExactWord ℕ read spell P → bytes_eq mark mark ≡ true
    → ((n : ℕ) → bytes_eq (spell n) mark ≡ false) → (n : Option ℕ) → IfAny P n → spec.read_marked mark read (spell_or mark spell n) ≡ Some n
marked_told mark read spell P exact self other None fits = ap (λ v. if v then Some None else option_map (λ (k : ℕ). Some k) (read mark)) self
marked_told mark read spell P exact self other (Some n) fits =
    ap (λ v. if v then Some None else option_map (λ (k : ℕ). Some k) (read (spell n))) (other n) ∙ ap (option_map (λ (k : ℕ). Some k)) (exact.told n fits)

marked_bare : (mark : List ℕ) (read : List ℕ → Option ℕ) (spell : ℕ → List ℕ) (P : ℕ → Type 0) → ExactWord ℕ read spell P → IsBare mark
    → (n : Option ℕ) → IfAny P n → IsBare (spell_or mark spell n)
marked_bare mark read spell P exact is None fits = is
marked_bare mark read spell P exact is (Some n) fits = exact.bare n fits

marked_exact : (mark : List ℕ) (read : List ℕ → Option ℕ) (spell : ℕ → List ℕ) (P : ℕ → Type 0) → ExactWord ℕ read spell P → bytes_eq mark mark ≡ true
    → ((n : ℕ) → bytes_eq (spell n) mark ≡ false) → IsBare mark → ExactWord (Option ℕ) (spec.read_marked mark read) (spell_or mark spell) (IfAny P)
marked_exact mark read spell P exact self other is =
    record {
      sound = marked_sound mark read spell P exact;
      told = marked_told mark read spell P exact self other;
      bare = marked_bare mark read spell P exact is;
    }

-- a digit comes first, and so no mark
no_mark : (n : ℕ) (rest : List ℕ) (mark : ℕ) → mark < 48 → bytes_eq (numeral n ++ rest) (mark ∷ []) ≡ false
no_mark n rest mark low =
    numeral_by_steps (λ m ds. (others : List ℕ) → bytes_eq (ds ++ others) (mark ∷ []) ≡ false)
    (λ m lt others. ap (λ v. v && bytes_eq others []) (ne_eqb (48 + m) mark (λ is. omega (arith, is, low))))
    (λ m ds ten told others. ap (λ ws. bytes_eq ws (mark ∷ [])) (append_assoc ds ((48 + m % 10) ∷ []) others) ∙ told (((48 + m % 10) ∷ []) ++ others))
    n rest

-- and no letter
pub no_word : (n b : ℕ) (word : List ℕ) → 57 < b → bytes_eq (numeral n) (b ∷ word) ≡ false
no_word n b word high =
    ap (λ ws. bytes_eq ws (b ∷ word)) (sym (append-nil (numeral n)))
    ∙ numeral_by_steps (λ m ds. (others : List ℕ) → bytes_eq (ds ++ others) (b ∷ word) ≡ false)
    (λ m lt others. ap (λ v. v && bytes_eq others word) (ne_eqb (48 + m) b (λ is. omega (arith, is, high, lt))))
    (λ m ds ten told others. ap (λ ws. bytes_eq ws (b ∷ word)) (append_assoc ds ((48 + m % 10) ∷ []) others) ∙ told (((48 + m % 10) ∷ []) ++ others))
    n []

pub no_mark_alone : (n mark : ℕ) → mark < 48 → bytes_eq (numeral n) (mark ∷ []) ≡ false
no_mark_alone n mark low = ap (λ ws. bytes_eq ws (mark ∷ [])) (sym (append-nil (numeral n))) ∙ no_mark n [] mark low

as_any : (P Q : ℕ → Type 0) → ((n : ℕ) → P n → Q n) → (n : Option ℕ) → IfAny P n → IfAny Q n
as_any P Q go None fits = tt
as_any P Q go (Some n) fits = go n fits

option_reads : (mark most : ℕ) (P : ℕ → Type 0) → most < 2 ^ 64 → mark < 48 → bytes_eq (mark ∷ []) (mark ∷ []) ≡ true → IsBare (mark ∷ []) → ((n : ℕ) → n ≤ most → P n) → ((n : ℕ) → P n → n ≤ most)
    → Exact (Option ℕ) (one (spec.read_marked (mark ∷ []) (number_in 0 most))) (λ n. spell_or (mark ∷ []) numeral n ∷ []) (IfAny P)
option_reads mark most P fits low self is there back' =
    exact_as (one (spec.read_marked (mark ∷ []) (number_in 0 most))) (λ n. spell_or (mark ∷ []) numeral n ∷ []) (IfAny (λ n. n ≤ most)) (IfAny P)
    (exact_one (spec.read_marked (mark ∷ []) (number_in 0 most)) (spell_or (mark ∷ []) numeral) (IfAny (λ n. n ≤ most))
    (marked_exact (mark ∷ []) (number_in 0 most) numeral (λ n. n ≤ most) (number_exact most fits) self (λ n. no_mark_alone n mark low) is))
    (as_any (λ n. n ≤ most) P there) (as_any P (λ n. n ≤ most) back')

dash_is : (n : Option ℕ) → spell_or (codes "-") numeral n ∷ [] ≡ number_or_dash n ∷ []
dash_is None = refl
dash_is (Some n) = refl

star_is : (n : Option ℕ) → spell_or (codes "*") numeral n ∷ [] ≡ number_or_star n ∷ []
star_is None = refl
star_is (Some n) = refl

abbrev pub dashes : Option ℕ → Words
dashes n = number_or_dash n ∷ []

abbrev pub stars : Option ℕ → Words
stars n = number_or_star n ∷ []

pub long_or_dash_exact : Exact (Option ℕ) spec.long_or_dash dashes (IfAny IsLongField)
long_or_dash_exact =
    exact_spelled spec.long_or_dash (λ n. spell_or (codes "-") numeral n ∷ []) dashes (IfAny IsLongField)
    (option_reads 45 18446744073709551615 IsLongField (omega arith) (omega arith) refl (bare (codes "-") refl refl) (λ n h. omega (arith, h)) (λ n h. omega (arith, h))) dash_is

pub narrow_or_dash_exact : Exact (Option ℕ) spec.narrow_or_dash dashes (IfAny IsNarrow)
narrow_or_dash_exact =
    exact_spelled spec.narrow_or_dash (λ n. spell_or (codes "-") numeral n ∷ []) dashes (IfAny IsNarrow)
    (option_reads 45 4294967295 IsNarrow (omega arith) (omega arith) refl (bare (codes "-") refl refl) (λ n h. omega (arith, h)) (λ n h. omega (arith, h))) dash_is

pub port_or_dash_exact : Exact (Option ℕ) spec.port_or_dash dashes (IfAny IsPort)
port_or_dash_exact =
    exact_spelled spec.port_or_dash (λ n. spell_or (codes "-") numeral n ∷ []) dashes (IfAny IsPort)
    (option_reads 45 65535 IsPort (omega arith) (omega arith) refl (bare (codes "-") refl refl) (λ n h. omega (arith, h)) (λ n h. omega (arith, h))) dash_is

pub port_or_star_exact : Exact (Option ℕ) spec.port_or_star stars (IfAny IsPort)
port_or_star_exact =
    exact_spelled spec.port_or_star (λ n. spell_or (codes "*") numeral n ∷ []) stars (IfAny IsPort)
    (option_reads 42 65535 IsPort (omega arith) (omega arith) refl (bare (codes "*") refl refl) (λ n h. omega (arith, h)) (λ n h. omega (arith, h))) star_is

-- Addresses.

address_exact : ExactWord ℕ address_in ip_word IsNarrow
address_exact =
    record {
      sound = λ word ip e.
          let is = address-dotted word ip e in
          (is.is ∙ sym (addresses_alike ip is.fits), is.fits);
      told = λ ip fits. ap address_in (addresses_alike ip fits) ∙ address-back ip fits;
      bare = λ ip fits. (free_address 32 ip (omega arith), free_address 10 ip (omega arith));
    }

no_star : (ip : ℕ) → bytes_eq (ip_word ip) (codes "*") ≡ false
no_star ip =
    let rest = codes "." ++ numeral (ip / 2 ^ 16 % 256) ++ codes "." ++ numeral (ip / 2 ^ 8 % 256) ++ codes "." ++ numeral (ip % 256) in
    let is : ip_word ip ≡ numeral (ip / 2 ^ 24) ++ rest = simp append_assoc refl in
    ap (λ word. bytes_eq word (codes "*")) is ∙ no_mark (ip / 2 ^ 24) rest 42 (omega arith)

ip_star_is : (n : Option ℕ) → spell_or (codes "*") ip_word n ∷ [] ≡ ip_or_star n ∷ []
ip_star_is None = refl
ip_star_is (Some n) = refl

abbrev pub ip_stars : Option ℕ → Words
ip_stars n = ip_or_star n ∷ []

pub ip_or_star_exact : Exact (Option ℕ) spec.read_ip_or_star ip_stars (IfAny IsNarrow)
ip_or_star_exact =
    exact_spelled spec.read_ip_or_star (λ n. spell_or (codes "*") ip_word n ∷ []) ip_stars (IfAny IsNarrow)
    (exact_one (spec.read_marked (codes "*") address_in) (spell_or (codes "*") ip_word) (IfAny IsNarrow)
    (marked_exact (codes "*") address_in ip_word IsNarrow address_exact refl no_star (bare (codes "*") refl refl))) ip_star_is

abbrev place_pieces : Addr → Words
place_pieces a = ip_word a.ip ∷ numeral a.port ∷ []

abbrev of_place : Addr → ℕ × ℕ
of_place a = (a.ip, a.port)

abbrev addresses : ℕ → Words
addresses ip = ip_word ip ∷ []

place_fields : Exact Addr (read_as (both_fields (one address_in) spec.port) spec.to_place) place_pieces IsPlace
place_fields =
    exact_made (both_fields (one address_in) spec.port) (λ f. addresses f.0 ++ numbers f.1) (λ f. IsNarrow f.0 × IsPort f.1)
    (exact_both (one address_in) spec.port addresses numbers IsNarrow IsPort (exact_one address_in ip_word IsNarrow address_exact) port_exact)
    spec.to_place of_place (λ f. refl) (λ a. refl)

place_is : (a : Addr) → addr_word a ≡ join_with_byte 33 (place_pieces a)
unfolding addr_word
place_is a = append_assoc (ip_word a.ip) (codes "!") (numeral a.port)

place_bare : (a : Addr) → IsBare (addr_word a)
unfolding addr_word
place_bare a = (
  free_both 32 (ip_word a.ip ++ codes "!") (numeral a.port) (free_both 32 (ip_word a.ip) (codes "!") (free_address 32 a.ip (omega arith)) (free 32 (codes "!") refl)) (free_numeral 32 a.port (omega arith)),
  free_both 10 (ip_word a.ip ++ codes "!") (numeral a.port) (free_both 10 (ip_word a.ip) (codes "!") (free_address 10 a.ip (omega arith)) (free 10 (codes "!") refl)) (free_numeral 10 a.port (omega arith)),
)

abbrev pub places : Addr → Words
places a = addr_word a ∷ []

pub place_exact : Exact Addr spec.read_place places IsPlace
place_exact =
    exact_one spec.field_place addr_word IsPlace
    (exact_parts 33 (read_as (both_fields (one address_in) spec.port) spec.to_place) place_pieces IsPlace place_fields addr_word place_is
    (λ a. parts_back 33 (ip_word a.ip) (numeral a.port ∷ []) (free_address 33 a.ip (omega arith), (free_numeral 33 a.port (omega arith), tt))) place_bare)

-- Names.

-- each word of a table is that of its value
abbrev AreNamed : {X : Type 0} → (X → List ℕ) → List (List ℕ × X) → Type 0
AreNamed spell [] = Unit {0}
AreNamed spell (row ∷ rows) = (row.0 ≡ spell row.1) × AreNamed spell rows

named_sound : {X : Type 0} (spell : X → List ℕ) (rows : List (List ℕ × X)) → AreNamed spell rows → (word : List ℕ) (x : X) → spec.row_named rows word ≡ Some x → word ≡ spell x
named_sound spell [] are word x e = absurd (none-some x e)
named_sound {X} spell (row ∷ rows) are word x e = by (bytes_eq word row.0) refl e (named_sound spell rows are.1 word x)
  where
    by : (v : Bool) → bytes_eq word row.0 ≡ v → (if v then Some row.1 else spec.row_named rows word) ≡ Some x → (spec.row_named rows word ≡ Some x → word ≡ spell x) → word ≡ spell x
    by true is f later = (bytes_eq-Decides word row.0).0 is ∙ are.0 ∙ ap spell (same_Some row.1 x f)
    by false is f later = later f

mode_told : (m : Mode) → mode_named (mode_word m) ≡ Some m
mode_told mode.Read = refl
mode_told mode.Write = refl
mode_told mode.Both = refl

mode_bare : (m : Mode) → IsBare (mode_word m)
mode_bare mode.Read = bare (codes "r") refl refl
mode_bare mode.Write = bare (codes "w") refl refl
mode_bare mode.Both = bare (codes "rw") refl refl

mode_sound : (word : List ℕ) (x : Mode) → mode_named word ≡ Some x → word ≡ mode_word x
mode_sound =
    named_sound (λ (y : Mode). mode_word y) ((codes "r", mode.Read) ∷ (codes "w", mode.Write) ∷ (codes "rw", mode.Both) ∷ []) (refl, (refl, (refl, tt)))

abbrev pub modes : Mode → Words
modes m = mode_word m ∷ []

pub mode_exact : Exact Mode spec.mode_of modes (λ m. Unit {0})
mode_exact =
    exact_one mode_named mode_word (λ m. Unit {0})
    (record { sound = λ word m e. (mode_sound word m e, tt); told = λ m fits. mode_told m; bare = λ m fits. mode_bare m })

kind_told : (x : IlKind) → spec.kind_in (kind_word x) ≡ Some x
kind_told kind.Sync = refl
kind_told kind.Data = refl
kind_told kind.DataQuery = refl
kind_told kind.Ack = refl
kind_told kind.Query = refl
kind_told kind.State = refl
kind_told kind.Close = refl

kind_bare : (x : IlKind) → IsBare (kind_word x)
kind_bare kind.Sync = bare (codes "sync") refl refl
kind_bare kind.Data = bare (codes "data") refl refl
kind_bare kind.DataQuery = bare (codes "dataquery") refl refl
kind_bare kind.Ack = bare (codes "ack") refl refl
kind_bare kind.Query = bare (codes "query") refl refl
kind_bare kind.State = bare (codes "state") refl refl
kind_bare kind.Close = bare (codes "close") refl refl

kind_sound : (word : List ℕ) (x : IlKind) → spec.kind_in word ≡ Some x → word ≡ kind_word x
kind_sound = named_sound (λ (y : IlKind). kind_word y) spec.kind_names (refl, (refl, (refl, (refl, (refl, (refl, (refl, tt)))))))

abbrev pub kinds : IlKind → Words
kinds x = kind_word x ∷ []

pub kind_exact : Exact IlKind spec.kind_read kinds (λ x. Unit {0})
kind_exact =
    exact_one spec.kind_in kind_word (λ x. Unit {0})
    (record { sound = λ word x e. (kind_sound word x e, tt); told = λ x fits. kind_told x; bare = λ x fits. kind_bare x })

state_told : (x : StateName) → spec.state_in (state_word x) ≡ Some x
state_told state.Free = refl
state_told state.Reserved = refl
state_told state.Announced = refl
state_told state.Granted = refl
state_told state.Withdrawn = refl
state_told state.Closed = refl
state_told state.Syncer = refl
state_told state.Syncee = refl
state_told state.Established = refl
state_told state.Listening = refl
state_told state.Closing = refl
state_told state.Open = refl

state_bare : (x : StateName) → IsBare (state_word x)
state_bare state.Free = bare (codes "Free") refl refl
state_bare state.Reserved = bare (codes "Reserved") refl refl
state_bare state.Announced = bare (codes "Announced") refl refl
state_bare state.Granted = bare (codes "Granted") refl refl
state_bare state.Withdrawn = bare (codes "Withdrawn") refl refl
state_bare state.Closed = bare (codes "Closed") refl refl
state_bare state.Syncer = bare (codes "Syncer") refl refl
state_bare state.Syncee = bare (codes "Syncee") refl refl
state_bare state.Established = bare (codes "Established") refl refl
state_bare state.Listening = bare (codes "Listening") refl refl
state_bare state.Closing = bare (codes "Closing") refl refl
state_bare state.Open = bare (codes "Open") refl refl

state_sound : (word : List ℕ) (x : StateName) → spec.state_in word ≡ Some x → word ≡ state_word x
state_sound = named_sound (λ (y : StateName). state_word y) spec.state_names (refl, (refl, (refl, (refl, (refl, (refl, (refl, (refl, (refl, (refl, (refl, (refl, tt))))))))))))

abbrev pub states : StateName → Words
states x = state_word x ∷ []

pub state_exact : Exact StateName spec.state_read states (λ x. Unit {0})
state_exact =
    exact_one spec.state_in state_word (λ x. Unit {0})
    (record { sound = λ word x e. (state_sound word x e, tt); told = λ x fits. state_told x; bare = λ x fits. state_bare x })

abbrev cause_digit : Cause → List ℕ
cause_digit cause.Refused = codes "1"
cause_digit cause.TimedOut = codes "2"
cause_digit cause.Hungup = codes "3"
cause_digit cause.ByPeer = codes "4"

digit_is : (c : Cause) → cause_digit c ∷ [] ≡ numeral (cause_number c) ∷ []
unfolding numeral
digit_is cause.Refused = refl
digit_is cause.TimedOut = refl
digit_is cause.Hungup = refl
digit_is cause.ByPeer = refl

cause_told : (x : Cause) → spec.cause_in (cause_digit x) ≡ Some x
cause_told cause.Refused = refl
cause_told cause.TimedOut = refl
cause_told cause.Hungup = refl
cause_told cause.ByPeer = refl

cause_bare : (x : Cause) → IsBare (cause_digit x)
cause_bare cause.Refused = bare (codes "1") refl refl
cause_bare cause.TimedOut = bare (codes "2") refl refl
cause_bare cause.Hungup = bare (codes "3") refl refl
cause_bare cause.ByPeer = bare (codes "4") refl refl

cause_sound : (word : List ℕ) (x : Cause) → spec.cause_in word ≡ Some x → word ≡ cause_digit x
cause_sound = named_sound (λ (y : Cause). cause_digit y) spec.cause_names (refl, (refl, (refl, (refl, tt))))

abbrev pub causes : Cause → Words
causes c = numeral (cause_number c) ∷ []

pub cause_exact : Exact Cause spec.read_cause causes (λ c. Unit {0})
cause_exact =
    exact_spelled spec.read_cause (λ c. cause_digit c ∷ []) causes (λ c. Unit {0})
    (exact_one spec.cause_in (λ c. cause_digit c) (λ c. Unit {0})
    (record { sound = λ word c e. (cause_sound word c e, tt); told = λ c fits. cause_told c; bare = λ c fits. cause_bare c })) digit_is

proto_bare : (x : Proto) → IsBare (proto_name x)
proto_bare proto.Il = bare (codes "il") refl refl
proto_bare proto.Udp = bare (codes "udp") refl refl

abbrev proto_names : List (List ℕ × Proto)
proto_names = (codes "il", proto.Il) ∷ (codes "udp", proto.Udp) ∷ []

proto_sound : (word : List ℕ) (x : Proto) → proto_named word ≡ Some x → word ≡ proto_name x
proto_sound = named_sound (λ (y : Proto). proto_name y) proto_names (refl, (refl, tt))

abbrev pub protos : Proto → Words
protos x = proto_name x ∷ []

pub proto_exact : Exact Proto spec.proto protos (λ x. Unit {0})
proto_exact =
    exact_one proto_named proto_name (λ x. Unit {0})
    (record { sound = λ word x e. (proto_sound word x e, tt); told = λ x fits. proto_back x; bare = λ x fits. proto_bare x })

file_told : (x : FileName) → file_named (file_name x) ≡ Some x
file_told file.Ctl = refl
file_told file.Data = refl
file_told file.Err = refl
file_told file.Listen = refl
file_told file.Local = refl
file_told file.Remote = refl
file_told file.Status = refl

file_bare : (x : FileName) → IsBare (file_name x)
file_bare file.Ctl = bare (codes "ctl") refl refl
file_bare file.Data = bare (codes "data") refl refl
file_bare file.Err = bare (codes "err") refl refl
file_bare file.Listen = bare (codes "listen") refl refl
file_bare file.Local = bare (codes "local") refl refl
file_bare file.Remote = bare (codes "remote") refl refl
file_bare file.Status = bare (codes "status") refl refl

filter_first : {X : Type 0} (p : X → Bool) (xs : List X) (x : X) → slice_get (filter p xs) 0 ≡ Some x → p x ≡ true
filter_first p [] x e = absurd (none-some x e)
filter_first {X} p (y ∷ ys) x e = by (p y) refl e (filter_first p ys x)
  where
    by : (v : Bool) → p y ≡ v → slice_get (cond v (y ∷ filter p ys) (filter p ys)) 0 ≡ Some x → (slice_get (filter p ys) 0 ≡ Some x → p x ≡ true) → p x ≡ true
    by true is f later = ap p (sym (same_Some y x f)) ∙ is
    by false is f later = later f

pub file_sound : (word : List ℕ) (x : FileName) → file_named word ≡ Some x → word ≡ file_name x
file_sound word x e = (bytes_eq-Decides word (file_name x)).0 (filter_first (λ (f : FileName). bytes_eq word (file_name f)) all_files x e)

abbrev pub files : FileName → Words
files x = file_name x ∷ []

pub file_exact : Exact FileName spec.file files (λ x. Unit {0})
file_exact =
    exact_one file_named file_name (λ x. Unit {0})
    (record { sound = λ word x e. (file_sound word x e, tt); told = λ x fits. file_told x; bare = λ x fits. file_bare x })

-- a name is any word that isn't empty

abbrev pub IsNamed : List ℕ → Type 0
IsNamed [] = ⊥
IsNamed (b ∷ word) = Unit {0}

-- Actors.

abbrev actor_pieces : ActorName → Words
actor_pieces (name.Desk h) = codes "desk" ∷ numeral h ∷ []
actor_pieces (name.Dir h p) = codes "dir" ∷ numeral h ∷ proto_name p ∷ []
actor_pieces (name.Conv h p n) = codes "conv" ∷ numeral h ∷ proto_name p ∷ numeral n ∷ []
actor_pieces (name.Medium m) = codes "medium" ∷ numeral m ∷ []
actor_pieces name.Clock = codes "clock" ∷ []

dir_exact : Exact (ℕ × Proto) (both_fields spec.narrow spec.proto) (λ f. numbers f.0 ++ protos f.1) (λ f. IsNarrow f.0 × Unit {0})
dir_exact = exact_both spec.narrow spec.proto numbers protos IsNarrow (λ p. Unit {0}) narrow_exact proto_exact

conv_tail_exact : Exact (Proto × ℕ) (both_fields spec.proto spec.narrow) (λ f. protos f.0 ++ numbers f.1) (λ f. Unit {0} × IsNarrow f.1)
conv_tail_exact = exact_both spec.proto spec.narrow protos numbers (λ p. Unit {0}) IsNarrow proto_exact narrow_exact

abbrev conv_words : ℕ × (Proto × ℕ) → Words
conv_words f = numbers f.0 ++ (protos f.1.0 ++ numbers f.1.1)

abbrev conv_fits : ℕ × (Proto × ℕ) → Type 0
conv_fits f = IsNarrow f.0 × (Unit {0} × IsNarrow f.1.1)

conv_exact : Exact (ℕ × (Proto × ℕ)) (both_fields spec.narrow (both_fields spec.proto spec.narrow)) conv_words conv_fits
conv_exact =
    exact_both spec.narrow (both_fields spec.proto spec.narrow) numbers (λ f. protos f.0 ++ numbers f.1) IsNarrow (λ f. Unit {0} × IsNarrow f.1) narrow_exact conv_tail_exact

actor_rows_are : AreRows actor_pieces IsWideActor spec.actor_rows
actor_rows_are = (
  row spec.narrow numbers IsNarrow narrow_exact (λ h. name.Desk h) actor_pieces IsWideActor (codes "desk") (λ h fits. refl) (λ h fits. fits),
  (
    row (both_fields spec.narrow spec.proto) (λ f. numbers f.0 ++ protos f.1) (λ f. IsNarrow f.0 × Unit {0}) dir_exact spec.to_dir actor_pieces IsWideActor (codes "dir") (λ f fits. refl) (λ f fits. fits.0),
    (
      row (both_fields spec.narrow (both_fields spec.proto spec.narrow)) conv_words conv_fits conv_exact spec.to_conv actor_pieces IsWideActor (codes "conv") (λ f fits. refl) (λ f fits. (fits.0, fits.1.1)),
      (
        row spec.narrow numbers IsNarrow narrow_exact (λ m. name.Medium m) actor_pieces IsWideActor (codes "medium") (λ m fits. refl) (λ m fits. fits),
        (bare_row name.Clock actor_pieces IsWideActor (codes "clock") refl tt, tt),
      ),
    ),
  ),
)

actor_sound : (words : Words) (a : ActorName) (rest : Words) → spec.actor_words words ≡ Some (a, rest) → (words ≡ actor_pieces a ++ rest) × IsWideActor a
actor_sound [] a rest e = absurd (none-some (a, rest) e)
actor_sound (word ∷ words) a rest e = rows_sound actor_pieces IsWideActor spec.actor_rows actor_rows_are word words a rest e

actor_told : (a : ActorName) → IsWideActor a → (rest : Words) → spec.actor_words (actor_pieces a ++ rest) ≡ Some (a, rest)
actor_told (name.Desk h) fits rest = made_told spec.narrow numbers IsNarrow narrow_exact (λ h. name.Desk h) h fits rest
actor_told (name.Dir h p) fits rest =
    made_told (both_fields spec.narrow spec.proto) (λ f. numbers f.0 ++ protos f.1) (λ f. IsNarrow f.0 × Unit {0}) dir_exact spec.to_dir (h, p) (fits, tt) rest
actor_told (name.Conv h p n) fits rest =
    made_told (both_fields spec.narrow (both_fields spec.proto spec.narrow)) conv_words conv_fits conv_exact spec.to_conv (h, (p, n)) (fits.0, (tt, fits.1)) rest
actor_told (name.Medium m) fits rest = made_told spec.narrow numbers IsNarrow narrow_exact (λ m. name.Medium m) m fits rest
actor_told name.Clock fits rest = refl

-- the pieces have no byte that isn't of a word, and are joined by dots

abbrev are_letters : List ℕ → Bool
are_letters [] = true
are_letters (b ∷ word) = if nat_lt b 46 then false else are_letters word

letters_free : (s : ℕ) (word : List ℕ) → s < 46 → are_letters word ≡ true → IsFree s word
letters_free s [] low e = tt
letters_free s (b ∷ word) low e = by (nat_lt b 46) refl e (letters_free s word low)
  where
    apart : (c : ℕ) → nat_lt c 46 ≡ false → c ≡ s → ⊥
    apart c is same = grind (arith, nat_tests, low, is, same)

    by : (v : Bool) → nat_lt b 46 ≡ v → (if v then false else are_letters word) ≡ true → (are_letters word ≡ true → IsFree s word) → ((b == s) ≡ false) × IsFree s word
    by true is f later = absurd (cc)
    by false is f later = (ne_eqb b s (apart b is), later f)

all_bare : (words : Words) → AreFree 32 words → AreFree 10 words → AreBare words
all_bare [] f g = tt
all_bare (word ∷ words) f g = ((f.0, g.0), all_bare words f.1 g.1)

proto_free : (s : ℕ) (p : Proto) → s < 46 → IsFree s (proto_name p)
proto_free s proto.Il low = letters_free s (codes "il") low refl
proto_free s proto.Udp low = letters_free s (codes "udp") low refl

proto_dotless : (p : Proto) → IsFree 46 (proto_name p)
proto_dotless proto.Il = free 46 (codes "il") refl
proto_dotless proto.Udp = free 46 (codes "udp") refl

actor_parts : (a : ActorName) → parts_at 46 (join_with_byte 46 (actor_pieces a)) ≡ actor_pieces a
actor_parts (name.Desk h) = parts_back 46 (codes "desk") (numeral h ∷ []) (free 46 (codes "desk") refl, (free_numeral 46 h (omega arith), tt))
actor_parts (name.Dir h p) =
    parts_back 46 (codes "dir") (numeral h ∷ proto_name p ∷ []) (free 46 (codes "dir") refl, (free_numeral 46 h (omega arith), (proto_dotless p, tt)))
actor_parts (name.Conv h p n) =
    parts_back 46 (codes "conv") (numeral h ∷ proto_name p ∷ numeral n ∷ []) (free 46 (codes "conv") refl, (free_numeral 46 h (omega arith), (proto_dotless p, (free_numeral 46 n (omega arith), tt))))
actor_parts (name.Medium m) = parts_back 46 (codes "medium") (numeral m ∷ []) (free 46 (codes "medium") refl, (free_numeral 46 m (omega arith), tt))
actor_parts name.Clock = one_part 46 (codes "clock") (free 46 (codes "clock") refl)

actor_is : (a : ActorName) → actor_word a ≡ join_with_byte 46 (actor_pieces a)
actor_is (name.Desk h) = refl
actor_is (name.Dir h p) = append_assoc (codes "dir." ++ numeral h) (codes ".") (proto_name p) ∙ append_assoc (codes "dir.") (numeral h) (codes "." ++ proto_name p)
actor_is (name.Conv h p n) = simp append_assoc refl
actor_is (name.Medium m) = refl
actor_is name.Clock = refl

-- joined words have no byte that is neither a dot nor in them
join_free : (s : ℕ) (words : Words) → s < 46 → AreFree s words → IsFree s (join_with_byte 46 words)
join_free s [] low all = tt
join_free s (word ∷ []) low all = all.0
join_free s (word ∷ next ∷ words) low all =
    free_both s word (46 ∷ join_with_byte 46 (next ∷ words)) all.0 (ne_eqb 46 s (λ is. omega (arith, is, low)), join_free s (next ∷ words) low all.1)

pieces_free : (s : ℕ) (a : ActorName) → s < 46 → AreFree s (actor_pieces a)
pieces_free s (name.Desk h) low = (letters_free s (codes "desk") low refl, (free_numeral s h (omega (arith, low)), tt))
pieces_free s (name.Dir h p) low = (letters_free s (codes "dir") low refl, (free_numeral s h (omega (arith, low)), (proto_free s p low, tt)))
pieces_free s (name.Conv h p n) low =
    (letters_free s (codes "conv") low refl, (free_numeral s h (omega (arith, low)), (proto_free s p low, (free_numeral s n (omega (arith, low)), tt))))
pieces_free s (name.Medium m) low = (letters_free s (codes "medium") low refl, (free_numeral s m (omega (arith, low)), tt))
pieces_free s name.Clock low = (letters_free s (codes "clock") low refl, tt)

actor_bare : (a : ActorName) → IsBare (actor_word a)
actor_bare a =
    subst IsBare (sym (actor_is a)) (join_free 32 (actor_pieces a) (omega arith) (pieces_free 32 a (omega arith)), join_free 10 (actor_pieces a) (omega arith) (pieces_free 10 a (omega arith)))

abbrev pub actors : ActorName → Words
actors a = actor_word a ∷ []

pub actor_exact : Exact ActorName spec.actor actors IsWideActor
actor_exact =
    exact_one spec.actor_in actor_word IsWideActor
    (exact_parts 46 spec.actor_words actor_pieces IsWideActor
    (record { sound = actor_sound; told = actor_told; bare = λ a fits. all_bare (actor_pieces a) (pieces_free 32 a (omega arith)) (pieces_free 10 a (omega arith)) })
    actor_word actor_is actor_parts actor_bare)

-- What a reader takes from the front is what the field spells, and what a field spells is read again, whatever follows it.
use Rattle.std.proofs.Common.{◌≡◌, ℕ, zero, suc, ◌+◌, ◌<◌, ◌≤◌, Bool, true, false, cond, ltb, List, [], ◌∷◌, ◌++◌, length, get_or, take, drop, Option, Some}
use Rattle.std.proofs.Common.{None, refl, sym, ap, subst, ◌∙◌, append_assoc, arith, inl, inr}
use Rattle.std.specs.List.{flat_map, AllByRecursion}
use Rattle.std.proofs.lemmas.Bool.{cases_lt, ltb-false, ltb-true, le-ltb, lt-ltb}
use Rattle.std.proofs.lemmas.List.{take_at, drop_at, take-append-drop, length-append, length-take, get_or-drop, get_or-take, get_or_past}
use Rattle.std.proofs.lemmas.List.Concat.{flat_map-cons}
use Rattle.std.proofs.lemmas.Nat.{le_bytes_2, le_bytes_4, le_bytes_8}
use Rattle.byteorder.specs.Endian.{little_number}
use Rattle.byteorder.specs.Numbers.{little_from-lt, little_from-take, little_number-reads_back, length-bytes_low_first}
use Rattle.net_base.specs.declared.ninep.Qid.{Qid}
use Rattle.net_base.specs.NinepFields.{number_bytes, counted, string, qid, many, Holds, Counts, IsQid, AreFew}
use Rattle.net_base.specs.NinepReading.{◌>>=◌, Reader, both, making, number_at, bytes_at, counted_at, qid_from, qid_at, list_at, many_at}

abbrev pub IsBytes : List ℕ → Type 0
IsBytes bytes = (i : ℕ) → get_or bytes i 0 < 256

pub IsBytes-drop : (n : ℕ) (bytes : List ℕ) → IsBytes bytes → IsBytes (drop n bytes)
IsBytes-drop n bytes h i = rw get_or-drop (h (n + i))

IsBytes-take : (n : ℕ) (bytes : List ℕ) → IsBytes bytes → IsBytes (take n bytes)
IsBytes-take n bytes h i =
    elim (cases_lt i n) [
      | inl lt ↦ rw (get_or-take n bytes i 0 lt) (h i)
      | inr le ↦ rw (get_or_past (take n bytes) i 0 (omega (arith, length-take n bytes))) (omega arith)
    ]

-- the value of a reading that there is
pub bind_some : {A B : Type 0} (r : Option A) (f : A → Option B) (y : B) → (r >>= f) ≡ Some y → (x : A) × (r ≡ Some x) × (f x ≡ Some y)
bind_some (Some x) f y e = (x, refl, e)
bind_some None f y e = absurd cc

-- a test that did not fail
guard_low : {A : Type 0} (b : Bool) (x y : A) → cond b None (Some x) ≡ Some y → (b ≡ false) × (x ≡ y)
guard_low true x y e = absurd cc
guard_low false x y e = (refl, cc)

guard_then : {A : Type 0} (b : Bool) (x : Option A) (y : A) → cond b x None ≡ Some y → (b ≡ true) × (x ≡ Some y)
guard_then true x y e = (refl, e)
guard_then false x y e = absurd cc

abbrev found : {A : Type 0} → A → Option A
found x = Some x

pub some_is : {A : Type 0} (x y : A) → found x ≡ found y → x ≡ y
some_is x y e = cc

-- what a reader took from the front
pub record Takes (bytes text rest : List ℕ) : Type 0 where
  pub parts : bytes ≡ text ++ rest
  pub rest_fits : IsBytes rest

Takes-then : (a x b y c : List ℕ) → Takes a x b → Takes b y c → Takes a (x ++ y) c
Takes-then a x b y c p q = record { parts = p.parts ∙ ap (λ (t : List ℕ). x ++ t) q.parts ∙ sym (append_assoc x y c); rest_fits = q.rest_fits }

-- a reader of values that are spelled so
pub record Reads (A : Type 0) (read : Reader A) (spell : A → List ℕ) (Is : A → Type 0) : Type 0 where
  pub takes : (bytes : List ℕ) (x : A) (rest : List ℕ) → IsBytes bytes → read bytes ≡ Some (x, rest) → Takes bytes (spell x) rest × Is x
  pub again : (x : A) (rest : List ℕ) → Is x → read (spell x ++ rest) ≡ Some (x, rest)

-- ---- one behind another

both_takes : {A B : Type 0} (f : Reader A) (g : Reader B) (s : A → List ℕ) (t : B → List ℕ) (P : A → Type 0) (Q : B → Type 0) → Reads A f s P → Reads B g t Q
    → (bytes : List ℕ) (x : A × B) (rest : List ℕ) → IsBytes bytes → both f g bytes ≡ Some (x, rest) → Takes bytes (s x.0 ++ t x.1) rest × (P x.0 × Q x.1)
both_takes {A = A} {B = B} f g s t P Q first second bytes x rest fits e =
    let a = bind_some (f bytes) (λ a. g a.1 >>= (λ b. Some ((a.0, b.0), b.1))) (x, rest) e in
    let b = bind_some (g a.0.1) (λ b. Some ((a.0.0, b.0), b.1)) (x, rest) a.2 in
    let one = first.takes bytes a.0.0 a.0.1 fits a.1 in
    let two = second.takes a.0.1 b.0.0 b.0.1 one.0.rest_fits b.1 in
    subst (λ (y : (A × B) × List ℕ). Takes bytes (s y.0.0 ++ t y.0.1) y.1 × (P y.0.0 × Q y.0.1)) (some_is ((a.0.0, b.0.0), b.0.1) (x, rest) b.2)
    (Takes-then bytes (s a.0.0) a.0.1 (t b.0.0) b.0.1 one.0 two.0, (one.1, two.1))

both_again : {A B : Type 0} (f : Reader A) (g : Reader B) (s : A → List ℕ) (t : B → List ℕ) (P : A → Type 0) (Q : B → Type 0) → Reads A f s P → Reads B g t Q
    → (x : A × B) (rest : List ℕ) → P x.0 × Q x.1 → both f g ((s x.0 ++ t x.1) ++ rest) ≡ Some (x, rest)
both_again f g s t P Q first second x rest fits =
    ap (both f g) (append_assoc (s x.0) (t x.1) rest) ∙ rw (first.again x.0 (t x.1 ++ rest) fits.0, second.again x.1 rest fits.1) refl

pub both_reads : {A B : Type 0} (f : Reader A) (g : Reader B) (s : A → List ℕ) (t : B → List ℕ) (P : A → Type 0) (Q : B → Type 0) → Reads A f s P
    → Reads B g t Q
    → Reads (A × B) (both f g) (λ x. s x.0 ++ t x.1) (λ x. P x.0 × Q x.1)
both_reads f g s t P Q first second = record {
  takes = both_takes f g s t P Q first second;
  again = both_again f g s t P Q first second;
}

-- ---- numbers

-- a number in so many bytes is those bytes
abbrev Backs : ℕ → Type 0
Backs k = (bytes : List ℕ) → length bytes ≡ k → IsBytes bytes → number_bytes k (little_number k bytes) ≡ bytes

back_1 : Backs 1
back_1 (b ∷ []) len fits = ap (λ (n : ℕ). n ∷ []) (omega (arith, fits 0))
back_1 [] len fits = absurd (omega (arith, len))
back_1 (b ∷ c ∷ bytes) len fits = absurd (omega (arith, len))

back_2 : Backs 2
back_2 bytes len fits = le_bytes_2 bytes _ len fits (omega arith)

back_4 : Backs 4
back_4 bytes len fits = le_bytes_4 bytes _ len fits (omega arith)

back_8 : Backs 8
back_8 bytes len fits = le_bytes_8 bytes _ len fits (omega arith)

number_takes : (k : ℕ) → Backs k → (bytes : List ℕ) (n : ℕ) (rest : List ℕ) → IsBytes bytes → number_at k bytes ≡ Some (n, rest)
    → Takes bytes (number_bytes k n) rest × Holds k n
number_takes k back bytes n rest fits e =
    let g = guard_low (ltb (length bytes) k) (little_number k bytes, drop k bytes) (n, rest) e in
    let long : k ≤ length bytes = ltb-false _ _ g.0 in
    let n-is : little_number k bytes ≡ n = ap (λ (p : ℕ × List ℕ). p.0) g.1 in
    let rest-is : drop k bytes ≡ rest = ap (λ (p : ℕ × List ℕ). p.1) g.1 in
    let front : number_bytes k n ≡ take k bytes =
    ap (number_bytes k) (sym n-is ∙ sym (little_from-take 0 k k bytes (omega arith))) ∙ back (take k bytes) (omega (arith, length-take k bytes))
    (IsBytes-take k bytes fits) in (
      record { parts = rw (front, ← rest-is) (sym (take-append-drop k bytes)); rest_fits = rw (← rest-is) (IsBytes-drop k bytes fits) },
      subst (Holds k) n-is (little_from-lt 0 k bytes fits),
    )

number_again : (k n : ℕ) (rest : List ℕ) → Holds k n → number_at k (number_bytes k n ++ rest) ≡ Some (n, rest)
number_again k n rest fits =
    let len : length (number_bytes k n) ≡ k = length-bytes_low_first 0 k n in
    let long : ltb (length (number_bytes k n ++ rest)) k ≡ false = le-ltb _ _ (omega (arith, len, length-append (number_bytes k n) rest)) in
    rw (long, little_number-reads_back k n rest fits, drop_at (number_bytes k n) rest k len) refl

number_reads : (k : ℕ) → Backs k → Reads ℕ (number_at k) (number_bytes k) (Holds k)
number_reads k back = record { takes = number_takes k back; again = number_again k }

pub reads_1 : Reads ℕ (number_at 1) (number_bytes 1) (Holds 1)
reads_1 = number_reads 1 back_1

pub reads_2 : Reads ℕ (number_at 2) (number_bytes 2) (Holds 2)
reads_2 = number_reads 2 back_2

pub reads_4 : Reads ℕ (number_at 4) (number_bytes 4) (Holds 4)
reads_4 = number_reads 4 back_4

pub reads_8 : Reads ℕ (number_at 8) (number_bytes 8) (Holds 8)
reads_8 = number_reads 8 back_8

-- ---- bytes after how many they are

bytes_take : (n : ℕ) (bytes text rest : List ℕ) → IsBytes bytes → bytes_at n bytes ≡ Some (text, rest) → Takes bytes text rest × (length text ≡ n)
bytes_take n bytes text rest fits e =
    let g = guard_low (ltb (length bytes) n) (take n bytes, drop n bytes) (text, rest) e in
    let long : n ≤ length bytes = ltb-false _ _ g.0 in
    subst (λ (p : List ℕ × List ℕ). Takes bytes p.0 p.1 × (length p.0 ≡ n)) g.1
    (record { parts = sym (take-append-drop n bytes); rest_fits = IsBytes-drop n bytes fits }, omega (arith, length-take n bytes))

bytes_again : (text rest : List ℕ) → bytes_at (length text) (text ++ rest) ≡ Some (text, rest)
bytes_again text rest =
    let long : ltb (length (text ++ rest)) (length text) ≡ false = le-ltb _ _ (omega (arith, length-append text rest)) in
    rw (long, take_at text rest (length text) refl, drop_at text rest (length text) refl) refl

counted_takes : (k : ℕ) → Reads ℕ (number_at k) (number_bytes k) (Holds k) → (bytes text rest : List ℕ) → IsBytes bytes → counted_at k bytes ≡ Some (text, rest)
    → Takes bytes (counted k text) rest × Counts k text
unfolding counted_at
counted_takes k numbers bytes text rest fits e =
    let a = bind_some (number_at k bytes) (λ n. bytes_at n.0 n.1) (text, rest) e in
    let one = numbers.takes bytes a.0.0 a.0.1 fits a.1 in
    let two = bytes_take a.0.0 a.0.1 text rest one.0.rest_fits a.2 in
    subst (λ (n : ℕ). Takes bytes (number_bytes k n ++ text) rest × Holds k n) (sym two.1)
    (Takes-then bytes (number_bytes k a.0.0) a.0.1 text rest one.0 two.0, one.1)

counted_again : (k : ℕ) → Reads ℕ (number_at k) (number_bytes k) (Holds k) → (text rest : List ℕ) → Counts k text
    → counted_at k (counted k text ++ rest) ≡ Some (text, rest)
unfolding counted_at
counted_again k numbers text rest fits =
    ap (counted_at k) (append_assoc (number_bytes k (length text)) text rest) ∙ rw (numbers.again (length text) (text ++ rest) fits) (bytes_again text rest)

counted_reads : (k : ℕ) → Reads ℕ (number_at k) (number_bytes k) (Holds k) → Reads (List ℕ) (counted_at k) (counted k) (Counts k)
counted_reads k numbers = record { takes = counted_takes k numbers; again = counted_again k numbers }

pub string_reads : Reads (List ℕ) (counted_at 2) string (Counts 2)
string_reads = counted_reads 2 reads_2

pub data_reads : Reads (List ℕ) (counted_at 4) (counted 4) (Counts 4)
data_reads = counted_reads 4 reads_4

-- ---- qids

abbrev parts_of : Qid → ℕ × (ℕ × ℕ)
parts_of q = (q.kind, (q.version, q.path))

qid_parts : Reads (ℕ × (ℕ × ℕ)) (both (number_at 1) (both (number_at 4) (number_at 8))) (λ x. number_bytes 1 x.0 ++ (number_bytes 4 x.1.0 ++ number_bytes 8 x.1.1))
    (λ x. Holds 1 x.0 × (Holds 4 x.1.0 × Holds 8 x.1.1))
qid_parts =
    both_reads (number_at 1) (both (number_at 4) (number_at 8)) (number_bytes 1) (λ x. number_bytes 4 x.0 ++ number_bytes 8 x.1) (Holds 1)
    (λ x. Holds 4 x.0 × Holds 8 x.1) reads_1
    (both_reads (number_at 4) (number_at 8) (number_bytes 4) (number_bytes 8) (Holds 4) (Holds 8) reads_4 reads_8)

-- what is made of a reading
pub making_takes : {A B : Type 0} (f : Reader A) (made : A → B) (s : A → List ℕ) (P : A → Type 0) → Reads A f s P
    → (bytes : List ℕ) (y : B) (rest : List ℕ) → IsBytes bytes → making f made bytes ≡ Some (y, rest)
    → (x : A) × (made x ≡ y) × (Takes bytes (s x) rest × P x)
making_takes {A = A} {B = B} f made s P reads bytes y rest fits e =
    let a = bind_some (f bytes) (λ a. Some (made a.0, a.1)) (y, rest) e in
    let one = reads.takes bytes a.0.0 a.0.1 fits a.1 in
    let p = some_is (made a.0.0, a.0.1) (y, rest) a.2 in
    (a.0.0, ap (λ (q : B × List ℕ). q.0) p, subst (λ (r : List ℕ). Takes bytes (s a.0.0) r × P a.0.0) (ap (λ (q : B × List ℕ). q.1) p) one)

pub making_again : {A B : Type 0} (f : Reader A) (made : A → B) (s : A → List ℕ) (P : A → Type 0) → Reads A f s P → (x : A) (rest : List ℕ) → P x
    → making f made (s x ++ rest) ≡ Some (made x, rest)
making_again f made s P reads x rest fits = rw (reads.again x rest fits) refl

qid_takes : (bytes : List ℕ) (q : Qid) (rest : List ℕ) → IsBytes bytes → qid_at bytes ≡ Some (q, rest) → Takes bytes (qid q) rest × IsQid q
unfolding qid_at
qid_takes bytes q rest fits e =
    let a =
    making_takes (both (number_at 1) (both (number_at 4) (number_at 8))) qid_from (λ x. number_bytes 1 x.0 ++ (number_bytes 4 x.1.0 ++ number_bytes 8 x.1.1))
    (λ x. Holds 1 x.0 × (Holds 4 x.1.0 × Holds 8 x.1.1)) qid_parts bytes q rest fits e in
    subst (λ (p : Qid). Takes bytes (qid p) rest × IsQid p) a.1 a.2

qid_again : (q : Qid) (rest : List ℕ) → IsQid q → qid_at (qid q ++ rest) ≡ Some (q, rest)
unfolding qid_at
qid_again q rest fits =
    making_again (both (number_at 1) (both (number_at 4) (number_at 8))) qid_from (λ x. number_bytes 1 x.0 ++ (number_bytes 4 x.1.0 ++ number_bytes 8 x.1.1))
    (λ x. Holds 1 x.0 × (Holds 4 x.1.0 × Holds 8 x.1.1)) qid_parts (parts_of q) rest fits

pub qid_reads : Reads Qid qid_at qid IsQid
qid_reads = record { takes = qid_takes; again = qid_again }

-- ---- lists

module _ {A : Type 0} (one : Reader A) (spell : A → List ℕ) (Is : A → Type 0) (each : Reads A one spell Is) where
  list_takes : (n : ℕ) (bytes : List ℕ) (xs : List A) (rest : List ℕ) → IsBytes bytes → list_at one n bytes ≡ Some (xs, rest)
      → Takes bytes (flat_map spell xs) rest × ((length xs ≡ n) × AllByRecursion Is xs)
  unfolding list_at
  list_takes zero bytes xs rest fits e =
      subst (λ (y : List A × List ℕ). Takes bytes (flat_map spell y.0) y.1 × ((length y.0 ≡ 0) × AllByRecursion Is y.0)) (some_is ([], bytes) (xs, rest) e)
      (record { parts = refl; rest_fits = fits }, (refl, tt))
  list_takes (suc n) bytes xs rest fits e =
      let a = bind_some (one bytes) (λ x. list_at one n x.1 >>= (λ ys. Some (x.0 ∷ ys.0, ys.1))) (xs, rest) e in
      let b = bind_some (list_at one n a.0.1) (λ ys. Some (a.0.0 ∷ ys.0, ys.1)) (xs, rest) a.2 in
      let first = each.takes bytes a.0.0 a.0.1 fits a.1 in
      let second = list_takes n a.0.1 b.0.0 b.0.1 first.0.rest_fits b.1 in
      let all = Takes-then bytes (spell a.0.0) a.0.1 (flat_map spell b.0.0) b.0.1 first.0 second.0 in
      subst (λ (y : List A × List ℕ). Takes bytes (flat_map spell y.0) y.1 × ((length y.0 ≡ suc n) × AllByRecursion Is y.0))
      (some_is (a.0.0 ∷ b.0.0, b.0.1) (xs, rest) b.2)
      (rw flat_map-cons all, (ap suc second.1.0, (first.1, second.1.1)))

  list_again : (xs : List A) (rest : List ℕ) → AllByRecursion Is xs → list_at one (length xs) (flat_map spell xs ++ rest) ≡ Some (xs, rest)
  unfolding list_at
  list_again [] rest fits = refl
  list_again (x ∷ xs) rest fits =
      let regrouped : flat_map spell (x ∷ xs) ++ rest ≡ spell x ++ (flat_map spell xs ++ rest) =
      ap (λ (t : List ℕ). t ++ rest) (flat_map-cons spell x xs) ∙ append_assoc (spell x) (flat_map spell xs) rest in
      ap (list_at one (suc (length xs))) regrouped ∙ rw (each.again x (flat_map spell xs ++ rest) fits.0, list_again xs rest fits.1) refl

  many_takes : (bytes : List ℕ) (xs : List A) (rest : List ℕ) → IsBytes bytes → many_at one bytes ≡ Some (xs, rest)
      → Takes bytes (many spell xs) rest × AreFew Is xs
  unfolding many_at
  many_takes bytes xs rest fits e =
      let a = bind_some (number_at 2 bytes) (λ n. cond (ltb n.0 17) (list_at one n.0 n.1) None) (xs, rest) e in
      let first = reads_2.takes bytes a.0.0 a.0.1 fits a.1 in
      let g = guard_then (ltb a.0.0 17) (list_at one a.0.0 a.0.1) (xs, rest) a.2 in
      let second = list_takes a.0.0 a.0.1 xs rest first.0.rest_fits g.1 in
      let all = Takes-then bytes (number_bytes 2 a.0.0) a.0.1 (flat_map spell xs) rest first.0 second.0 in
      subst (λ (n : ℕ). Takes bytes (number_bytes 2 n ++ flat_map spell xs) rest × ((n < 17) × AllByRecursion Is xs)) (sym second.1.0)
      (all, (ltb-true _ _ g.0, second.1.1))

  many_again : (xs : List A) (rest : List ℕ) → AreFew Is xs → many_at one (many spell xs ++ rest) ≡ Some (xs, rest)
  unfolding many_at
  many_again xs rest fits =
      let few : ltb (length xs) 17 ≡ true = lt-ltb _ _ fits.0 in
      ap (many_at one) (append_assoc (number_bytes 2 (length xs)) (flat_map spell xs) rest)
      ∙ rw (reads_2.again (length xs) (flat_map spell xs ++ rest) (omega (arith, fits.0)), few) (list_again xs rest fits.1)

  pub many_reads : Reads (List A) (many_at one) (many spell) (AreFew Is)
  many_reads = record { takes = many_takes; again = many_again }

-- ---- the numbers at the front

number_front : (k : ℕ) → Reads ℕ (number_at k) (number_bytes k) (Holds k) → (bytes : List ℕ) → IsBytes bytes → k ≤ length bytes
    → (bytes ≡ number_bytes k (little_number k bytes) ++ drop k bytes) × Holds k (little_number k bytes)
number_front k reads bytes fits long =
    let low : ltb (length bytes) k ≡ false = le-ltb _ _ long in
    let t = reads.takes bytes (little_number k bytes) (drop k bytes) fits (rw low refl) in
    (t.0.parts, t.1)

pub front_1 : (bytes : List ℕ) → IsBytes bytes → 1 ≤ length bytes → (bytes ≡ number_bytes 1 (little_number 1 bytes) ++ drop 1 bytes) × Holds 1 (little_number 1 bytes)
front_1 bytes fits long = number_front 1 reads_1 bytes fits long

pub front_2 : (bytes : List ℕ) → IsBytes bytes → 2 ≤ length bytes → (bytes ≡ number_bytes 2 (little_number 2 bytes) ++ drop 2 bytes) × Holds 2 (little_number 2 bytes)
front_2 bytes fits long = number_front 2 reads_2 bytes fits long

pub front_4 : (bytes : List ℕ) → IsBytes bytes → 4 ≤ length bytes → (bytes ≡ number_bytes 4 (little_number 4 bytes) ++ drop 4 bytes) × Holds 4 (little_number 4 bytes)
front_4 bytes fits long = number_front 4 reads_4 bytes fits long

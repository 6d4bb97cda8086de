-- The line that is told is the first with a cause.
use Rattle.std.proofs.Common.{◌≡◌, ℕ, zero, suc, ◌+◌, ◌<◌, Bool, List, [], ◌∷◌, ◌++◌, length, take, get_or, refl, sym, ap, ◌∙◌, arith, Option, Some, None, append_assoc, append-nil}
use Rattle.std.proofs.lemmas.List.{length_push}
use Rattle.net_base.specs.NdbText.{lines_of}
use Rattle.net_base.specs.NdbBundle.{has_tuple, causes_of, least_of_causes, told_line, first_bad, bad_line}
use Rattle.net_model.specs.NdbFirst.{IsFirstBadFile}
use Rattle.formats.proofs.Shared.{some_none}

-- the least cause of the line at place k, after those before it
abbrev least_after : (Bool → List ℕ → List ℕ) → List (List ℕ) → List (List ℕ) → ℕ → Option ℕ
least_after causes before lines k = least_of_causes (causes (has_tuple (before ++ take k lines)) (get_or lines k []))

record FirstAfter (causes : Bool → List ℕ → List ℕ) (before lines : List (List ℕ)) (number c : ℕ) : Type 0 where
  place : ℕ
  within : place < length lines
  number_is : number ≡ length before + place + 1
  cause_is : least_after causes before lines place ≡ Some c
  others : (j : ℕ) → j < place → least_after causes before lines j ≡ None

at-first : (causes : Bool → List ℕ → List ℕ) (before : List (List ℕ)) (line : List ℕ) (lines : List (List ℕ)) → least_after causes before (line ∷ lines) 0 ≡ least_of_causes (causes (has_tuple before) line)
at-first causes before line lines = ap (λ (ls : List (List ℕ)). least_of_causes (causes (has_tuple ls) line)) (append-nil before)

at-later : (causes : Bool → List ℕ → List ℕ) (before : List (List ℕ)) (line : List ℕ) (lines : List (List ℕ)) (k : ℕ) → least_after causes before (line ∷ lines) (suc k) ≡ least_after causes (before ++ line ∷ []) lines k
at-later causes before line lines k = ap (λ (ls : List (List ℕ)). least_of_causes (causes (has_tuple ls) (get_or lines k []))) (sym (append_assoc before (line ∷ []) (take k lines)))

others-after : (causes : Bool → List ℕ → List ℕ) (before : List (List ℕ)) (line : List ℕ) (lines : List (List ℕ)) (place : ℕ) → least_of_causes (causes (has_tuple before) line) ≡ None → ((j : ℕ) → j < place → least_after causes (before ++ line ∷ []) lines j ≡ None) → (j : ℕ) → j < suc place → least_after causes before (line ∷ lines) j ≡ None
others-after causes before line lines place e rest zero lt = at-first causes before line lines ∙ e
others-after causes before line lines place e rest (suc j) lt = at-later causes before line lines j ∙ rest j (omega arith)

abbrev number_in : Option (ℕ × ℕ) → ℕ
number_in None = 0
number_in (Some told_line) = told_line.0

abbrev cause_in : Option (ℕ × ℕ) → ℕ
cause_in None = 0
cause_in (Some told_line) = told_line.1

first_if : (causes : Bool → List ℕ → List ℕ) (before : List (List ℕ)) (line : List ℕ) (lines : List (List ℕ)) (n c : ℕ) (o : Option ℕ) → least_of_causes (causes (has_tuple before) line) ≡ o → told_line (length before + 1) o (first_bad causes (before ++ line ∷ []) lines) ≡ Some (n, c) → (first_bad causes (before ++ line ∷ []) lines ≡ Some (n, c) → FirstAfter causes (before ++ line ∷ []) lines n c) → FirstAfter causes before (line ∷ lines) n c
first_if causes before line lines n c (Some d) e h rest =
    let number : n ≡ length before + 1 = sym (ap number_in h) in
    let cause : d ≡ c = ap cause_in h in
    record {
      place = 0;
      within = omega arith;
      number_is = omega (arith, number);
      cause_is = at-first causes before line lines ∙ (e ∙ ap (λ (k : ℕ). Some k) cause);
      others = λ j lt. absurd (omega (arith, lt));
    }
first_if causes before line lines n c None e h rest =
    let r = rest h in
    record {
      place = suc r.place;
      within = omega (arith, r.within);
      number_is = omega (arith, r.number_is, length_push before line);
      cause_is = at-later causes before line lines r.place ∙ r.cause_is;
      others = others-after causes before line lines r.place e r.others;
    }

first-after : (causes : Bool → List ℕ → List ℕ) (before lines : List (List ℕ)) (n c : ℕ) → first_bad causes before lines ≡ Some (n, c) → FirstAfter causes before lines n c
first-after causes before [] n c h = absurd (some_none (sym h))
first-after causes before (line ∷ lines) n c h = first_if causes before line lines n c _ refl h (first-after causes (before ++ line ∷ []) lines n c)

first-is : (causes : Bool → List ℕ → List ℕ) (lines : List (List ℕ)) (n c : ℕ) → first_bad causes [] lines ≡ Some (n, c) → IsFirstBadFile causes lines n c
first-is causes lines n c h =
    let r = first-after causes [] lines n c h in
    record { place = r.place; within = r.within; number_is = omega (arith, r.number_is); cause_is = r.cause_is; others = r.others }

pub bad_is_first : (text : List ℕ) (line c : ℕ) → bad_line text ≡ Some (line, c) → IsFirstBadFile causes_of (lines_of text) line c
bad_is_first text line c h = first-is causes_of (lines_of text) line c h

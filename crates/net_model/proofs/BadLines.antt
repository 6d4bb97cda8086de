-- The first bad line of an input, and an answer to it, by whether the input is over the limit of its command.
use Rattle.std.proofs.Common.{◌≡◌, ◌&&◌, ℕ, ◌<◌, ◌≤◌, Bool, true, false, nat_lt, List, length, Option, Some, None, refl, sym, ap, subst, arith}
use Rattle.std.proofs.lemmas.Bool.Decides.{nat_tests}
use Rattle.std.proofs.lemmas.Option.{none-some}
use Rattle.net_model.specs.Answers.{Answer, bad_input}
use Rattle.net_model.specs.Asking.{Asking, IsAnswer, IsBadOf, IsFirstBad, IsGiven, is_input_over}

module _ (C : Type 0) (asking : Asking C) (asked : C) (input : List ℕ) where
  -- an input over the limit is bad
  pub too_long_is_over : asking.reads asked ≡ true → asking.limit asked < length input → is_input_over asking asked input ≡ true
  too_long_is_over has long = let over : nat_lt (asking.limit asked) (length input) ≡ true = grind (arith, nat_tests) in rw (has, over) refl

  -- an input within the limit isn't over it
  pub within_limit : length input ≤ asking.limit asked → is_input_over asking asked input ≡ false
  within_limit fits = by (asking.reads asked) (nat_lt (asking.limit asked) (length input)) (grind (arith, nat_tests))
    where
      by : (has over : Bool) → over ≡ false → (has && over) ≡ false
      by true over none = none
      by false over none = refl

  -- what is told of an input, by whether it is over the limit
  pub told_by : (over : Bool) → is_input_over asking asked input ≡ over → (found : Option (ℕ × ℕ)) → IsBadOf asking over asked input found
      → IsFirstBad asking asked input found
  told_by over is found told = subst (λ (b : Bool). IsBadOf asking b asked input found) (sym is) told

  pub told_of : (over : Bool) → is_input_over asking asked input ≡ over → (found : Option (ℕ × ℕ)) → IsFirstBad asking asked input found
      → IsBadOf asking over asked input found
  told_of over is found told = subst (λ (b : Bool). IsBadOf asking b asked input found) is told

  -- an answer to an input over the limit
  pub answer_too_long : is_input_over asking asked input ≡ true → IsAnswer asking asked input (bad_input 0 9)
  answer_too_long is = record {
    found = Some (0, 9);
    first = told_by true is (Some (0, 9)) refl;
    only = λ other told. told_of true is other told;
    given = refl;
  }

  -- an answer by the bad line that an input within the limit has, or has not
  pub answer_within : (answer : Answer) (found : Option (ℕ × ℕ)) → is_input_over asking asked input ≡ false → asking.IsBadLine asked input found
      → ((other : Option (ℕ × ℕ)) → asking.IsBadLine asked input other → other ≡ found) → IsGiven asking found asked input answer
      → IsAnswer asking asked input answer
  answer_within answer found fits told one given = record {
    found = found;
    first = told_by false fits found told;
    only = λ other is. one other (told_of false fits other is);
    given = given;
  }

  -- nothing over the limit is without a bad line
  pub not_too_long : asking.reads asked ≡ true → asking.limit asked < length input → IsFirstBad asking asked input None → ⊥
  not_too_long has long good = none-some (0, 9) (told_of true (too_long_is_over has long) None good)

  -- an input has a bad line or it has none
  pub given_good : (answer : Answer) → IsAnswer asking asked input answer → IsFirstBad asking asked input None → asking.IsFound asked input answer
  given_good answer is good = by is.found (is.only None good) is.given
    where
      by : (found : Option (ℕ × ℕ)) → None ≡ found → IsGiven asking found asked input answer → asking.IsFound asked input answer
      by None same given = given
      by (Some bad) same given = absurd (none-some bad same)

  pub given_bad : (answer : Answer) (bad : ℕ × ℕ) → IsAnswer asking asked input answer → IsFirstBad asking asked input (Some bad) → answer.status ≡ 2
  given_bad answer bad is told = by is.found (is.only (Some bad) told) is.given
    where
      by : (found : Option (ℕ × ℕ)) → Some bad ≡ found → IsGiven asking found asked input answer → answer.status ≡ 2
      by None same given = absurd (none-some bad (sym same))
      by (Some other) same given = ap (λ (a : Answer). a.status) given

-- Whether a duty is owed, and which stands first.
use Rattle.std.proofs.Common.{◌≡◌, ◌≢◌, ℕ, suc, arith, ◌==◌, not, true, false, List, [], ◌∷◌, length, Some, slice_get, refl, sym, subst, ◌∙◌}
use Rattle.std.proofs.lemmas.Bool.{true≢false}
use Rattle.std.proofs.lemmas.Bool.Decides.{nat_tests}
use Rattle.net_base.specs.Duties.{Duty}

pub first_some : (ds : List Duty) → ds ≢ [] → (d : Duty) × (slice_get ds 0 ≡ Some d)
first_some [] some = absurd (some refl)
first_some (d ∷ ds) some = (d, refl)

pub owes_some : (ds : List Duty) → not (length ds == 0) ≡ true → ds ≢ []
owes_some [] owes = λ is. true≢false (sym owes)
owes_some (d ∷ ds) owes = λ is. not_nil d ds is
  where
    not_nil : (d : Duty) (ds : List Duty) → d ∷ ds ≡ [] → ⊥
    not_nil d ds e = subst (λ (l : List Duty). is_cons l) e tt
      where
        is_cons : List Duty → Type 0
        is_cons [] = ⊥
        is_cons (y ∷ ys) = Unit {0}

not_zero : (n : ℕ) → not (suc n == 0) ≡ true
not_zero n = grind (arith, nat_tests)

pub free_none : (ds : List Duty) → not (length ds == 0) ≡ false → ds ≡ []
free_none [] free = refl
free_none (d ∷ ds) free = absurd (true≢false (sym (not_zero (length ds)) ∙ free))

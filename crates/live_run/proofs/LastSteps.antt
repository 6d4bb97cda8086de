-- Other steps, or none, in place of the last one of a script.
use Rattle.std.proofs.Common.{◌≡◌, ℕ, zero, suc, ◌<◌, List, [], ◌∷◌, length, Some, None, slice_get, refl, sym, ap, subst, ◌∙◌, arith}
use Rattle.std.specs.Prelude.{slice_set}
use Rattle.std.proofs.lemmas.Option.{none-some, same_Some}
use Rattle.net_base.specs.declared.world.Script.{Script}
use Rattle.net_base.specs.declared.world.Step.{Step}
use Rattle.grown_laws.specs.Grown.{grown_scripts, longer}

other : (base : List Script) (c : ℕ) (l : Step) (new : List Step) (x y : Script) → slice_get (grown_scripts base c (l ∷ [])) c ≡ Some x
    → ((b : Script) (m : Step) → x ≡ longer b (m ∷ []) → y ≡ longer b new) → slice_set (grown_scripts base c (l ∷ [])) c y ≡ grown_scripts base c new
other [] c l new x y is made = refl
other (b ∷ base) zero l new x y is made = ap (λ (z : Script). z ∷ base) (made b l (sym (same_Some (longer b (l ∷ [])) x is)))
other (b ∷ base) (suc c) l new x y is made = ap (λ (zs : List Script). b ∷ zs) (other base c l new x y is made)

pub other_last : (ss base : List Script) (c : ℕ) (l : Step) (new : List Step) (x y : Script) → slice_get ss c ≡ Some x
    → ((b : Script) (m : Step) → x ≡ longer b (m ∷ []) → y ≡ longer b new) → ss ≡ grown_scripts base c (l ∷ []) → slice_set ss c y ≡ grown_scripts base c new
other_last ss base c l new x y is made grew =
    ap (λ (zs : List Script). slice_set zs c y) grew ∙ other base c l new x y (ap (λ (zs : List Script). slice_get zs c) (sym grew) ∙ is) made

not_in : (base : List Script) (c : ℕ) (l : Step) → slice_get (grown_scripts base c (l ∷ [])) c ≡ None → c < length base → ⊥
not_in [] c l none below = absurd (omega (arith, below))
not_in (b ∷ base) zero l none below = none-some (longer b (l ∷ [])) (sym none)
not_in (b ∷ base) (suc c) l none below = not_in base c l none (omega (arith, below))

pub not_there : (ss base : List Script) (c : ℕ) (l : Step) (new : List Step) → slice_get ss c ≡ None → ss ≡ grown_scripts base c (l ∷ []) → c < length base → ss ≡ grown_scripts base c new
not_there ss base c l new none grew below = absurd (not_in base c l (ap (λ (zs : List Script). slice_get zs c) (sym grew) ∙ none) below)

-- the script with other steps
abbrev pub with_steps : Script → List Step → Script
with_steps x ss = record x { steps = ss }

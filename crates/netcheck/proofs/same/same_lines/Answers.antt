use Rattle.std.proofs.Common.{ℕ, List, ◌≡◌, nat_eq, refl, sym, ◌∙◌}
use Rattle.std.specs.Bool.{Decides}
use Rattle.std.specs.Cmp.{unsigned_Decides}
use Rattle.std.specs.Cmp.Lexicographic.{pointwise}
use Rattle.std.proofs.lemmas.Slice.Eq.{slice_eq-Decides}
use Rattle.netcheck.proofs.same.same_lines.Goals as goal

decides : (a b : List ℕ) → Decides (pointwise nat_eq a b) (a ≡ b)
decides a b = slice_eq-Decides unsigned_Decides a b (pointwise nat_eq a b) refl

pub returns : goal.returns
returns c =
    let told = slice_eq-Decides decides c.as_slice.result.now c.as_slice-2.result.now c.eq.result c.eq.ensures in
    (λ e. sym c.as_slice.ensures ∙ told.0 e ∙ c.as_slice-2.ensures, λ e. told.1 (c.as_slice.ensures ∙ e ∙ sym c.as_slice-2.ensures))

use Rattle.std.proofs.Common.{rules, ◌≡◌, sym, ◌∙◌}
use Rattle.std.specs.Bool.{Decides}
use Rattle.std.proofs.lemmas.Slice.Eq.{slice_eq-Decides}
use Rattle.net_base.specs.declared.actor.Call.{Call}
use Rattle.net_base.specs.contracts.actor.CallPartialEq.TheImpl as call
use Rattle.netcheck.proofs.same.same_calls.Goals as goal

decides : (a b : Call) → Decides (call.eq-value.it a b) (a ≡ b)
decides a b = (λ e. search rules, λ e. search rules)

pub returns : goal.returns
returns c =
    let told = slice_eq-Decides decides c.as_slice.result.now c.as_slice-2.result.now c.eq.result c.eq.ensures in
    (λ e. sym c.as_slice.ensures ∙ told.0 e ∙ c.as_slice-2.ensures, λ e. told.1 (c.as_slice.ensures ∙ e ∙ sym c.as_slice-2.ensures))

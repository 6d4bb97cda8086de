use Rattle.std.proofs.Common.{ℕ, List, ap, sym, ◌∙◌}
use Rattle.net_base.specs.Remotes.{is_remote}
use Rattle.played_task.specs.StepLaws.{opens_first}
use Rattle.played_task.proofs.step.first_request.Goals as goal

-- no remote file has the name
pub returns-in_ok-open-in-Open : goal.returns-in_ok-open-in-Open
returns-in_ok-open-in-Open c =
    rw (c.in-Open.is)
    (opens_first c.args.left.now c.in-Open.name c.in-Open.path c.in-Open.mode c.in_ok-open-in-Open.field-0 c.args.fids.now.names
    (ap (λ (x : List ℕ). is_remote c.args.left.now x) (sym c.as_slice.ensures) ∙ sym c.is_remote.ensures ∙ c.if-not-is_remote.true) (c.in_ok-open-in-Open.ensures c.args.left.now))

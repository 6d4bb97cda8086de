use Rattle.std.proofs.Common.{◌++◌, ◌∷◌, [], List, ap, ◌∙◌}
use Rattle.net_base.specs.declared.world.HostSpec.{HostSpec}
use Rattle.world_file.proofs.Drained.{moves_all, moves_more}
use Rattle.world_file.proofs.draft.finish_hosts.Goals as goal

pub loop-host-preserved : goal.loop-host-preserved
loop-host-preserved c =
    let at = c.loop-host in
    let steps = c.in-Some.ensures.steps in (
      moves_more _ at.yielded _ _ _ _ c.in-Some.host steps.0 steps.1 at.invariant.0,
      c.in_ok-push.ensures.items
          ∙ (ap (λ (xs : List HostSpec). xs ++ c.finish.result ∷ []) at.invariant.1 ∙ ap (λ (x : HostSpec). at.yielded ++ x ∷ []) c.finish.ensures),
    )

pub returns : goal.returns
returns c =
    let at = c.loop-host in
    at.invariant.1 ∙ (moves_all _ at.yielded _ _ c.in-None.ensures.steps.0 at.invariant.0 ∙ c.into_iter-host-iterator.ensures.into_iter_gives.0)

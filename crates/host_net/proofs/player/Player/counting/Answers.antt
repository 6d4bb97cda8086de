use Rattle.std.proofs.Common.{[], Option, ap, sym, subst, ◌∙◌}
use Rattle.net_base.specs.Next.{zone_of}
use Rattle.net_base.specs.Steps.{no_names}
use Rattle.net_base.specs.Tasks.{Asking}
use Rattle.host_net.proofs.Counting.{counts_fresh}
use Rattle.host_net.proofs.player.Player.counting.Goals as goal

pub new-player-requires-clause-task : goal.new-player-requires-clause-task
new-player-requires-clause-task g c = λ s script.
    let w = g.J.Placing.world in
    subst (λ (o : Option Asking). g.T.WholeTask.Goes o (zone_of w) s [] (no_names (zone_of w)) c.args.task) (sym c.requires.script)
    (g.met.T.WholeTask.plays_there (zone_of w) s [] (no_names (zone_of w)) c.args.task (c.requires.plays s script))

pub invariant_of-player : goal.invariant_of-player
invariant_of-player g c = (
  c.player.invariant.0,
  λ counts. counts_fresh g.T.WholeTask.Plays g.J.Placing.world c.args.guest c.player.inside.guest c.args.task c.player.inside.task c.player.inside.lost
      c.finished-before.result (ap (λ x. x.visit) c.player.view_is ∙ c.new-player.ensures.visit) (ap (λ x. x.task) c.player.view_is ∙ c.new-player.ensures.task)
      (ap (λ x. x.lost) c.player.view_is ∙ c.new-player.ensures.told) c.requires.fresh c.requires.plays c.finished-before.ensures,
)

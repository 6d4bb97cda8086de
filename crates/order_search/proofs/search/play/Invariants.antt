use Rattle.std.proofs.Common.{◌≡◌, []}
use Rattle.order_search.specs.Choices.{IsPath}
use Rattle.order_search.specs.Walks.{IsWalk}
use Rattle.order_search.proofs.Choosing.{IsPlaying}
use Rattle.order_search.proofs.search.play.Given as goal

abbrev pub invariant-loop-place : goal.invariant-loop-place
invariant-loop-place l = record {
  walk : IsWalk l.world l.walk;
  part : l.trail.deal.part ≡ l.initial.trail.deal.part;
  exact : l.initial.walk.runner.history.entries ≡ [] → l.pass.losses ≡ 0
      → IsPath l.world l.pass.preemptions l.initial.trail.refused l.initial.trail.path
      → IsPlaying l.world l.pass.preemptions l.initial.trail.refused l.initial.trail.path l.trail.refused l.trail.path l.place l.walk.runner.history.entries;
}

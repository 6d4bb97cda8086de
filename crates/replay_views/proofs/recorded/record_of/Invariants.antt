use Rattle.std.proofs.Common.{take}
use Rattle.plain_runner.specs.Followed.{Followed}
use Rattle.replay_views.specs.Recorded.{AreLatest}
use Rattle.replay_views.proofs.recorded.record_of.Given as goal

abbrev pub invariant-loop-stamp : goal.invariant-loop-stamp
invariant-loop-stamp l = record {
  followed : Followed l.world (take l.stamp l.history) l.runner;
  latest : AreLatest l.world l.history l.stamp l.latest.entries;
}

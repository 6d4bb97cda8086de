use Rattle.net_base.specs.World.{IsWorld}
use Rattle.order_search.specs.Exact.{IsPlain}
use Rattle.order_search.specs.Tellings.{IsKin, IsPassOf, IsSound}
use Rattle.order_search.proofs.Searched.{Explores}
use Rattle.order_search.proofs.search.explore.Given as goal

abbrev pub invariant-loop : goal.invariant-loop
invariant-loop g l = record {
  world : IsWorld l.world;
  kin : IsKin l.initial.world l.sought.losses l.world;
  pass : IsPassOf l.sought l.pass;
  sound : IsSound l.initial.world l.sought.losses l.sought.preemptions l.found;
  exact : IsPlain l.sought → Explores l.initial.world l.sought l.pass l.trail l.found;
}

use Rattle.std.proofs.Common.{◌∙◌}
use Rattle.order_search.proofs.Choosing.{chosen_some, plays_on}
use Rattle.order_search.proofs.search.play.Goals as goal

pub loop-place-preserved : goal.loop-place-preserved
loop-place-preserved c = record {
  walk = c.in_ok-advance.ensures.is;
  part = c.leaves.ensures.part ∙ c.loop-place.invariant.part;
  exact = λ empty no_losses paths.
      let playing = c.loop-place.invariant.exact empty no_losses paths in
      plays_on c.args.world.now c.args.pass.preemptions c.args.trail.now.refused c.loop-place.trail.refused c.choose.new.refused c.args.trail.now.path
      c.loop-place.trail.path c.choose.new.path c.lay_newest.new.path c.loop-place.walk c.advance.new.walk c.loop-place.place c.in-Some.caller playing
      (chosen_some c.args.world.now c.args.pass.preemptions c.loop-place.trail.refused c.loop-place.trail.path c.choose.new.refused c.choose.new.path
      c.loop-place.place c.loop-place.walk.runner.history.entries c.in_ok-chosen.chosen c.in-Some.caller
      (c.in_ok-chosen.ensures.exact playing.path_is playing.at) c.in-Some.is) c.in_ok-advance.ensures.grows (c.lay_newest.ensures no_losses);
}

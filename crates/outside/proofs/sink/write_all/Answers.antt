use Rattle.std.proofs.Common.{arith, ◌∙◌}
use Rattle.std.proofs.lemmas.List.{length-take, length-drop}
use Rattle.outside.proofs.Pieces.{appends_next}
use Rattle.outside.proofs.sink.write_all.Goals as goal

pub loop-done-preserved : goal.loop-done-preserved
loop-done-preserved g c = (
  grind (arith, c.loop-done-test.true, c.in_ok-done.ensures.within, length-take, length-drop),
  appends_next _ _ _ _ _ _ c.loop-done.invariant.1 c.in_ok-done.ensures.gained,
  c.in_ok-done.ensures.same ∙ c.loop-done.invariant.2,
)

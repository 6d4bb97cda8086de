use Rattle.std.proofs.Common.{◌∙◌, sym}
use Rattle.live_run.proofs.Rests.{not_true}
use Rattle.live_run.proofs.round.is_through.Goals as goal

pub returns : goal.returns
returns c truth w s tracks is = sym (c.has_left.ensures w s tracks is) ∙ not_true c.has_left.result truth

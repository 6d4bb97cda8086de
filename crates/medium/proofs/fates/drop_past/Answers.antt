use Rattle.std.proofs.Common.{sym, ◌∙◌}
use Rattle.medium.proofs.Fating.{dropped}
use Rattle.medium.proofs.fates.drop_past.Goals as goal

pub loop-lines-preserved : goal.loop-lines-preserved
loop-lines-preserved c =
    dropped c.args.laid c.args.lines.now.items c.loop-lines.lines.items c.pop_front.new.self.items c.pop_front.result c.pop_front.ensures.items (sym c.begins_past.ensures ∙ c.loop-lines-test.true) c.loop-lines.invariant

use Rattle.std.proofs.Common.{sym, ◌∙◌}
use Rattle.played_task.proofs.step.begin.Goals as goal

pub returns-in_ok-open-in-Open : goal.returns-in_ok-open-in-Open
returns-in_ok-open-in-Open c = rw (c.in-Open.is) (c.once.ensures ∙ sym (c.in_ok-open-in-Open.ensures c.args.left.now))

pub returns-in-Dial : goal.returns-in-Dial
returns-in-Dial c = rw (c.in-Dial.is) (c.dial.ensures c.args.left.now)

pub returns-in-Announce : goal.returns-in-Announce
returns-in-Announce c = rw (c.in-Announce.is) (c.announce.ensures c.args.left.now)

pub returns-in-Listen : goal.returns-in-Listen
returns-in-Listen c = rw (c.in-Listen.is) (c.listen.ensures c.args.left.now)

pub returns-in-Accept : goal.returns-in-Accept
returns-in-Accept c = rw (c.in-Accept.is) (c.accept.ensures c.args.left.now)

pub returns-in-Hread : goal.returns-in-Hread
returns-in-Hread c = rw (c.in-Hread.is) (c.hread.ensures c.args.left.now)

pub returns-in-Hwrite : goal.returns-in-Hwrite
returns-in-Hwrite c = rw (c.in-Hwrite.is) (c.hwrite.ensures c.args.left.now)

pub returns-in-Export : goal.returns-in-Export
returns-in-Export c = rw (c.in-Export.is) (c.export.ensures c.args.left.now)

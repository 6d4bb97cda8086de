use Rattle.std.proofs.Common.{ap, sym, ◌∙◌}
use Rattle.net_base.specs.IlEnd.{accepts}
use Rattle.il_machine.specs.Windows.{windows_of}
use Rattle.il_machine.specs.Stands.{StandsFor}
use Rattle.il_machine.proofs.Accepting.{accepts_hears_ack}
use Rattle.il_machine.proofs.end.IlEnd.take_in.Goals as goal

pub returns-clause-ok : goal.returns-clause-ok
unfolding StandsFor
returns-clause-ok c e stands =
    c.hear_ack.ensures.end (accepts c.args.message.now e) (c.in_ok-accept.ensures.ok e stands)
    ∙ ap windows_of (sym (accepts_hears_ack c.args.now c.args.message.now e))

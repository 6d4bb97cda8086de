use Rattle.std.proofs.Common.{◌≡◌, List, IfOk, subst}
use Rattle.net_base.specs.declared.history.Entry.{Entry}
use Rattle.net_base.specs.Transcript.{lines_from}
use Rattle.transcript.proofs.Runs.{part_all}
use Rattle.transcript.proofs.halves.text_by.Goals as goal

pub returns : goal.returns
returns g c =
    subst (λ (l : List Entry). IfOk c.text_by_halves.result (λ text. text ≡ lines_from 0 l))
    (part_all c.count.result (g.E.Entries.list c.args.entries.now) c.count.ensures) c.text_by_halves.ensures

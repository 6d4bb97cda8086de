use Rattle.std.proofs.Common.{◌≡◌, List, IfOk, subst}
use Rattle.net_base.specs.declared.history.Entry.{Entry}
use Rattle.net_base.specs.Transcript.{lines_from}
use Rattle.transcript.proofs.Runs.{part_all}
use Rattle.transcript.proofs.entry.text_of.Goals as goal

pub returns : goal.returns
returns c =
    subst (λ (l : List Entry). IfOk c.text_from.result (λ text. text ≡ lines_from 0 l)) (part_all c.len.result c.args.history.now c.len.ensures)
    c.text_from.ensures

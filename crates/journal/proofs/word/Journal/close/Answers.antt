use Rattle.std.proofs.Common.{sym, subst, List}
use Rattle.std.proofs.lemmas.Result.{IfOk-weaker}
use Rattle.net_base.specs.declared.history.Entry.{Entry}
use Rattle.journal.specs.Closing.{IsWhole}
use Rattle.journal.proofs.word.Journal.close.Goals as goal

pub returns : goal.returns
returns g c =
    IfOk-weaker _ _ _
    (λ h is. subst (λ (l : List Entry). IsWhole g.J.Naming.run.roster c.args.pass c.args.books.items l) (sym is) c.in_ok-closed.ensures)
    c.into_history.ensures

use Rattle.std.proofs.Common.{List, sym, subst}
use Rattle.std.proofs.lemmas.Result.{IfOk-weaker}
use Rattle.net_base.specs.declared.history.Entry.{Entry}
use Rattle.net_guests.specs.Visits.{Finished}
use Rattle.host_net.proofs.net.Net+J+WorldActor+J.finish.Goals as goal

pub returns : goal.returns
returns g c =
    IfOk-weaker _ _ _ (λ h is. subst (λ (l : List Entry). Finished g.J.Placing.tasks g.J.Placing.world c.args.guests.items l) (sym is) c.in_ok-books.ensures)
    c.into_history.ensures

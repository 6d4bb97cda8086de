use Rattle.std.proofs.Common.{refl, arith}
use Rattle.agenda.proofs.Backing.{none_else, were_told}
use Rattle.agenda.proofs.Closing.{closed_after, closed_history, closed_legal, closed_timed}
use Rattle.agenda.proofs.tasks.run_named.Goals as goal

pub returns-clause-legal : goal.returns-clause-legal
returns-clause-legal g c =
    closed_legal g.J.Placing.tasks g.J.Placing.world c.in_ok-guests.field-0.guests.items c.in_ok-history.history c.in_ok-history.ensures c.in_ok-guests.ensures.plays

pub returns-clause-timed : goal.returns-clause-timed
returns-clause-timed g c =
    closed_timed g.J.Placing.tasks g.J.Placing.world c.in_ok-guests.field-0.guests.items c.in_ok-history.history c.in_ok-history.ensures c.in_ok-guests.ensures.plays

pub returns-clause-end : goal.returns-clause-end
returns-clause-end g c =
    c.in_ok-end.ensures.ended c.in_ok-history.history
    (closed_history g.J.Placing.tasks g.J.Placing.world c.in_ok-guests.field-0.guests.items c.in_ok-history.history c.in_ok-history.ensures c.in_ok-guests.ensures.plays _ c.in_ok-guests.ensures.same)

pub returns-clause-told : goal.returns-clause-told
returns-clause-told g c =
    let w = g.J.Placing.world in
    let guests = c.in_ok-guests.field-0.guests.items in
    were_told g.T.OwnTask.asks g.T.OwnTask.after g.T.OwnTask.Keeps g.J.Placing.tasks w c.args.tasks.items c.in_ok-guests.field-0.tasks.items guests
    c.in_ok-history.history c.requires.given
    (closed_after g.J.Placing.tasks w guests c.in_ok-history.history c.in_ok-history.ensures c.in_ok-guests.ensures.plays guests refl)
    (λ k lt. c.in_ok-guests.ensures.all k (omega (arith, lt, c.in_ok-end.ensures.all, c.requires.roster.callers_are)))
    c.in_ok-guests.ensures.tasks

pub returns-clause-none : goal.returns-clause-none
returns-clause-none g c =
    none_else g.T.OwnTask.asks g.T.OwnTask.after g.T.OwnTask.Keeps g.J.Placing.tasks c.args.tasks.items c.in_ok-guests.field-0.tasks.items c.requires.given
    c.in_ok-guests.ensures.theirs

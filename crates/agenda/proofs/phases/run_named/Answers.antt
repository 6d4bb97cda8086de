use Rattle.agenda.proofs.Closing.{closed_after, closed_history, closed_legal, closed_timed}
use Rattle.agenda.proofs.phases.run_named.Goals as goal

pub returns-clause-legal : goal.returns-clause-legal
returns-clause-legal g c =
    closed_legal g.J.Placing.tasks g.J.Placing.world c.in_ok-played.played.items c.in_ok-books.books c.in_ok-books.ensures c.in_ok-played.ensures.plays

pub returns-clause-timed : goal.returns-clause-timed
returns-clause-timed g c =
    closed_timed g.J.Placing.tasks g.J.Placing.world c.in_ok-played.played.items c.in_ok-books.books c.in_ok-books.ensures c.in_ok-played.ensures.plays

pub returns-clause-answered : goal.returns-clause-answered
returns-clause-answered g c =
    c.in-Some.ensures.count c.in_ok-books.books
    (closed_after g.J.Placing.tasks g.J.Placing.world c.in_ok-played.played.items c.in_ok-books.books c.in_ok-books.ensures c.in_ok-played.ensures.plays _ c.in_ok-played.ensures.same)

pub returns-clause-end : goal.returns-clause-end
returns-clause-end g c =
    c.in_ok-end.ensures.ended c.in_ok-books.books
    (closed_history g.J.Placing.tasks g.J.Placing.world c.in_ok-played.played.items c.in_ok-books.books c.in_ok-books.ensures c.in_ok-played.ensures.plays _ c.in_ok-played.ensures.same)

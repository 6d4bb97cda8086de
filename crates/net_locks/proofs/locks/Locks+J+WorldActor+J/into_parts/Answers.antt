use Rattle.std.proofs.Common.{List, sym, subst, ◌∙◌}
use Rattle.net_base.specs.declared.actor.ActorName.{ActorName}
use Rattle.net_base.specs.Stamped.{In}
use Rattle.net_actors.specs.Numbers.{count_in}
use Rattle.net_locks.proofs.Rows.{has_number, in_books, known}
use Rattle.net_locks.proofs.locks.Locks+J+WorldActor+J.into_parts.Goals as goal

pub returns-clause-actors : goal.returns-clause-actors
returns-clause-actors g c = c.in_ok-books.ensures.actors ∙ c.args.self.of.actors_are

pub returns-clause-each : goal.returns-clause-each
returns-clause-each g c a has =
    let w = g.J.Placing.world in
    let r = g.J.Naming.run.roster in
    let there = has_number w (c.numbers_are_apart.ensures.below w) (c.numbers_are_apart.ensures.apart w) r.actors c.args.self.of.roster.actors_are a has in
    in_books c.in_ok-books.books.items a
    (subst (λ (l : List ActorName). In a l) (sym (c.in_ok-books.ensures.actors ∙ c.args.self.of.actors_are)) there)

pub returns-clause-known : goal.returns-clause-known
returns-clause-known g c =
    let w = g.J.Placing.world in
    known w (count_in w) g.J.Naming.run.roster.actors c.args.self.of.roster.actors_are

pub returns-in_err-books-clause-known : goal.returns-in_err-books-clause-known
returns-in_err-books-clause-known g c =
    let w = g.J.Placing.world in
    known w (count_in w) g.J.Naming.run.roster.actors c.args.self.of.roster.actors_are

pub returns-clause-callers : goal.returns-clause-callers
returns-clause-callers g c = c.args.self.of.roster.callers_are

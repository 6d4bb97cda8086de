use Rattle.std.proofs.lemmas.Result.{IfOk-weaker}
use Rattle.journal.specs.Closing.{IsWhole}
use Rattle.net_guests.specs.Visits.{Finished}
use Rattle.net_guests.proofs.Shared.{all_with, finished, holds_all, itself, kept}
use Rattle.host_net.proofs.net.Net+J+WorldActor+J.finish_in_books.Goals as goal

pub close_in_books-requires-clause-callers : goal.close_in_books-requires-clause-callers
close_in_books-requires-clause-callers g c =
    let w = g.J.Placing.world in
    let r = g.J.Naming.run.roster in
    let mine = itself w r c.in-Some.last c.into_pass-all.result c.into_pass-all.ensures.same c.into_pass-all.ensures.guest in
    let here = all_with w r c.args.guests.items c.gather.new.all c.pop.new.self.items c.in-Some.last c.into_pass-all.result c.in-Some.ensures.items
    mine c.gather.ensures in
    holds_all w r c.args.guests.items c.gather.new.all c.requires.all here

pub close_in_books-requires-clause-actors : goal.close_in_books-requires-clause-actors
close_in_books-requires-clause-actors g c = c.in_ok-journal.ensures.actors

pub returns : goal.returns
returns g c =
    let w = g.J.Placing.world in
    let r = g.J.Naming.run.roster in
    let mine = itself w r c.in-Some.last c.into_pass-all.result c.into_pass-all.ensures.same c.into_pass-all.ensures.guest in
    let here = all_with w r c.args.guests.items c.gather.new.all c.pop.new.self.items c.in-Some.last c.into_pass-all.result c.in-Some.ensures.items
    mine c.gather.ensures in
    let actors = c.in_ok-journal.ensures.known in
    let callers = c.in_ok-journal.ensures.callers in
    IfOk-weaker c.close_in_books.result (λ h. IsWhole r c.gather.new.all c.in_ok-journal.books.items h) (λ h. Finished g.J.Placing.tasks w c.args.guests.items h)
    (λ h whole.
    finished g.J.Placing.tasks w r actors callers c.args.guests.items c.gather.new.all c.in_ok-journal.books.items h c.requires.all here whole
    (kept g.J.Placing.tasks w r actors callers c.args.guests.items c.gather.new.all c.in_ok-journal.books.items h c.requires.all here whole
    c.in_ok-journal.ensures.replayed c.in_ok-journal.ensures.each)
    (c.histories_of_guests_are_legal.ensures.net w r c.gather.new.all.seen)
    (c.histories_of_guests_are_legal.ensures.but_scripts w r c.gather.new.all.seen)
    (c.histories_of_guests_are_legal.ensures.legal g.J.Placing.tasks w r c.gather.new.all.seen)
    (c.histories_of_guests_are_legal.ensures.timed g.J.Placing.tasks w r c.gather.new.all.seen))
    c.close_in_books.ensures

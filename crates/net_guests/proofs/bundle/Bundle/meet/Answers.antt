use Rattle.std.proofs.Common.{sym, subst}
use Rattle.journal.specs.declared.tokens.Sight.{Sight}
use Rattle.net_locks.specs.Guests.{IsGuest}
use Rattle.net_guests.proofs.Passes.{itself, with_that, with_this}
use Rattle.net_guests.proofs.bundle.Bundle.meet.Goals as goal

pub returns-clause-kept : goal.returns-clause-kept
returns-clause-kept g c v is =
    let w = g.J.Placing.world in
    let r = g.J.Naming.run.roster in
    with_this w r v c.args.all.now is c.meet.new.pass c.into_pass.result c.meet.ensures
    (c.guests_meet.ensures.this w r v.caller c.args.all.now c.into_pass.result c.meet.new.pass v.owed is.guest c.meet.ensures)

pub returns-clause-taken : goal.returns-clause-taken
returns-clause-taken g c =
    let w = g.J.Placing.world in
    let r = g.J.Naming.run.roster in
    let v = c.args.self.visit in
    let p = c.into_pass.result in
    let mine = subst (λ (q : Sight). IsGuest w r v.caller q v.owed) (sym c.into_pass.ensures.same) c.requires.complete.visit.guest in
    let is = itself w r v p c.into_pass.ensures.same mine in
    with_that w r v p is c.meet.new.pass c.args.all.now c.meet.ensures
    (c.guests_meet.ensures.that w r v.caller c.args.all.now p c.meet.new.pass v.owed mine c.meet.ensures)

use Rattle.std.proofs.Common.{List, length, None, inr, refl, ap, sym, subst, arith}
use Rattle.net_base.specs.declared.actor.ActorName.{ActorName}
use Rattle.net_base.specs.declared.actor.ActorName.TheVariants as name
use Rattle.net_base.specs.declared.event.Event.TheVariants as event
use Rattle.net_base.specs.Duties.{Duty}
use Rattle.net_locks.specs.Guests.{IsGuestTurn, GuestRecords, deed_at}
use Rattle.net_locks.specs.Turns.{bare}
use Rattle.net_locks.proofs.Moved.{leaves_moved}
use Rattle.net_locks.proofs.Sighted.{looked_same}
use Rattle.net_locks.proofs.clock.Locks+J+WorldActor+J.record_move.Goals as goal

pub act-requires-clause-timely : goal.act-requires-clause-timely
act-requires-clause-timely g c = inr c.requires.numbers

pub act-requires-clause-room : goal.act-requires-clause-room
act-requires-clause-room g c = (c.requires.guest.list, c.requires.guest.held, omega (arith, ap length c.requires.guest.all, c.requires.room))

pub returns-in-Done-clause-leaves : goal.returns-in-Done-clause-leaves
returns-in-Done-clause-leaves g c =
    let w = g.J.Placing.world in
    let r = g.J.Naming.run.roster in
    let k = c.args.bearer.now.caller in
    let m = c.args.moment in
    let p = c.args.bearer.now.pass in
    let p' = c.act.new.pass in
    let ds = c.args.duties.now.list in
    let d = subst (λ (a : ActorName). GuestRecords w r (deed_at a k c.args.bearer.now.now (bare (event.Move m)) None) p c.in-Done.stamp c.in-Done.outcome p') c.in-Some.ensures.some c.in-Done.ensures in
    let turn = subst (λ (l : List Duty). IsGuestTurn w k p l name.Clock (bare (event.Move m)) None) (sym c.requires.free) (c.turns_are_these.ensures.clock w k p m c.requires.clock) in
    let rec = c.guests_record.ensures w r name.Clock k c.args.bearer.now.now (bare (event.Move m)) None p ds c.in-Done.stamp c.in-Done.outcome p' c.requires.guest turn d in
    leaves_moved g.J.Placing.tasks w r k c.args.bearer.now.now m p p' ds c.requires.guest c.in-Done.stamp c.in-Done.outcome d rec c.requires.numbers c.requires.free c.a_move_owes_its_ticks.ensures
    (c.nets_of_works_grow.ensures.next w) (c.nets_of_works_grow.ensures.moment w)
    (λ other es apart guest. c.guests_stay_by_others.ensures w r name.Clock k other c.args.bearer.now.now (bare (event.Move m)) None p es c.in-Done.stamp c.in-Done.outcome p' guest apart d)
    c.requires.room c.requires.in_time c.args.dues.now c.requires.dues c.owe_ticks.new.self.list c.owe_ticks.ensures.list

pub returns-in-NotReady-clause-leaves : goal.returns-in-NotReady-clause-leaves
returns-in-NotReady-clause-leaves g c = (looked_same g.J.Naming.run.roster c.args.bearer.now.pass c.in-NotReady.front c.act.new.pass c.requires.numbers c.in-NotReady.ensures.look, refl)

use Rattle.std.proofs.Common.{List, drop, None, ap, sym, subst, ◌∙◌, arith, rules}
use Rattle.net_base.specs.declared.actor.ActorName.{ActorName}
use Rattle.net_base.specs.Duties.{Duty}
use Rattle.net_locks.specs.Guests.{IsGuestTurn}
use Rattle.net_locks.specs.declared.turn.Turn.{Turn}
use Rattle.net_locks.specs.declared.turn.Turn.TheVariants as turn
use Rattle.net_locks.specs.Turns.{bare}
use Rattle.net_locks.specs.Visitors.{Does, Misses, Visited}
use Rattle.net_locks.proofs.Visited.{done_turn, done_visitor, missed_turn, missed_visitor, visitor}
use Rattle.net_locks.proofs.turn.Locks+J+WorldActor+J.own.Goals as goal

pub settle-requires-clause-owing : goal.settle-requires-clause-owing
settle-requires-clause-owing g c =
    let v = c.args.visitor.now in
    let at_lock = c.in-Some-lock_of.ensures.some in
    let is = subst (λ (l : List Duty). IsGuestTurn g.J.Placing.world v.bearer.caller v.bearer.pass l c.args.actor (bare c.args.event) None) (sym c.requires.free) c.requires.turn in
    let d = c.in-Done.ensures.attempted v.duties.list c.requires.complete.guest
    (subst (λ (a : ActorName). IsGuestTurn g.J.Placing.world v.bearer.caller v.bearer.pass v.duties.list a (bare c.args.event) None) (sym at_lock) is) in
    let room = c.in_default.ensures.none (search rules) in
    omega (arith, d.few, room.1)

pub returns-in-Done-clause-complete : goal.returns-in-Done-clause-complete
returns-in-Done-clause-complete g c =
    let w = g.J.Placing.world in
    let v = c.args.visitor.now in
    let at_lock = c.in-Some-lock_of.ensures.some in
    let is = subst (λ (l : List Duty). IsGuestTurn w v.bearer.caller v.bearer.pass l c.args.actor (bare c.args.event) None) (sym c.requires.free) c.requires.turn in
    let d =
    subst (λ (a : ActorName). Does g.J.Placing.tasks w g.J.Naming.run.roster a (bare c.args.event) None v.bearer v.duties.list c.in-Done.stamp c.in-Done.outcome c.attempt.new.bearer) at_lock
    (c.in-Done.ensures.attempted v.duties.list c.requires.complete.guest
    (subst (λ (a : ActorName). IsGuestTurn w v.bearer.caller v.bearer.pass v.duties.list a (bare c.args.event) None) (sym at_lock) is)) in
    let room = c.in_default.ensures.none (search rules) in
    let rest = c.lacks_room.ensures.list ∙ (c.requires.free ∙ sym (ap (λ (l : List Duty). drop 1 l) c.requires.free)) in
    done_visitor g.J.Placing.tasks w g.J.Naming.run.roster c.args.actor (bare c.args.event) None v c.requires.complete c.attempt.new.bearer c.attempt.ensures.same c.attempt.ensures.here
    c.in-Done.stamp c.in-Done.outcome d room.0 c.requires.other c.args.self.now.ways c.args.self.now.of.ways_are c.lacks_room.new.duties c.settle.new.duties c.settle.ensures.owes rest
    (c.calendars_stay_known.ensures w) c.lacks_room.new.touched c.settle.new.touched (c.lacks_room.ensures.covers _ c.requires.complete.covers) c.settle.ensures.covers

pub returns-in-Done-clause-turn : goal.returns-in-Done-clause-turn
returns-in-Done-clause-turn g c =
    let w = g.J.Placing.world in
    let v = c.args.visitor.now in
    let at_lock = c.in-Some-lock_of.ensures.some in
    let is = subst (λ (l : List Duty). IsGuestTurn w v.bearer.caller v.bearer.pass l c.args.actor (bare c.args.event) None) (sym c.requires.free) c.requires.turn in
    let d =
    subst (λ (a : ActorName). Does g.J.Placing.tasks w g.J.Naming.run.roster a (bare c.args.event) None v.bearer v.duties.list c.in-Done.stamp c.in-Done.outcome c.attempt.new.bearer) at_lock
    (c.in-Done.ensures.attempted v.duties.list c.requires.complete.guest
    (subst (λ (a : ActorName). IsGuestTurn w v.bearer.caller v.bearer.pass v.duties.list a (bare c.args.event) None) (sym at_lock) is)) in
    let room = c.in_default.ensures.none (search rules) in
    let rest = c.lacks_room.ensures.list ∙ (c.requires.free ∙ sym (ap (λ (l : List Duty). drop 1 l) c.requires.free)) in
    subst (λ (t : Turn). Visited g.J.Placing.tasks w c.args.actor (bare c.args.event) None v t (visitor c.attempt.new.bearer c.settle.new.duties c.settle.new.touched v.calendar))
    (sym c.settle.ensures.turn)
    (done_turn g.J.Placing.tasks w g.J.Naming.run.roster c.args.actor (bare c.args.event) None v c.requires.complete c.attempt.new.bearer c.attempt.ensures.same c.attempt.ensures.here
    c.in-Done.stamp c.in-Done.outcome d room.0 c.requires.other c.args.self.now.ways c.args.self.now.of.ways_are c.lacks_room.new.duties c.settle.new.duties c.settle.ensures.owes rest
    c.settle.new.touched)

pub returns-in-NotReady-clause-complete : goal.returns-in-NotReady-clause-complete
returns-in-NotReady-clause-complete g c =
    let v = c.args.visitor.now in
    missed_visitor g.J.Placing.tasks g.J.Placing.world g.J.Naming.run.roster c.args.actor (bare c.args.event) None v c.requires.complete c.attempt.new.bearer c.attempt.ensures.same
    c.attempt.ensures.here turn.NotReady (subst (λ (a : ActorName). Misses g.J.Placing.tasks g.J.Placing.world g.J.Naming.run.roster a (bare c.args.event) None v.bearer v.duties.list turn.NotReady c.attempt.new.bearer)
    c.in-Some-lock_of.ensures.some (c.in-NotReady.ensures.attempted v.duties.list c.requires.complete.guest)) c.lacks_room.new.duties c.lacks_room.ensures.list
    (c.calendars_stay_known.ensures g.J.Placing.world) c.lacks_room.new.touched (c.lacks_room.ensures.covers _ c.requires.complete.covers)

pub returns-in-Memory-clause-complete : goal.returns-in-Memory-clause-complete
returns-in-Memory-clause-complete g c =
    let v = c.args.visitor.now in
    missed_visitor g.J.Placing.tasks g.J.Placing.world g.J.Naming.run.roster c.args.actor (bare c.args.event) None v c.requires.complete c.attempt.new.bearer c.attempt.ensures.same
    c.attempt.ensures.here turn.Memory (subst (λ (a : ActorName). Misses g.J.Placing.tasks g.J.Placing.world g.J.Naming.run.roster a (bare c.args.event) None v.bearer v.duties.list turn.Memory c.attempt.new.bearer)
    c.in-Some-lock_of.ensures.some (c.in-Memory.ensures.attempted v.duties.list c.requires.complete.guest)) c.lacks_room.new.duties c.lacks_room.ensures.list
    (c.calendars_stay_known.ensures g.J.Placing.world) c.lacks_room.new.touched (c.lacks_room.ensures.covers _ c.requires.complete.covers)

pub returns-in-NotReady-clause-turn : goal.returns-in-NotReady-clause-turn
returns-in-NotReady-clause-turn g c =
    let v = c.args.visitor.now in
    missed_turn g.J.Placing.tasks g.J.Placing.world g.J.Naming.run.roster c.args.actor (bare c.args.event) None v c.requires.complete c.attempt.new.bearer c.attempt.ensures.same
    c.attempt.ensures.here turn.NotReady (subst (λ (a : ActorName). Misses g.J.Placing.tasks g.J.Placing.world g.J.Naming.run.roster a (bare c.args.event) None v.bearer v.duties.list turn.NotReady c.attempt.new.bearer)
    c.in-Some-lock_of.ensures.some (c.in-NotReady.ensures.attempted v.duties.list c.requires.complete.guest)) c.lacks_room.new.duties c.lacks_room.ensures.list c.lacks_room.new.touched

pub returns-in-Memory-clause-turn : goal.returns-in-Memory-clause-turn
returns-in-Memory-clause-turn g c =
    let v = c.args.visitor.now in
    missed_turn g.J.Placing.tasks g.J.Placing.world g.J.Naming.run.roster c.args.actor (bare c.args.event) None v c.requires.complete c.attempt.new.bearer c.attempt.ensures.same
    c.attempt.ensures.here turn.Memory (subst (λ (a : ActorName). Misses g.J.Placing.tasks g.J.Placing.world g.J.Naming.run.roster a (bare c.args.event) None v.bearer v.duties.list turn.Memory c.attempt.new.bearer)
    c.in-Some-lock_of.ensures.some (c.in-Memory.ensures.attempted v.duties.list c.requires.complete.guest)) c.lacks_room.new.duties c.lacks_room.ensures.list c.lacks_room.new.touched

use Rattle.std.proofs.Common.{◌≡◌, false, List, drop, Some, slice_get, refl, ap, sym, subst, ◌∙◌, arith, rules}
use Rattle.std.proofs.lemmas.Option.{same_Some}
use Rattle.net_base.specs.declared.actor.ActorName.TheVariants as name
use Rattle.net_base.specs.Duties.{Duty}
use Rattle.net_base.specs.Stamped.{In, same_actor}
use Rattle.duties.specs.Owing.{Owes}
use Rattle.duties.specs.Queue.{work_of_duty}
use Rattle.net_locks.specs.declared.turn.Turn.{Turn}
use Rattle.net_locks.specs.declared.turn.Turn.TheVariants as turn
use Rattle.net_locks.specs.Visitors.{Visited}
use Rattle.net_locks.proofs.Firsts.{first_in, first_turn}
use Rattle.net_locks.proofs.Visited.{done_turn, done_visitor, missed_turn, missed_visitor, visitor}
use Rattle.net_locks.proofs.turn.Locks+J+WorldActor+J.serve.Goals as goal

pub settle-requires-clause-owing : goal.settle-requires-clause-owing
settle-requires-clause-owing g c =
    let w = g.J.Placing.world in
    let v = c.args.visitor.now in
    let f = c.requires.some in
    let turn = first_turn w v.bearer.caller v.bearer.pass v.duties.list f.0 f.1 f.0.actor refl
    (c.turns_are_these.ensures.duty w v.bearer.caller v.bearer.pass f.0 (drop 1 v.duties.list)) in
    let d = c.in-Done.ensures.attempted f.0 (ap (λ (l : List Duty). slice_get l 0) c.lacks_room.ensures.list ∙ f.1) v.duties.list c.requires.complete.guest turn in
    let room = c.in_default.ensures.none (search rules) in
    omega (arith, d.few, room.1, c.pop.ensures.room)

pub returns-in-Done-clause-complete : goal.returns-in-Done-clause-complete
returns-in-Done-clause-complete g c =
    let w = g.J.Placing.world in
    let r = g.J.Naming.run.roster in
    let v = c.args.visitor.now in
    let f = c.requires.some in
    let at_first = ap (λ (l : List Duty). slice_get l 0) c.lacks_room.ensures.list ∙ f.1 in
    let turn = first_turn w v.bearer.caller v.bearer.pass v.duties.list f.0 f.1 f.0.actor refl
    (c.turns_are_these.ensures.duty w v.bearer.caller v.bearer.pass f.0 (drop 1 v.duties.list)) in
    let d = c.in-Done.ensures.attempted f.0 at_first v.duties.list c.requires.complete.guest turn in
    let room = c.in_default.ensures.none (search rules) in
    let first : c.unwrap.result ≡ f.0 = same_Some c.unwrap.result f.0 (sym c.unwrap.ensures ∙ (c.pop.ensures.value ∙ at_first)) in
    let duty = c.actor.view_is ∙ first in
    let owes : Owes c.args.self.now.ways f.0.actor c.in-Done.stamp (work_of_duty f.0) c.in-Done.outcome c.pop.new.self c.settle.new.duties =
    subst (λ (q : Duty). Owes c.args.self.now.ways q.actor c.in-Done.stamp (work_of_duty q) c.in-Done.outcome c.pop.new.self c.settle.new.duties) duty c.settle.ensures.owes in
    let other : same_actor f.0.actor name.Clock ≡ false = c.no_duty_is_the_clocks.ensures w v.bearer.pass.seen v.bearer.caller f.0
    (subst (λ (l : List Duty). In f.0 l) (sym c.requires.complete.guest.owed) (first_in v.duties.list f.0 f.1)) in
    done_visitor g.J.Placing.tasks w r f.0.actor (work_of_duty f.0) (Some f.0.cites) v c.requires.complete c.attempt_first.new.bearer c.attempt_first.ensures.same c.attempt_first.ensures.here
    c.in-Done.stamp c.in-Done.outcome d room.0 other c.args.self.now.ways c.args.self.now.of.ways_are c.pop.new.self c.settle.new.duties owes
    (c.pop.ensures.rest ∙ ap (λ (l : List Duty). drop 1 l) c.lacks_room.ensures.list) (c.calendars_stay_known.ensures w) c.lacks_room.new.touched c.settle.new.touched
    (c.lacks_room.ensures.covers _ c.requires.complete.covers)
    (λ es x covers at. c.settle.ensures.covers es x covers (at ∙ sym (ap (λ (q : Duty). q.actor) duty)))

pub returns-in-Done-clause-turn : goal.returns-in-Done-clause-turn
returns-in-Done-clause-turn g c e is =
    let w = g.J.Placing.world in
    let r = g.J.Naming.run.roster in
    let v = c.args.visitor.now in
    let at_first = ap (λ (l : List Duty). slice_get l 0) c.lacks_room.ensures.list ∙ is in
    let turn = first_turn w v.bearer.caller v.bearer.pass v.duties.list e is e.actor refl
    (c.turns_are_these.ensures.duty w v.bearer.caller v.bearer.pass e (drop 1 v.duties.list)) in
    let d = c.in-Done.ensures.attempted e at_first v.duties.list c.requires.complete.guest turn in
    let room = c.in_default.ensures.none (search rules) in
    let first : c.unwrap.result ≡ e = same_Some c.unwrap.result e (sym c.unwrap.ensures ∙ (c.pop.ensures.value ∙ at_first)) in
    let duty = c.actor.view_is ∙ first in
    let owes : Owes c.args.self.now.ways e.actor c.in-Done.stamp (work_of_duty e) c.in-Done.outcome c.pop.new.self c.settle.new.duties =
    subst (λ (q : Duty). Owes c.args.self.now.ways q.actor c.in-Done.stamp (work_of_duty q) c.in-Done.outcome c.pop.new.self c.settle.new.duties) duty c.settle.ensures.owes in
    let other : same_actor e.actor name.Clock ≡ false = c.no_duty_is_the_clocks.ensures w v.bearer.pass.seen v.bearer.caller e
    (subst (λ (l : List Duty). In e l) (sym c.requires.complete.guest.owed) (first_in v.duties.list e is)) in
    subst (λ (t : Turn). Visited g.J.Placing.tasks w e.actor (work_of_duty e) (Some e.cites) v t (visitor c.attempt_first.new.bearer c.settle.new.duties c.settle.new.touched v.calendar))
    (sym c.settle.ensures.turn)
    (done_turn g.J.Placing.tasks w r e.actor (work_of_duty e) (Some e.cites) v c.requires.complete c.attempt_first.new.bearer c.attempt_first.ensures.same c.attempt_first.ensures.here
    c.in-Done.stamp c.in-Done.outcome d room.0 other c.args.self.now.ways c.args.self.now.of.ways_are c.pop.new.self c.settle.new.duties owes
    (c.pop.ensures.rest ∙ ap (λ (l : List Duty). drop 1 l) c.lacks_room.ensures.list) c.settle.new.touched)

pub returns-in-NotReady-clause-complete : goal.returns-in-NotReady-clause-complete
returns-in-NotReady-clause-complete g c =
    let w = g.J.Placing.world in
    let v = c.args.visitor.now in
    let f = c.requires.some in
    missed_visitor g.J.Placing.tasks w g.J.Naming.run.roster f.0.actor (work_of_duty f.0) (Some f.0.cites) v c.requires.complete c.attempt_first.new.bearer c.attempt_first.ensures.same
    c.attempt_first.ensures.here turn.NotReady
    (c.in-NotReady.ensures.attempted f.0 (ap (λ (l : List Duty). slice_get l 0) c.lacks_room.ensures.list ∙ f.1) v.duties.list c.requires.complete.guest) c.lacks_room.new.duties
    c.lacks_room.ensures.list (c.calendars_stay_known.ensures w) c.lacks_room.new.touched (c.lacks_room.ensures.covers _ c.requires.complete.covers)

pub returns-in-Memory-clause-complete : goal.returns-in-Memory-clause-complete
returns-in-Memory-clause-complete g c =
    let w = g.J.Placing.world in
    let v = c.args.visitor.now in
    let f = c.requires.some in
    missed_visitor g.J.Placing.tasks w g.J.Naming.run.roster f.0.actor (work_of_duty f.0) (Some f.0.cites) v c.requires.complete c.attempt_first.new.bearer c.attempt_first.ensures.same
    c.attempt_first.ensures.here turn.Memory
    (c.in-Memory.ensures.attempted f.0 (ap (λ (l : List Duty). slice_get l 0) c.lacks_room.ensures.list ∙ f.1) v.duties.list c.requires.complete.guest) c.lacks_room.new.duties
    c.lacks_room.ensures.list (c.calendars_stay_known.ensures w) c.lacks_room.new.touched (c.lacks_room.ensures.covers _ c.requires.complete.covers)

pub returns-in-NotReady-clause-turn : goal.returns-in-NotReady-clause-turn
returns-in-NotReady-clause-turn g c d is =
    let v = c.args.visitor.now in
    missed_turn g.J.Placing.tasks g.J.Placing.world g.J.Naming.run.roster d.actor (work_of_duty d) (Some d.cites) v c.requires.complete c.attempt_first.new.bearer
    c.attempt_first.ensures.same c.attempt_first.ensures.here turn.NotReady
    (c.in-NotReady.ensures.attempted d (ap (λ (l : List Duty). slice_get l 0) c.lacks_room.ensures.list ∙ is) v.duties.list c.requires.complete.guest) c.lacks_room.new.duties
    c.lacks_room.ensures.list c.lacks_room.new.touched

pub returns-in-Memory-clause-turn : goal.returns-in-Memory-clause-turn
returns-in-Memory-clause-turn g c d is =
    let v = c.args.visitor.now in
    missed_turn g.J.Placing.tasks g.J.Placing.world g.J.Naming.run.roster d.actor (work_of_duty d) (Some d.cites) v c.requires.complete c.attempt_first.new.bearer
    c.attempt_first.ensures.same c.attempt_first.ensures.here turn.Memory
    (c.in-Memory.ensures.attempted d (ap (λ (l : List Duty). slice_get l 0) c.lacks_room.ensures.list ∙ is) v.duties.list c.requires.complete.guest) c.lacks_room.new.duties
    c.lacks_room.ensures.list c.lacks_room.new.touched

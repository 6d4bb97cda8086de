use Rattle.std.proofs.Common.{◌≡◌, ℕ, Option, ap, sym, subst, ◌∙◌}
use Rattle.std.specs.Prelude.{unwrap_or}
use Rattle.net_base.specs.Callers.{caller_of}
use Rattle.net_locks.specs.Guests.{IsOfGuests}
use Rattle.net_locks.specs.declared.clock.Advance.{Advance}
use Rattle.net_locks.specs.declared.clock.Advance.TheVariants as advance
use Rattle.net_locks.specs.Moving.{Halts, MayGo}
use Rattle.net_locks.specs.Standings.{AllStand}
use Rattle.net_guests.specs.Deciding.{LeavesGuest}
use Rattle.net_guests.specs.Visits.{Carried, IsComplete, visit_of}
use Rattle.net_guests.proofs.Decided.{gone, halted, held, held_may}
use Rattle.net_guests.proofs.bundle.Bundle.decide.Goals as goal

pub halt-halt-requires-clause-moment : goal.halt-halt-requires-clause-moment
halt-halt-requires-clause-moment g c =
    let is = subst (λ (b : Carried). IsComplete g.J.Placing.world g.J.Naming.run.roster b) (sym c.self.view_is) c.requires.complete in
    is.visit.here

pub halt-halt-requires-clause-clock : goal.halt-halt-requires-clause-clock
halt-halt-requires-clause-clock g c = ap (λ (b : Carried). caller_of g.J.Placing.world b.visit.caller) c.self.view_is ∙ c.requires.clock

pub halt-halt-requires-clause-all : goal.halt-halt-requires-clause-all
halt-halt-requires-clause-all g c =
    subst (λ (b : Carried). AllStand g.J.Placing.tasks g.J.Placing.world g.J.Naming.run.roster b.visit.sight c.args.standings.now) (sym c.self.view_is) c.requires.all

pub returns-in-Some-clause-guests : goal.returns-in-Some-clause-guests
returns-in-Some-clause-guests g c =
    subst (λ (b : Carried). IsOfGuests g.J.Placing.world g.J.Naming.run.roster b.visit.sight.seen) c.self.view_is c.halt-halt.ensures.guests

pub returns-in-Some-clause-leaves : goal.returns-in-Some-clause-leaves
returns-in-Some-clause-leaves g c =
    let w = g.J.Placing.world in
    let r = g.J.Naming.run.roster in
    let v = c.self.inside.visitor in
    let clock = ap (λ (b : Carried). caller_of w b.visit.caller) c.self.view_is ∙ c.requires.clock in
    let h = c.halt-halt.new.bearer in
    subst (λ (b : Carried). LeavesGuest g.J.Placing.tasks w r b.visit c.in-Some.answer (visit_of (record v { bearer = h }) c.self.inside.fids.names)) c.self.view_is
    (halted g.J.Placing.tasks w r v.bearer h v.duties.list c.self.inside.fids.names clock c.halt-halt.ensures.same c.in-Some.answer c.in-Some.ensures.halts)

pub returns-in-Some-clause-complete : goal.returns-in-Some-clause-complete
returns-in-Some-clause-complete g c =
    let w = g.J.Placing.world in
    let r = g.J.Naming.run.roster in
    let v = c.self.inside.visitor in
    let clock = ap (λ (b : Carried). caller_of w b.visit.caller) c.self.view_is ∙ c.requires.clock in
    let is = subst (λ (b : Carried). IsComplete w r b) (sym c.self.view_is) c.requires.complete in
    held g.J.Placing.tasks w r v.bearer c.halt-halt.new.bearer v.duties.list c.self.inside.fids.names clock c.halt-halt.ensures.same c.self.inside.host v.touched v.calendar is

pub try_move-moved-requires-clause-complete : goal.try_move-moved-requires-clause-complete
try_move-moved-requires-clause-complete g c =
    let w = g.J.Placing.world in
    let r = g.J.Naming.run.roster in
    let v = c.self.inside.visitor in
    let clock = ap (λ (b : Carried). caller_of w b.visit.caller) c.self.view_is ∙ c.requires.clock in
    let is = subst (λ (b : Carried). IsComplete w r b) (sym c.self.view_is) c.requires.complete in
    (held g.J.Placing.tasks w r v.bearer c.halt-halt.new.bearer v.duties.list c.self.inside.fids.names clock c.halt-halt.ensures.same c.self.inside.host v.touched v.calendar is).visit

pub try_move-moved-requires-clause-may : goal.try_move-moved-requires-clause-may
try_move-moved-requires-clause-may g c =
    let w = g.J.Placing.world in
    let v = c.self.inside.visitor in
    let clock = ap (λ (b : Carried). caller_of w b.visit.caller) c.self.view_is ∙ c.requires.clock in
    let may = subst (λ (o : Option Advance). Halts g.J.Placing.tasks w v.bearer.caller v.bearer.pass o) c.in_default.is c.halt-halt.ensures.halts in
    held_may g.J.Placing.tasks w g.J.Naming.run.roster v.bearer c.halt-halt.new.bearer v.duties.list c.self.inside.fids.names clock c.halt-halt.ensures.same may

pub returns-clause-leaves : goal.returns-clause-leaves
returns-clause-leaves g c =
    let w = g.J.Placing.world in
    let r = g.J.Naming.run.roster in
    let v = c.self.inside.visitor in
    let v' = c.try_move-moved.new.visitor in
    let h = c.halt-halt.new.bearer in
    let names = c.self.inside.fids.names in
    let m = c.in-Some-moved.moment in
    let clock = ap (λ (b : Carried). caller_of w b.visit.caller) c.self.view_is ∙ c.requires.clock in
    let may = subst (λ (o : Option Advance). Halts g.J.Placing.tasks w v.bearer.caller v.bearer.pass o) c.in_default.is c.halt-halt.ensures.halts in
    let went = subst (λ (o : Option ℕ). MayGo g.J.Placing.tasks w r h v.duties.list o v'.bearer v'.duties.list) c.in-Some-moved.is c.try_move-moved.ensures.go in
    let now : v'.bearer.now ≡ m = c.try_move-moved.ensures.now ∙ ap (λ (o : Option ℕ). unwrap_or o h.now) c.in-Some-moved.is in
    subst (λ (b : Carried). LeavesGuest g.J.Placing.tasks w r b.visit (advance.Moved m) (visit_of v' names)) c.self.view_is
    (gone g.J.Placing.tasks w r v.bearer h v.duties.list names clock c.halt-halt.ensures.same v'.bearer v'.duties.list c.try_move-moved.ensures.caller m now may went)

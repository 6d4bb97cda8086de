use Rattle.std.proofs.Common.{refl, ap, sym, subst}
use Rattle.net_guests.specs.Lent.{IsAway}
use Rattle.net_guests.specs.Visits.{Carried, IsComplete, IsWith}
use Rattle.net_guests.proofs.Returning.{clock_with, had_still, lent_one}
use Rattle.net_guests.proofs.Operating.{visit}
use Rattle.net_guests.proofs.bundle.Bundle.lend.Goals as goal

pub hand_over-requires : goal.hand_over-requires
hand_over-requires g c =
    let w = g.J.Placing.world in
    let r = g.J.Naming.run.roster in
    let is = subst (λ (b : Carried). IsComplete w r b) (sym c.self.view_is) c.requires.complete in
    (is.visit.guest.list, is.visit.guest.held)

pub returns-clause-away : goal.returns-clause-away
returns-clause-away g c =
    let w = g.J.Placing.world in
    let r = g.J.Naming.run.roster in
    let me = c.self.inside in
    let is = subst (λ (b : Carried). IsComplete w r b) (sym c.self.view_is) c.requires.complete in
    let mine = visit me.visitor.bearer.caller me.visitor.bearer.now me.visitor.bearer.pass me.visitor.duties.list me.fids.names in
    let away : IsAway w mine (record {
      visit = visit me.visitor.bearer.caller me.visitor.bearer.now c.hand_over.new.from me.visitor.duties.list me.fids.names;
      host = me.host;
      touched = me.visitor.touched;
      calendar = me.visitor.calendar;
    }) = record { visit_is = refl; home = is.home; covers = is.visit.covers; known = is.visit.known } in
    subst (λ (b : Carried). IsAway w b.visit (record {
      visit = visit me.visitor.bearer.caller me.visitor.bearer.now c.hand_over.new.from me.visitor.duties.list me.fids.names;
      host = me.host;
      touched = me.visitor.touched;
      calendar = me.visitor.calendar;
    })) c.self.view_is away

pub returns-clause-lent : goal.returns-clause-lent
returns-clause-lent g c =
    let w = g.J.Placing.world in
    let r = g.J.Naming.run.roster in
    let law = c.guests_hand_over.ensures in
    let me = c.self.inside in
    let clock = c.clock.inside in
    let is = subst (λ (b : Carried). IsComplete w r b) (sym c.self.view_is) c.requires.complete in
    let mine = visit me.visitor.bearer.caller me.visitor.bearer.now me.visitor.bearer.pass me.visitor.duties.list me.fids.names in
    subst (λ (b : Carried). IsWith w r b.visit c.hand_over.new.to) c.self.view_is
    (lent_one w r (law.over w r) (law.there w r) mine is.visit.guest clock.visitor.bearer.pass c.hand_over.new.from c.hand_over.new.to c.hand_over.ensures)

pub returns-clause-others : goal.returns-clause-others
returns-clause-others g c v with =
    let w = g.J.Placing.world in
    let r = g.J.Naming.run.roster in
    let law = c.guests_hand_over.ensures in
    let me = c.self.inside in
    let clock = c.clock.inside in
    let is = subst (λ (b : Carried). IsComplete w r b) (sym c.self.view_is) c.requires.complete in
    let mine = visit me.visitor.bearer.caller me.visitor.bearer.now me.visitor.bearer.pass me.visitor.duties.list me.fids.names in
    had_still w r (law.over w r) (law.there w r) mine is.visit.guest clock.visitor.bearer.pass c.hand_over.new.from c.hand_over.new.to c.hand_over.ensures v
    (subst (λ (b : Carried). IsWith w r v b.visit.sight) (sym c.clock.view_is) with)

pub returns-clause-complete : goal.returns-clause-complete
returns-clause-complete g c =
    let w = g.J.Placing.world in
    let r = g.J.Naming.run.roster in
    let law = c.guests_hand_over.ensures in
    let me = c.self.inside in
    let clock = c.clock.inside in
    let is = subst (λ (b : Carried). IsComplete w r b) (sym c.self.view_is) c.requires.complete in
    let mine = visit me.visitor.bearer.caller me.visitor.bearer.now me.visitor.bearer.pass me.visitor.duties.list me.fids.names in
    let had = subst (λ (b : Carried). IsComplete w r b) (sym c.clock.view_is) c.requires.clock in
    clock_with w r (law.over w r) (law.there w r) mine is.visit.guest clock.visitor.bearer.pass c.hand_over.new.from c.hand_over.new.to c.hand_over.ensures
    (c.calendars_stay_known.ensures w) clock.visitor.bearer.caller clock.visitor.bearer.now clock.visitor.duties.list clock.host clock.visitor.touched clock.visitor.calendar had

pub returns-clause-same : goal.returns-clause-same
returns-clause-same g c =
    ap (λ (b : Carried). visit b.visit.caller b.visit.now c.hand_over.new.to b.visit.owed b.visit.names) c.clock.view_is

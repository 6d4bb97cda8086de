use Rattle.std.proofs.Common.{◌≡◌, ◌==◌, false, List, ℕ, ap, sym, subst, ◌∙◌}
use Rattle.net_base.specs.declared.noted.Noted.{Noted}
use Rattle.journal.specs.Tokens.{HoldsPass}
use Rattle.net_guests.specs.Lent.{IsAway}
use Rattle.net_guests.specs.Visits.{Carried, IsComplete, IsWith, Visit}
use Rattle.net_guests.proofs.Returning.{clock_after, me_visits, others_stay, returned}
use Rattle.net_guests.proofs.Operating.{visit}
use Rattle.net_guests.proofs.bundle.Bundle.take_back.Goals as goal

pub hand_over-requires : goal.hand_over-requires
hand_over-requires g c =
    let w = g.J.Placing.world in
    let r = g.J.Naming.run.roster in
    let clock = c.clock.inside in
    let v = c.requires.away.0 in
    let away = c.requires.away.1 in
    let with = subst (λ (b : Carried). IsWith w r v b.visit.sight) (sym c.clock.view_is) c.requires.away.2 in
    let caller = ap (λ (x : Visit). x.caller) (sym away.visit_is) ∙ ap (λ (b : Carried). b.visit.caller) (sym c.self.view_is) in
    subst (λ (n : ℕ). (es : List (ℕ × Noted)) × HoldsPass clock.visitor.bearer.pass n es) caller (with.guest.list, with.guest.held)

pub returns-clause-complete : goal.returns-clause-complete
returns-clause-complete g c =
    let w = g.J.Placing.world in
    let r = g.J.Naming.run.roster in
    let law = c.guests_hand_over.ensures in
    let me = c.self.inside in
    let clock = c.clock.inside in
    let had = subst (λ (b : Carried). IsComplete w r b) (sym c.clock.view_is) c.requires.clock in
    let v = c.requires.away.0 in
    let away = c.requires.away.1 in
    let with = subst (λ (b : Carried). IsWith w r v b.visit.sight) (sym c.clock.view_is) c.requires.away.2 in
    let caller = ap (λ (x : Visit). x.caller) (sym away.visit_is) ∙ ap (λ (b : Carried). b.visit.caller) (sym c.self.view_is) in
    let owes = ap (λ (x : Visit). x.owed) (sym away.visit_is) ∙ ap (λ (b : Carried). b.visit.owed) (sym c.self.view_is) in
    me_visits w r (law.over w r) (law.here w r) me.visitor.bearer.caller clock.visitor.bearer.pass me.visitor.bearer.pass c.hand_over.new.from c.hand_over.new.to c.hand_over.ensures
    (c.calendars_stay_known.ensures w) v caller me.visitor.duties.list owes with clock.visitor.bearer.now had.visit.here had.visit.early me.host me.visitor.touched c.forget.new.self me.visitor.calendar
    (subst (λ (b : Carried). IsAway w v b) (sym c.self.view_is) away).home (subst (λ (b : Carried). IsAway w v b) (sym c.self.view_is) away).covers
    c.forget.ensures.covers (subst (λ (b : Carried). IsAway w v b) (sym c.self.view_is) away).known

pub returns-clause-back : goal.returns-clause-back
returns-clause-back g c =
    record {
      caller = ap (λ (b : Carried). b.visit.caller) c.self.view_is;
      now_is = ap (λ (b : Carried). b.visit.now) c.clock.view_is;
      owed = ap (λ (b : Carried). b.visit.owed) c.self.view_is;
      names = ap (λ (b : Carried). b.visit.names) c.self.view_is;
    }

pub returns-clause-with_itself : goal.returns-clause-with_itself
returns-clause-with_itself g c v away is =
    let w = g.J.Placing.world in
    let r = g.J.Naming.run.roster in
    let law = c.guests_hand_over.ensures in
    let me = c.self.inside in
    let clock = c.clock.inside in
    let caller = ap (λ (x : Visit). x.caller) (sym away.visit_is) ∙ ap (λ (b : Carried). b.visit.caller) (sym c.self.view_is) in
    returned w r (law.over w r) (law.here w r) me.visitor.bearer.caller clock.visitor.bearer.pass me.visitor.bearer.pass c.hand_over.new.from c.hand_over.new.to c.hand_over.ensures v caller
    (subst (λ (b : Carried). IsWith w r v b.visit.sight) (sym c.clock.view_is) is)

pub returns-clause-others : goal.returns-clause-others
returns-clause-others g c u other is =
    let w = g.J.Placing.world in
    let r = g.J.Naming.run.roster in
    let law = c.guests_hand_over.ensures in
    let me = c.self.inside in
    let clock = c.clock.inside in
    others_stay w r (law.over w r) (law.here w r) me.visitor.bearer.caller clock.visitor.bearer.pass me.visitor.bearer.pass c.hand_over.new.from c.hand_over.new.to c.hand_over.ensures u
    (subst (λ (b : Carried). (u.caller == b.visit.caller) ≡ false) (sym c.self.view_is) other)
    (subst (λ (b : Carried). IsWith w r u b.visit.sight) (sym c.clock.view_is) is)

pub returns-clause-clock : goal.returns-clause-clock
returns-clause-clock g c =
    let w = g.J.Placing.world in
    let r = g.J.Naming.run.roster in
    let law = c.guests_hand_over.ensures in
    let me = c.self.inside in
    let clock = c.clock.inside in
    let had = subst (λ (b : Carried). IsComplete w r b) (sym c.clock.view_is) c.requires.clock in
    let other =
    subst (λ (b : Carried). (b.visit.caller == me.visitor.bearer.caller) ≡ false) (sym c.clock.view_is)
    (subst (λ (b : Carried). (c.args.clock.now.visit.caller == b.visit.caller) ≡ false) (sym c.self.view_is) c.requires.other) in
    clock_after w r (law.over w r) (law.here w r) me.visitor.bearer.caller clock.visitor.bearer.pass me.visitor.bearer.pass c.hand_over.new.from c.hand_over.new.to c.hand_over.ensures
    (c.calendars_stay_known.ensures w) clock.visitor.bearer.caller clock.visitor.bearer.now clock.visitor.duties.list clock.host clock.visitor.touched clock.visitor.calendar other had

pub returns-clause-same : goal.returns-clause-same
returns-clause-same g c =
    ap (λ (b : Carried). visit b.visit.caller b.visit.now c.hand_over.new.from b.visit.owed b.visit.names) c.clock.view_is

pub returns-clause-seen : goal.returns-clause-seen
returns-clause-seen g c =
    c.hand_over.ensures.left_seen ∙ ap (λ (b : Carried). b.visit.sight.seen) c.clock.view_is

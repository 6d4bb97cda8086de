use Rattle.std.proofs.Common.{◌≡◌, ℕ, not, ◌==◌, false, length, ap, sym, subst, ◌∙◌}
use Rattle.net_base.specs.Callers.{caller_of}
use Rattle.net_base.specs.Steps.{Names}
use Rattle.script_task.specs.Holdings.{Holdings}
use Rattle.script_task.specs.declared.effect.Effect.{Effect}
use Rattle.script_task.specs.Effects.{effect_of}
use Rattle.script_task.specs.Planning.{ask_of}
use Rattle.net_base.specs.Requests.{planned}
use Rattle.net_guests.specs.Visits.{Carried, IsComplete, Operated, names_after, settled_by, visit_of}
use Rattle.net_guests.proofs.Asking.{planned_away}
use Rattle.net_guests.proofs.Operating.{operated, settles_names, visit, hosted_on}
use Rattle.net_guests.proofs.Firsts.{free_none}
use Rattle.net_guests.proofs.bundle.Bundle.operate_once.Goals as goal

pub own-turn-requires-clause-complete : goal.own-turn-requires-clause-complete
own-turn-requires-clause-complete g c =
    let is = subst (λ (b : Carried). IsComplete g.J.Placing.world g.J.Naming.run.roster b) (sym c.self.view_is) c.requires.complete in
    is.visit

pub own-turn-requires-clause-other : goal.own-turn-requires-clause-other
own-turn-requires-clause-other g c =
    planned_away c.self.inside.host c.self.inside.fids.names c.args.request (ask_of c.plan-actor.result) c.plan-actor.ensures.event

pub returns-clause-turn : goal.returns-clause-turn
returns-clause-turn g c s is =
    let w = g.J.Placing.world in
    let r = g.J.Naming.run.roster in
    let me = c.self.inside in
    let v = me.visitor in
    let v' = c.own-turn.new.visitor in
    let whole = subst (λ (b : Carried). IsComplete w r b) (sym c.self.view_is) c.requires.complete in
    let q = c.args.request in
    let names = me.fids.names in
    let names' = c.settle_turn.new.fids.names in
    let home : s.host ≡ me.host = whole.home s (ap (λ (b : Carried). caller_of w b.visit.caller) c.self.view_is ∙ is) in
    let none : not (length v.duties.list == 0) ≡ false =
    cc (ap (λ (b : Carried). not (length b.visit.owed == 0)) c.self.view_is, c.owes.ensures, c.if-owes.false) in
    let effect = c.plan-actor.ensures.effect ∙ ap (λ (l : Names). effect_of l q) (sym c.reserve.ensures.names) in
    let called =
    ap (λ (b : Holdings). b.names) c.settle_turn.ensures
    ∙ (ap (λ (e : Effect). (settled_by e c.own-turn.result c.reserve.new.fids).names) effect
    ∙ (settles_names c.effects_settle.ensures c.reserve.new.fids q c.own-turn.result
    ∙ ap (λ (l : Names). names_after l q c.own-turn.result) c.reserve.ensures.names)) in
    let did = operated g.J.Placing.tasks w s.host q v.bearer.caller v.bearer.now v.bearer.pass v'.bearer.pass v.duties.list v'.duties.list
    names names' (ask_of c.plan-actor.result) c.own-turn.result (free_none v.duties.list none)
    (ap (λ (h : ℕ). planned h names q) home ∙ c.plan-actor.ensures.event) c.own-turn.ensures.turn called in
    let old = visit_of v names in
    subst (λ (b : Carried). Operated g.J.Placing.tasks w s.host q b.visit c.own-turn.result (visit_of v' names')) c.self.view_is
    (subst (λ (n : ℕ). Operated g.J.Placing.tasks w s.host q old c.own-turn.result (visit n v'.bearer.now v'.bearer.pass v'.duties.list names')) (sym c.own-turn.ensures.same.caller)
    (subst (λ (n : ℕ). Operated g.J.Placing.tasks w s.host q old c.own-turn.result (visit v.bearer.caller n v'.bearer.pass v'.duties.list names')) (sym c.own-turn.ensures.same.now) did))

pub returns-clause-complete : goal.returns-clause-complete
returns-clause-complete g c =
    let w = g.J.Placing.world in
    let r = g.J.Naming.run.roster in
    let is = subst (λ (b : Carried). IsComplete w r b) (sym c.self.view_is) c.requires.complete in
    hosted_on w r c.self.inside.visitor c.own-turn.new.visitor c.self.inside.host c.own-turn.ensures.same.caller is.home c.own-turn.ensures.complete

pub returns-clause-same : goal.returns-clause-same
returns-clause-same g c =
    record {
      caller = c.own-turn.ensures.same.caller ∙ ap (λ (b : Carried). b.visit.caller) c.self.view_is;
      now = c.own-turn.ensures.same.now ∙ ap (λ (b : Carried). b.visit.now) c.self.view_is;
    }

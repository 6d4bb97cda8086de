use Rattle.std.proofs.Common.{◌≡◌, ℕ, Bool, Option, Vec, Global, refl, ap, subst, ◌∙◌, arith}
use Rattle.std.proofs.lemmas.Result.{IfOk-weaker}
use Rattle.live_answers.specs.declared.current.Current.{Current}
use Rattle.live_run.specs.Currents.{ChangesAt, IsReplaced}
use Rattle.live_run.specs.Deadlines.{Waits}
use Rattle.live_run.proofs.Hearing.{supplies_replaced}
use Rattle.live_run.proofs.Replacing.{late_begins, late_rests}
use Rattle.live_run.proofs.Rests.{rest_with}
use Rattle.live_run.proofs.Waits.{waits_sooner}
use Rattle.live_run.proofs.withdrawing.replace.Goals as goal

pub returns-clause-rests : goal.returns-clause-rests
returns-clause-rests c =
    let w = c.args.world in
    let old = c.args.rest.now in
    let h = old.run.history.entries in
    let known = c.requires.resting.rests.history in
    let waits = waits_sooner c.moments_rise.ensures.moves w h known.world known.legal known.timed c.args.script c.in-Some.last old.moved c.args.moment c.requires.moved
    (omega (arith, c.if-last-moment.false)) (omega (arith, c.if-last-moment.false)) (c.requires.waits c.args.script c.in-Some.last c.in-Some.ensures.deadline) in
    let step = c.in-Some-until.step in
    IfOk-weaker c.replace_last.result _ _ (λ v other.
    late_rests c.nets_are_alike.ensures w v h c.args.script c.args.moment step c.in-Some-until.ensures.0 waits other c.next_events_stay.ensures.unbegun
    c.waiting_is_timed.ensures c.deadlines_are_timed.ensures c.in-Some-until.ensures.1 old (rest_with old c.forget.new.self c.replace.new.self) refl c.requires
    c.forget.ensures.rests c.forget.ensures.history refl (ap (λ (v : Vec Bool Global). v.items) (c.replace.ensures.grows ∙ c.set_deadline.ensures.grows))
    (ap (λ (v : Vec (Option ℕ) Global). v.items) c.replace.ensures.deadlines ∙ c.set_deadline.ensures.deadlines) refl) c.replace_last.ensures

pub returns-clause-grown : goal.returns-clause-grown
returns-clause-grown c =
    let w = c.args.world in
    let old = c.args.rest.now in
    let h = old.run.history.entries in
    let known = c.requires.resting.rests.history in
    let waits = waits_sooner c.moments_rise.ensures.moves w h known.world known.legal known.timed c.args.script c.in-Some.last old.moved c.args.moment c.requires.moved
    (omega (arith, c.if-last-moment.false)) (omega (arith, c.if-last-moment.false)) (c.requires.waits c.args.script c.in-Some.last c.in-Some.ensures.deadline) in
    IfOk-weaker c.replace_last.result _ _ (λ v other.
    late_begins c.nets_are_alike.ensures w v h c.args.script c.args.moment c.in-Some-until.step c.in-Some-until.ensures.0 waits other c.args.places.now
    c.in-Some.ensures.among) c.replace_last.ensures

pub returns-clause-heard : goal.returns-clause-heard
returns-clause-heard c =
    let w = c.args.world in
    let old = c.args.rest.now in
    let waits = c.requires.waits c.args.script c.in-Some.last c.in-Some.ensures.deadline in
    IfOk-weaker c.replace_last.result _ _ (λ v other s.
    supplies_replaced c.nets_are_alike.ensures c.args.places.now w v old (rest_with old c.forget.new.self c.replace.new.self) s c.args.script c.in-Some.last c.in-Some-until.step waits other
    c.forget.ensures.history c.in-Some.ensures.unheard (subst (λ (vs : Vec (Option Current) Global). ChangesAt vs.items c.replace.new.self.currents.items c.args.script IsReplaced)
    c.set_deadline.ensures.currents c.replace.ensures.currents)) c.replace_last.ensures

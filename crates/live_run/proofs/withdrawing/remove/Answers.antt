use Rattle.std.proofs.Common.{◌≡◌, ℕ, Bool, Option, None, Vec, Global, refl, ap, ◌∙◌, arith}
use Rattle.std.specs.Prelude.{slice_set}
use Rattle.live_answers.specs.declared.current.Current.{Current}
use Rattle.live_run.proofs.Hearing.{supplies_removed}
use Rattle.live_run.proofs.Replacing.{gone_begins, gone_rests}
use Rattle.live_run.proofs.Rests.{rest_with}
use Rattle.live_run.proofs.withdrawing.remove.Goals as goal

pub returns-clause-rests : goal.returns-clause-rests
returns-clause-rests g c =
    let w = c.args.world in
    let old = c.args.rest.now in
    let h = old.run.history.entries in
    let waits = c.requires.waits c.args.script c.in-Some._limit c.in-Some.ensures.deadline in
    gone_rests c.nets_are_alike.ensures w c.drop_last.result h c.args.script c.in-Some._limit waits c.drop_last.ensures c.moments_rise.ensures.moves
    old (rest_with old c.forget.new.self c.remove.new.self) refl c.requires
    c.forget.ensures.rests c.forget.ensures.history refl (ap (λ (v : Vec Bool Global). v.items) (c.remove.ensures.grows ∙ c.set_deadline.ensures.grows))
    (ap (λ (v : Vec (Option ℕ) Global). v.items) c.remove.ensures.deadlines ∙ c.set_deadline.ensures.deadlines) (omega (arith, c.if-rest-ne0.false)) refl

pub returns-clause-grown : goal.returns-clause-grown
returns-clause-grown g c =
    let w = c.args.world in
    let h = c.args.rest.now.run.history.entries in
    let waits = c.requires.waits c.args.script c.in-Some._limit c.in-Some.ensures.deadline in
    gone_begins c.nets_are_alike.ensures w c.drop_last.result h c.args.script c.in-Some._limit waits c.drop_last.ensures c.args.places.now
    c.in-Some.ensures.among

pub returns-clause-heard : goal.returns-clause-heard
returns-clause-heard g c =
    let w = c.args.world in
    let old = c.args.rest.now in
    let waits = c.requires.waits c.args.script c.in-Some._limit c.in-Some.ensures.deadline in
    supplies_removed c.nets_are_alike.ensures c.args.places.now w c.drop_last.result old (rest_with old c.forget.new.self c.remove.new.self) _ _ c.args.script c.in-Some._limit
    c.place_number.result waits c.requires.resting.rests.history.world c.place_number.ensures c.drop_last.ensures c.forget.ensures.history c.in-Some.ensures.unheard
    (c.remove.ensures.currents ∙ ap (λ (vs : Vec (Option Current) Global). slice_set vs.items c.args.script None) c.set_deadline.ensures.currents) c.in_ok-say_removed.ensures

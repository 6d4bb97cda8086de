use Rattle.std.proofs.Common.{◌≡◌, ◌∙◌, Bool, List, Some, true, slice_get, sym, subst}
use Rattle.std.proofs.lemmas.Result.{IfOk-weaker}
use Rattle.net_base.specs.declared.history.Entry.{Entry}
use Rattle.live_answers.specs.Speech.{speech}
use Rattle.live_run.specs.Heard.{AreTold}
use Rattle.live_run.specs.LiveWorlds.{ArePlaces, Same}
use Rattle.live_run.specs.declared.places.Places.{Places}
use Rattle.live_run.proofs.Hearing.{goes_on, has_ended, hears_first}
use Rattle.live_run.proofs.live.run_live.Goals as goal

pub loop-init : goal.loop-init
loop-init g c = (
  c.in_ok-rest.ensures.rests,
  Same,
  subst (λ (p : Places). ArePlaces c.args.first p.grows.items) (sym c.in_ok-rest.ensures.places) c.in_ok-places.ensures.places,
  c.in_ok-given.ensures,
  hears_first c.args.first c.in_ok-rest.rest c.in_ok-places.places (speech g.K.Sink.held c.args.voice.now) (speech g.K.Sink.held c.say_places.new.self) _ c.in_ok-places.ensures.currents
      c.in_ok-rest.ensures.places c.in_ok-rest.ensures.empty c.in_ok-say_places.ensures,
)

pub returns-then-is_end-clause-live : goal.returns-then-is_end-clause-live
returns-then-is_end-clause-live g c =
    let known = c.loop.invariant in
    let places : ArePlaces c.args.first c.in_ok-paused.paused.places.grows.items = λ k is. known.2 k (c.in_ok-paused.ensures.narrows k is) in
    IfOk-weaker c.finish.result _ _ (λ l made. made c.args.first known.1 places) c.finish.ensures.live

pub returns-then-is_end-clause-told : goal.returns-then-is_end-clause-told
returns-then-is_end-clause-told g c =
    let paused = c.in_ok-paused.paused in
    let pause = c.in_ok-paused.pause in
    let said = speech g.K.Sink.held c.play.new.voice in
    IfOk-weaker c.finish.result _ _ (λ l same before empty written.
    subst (λ (h : List Entry). AreTold c.args.first before h said) (sym same)
    (has_ended c.args.first before c.loop.world paused.run.history.entries paused.places.currents.items said pause (sym c.is_end.ensures ∙ c.if-is_end.true)
    (c.in_ok-paused.ensures.heard c.args.first before (c.loop.invariant.4 before empty written)))) c.finish.ensures.history

pub loop-preserved : goal.loop-preserved
loop-preserved g c =
    let known = c.loop.invariant in
    let paused = c.in_ok-paused.paused in
    let pause = c.in_ok-paused.pause in
    let said = speech g.K.Sink.held c.play.new.voice in
    let places : ArePlaces c.args.first paused.places.grows.items = λ k is. known.2 k (c.in_ok-paused.ensures.narrows k is) in
    let given : ArePlaces c.args.first c.as_slice.result.now = subst (λ (bs : List Bool). ArePlaces c.args.first bs) (sym c.as_slice.ensures.value) known.3 in (
      c.in_ok-world.ensures.rests,
      c.in_ok-world.ensures.grown c.args.first known.1 places given,
      λ k is. places k (c.in_ok-world.ensures.narrows k is),
      known.3,
      λ before empty written. c.in_ok-world.ensures.heard c.args.first before places given
          (goes_on c.args.first before c.loop.world paused.run.history.entries paused.places.currents.items said pause (sym c.is_end.ensures ∙ c.if-is_end.false)
          (c.in_ok-paused.ensures.heard c.args.first before (known.4 before empty written))),
    )

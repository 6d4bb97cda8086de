use Rattle.live_answers.specs.Speech.{speech}
use Rattle.live_run.proofs.Hearing.{hears_on, narrows_kept, none_paused}
use Rattle.live_run.proofs.PlaceLists.{narrows_on}
use Rattle.live_run.proofs.playing.play_drawn.Goals as goal

pub loop-preserved-in-Some-first_ready : goal.loop-preserved-in-Some-first_ready
loop-preserved-in-Some-first_ready g c = (
  c.in_ok-take_ready_turn.ensures.running,
  narrows_kept c.args.round.now c.loop.round c.take_ready_turn.new.round c.take_ready_turn.ensures.grows c.loop.invariant.1,
  hears_on c.args.world.now c.args.round.now c.loop.round c.take_ready_turn.new.round (speech g.K.Sink.held c.args.voice.now) (speech g.K.Sink.held c.loop.voice)
      (speech g.K.Sink.held c.take_ready_turn.new.voice) c.loop.invariant.2 c.in_ok-take_ready_turn.ensures.heard,
)

pub loop-preserved : goal.loop-preserved
loop-preserved g c = (
  c.in_ok-pause.ensures.running,
  narrows_on c.args.round.now.places.grows.items c.loop.round.places.grows.items c.end_round.new.round.places.grows.items c.loop.invariant.1 c.end_round.ensures.narrows,
  hears_on c.args.world.now c.args.round.now c.loop.round c.end_round.new.round (speech g.K.Sink.held c.args.voice.now) (speech g.K.Sink.held c.loop.voice)
      (speech g.K.Sink.held c.end_round.new.voice) c.loop.invariant.2 (none_paused c.args.world.now c.loop.round c.end_round.new.round _ _ c.in_ok-pause.field-0 c.in_default-2.is c.in_ok-pause.ensures.heard),
)

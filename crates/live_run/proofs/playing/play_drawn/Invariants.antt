use Rattle.live_answers.specs.Speech.{speech}
use Rattle.live_run.specs.Hearing.{Hears}
use Rattle.live_run.specs.LiveRuns.{IsRunning}
use Rattle.live_run.specs.LiveWorlds.{Narrows}
use Rattle.live_run.proofs.playing.play_drawn.Given as goal

abbrev pub invariant-loop : goal.invariant-loop
invariant-loop g l =
    IsRunning l.world l.round × Narrows l.initial.round.places.grows.items l.round.places.grows.items
    × Hears l.world l.initial.round l.round (speech g.K.Sink.held l.initial.voice) (speech g.K.Sink.held l.voice)

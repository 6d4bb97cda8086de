use Rattle.std.proofs.Common.{ℕ, List, Option}
use Rattle.net_base.specs.declared.world.World.{World}
use Rattle.net_base.specs.World.{IsWorld}
use Rattle.live_answers.specs.Speech.{speech}
use Rattle.live_run.specs.Heard.{AreHeard, AreToldTo}
use Rattle.live_run.proofs.playing.report_unanswered.Given as goal

abbrev pub invariant-loop-number : goal.invariant-loop-number
invariant-loop-number g l =
    (first : World) (before : Option (List ℕ)) (w : World) → IsWorld w
    → AreHeard first before w l.round.history l.round.places.currents.items (speech g.K.Sink.held l.initial.voice)
    → AreToldTo l.number first before w l.round.history l.round.places.currents.items (speech g.K.Sink.held l.voice)

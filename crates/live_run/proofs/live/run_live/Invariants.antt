use Rattle.std.proofs.Common.{◌≡◌, ℕ, List, [], Option}
use Rattle.live_answers.specs.Speech.{IsWritten, speech}
use Rattle.live_run.specs.Hearing.{AreHeardAt}
use Rattle.live_run.specs.LiveRuns.{IsRest}
use Rattle.live_run.specs.LiveWorlds.{ArePlaces, GrownFrom}
use Rattle.live_run.proofs.live.run_live.Given as goal

abbrev pub invariant-loop : goal.invariant-loop
invariant-loop g l =
    IsRest l.world l.rest × GrownFrom l.fn.first l.world × ArePlaces l.fn.first l.rest.places.grows.items × ArePlaces l.fn.first l.given.items
    × ((before : Option (List ℕ)) → (speech g.K.Sink.held l.fn.voice).lines ≡ [] → IsWritten before (speech g.K.Sink.held l.fn.voice)
    → AreHeardAt l.fn.first before l.world l.rest (speech g.K.Sink.held l.voice))

-- How a call ends once its world is read: what OUT gets, what standard output gets, and the status.
use Rattle.std.specs.Prelude.{◌≡◌, ℕ, ◌++◌, Bool, true, false, List, [], ◌∷◌, Option}
use Rattle.net_base.specs.declared.end.RunEnd.{RunEnd}
use Rattle.net_base.specs.declared.end.RunEnd.TheVariants as ends
use Rattle.net_base.specs.declared.world.World.{World}
use Rattle.live_answers.specs.Lines.{Last, Line}
use Rattle.live_answers.specs.Speech.{Speech}
use Rattle.live_run.specs.Heard.{AreTold}
use Rattle.live_run.specs.LiveRuns.{IsLive, file_text}
use Rattle.live_run.specs.declared.live.Live.{Live}
use Rattle.net_model.specs.Calls.{Output}
use Rattle.std.specs.Io.KnownBytes.{Appends}
use Rattle.outside.specs.Streams.{Rose}

-- the status of a run by its end: done, stopped, or at the limit
abbrev pub end_status : RunEnd → ℕ
end_status ends.Done = 0
end_status ends.Stopped = 3
end_status ends.Limit = 4

-- 7 if a line could not be written, 6 if reading lines failed, and otherwise that of the run
abbrev pub final_status : RunEnd → Bool → Bool → ℕ
final_status e unread true = 7
final_status e true false = 6
final_status e false false = end_status e

-- nothing was said before
pub record IsFresh (s : Speech) : Type 0 where
  pub none : s.lines ≡ []
  pub well : s.failed ≡ false

-- `out` is what OUT has before and after, `before` what standard output had before, and s what was said. Unless memory runs out or OUT cannot
-- be written, OUT gets the file of a live run of the world, standard output gets the lines about it, and the last line has its end
pub data Ends (first : World) (out : Output) (before : Option (List ℕ)) (s : Speech) : ℕ → Type 0 where
  Written : (l : Live) (unread : Bool) (ls : List Line) → IsLive first l → Appends out.held out.holds (file_text l.world l.history)
      → AreTold first before l.history s → s.lines ≡ ls ++ Last l.end.end l.end.moment ∷ [] → Ends first out before s (final_status l.end.end unread s.failed)
  Unwritten : (l : Live) → IsLive first l → AreTold first before l.history s → Rose out.before out.after → Ends first out before s 7
  NoMemory : Ends first out before s 8

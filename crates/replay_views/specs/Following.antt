-- What an entry adds to a capture where a run follows a history.
use Rattle.std.specs.Prelude.{◌≡◌, ℕ, ◌==◌, Bool, true, false, List, ◌++◌, filter, flat_map, map, Option, Some, None}
use Rattle.std.specs.List.{AllByRecursion}
use Rattle.net_base.specs.declared.history.Entry.{Entry}
use Rattle.net_base.specs.declared.world.World.{World}
use Rattle.net_base.specs.Net.{after}
use Rattle.plain_runner.specs.Followed.{FollowsRun}
use Rattle.plain_runner.specs.declared.runner.Runner.{Runner}
use Rattle.replay_views.specs.Capture.{Frame, IsReadBack, is_shown, frames_laid, seen}
use Rattle.replay_views.specs.Savefile.{packet_record}

-- there is such a medium, and it is shown
abbrev pub is_medium_shown : Option ℕ → Option ℕ → Bool
is_medium_shown shown None = false
is_medium_shown None (Some m) = true
is_medium_shown (Some wanted) (Some m) = m == wanted

-- the frame that an entry laid after what a run recorded, if it is shown
abbrev pub shown_at : World → Runner → Entry → Option ℕ → List Frame
shown_at w r x medium = filter (is_shown medium) (frames_laid (after w r.history.entries) x)

-- the entry may come next in a run of some world
abbrev pub CanFollow : Runner → Entry → Type 0
CanFollow r x = (w : World) × FollowsRun w r x

-- its record was added
pub record AddsFramesIn (w : World) (r : Runner) (x : Entry) (medium : Option ℕ) (old new : List ℕ) : Type 0 where
  pub bytes : new ≡ old ++ flat_map packet_record (map seen (shown_at w r x medium))
  pub read : AllByRecursion IsReadBack (shown_at w r x medium)

abbrev pub AddsFrame : Runner → Entry → Option ℕ → List ℕ → List ℕ → Type 0
AddsFrame r x medium old new = (w : World) → FollowsRun w r x → AddsFramesIn w r x medium old new

-- What an entry adds to a file where a run follows a history.
use Rattle.std.specs.Prelude.{◌≡◌, ℕ, List, ◌++◌, flat_map}
use Rattle.net_base.specs.declared.history.Entry.{Entry}
use Rattle.net_base.specs.declared.world.World.{World}
use Rattle.net_base.specs.Net.{after}
use Rattle.plain_runner.specs.Followed.{FollowsRun}
use Rattle.plain_runner.specs.declared.runner.Runner.{Runner}
use Rattle.pcapng.specs.Copies.{Copies}
use Rattle.pcapng.specs.Frames.{frame_block, stamped_at}

-- the entry may come next in a run of some world
abbrev pub CanFollow : Runner → Entry → Type 0
CanFollow r x = (w : World) × FollowsRun w r x

-- the block of its frame was added, if it accepted one
abbrev pub AddsBlock : Copies → Runner → ℕ → Entry → List ℕ → List ℕ → Type 0
AddsBlock copies r stamp x old new =
    (w : World) → FollowsRun w r x → new ≡ old ++ flat_map (frame_block copies) (stamped_at (after w r.history.entries) stamp x)

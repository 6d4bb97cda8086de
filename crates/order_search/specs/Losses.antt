-- Worlds that lose chosen frames and no other.
--     without    the world that loses these frames
--     AreFrames  a set of frames
--     is_laid    a history has an entry that lays the frame
use Rattle.std.specs.Prelude.{◌≡◌, ℕ, ◌==◌, ◌^◌, ◌&&◌, Bool, true, false, List, [], filter, map, Option, Some, None, nat_le, nat_lt}
use Rattle.std.specs.List.{list_all, list_any}
use Rattle.net_base.specs.declared.actor.ActorName.{ActorName}
use Rattle.net_base.specs.declared.actor.ActorName.TheVariants as name
use Rattle.net_base.specs.declared.history.Entry.{Entry}
use Rattle.net_base.specs.declared.reply.Reply.{Reply}
use Rattle.net_base.specs.declared.reply.Reply.TheVariants as reply
use Rattle.net_base.specs.declared.world.Fate.TheVariants.{Lose}
use Rattle.net_base.specs.declared.world.FateRange.{FateRange}
use Rattle.net_base.specs.declared.world.MediumSpec.{MediumSpec}
use Rattle.net_base.specs.declared.world.World.{World}
use Rattle.net_base.specs.World.{all_apart}
use Rattle.order_search.specs.declared.losses.Frame.{Frame}

-- Frames.

abbrev pub same_frame : Frame → Frame → Bool
same_frame f g = (f.medium == g.medium) && (f.number == g.number)

-- a frame has a number of 64 bits, from 1
abbrev pub is_frame : Frame → Bool
is_frame f = nat_le 1 f.number && nat_lt f.number (2 ^ 64)

-- frames, none of them twice
pub record AreFrames (fs : List Frame) : Type 0 where
  pub numbered : list_all is_frame fs ≡ true
  pub apart : all_apart same_frame fs ≡ true

-- Worlds.

-- the line `fate MEDIUM NUMBER lose`
abbrev pub fate_line : Frame → FateRange
fate_line f = record { first = f.number; last = f.number; fate = Lose }

abbrev pub is_on : ℕ → Frame → Bool
is_on medium f = f.medium == medium

-- one line for each lost frame of a link
abbrev pub fates_without : List Frame → ℕ → List FateRange
fates_without lost medium = map fate_line (filter (is_on medium) lost)

-- a link without rates, which loses these frames and no other
abbrev pub medium_without : List Frame → MediumSpec → MediumSpec
medium_without lost s = record s { loss = 0; twice = 0; later = 0; fates = fates_without lost s.number }

-- a world with neither `rates` nor `fate` lines, but a `fate` line for each lost frame
abbrev pub without : World → List Frame → World
without w lost = record w { media = map (medium_without lost) w.media }

-- Entries.

abbrev pub frame_by : ActorName → Reply → Option Frame
frame_by (name.Medium m) (reply.Laid n) = Some (record { medium = m; number = n })
frame_by _ _ = None

-- the frame that an entry lays, if it lays one
abbrev pub frame_of : Entry → Option Frame
frame_of x = frame_by x.actor x.reply

abbrev pub lays_by : Frame → Option Frame → Bool
lays_by f None = false
lays_by f (Some g) = same_frame f g

abbrev pub lays : Frame → Entry → Bool
lays f x = lays_by f (frame_of x)

abbrev pub is_laid : List Entry → Frame → Bool
is_laid h f = list_any (lays f) h

-- A medium as it is built: the bytes that it carries, with what the world says of it.
use Rattle.std.specs.Prelude.{ℕ, ◌+◌, ◌<◌, ◌⊎◌, List, [], ◌∷◌, ◌++◌, length, map, Option, Some, None, IsSome, option_to_list}
use Rattle.std.specs.List.{AllByRecursion}
use Rattle.net_base.specs.declared.history.Taken.{Taken}
use Rattle.net_base.specs.declared.world.Fate.{Fate}
use Rattle.net_base.specs.declared.world.Fate.TheVariants.{Deliver, Lose, Twice, Later}
use Rattle.net_base.specs.declared.world.MediumSpec.{MediumSpec}
use Rattle.formats.specs.Datagram.{datagram_packet}
use Rattle.net_base.specs.Medium.{Medium, fate_of}
use Rattle.medium.specs.declared.frame.Frame.{Frame}
use Rattle.medium.specs.Spelled.{IsSpelledPacket}

-- the world's line and seed, how many frames were laid, the copies that come next, the oldest first, and the one that is held
pub record OnMedium : Type 0 where
  pub spec : MediumSpec
  pub seed : ℕ
  pub laid : ℕ
  pub queue : List Frame
  pub held : Option Frame

-- a frame as the copy that a take gives
abbrev pub copy_taken : Frame → Taken
copy_taken f = record { frame = f.number; to = f.to; packet = datagram_packet f.bytes }

-- the medium with packets in the bytes' place
abbrev pub medium_laid : OnMedium → Medium
medium_laid m = record { frames = m.laid; queue = map copy_taken m.queue; held = map copy_taken (option_to_list m.held) }

-- there is a copy to take
abbrev pub IsPending : OnMedium → Type 0
IsPending m = (0 < length m.queue) ⊎ IsSome m.held

-- the copies of a frame that come at once
abbrev pub copies_now : Fate → Frame → List Frame
copies_now Deliver f = f ∷ []
copies_now Lose f = []
copies_now Twice f = f ∷ f ∷ []
copies_now Later f = []

-- the copy of a frame that is held
abbrev pub copy_held : Fate → Frame → Option Frame
copy_held Later f = Some f
copy_held _ f = None

-- the medium with a further frame: its own copies come, and then the one that was held before it
abbrev pub with_frame : Frame → OnMedium → OnMedium
with_frame f m = record m {
  laid = f.number;
  queue = m.queue ++ copies_now (fate_of m.seed m.spec (m.laid + 1)) f ++ option_to_list m.held;
  held = copy_held (fate_of m.seed m.spec (m.laid + 1)) f;
}

-- every frame is the bytes of a packet
abbrev pub AllSpelled : List Frame → Type 0
AllSpelled frames = AllByRecursion (λ (f : Frame). IsSpelledPacket f.bytes) frames

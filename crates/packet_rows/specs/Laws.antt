-- What holds of the rows of a history.
use Rattle.std.specs.Prelude.{◌≡◌, ◌≤◌, ℕ, ◌+◌, Bool, false, List, [], ◌∷◌, length, Some, if◌then◌else◌}
use Rattle.net_base.specs.declared.history.Entry.{Entry}
use Rattle.net_base.specs.declared.world.World.{World}
use Rattle.packet_rows.specs.declared.deed.Deed.{Deed}
use Rattle.packet_rows.specs.declared.deed.Deed.TheVariants.{Put, Took, Sent, Nothing}
use Rattle.packet_rows.specs.declared.row.Row.{Row}
use Rattle.packet_rows.specs.Deeds.{deed_of}
use Rattle.packet_rows.specs.Facts.{copies_of}
use Rattle.packet_rows.specs.PacketRows.{packet_rows}
use Rattle.packet_rows.specs.Passages.{same_two}
use Rattle.packet_rows.specs.Past.{past_of}

-- a copy of the frame is taken
abbrev pub takes_frame : ℕ × ℕ → Deed → Bool
takes_frame key (Took m k) = same_two key (m, k)
takes_frame key (Put m to fate) = false
takes_frame key (Sent h header) = false
takes_frame key Nothing = false

-- the stamps of the entries that take a copy of the frame, where the first of these has the stamp s
abbrev pub takes_from : ℕ → List Entry → ℕ × ℕ → List ℕ
takes_from s [] key = []
takes_from s (x ∷ xs) key = if takes_frame key (deed_of x) then s ∷ takes_from (s + 1) xs key else takes_from (s + 1) xs key

-- the stamps of rows rise, from `low` on and below `high`
abbrev pub RiseWithin : ℕ → List Row → ℕ → Type 0
RiseWithin low [] high = low ≤ high
RiseWithin low (r ∷ rs) high = (low ≤ r.stamp) × RiseWithin (r.stamp + 1) rs high

-- the TAKES of a row are the stamps of all copies of its frame; and the rows are sorted by stamps, at most one for each entry
pub record TellsPackets (w : World) (h : List Entry) : Type 0 where
  pub takes : (key : ℕ × ℕ) → copies_of (past_of w h).facts (Some key) ≡ takes_from 0 h key
  pub sorted : RiseWithin 0 (packet_rows w h) (length h)

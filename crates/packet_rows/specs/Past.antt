-- A history entry by entry: the packets in frames, the facts and the rows so far.
use Rattle.std.specs.Prelude.{ℕ, ◌+◌, List, [], ◌∷◌, ◌++◌, Option, Some, None}
use Rattle.indexmap.specs.IndexMap.{insert_entry}
use Rattle.net_base.specs.declared.history.Entry.{Entry}
use Rattle.net_base.specs.declared.world.World.{World}
use Rattle.packet_rows.specs.declared.frame.Passage.{Passage}
use Rattle.packet_rows.specs.declared.row.Row.{Row}
use Rattle.packet_rows.specs.Facts.{Facts, facts_with, no_facts}
use Rattle.packet_rows.specs.Passages.{Packets, passage_of, same_two}
use Rattle.packet_rows.specs.Rows.{frame_of, row_of}

pub record Past : Type 0 where
  pub frames : Packets
  pub facts : Facts
  pub rows : List Row

abbrev pub no_past : Past
no_past = record { frames = []; facts = no_facts; rows = [] }

abbrev pub with_frame_by : Packets → Option (ℕ × ℕ) → Option ℕ → Passage → Packets
with_frame_by frames None to p = frames
with_frame_by frames (Some key) None p = frames
with_frame_by frames (Some key) (Some to) p = insert_entry same_two frames key (record { passage = p; to = to })

-- the packet lies in the frame of its row, if it is in one
abbrev pub with_frame : Packets → Row → Packets
with_frame frames r = with_frame_by frames (frame_of r) r.to r.passage

abbrev pub with_row : Past → Option Row → Past
with_row past None = past
with_row past (Some r) = record past { frames = with_frame past.frames r; rows = past.rows ++ r ∷ [] }

abbrev pub past_after : World → List Entry → Past → ℕ → Entry → Past
past_after w h past s x =
    with_row (record past { facts = facts_with past.facts s x (passage_of h past.frames x.cites) }) (row_of w h past.frames s x)

-- entries of which the first has the stamp s
abbrev pub past_from : World → List Entry → Past → ℕ → List Entry → Past
past_from w h past s [] = past
past_from w h past s (x ∷ xs) = past_from w h (past_after w h past s x) (s + 1) xs

abbrev pub past_of : World → List Entry → Past
past_of w h = past_from w h no_past 0 h

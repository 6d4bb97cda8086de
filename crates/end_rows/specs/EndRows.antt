-- A row for each change of a conversation's end:
--     STAMP END GENERATION STATE WRITTEN ACKED RECEIVED UNREAD EARLY DUE CAUSE LOCAL REMOTE
use Rattle.std.specs.Prelude.{ℕ, ◌+◌, List, [], ◌∷◌, ◌++◌, bytes_eq, codes, length, Option, Some, None, if◌then◌else◌}
use Rattle.net_base.specs.declared.address.Proto.{Proto}
use Rattle.net_base.specs.declared.history.Entry.{Entry}
use Rattle.net_base.specs.declared.il.Cause.{Cause}
use Rattle.net_base.specs.declared.world.World.{World}
use Rattle.net_base.specs.Duties.{due_of}
use Rattle.net_base.specs.Net.{Net, next_net, opening_net, with_of}
use Rattle.net_base.specs.Numeral.{numeral}
use Rattle.net_base.specs.Paths.{proto_name}
use Rattle.net_base.specs.StateWords.{state_word}
use Rattle.net_base.specs.Transcript.{addr_word, cause_number, number_or_dash, spaced}
use Rattle.end_rows.specs.declared.count.Count.{Count}
use Rattle.end_rows.specs.declared.count.EndCount.{EndCount}
use Rattle.end_rows.specs.declared.count.EndCount.TheVariants.{Il, Udp}
use Rattle.end_rows.specs.declared.text.Sight.{Sight}
use Rattle.end_rows.specs.Counts.{counted_cause, counted_state, fresh_conversation}
use Rattle.end_rows.specs.declared.ends.EndName.{EndName}
use Rattle.end_rows.specs.Ends.{CountedEnds, SlotKey, end_in, end_named, ends_with, slot_of}

-- What is shown.

abbrev pub cause_shown : Option Cause → Option ℕ
cause_shown None = None
cause_shown (Some why) = Some (cause_number why)

abbrev pub sight_by : EndCount → Count → Option ℕ → Sight
sight_by (Il e) c due =
    record {
      generation = c.generation;
      state = counted_state c.end;
      written = Some e.written;
      acked = Some e.acked;
      received = Some e.received;
      unread = length e.unread;
      early = Some (length e.early);
      due = due;
      cause = cause_shown (counted_cause c.end);
      local = c.pair.local;
      remote = c.pair.remote;
    }
sight_by (Udp e) c due =
    record {
      generation = c.generation;
      state = counted_state c.end;
      written = None;
      acked = None;
      received = None;
      unread = e.unread;
      early = None;
      due = due;
      cause = cause_shown (counted_cause c.end);
      local = c.pair.local;
      remote = c.pair.remote;
    }

abbrev pub sight_of : Count → Option ℕ → Sight
sight_of c due = sight_by c.end c due

abbrev pub counts_text : Sight → List ℕ
counts_text s =
    spaced (number_or_dash s.written ∷ [])
    ++ spaced (number_or_dash s.acked ∷ [])
    ++ spaced (number_or_dash s.received ∷ [])
    ++ spaced (numeral s.unread ∷ [])
    ++ spaced (number_or_dash s.early ∷ [])

unfoldable pub sight_text : Sight → List ℕ
sight_text s =
    spaced (numeral s.generation ∷ [])
    ++ spaced (state_word s.state ∷ [])
    ++ counts_text s
    ++ spaced (number_or_dash s.due ∷ [])
    ++ spaced (number_or_dash s.cause ∷ [])
    ++ spaced (addr_word s.local ∷ [])
    ++ spaced (addr_word s.remote ∷ [])

-- the words of an end that is due then
abbrev pub shown_in : CountedEnds → Proto → SlotKey → Option ℕ → List ℕ
shown_in ends p slot due = sight_text (sight_of (end_in ends p slot) due)

abbrev pub shown_end : CountedEnds → EndName → Option ℕ → List ℕ
shown_end ends e due = shown_in ends e.proto (slot_of e) due

abbrev pub fresh_sight_text : Proto → Option ℕ → List ℕ
fresh_sight_text p due = sight_text (sight_of (fresh_conversation p 0 0) due)

-- Rows.

abbrev pub end_word : EndName → List ℕ
end_word e = numeral e.host ++ codes "." ++ proto_name e.proto ++ codes "." ++ numeral e.slot

unfoldable pub end_line : ℕ → EndName → List ℕ → List ℕ
end_line s e shown = numeral s ++ spaced (end_word e ∷ []) ++ shown ++ 10 ∷ []

-- a row, if the words changed
abbrev pub change_text : ℕ → EndName → List ℕ → List ℕ → List ℕ
change_text s e before after = if bytes_eq before after then [] else end_line s e after

-- History.

-- the ends after an entry, with the net before it
abbrev pub ends_by : Net → CountedEnds → Entry → Option EndName → CountedEnds
ends_by net ends x None = ends
ends_by net ends x (Some e) = ends_with e x (with_of (net.owed x.caller)) ends

abbrev pub ends_after : Net → CountedEnds → Entry → CountedEnds
ends_after net ends x = ends_by net ends x (end_named x.actor)

-- with the net before an entry and after it
abbrev pub row_by : Net → Net → CountedEnds → CountedEnds → ℕ → Entry → Option EndName → List ℕ
row_by before after ends later s x None = []
row_by before after ends later s x (Some e) =
    change_text s e (shown_end ends e (due_of (before.actors x.actor))) (shown_end later e (due_of (after.actors x.actor)))

-- the row of the entry with this stamp, if it changes an end
abbrev pub row_of : World → Net → CountedEnds → ℕ → Entry → List ℕ
row_of w net ends s x = row_by net (next_net w net x) ends (ends_after net ends x) s x (end_named x.actor)

abbrev pub end_rows_from : World → Net → CountedEnds → ℕ → List Entry → List ℕ
end_rows_from w net ends s [] = []
end_rows_from w net ends s (x ∷ xs) = row_of w net ends s x ++ end_rows_from w (next_net w net x) (ends_after net ends x) (s + 1) xs

abbrev pub end_rows : World → List Entry → List ℕ
end_rows w h = end_rows_from w (opening_net w) [] 0 h

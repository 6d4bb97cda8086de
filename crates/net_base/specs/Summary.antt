-- The summary of a run: four lines.
use Rattle.std.specs.Prelude.{ℕ, List, [], ◌∷◌, ◌++◌, length, sum_by, codes, nat_lt, if◌then◌else◌}
use Rattle.std.specs.List.{enumerate_from}
use Rattle.net_base.specs.declared.event.Event.{Event}
use Rattle.net_base.specs.declared.event.Event.TheVariants as event
use Rattle.net_base.specs.declared.history.Entry.{Entry}
use Rattle.net_base.specs.declared.reply.Reply.{Reply}
use Rattle.net_base.specs.declared.reply.Reply.TheVariants as reply
use Rattle.net_base.specs.declared.world.Script.{Script}
use Rattle.net_base.specs.declared.world.World.{World}
use Rattle.net_base.specs.Calm.{owes, done, stopped, limited}
use Rattle.net_base.specs.Net.{Net, after}
use Rattle.net_base.specs.Next.{answered}
use Rattle.net_base.specs.Numeral.{numeral}

-- a write that counts is one message
abbrev pub writes_counted : Event → Reply → ℕ
writes_counted (event.Write g text) (reply.Count n) = 1
writes_counted _ _ = 0

-- the bytes of a write that counts
abbrev pub bytes_written_in : Event → Reply → ℕ
bytes_written_in (event.Write g text) (reply.Count n) = length text
bytes_written_in _ _ = 0

-- a read of a data file that gives at least one byte is one message
abbrev pub reads_counted : Event → Reply → ℕ
reads_counted (event.Read g count) (reply.Bytes bytes) = if nat_lt 0 (length bytes) then 1 else 0
reads_counted _ _ = 0

-- the bytes that a read of a data file gives
abbrev pub bytes_read_in : Event → Reply → ℕ
bytes_read_in (event.Read g count) (reply.Bytes bytes) = length bytes
bytes_read_in _ _ = 0

-- what a history has of this, entry by entry
abbrev pub sum_over : (Event → Reply → ℕ) → List Entry → ℕ
sum_over f h = sum_by (λ (x : Entry). f x.event x.reply) h

-- how many messages were written and read, and how many bytes they have
pub record Totals : Type 0 where
  pub written : ℕ
  pub read : ℕ
  pub bytes_written : ℕ
  pub bytes_read : ℕ

abbrev pub totals : List Entry → Totals
totals h =
    record {
      written = sum_over writes_counted h;
      read = sum_over reads_counted h;
      bytes_written = sum_over bytes_written_in h;
      bytes_read = sum_over bytes_read_in h;
    }

-- Steps.

abbrev pub answered_by : World → List Entry → ℕ × Script → ℕ
answered_by w h s = answered w h s.0 (owes (after w h) s.0) s.1

abbrev pub answered_steps : World → List Entry → ℕ
answered_steps w h = sum_by (answered_by w h) (enumerate_from 0 w.scripts)

abbrev pub all_steps : World → ℕ
all_steps w = sum_by (λ (s : Script). length s.steps) w.scripts

-- The end.

-- how the run stands after the history
abbrev pub end_word : World → Net → List ℕ
end_word w net =
    if done w net
    then codes "done"
    else (if stopped w net
    then codes "stopped"
    else (if limited w net then codes "limit" else codes "unfinished"))

-- The text.

abbrev pub steps_line : ℕ → ℕ → List ℕ
steps_line answered all = codes "steps " ++ numeral answered ++ codes " of " ++ numeral all ++ 10 ∷ []

-- a line of what was written and what was read
abbrev pub both_line : List ℕ → ℕ → ℕ → List ℕ
both_line word written read = word ++ codes " " ++ numeral written ++ codes " " ++ numeral read ++ 10 ∷ []

abbrev pub end_line : List ℕ → ℕ → List ℕ
end_line word moment = codes "end " ++ word ++ codes " " ++ numeral moment ++ 10 ∷ []

abbrev pub totals_lines : Totals → List ℕ
totals_lines t = both_line (codes "messages") t.written t.read ++ both_line (codes "bytes") t.bytes_written t.bytes_read

-- the summary of a history of a world
abbrev pub summary : World → List Entry → List ℕ
summary w h =
    steps_line (answered_steps w h) (all_steps w) ++ totals_lines (totals h) ++ end_line (end_word w (after w h)) (after w h).moment

use Rattle.std.proofs.Common.{◌≡◌, ◌+◌, ◌≤◌, length}
use Rattle.net_base.specs.Addresses.{parts_at}
use Rattle.history_reader.specs.LineReading.{onto, reading_line, history_reading_from}
use Rattle.history_reader.proofs.reader.read_lines.Given as goal

abbrev pub invariant-loop-line : goal.invariant-loop-line
invariant-loop-line l = record {
  room : length l.history + length l.rest ≤ length l.bytes;
  reads : reading_line l.bytes ≡ onto l.history (history_reading_from (length l.history) (parts_at 10 l.rest));
}

abbrev pub decreases-loop-line : goal.decreases-loop-line
decreases-loop-line l = length l.rest

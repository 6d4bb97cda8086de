use Rattle.std.proofs.Common.{◌≡◌, ◌+◌, ◌*◌, ◌^◌, ◌≤◌, drop}
use Rattle.net_base.specs.Summary.{sum_over, writes_counted, reads_counted, bytes_written_in, bytes_read_in}
use Rattle.transcript.specs.RunStatus.{latest_move}
use Rattle.transcript.proofs.totals.totals_of.Given as goal

-- what is counted, and what is still to count
abbrev pub invariant-loop-stamp : goal.invariant-loop-stamp
invariant-loop-stamp g l = record {
  written : l.totals.written + sum_over writes_counted (drop l.stamp (g.E.Entries.list l.entries)) ≡ sum_over writes_counted (g.E.Entries.list l.entries);
  read : l.totals.read + sum_over reads_counted (drop l.stamp (g.E.Entries.list l.entries)) ≡ sum_over reads_counted (g.E.Entries.list l.entries);
  bytes_written : l.totals.bytes_written + sum_over bytes_written_in (drop l.stamp (g.E.Entries.list l.entries))
      ≡ sum_over bytes_written_in (g.E.Entries.list l.entries);
  bytes_read : l.totals.bytes_read + sum_over bytes_read_in (drop l.stamp (g.E.Entries.list l.entries))
      ≡ sum_over bytes_read_in (g.E.Entries.list l.entries);
  moment : latest_move l.totals.moment (drop l.stamp (g.E.Entries.list l.entries)) ≡ latest_move 0 (g.E.Entries.list l.entries);
  few_written : l.totals.written ≤ l.stamp;
  few_read : l.totals.read ≤ l.stamp;
  few_bytes_written : l.totals.bytes_written ≤ l.stamp * 2 ^ 64;
  few_bytes_read : l.totals.bytes_read ≤ l.stamp * 2 ^ 64;
}

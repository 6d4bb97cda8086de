use Rattle.std.proofs.Common.{rules, length, ◌≤◌, arith}
use Rattle.net_base.specs.Summary.{bytes_read_in, bytes_written_in, reads_counted, writes_counted}
use Rattle.transcript.proofs.Runs.{latest_done, latest_next, sum_done, sum_next}
use Rattle.transcript.proofs.totals.totals_of.Goals as goal

pub loop-stamp-preserved : goal.loop-stamp-preserved
loop-stamp-preserved g c =
    let l = c.loop-stamp in
    let xs = g.E.Entries.list c.args.entries.now in
    let x = c.entry-entry.result.now in
    let is = c.entry-entry.ensures in
    record {
      written = sum_next writes_counted xs l.stamp l.totals.written c.messages_written.result x is c.messages_written.ensures.value l.invariant.written;
      read = sum_next reads_counted xs l.stamp l.totals.read c.messages_read.result x is c.messages_read.ensures.value l.invariant.read;
      bytes_written =
          sum_next bytes_written_in xs l.stamp l.totals.bytes_written c.bytes_written.result x is c.bytes_written.ensures l.invariant.bytes_written;
      bytes_read = sum_next bytes_read_in xs l.stamp l.totals.bytes_read c.bytes_read.result x is c.bytes_read.ensures l.invariant.bytes_read;
      moment = latest_next xs l.stamp l.totals.moment c.moment_after.result x is c.moment_after.ensures l.invariant.moment;
      few_written = search (rules);
      few_read = search (rules);
      few_bytes_written = search (rules);
      few_bytes_read = search (rules);
    }

pub returns : goal.returns
returns g c =
    let l = c.loop-stamp in
    let xs = g.E.Entries.list c.args.entries.now in
    let done : length xs ≤ l.stamp = omega (arith, c.loop-stamp-test.false, c.count-stamp-end.ensures) in
    record {
      written = sum_done writes_counted xs l.stamp l.totals.written done l.invariant.written;
      read = sum_done reads_counted xs l.stamp l.totals.read done l.invariant.read;
      bytes_written = sum_done bytes_written_in xs l.stamp l.totals.bytes_written done l.invariant.bytes_written;
      bytes_read = sum_done bytes_read_in xs l.stamp l.totals.bytes_read done l.invariant.bytes_read;
      moment = latest_done xs l.stamp l.totals.moment done l.invariant.moment;
    }

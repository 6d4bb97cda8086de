use Rattle.std.proofs.Common.{◌≡◌, ◌+◌, ◌*◌, ◌≤◌, length, sum}
use Rattle.formats.specs.Sum.{words}
use Rattle.ip_wire.proofs.checksum.add_words.Given as goal

abbrev pub invariant-loop-rest : goal.invariant-loop-rest
invariant-loop-rest l = record {
  counted : l.total + sum (words l.rest) ≡ l.fn.before + sum (words l.fn.bytes);
  within : l.total + 32768 * (length l.rest + 1) ≤ l.fn.before + 32768 * (length l.fn.bytes + 1);
}

abbrev pub decreases-loop-rest : goal.decreases-loop-rest
decreases-loop-rest l = length l.rest

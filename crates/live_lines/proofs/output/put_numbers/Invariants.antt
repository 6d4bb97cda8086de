use Rattle.std.proofs.Common.{◌≡◌, ◌++◌, drop, map}
use Rattle.net_base.specs.Numeral.{numeral}
use Rattle.net_base.specs.Transcript.{spaced}
use Rattle.live_lines.proofs.output.put_numbers.Given as goal

-- the written text, and the text that is still to write
abbrev pub invariant-loop-number : goal.invariant-loop-number
invariant-loop-number l = l.out ++ spaced (map numeral (drop l.number-index l.numbers)) ≡ l.initial.out ++ spaced (map numeral l.numbers)

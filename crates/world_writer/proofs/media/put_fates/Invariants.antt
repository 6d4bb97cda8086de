use Rattle.std.proofs.Common.{◌≡◌, ◌++◌, drop, map}
use Rattle.world_text.specs.WorldSpelling.{laid, line_of_fate}
use Rattle.world_writer.proofs.media.put_fates.Given as goal

abbrev pub invariant-loop-range : goal.invariant-loop-range
invariant-loop-range l = l.initial.out ++ laid (map (line_of_fate l.name) l.fates) ≡ l.out ++ laid (map (line_of_fate l.name) (drop l.range-index l.fates))

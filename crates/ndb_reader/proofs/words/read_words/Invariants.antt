use Rattle.std.proofs.Common.{length}
use Rattle.ndb_reader.proofs.Rests.{Parsed}
use Rattle.ndb_reader.proofs.words.read_words.Given as goal

abbrev pub invariant-loop-rest : goal.invariant-loop-rest
invariant-loop-rest l = Parsed l.initial.growing l.growing l.line l.words l.rest

abbrev pub decreases-loop-rest : goal.decreases-loop-rest
decreases-loop-rest l = length l.rest

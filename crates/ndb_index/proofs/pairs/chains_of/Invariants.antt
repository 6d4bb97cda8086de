use Rattle.ndb_index.proofs.ByPair.{Chaining}
use Rattle.ndb_index.proofs.pairs.chains_of.Given as goal

abbrev pub invariant-loop-back : goal.invariant-loop-back
invariant-loop-back l = Chaining l.db l.width l.back l.chains

use Rattle.std.proofs.Common.{arith}
use Rattle.ndb_search.proofs.Shared.{once_more}
use Rattle.cs_resolver.proofs.addresses.many_once.Goals as goal

pub loop-number-preserved : goal.loop-number-preserved
loop-number-preserved c =
    once_more c.args.numbers.now c.loop-number.once.keys _ c.loop-number.number-index (omega arith) c.loop-number.invariant c.in_ok-insert.ensures.keys

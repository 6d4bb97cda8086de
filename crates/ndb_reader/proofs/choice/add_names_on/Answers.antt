use Rattle.std.proofs.Common.{arith}
use Rattle.ndb_reader.specs.Names.{names_seen}
use Rattle.ndb_reader.proofs.Chosen.{on-next}
use Rattle.ndb_reader.proofs.choice.add_names_on.Goals as goal

pub loop-number-preserved : goal.loop-number-preserved
loop-number-preserved c =
    on-next (names_seen c.args.names.now.keys) c.args.line.now c.loop-number.number c.pair.result (names_seen c.loop-number.names.keys) (names_seen c.add_name_of.new.names.keys) (omega (arith, c.loop-number-test.true, c.len-number-end.ensures)) (c.pair.ensures c.pair.result) c.in_ok-add_name_of.ensures c.loop-number.invariant

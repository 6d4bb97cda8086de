use Rattle.std.proofs.Common.{arith}
use Rattle.ndb_reader.specs.Names.{names_seen}
use Rattle.ndb_reader.proofs.Chosen.{no_names, in-none, in-next}
use Rattle.ndb_reader.proofs.choice.names_in.Goals as goal

pub loop-number-init : goal.loop-number-init
loop-number-init c = in-none c.args.tuple.now (names_seen c.new-names.result.keys) (no_names c.new-names.result.keys c.new-names.ensures.len)

pub loop-number-preserved : goal.loop-number-preserved
loop-number-preserved c =
    in-next c.args.tuple.now c.loop-number.number c.line.result (names_seen c.loop-number.names.keys) (names_seen c.add_names_on.new.names.keys) (omega (arith, c.loop-number-test.true, c.len-number-end.ensures)) c.line.ensures c.in_ok-add_names_on.ensures c.loop-number.invariant

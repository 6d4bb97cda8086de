use Rattle.std.proofs.Common.{refl}
use Rattle.ndb_reader.specs.Written.{pairs_text}
use Rattle.ndb_reader.proofs.Lined.{some-one, no-one, nothing-more, line-whole}
use Rattle.ndb_reader.proofs.writer.put_pairs.Goals as goal

pub returns-then-len-eq0 : goal.returns-then-len-eq0
returns-then-len-eq0 c = nothing-more pairs_text c.args.line.now c.args.out.now refl (no-one c.args.line.now c.len.result c.len.ensures c.if-len-eq0.true)

pub returns : goal.returns
returns c =
    line-whole c.args.out.now c.put_pair.new.out c.put_more.new.out c.args.line.now c.pair.result (some-one c.args.line.now c.len.result c.len.ensures c.if-len-eq0.false) (c.pair.ensures c.pair.result) c.in_ok-put_pair.ensures c.in_ok-put_more.ensures

use Rattle.std.proofs.Common.{refl}
use Rattle.ndb_reader.specs.Written.{tuple_text}
use Rattle.ndb_reader.proofs.Lined.{some-one, no-one, nothing-more, tuple-whole}
use Rattle.ndb_reader.proofs.writer.put_tuple.Goals as goal

pub returns-then-len-eq0 : goal.returns-then-len-eq0
returns-then-len-eq0 c = nothing-more tuple_text c.args.tuple.now c.args.out.now refl (no-one c.args.tuple.now c.len.result c.len.ensures c.if-len-eq0.true)

pub returns : goal.returns
returns c =
    tuple-whole c.args.out.now c.put_pairs.new.out c.append.new.self c.put_lines.new.out c.args.tuple.now c.line.result (some-one c.args.tuple.now c.len.result c.len.ensures c.if-len-eq0.false) c.line.ensures
    c.in_ok-put_pairs.ensures c.in_ok-append.ensures.ok c.in_ok-put_lines.ensures

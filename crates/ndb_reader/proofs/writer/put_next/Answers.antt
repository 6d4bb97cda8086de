use Rattle.std.proofs.Common.{◌∙◌}
use Rattle.ndb_reader.proofs.Lined.{next-more}
use Rattle.ndb_reader.proofs.writer.put_next.Goals as goal

pub returns : goal.returns
returns c = λ pairs is.
    next-more c.args.out.now c.append.new.self c.put_pair-2.new.out pairs c.args.pair.now is (λ h. c.if-len-eq0.false (c.len.ensures ∙ h)) c.in_ok-append.ensures.ok c.in_ok-put_pair-2.ensures

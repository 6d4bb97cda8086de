use Rattle.std.proofs.Common.{ap, ◌∙◌, arith}
use Rattle.std.proofs.lemmas.Bool.Decides.{nat_tests}
use Rattle.cs_resolver.specs.Targets.{target_texts}
use Rattle.cs_resolver.proofs.Answering.{no_service, with_lines, some_texts}
use Rattle.cs_resolver.proofs.resolve.answer.Goals as goal

pub returns-then-len-eq0-2-clause-err : goal.returns-then-len-eq0-2-clause-err
returns-then-len-eq0-2-clause-err c =
    no_service c.args.db.now c.args.me.now c.args.nets.now c.args.query.now _ c.in-Some.ensures
    c.deref.result.now c.in_ok-words.words (target_texts c.deref-2.result.now) c.in_ok-lines.lines
    (c.deref.ensures.value ∙ c.in_ok-nets.ensures) (grind (arith, nat_tests))
    c.in_ok-words.ensures (grind (arith, nat_tests))
    (ap target_texts c.deref-2.ensures.value ∙ c.in_ok-targets.ensures) (some_texts c.deref-2.result.now (grind (arith, nat_tests)))
    c.in_ok-lines.ensures (grind (arith, nat_tests))

pub returns-clause-ok : goal.returns-clause-ok
returns-clause-ok c =
    with_lines c.args.db.now c.args.me.now c.args.nets.now c.args.query.now _ c.in-Some.ensures
    c.deref.result.now c.in_ok-words.words (target_texts c.deref-2.result.now) c.in_ok-lines.lines
    (c.deref.ensures.value ∙ c.in_ok-nets.ensures) (grind (arith, nat_tests))
    c.in_ok-words.ensures (grind (arith, nat_tests))
    (ap target_texts c.deref-2.ensures.value ∙ c.in_ok-targets.ensures) (some_texts c.deref-2.result.now (grind (arith, nat_tests)))
    c.in_ok-lines.ensures (grind (arith, nat_tests))

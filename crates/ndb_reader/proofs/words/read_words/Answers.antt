use Rattle.std.proofs.Common.{sym, ◌∙◌, arith}
use Rattle.std.proofs.lemmas.Bool.Decides.{nat_tests}
use Rattle.ndb_reader.proofs.Rests.{parsed-none, parsed-white, parsed-word, parsed-end, left-none, left-hash, shorter}
use Rattle.ndb_reader.proofs.words.read_words.Goals as goal

pub loop-rest-init : goal.loop-rest-init
loop-rest-init c = parsed-none c.args.growing.now c.args.line.now c.new-words.result c.new-words.ensures

pub loop-rest-preserved-then-is_white : goal.loop-rest-preserved-then-is_white
loop-rest-preserved-then-is_white c =
    rw c.from-rest.ensures (parsed-white c.args.growing.now c.loop-rest.growing c.args.line.now c.loop-rest.words c.loop-rest.rest.now c.loop-rest.invariant (grind (arith, nat_tests)) (sym c.is_white.ensures ∙ c.if-is_white.true))

pub loop-rest-preserved : goal.loop-rest-preserved
loop-rest-preserved c =
    parsed-word c.args.growing.now c.loop-rest.growing c.push.new.self c.args.line.now c.loop-rest.words c.add.new.self c.loop-rest.rest.now c.word_at-word.result c.loop-rest.invariant (grind (arith, nat_tests)) c.if-rest-eq35.false (sym c.is_white.ensures ∙ c.if-is_white.false) c.word_at-word.ensures
    c.in_ok-push.ensures.ok c.add.ensures.some c.add.ensures.nameless c.add.ensures.unclosed c.add.ensures.followed

pub returns-then-rest-eq35-clause-words : goal.returns-then-rest-eq35-clause-words
returns-then-rest-eq35-clause-words c =
    (parsed-end c.args.growing.now c.loop-rest.growing c.args.line.now c.loop-rest.words c.loop-rest.rest.now c.loop-rest.invariant (left-hash c.loop-rest.rest.now (grind (arith, nat_tests)) c.if-rest-eq35.true)).0

pub returns-then-rest-eq35-clause-pairs : goal.returns-then-rest-eq35-clause-pairs
returns-then-rest-eq35-clause-pairs c =
    (parsed-end c.args.growing.now c.loop-rest.growing c.args.line.now c.loop-rest.words c.loop-rest.rest.now c.loop-rest.invariant (left-hash c.loop-rest.rest.now (grind (arith, nat_tests)) c.if-rest-eq35.true)).1

pub returns-clause-words : goal.returns-clause-words
returns-clause-words c =
    (parsed-end c.args.growing.now c.loop-rest.growing c.args.line.now c.loop-rest.words c.loop-rest.rest.now c.loop-rest.invariant (left-none c.loop-rest.rest.now (grind (arith, nat_tests)))).0

pub returns-clause-pairs : goal.returns-clause-pairs
returns-clause-pairs c =
    (parsed-end c.args.growing.now c.loop-rest.growing c.args.line.now c.loop-rest.words c.loop-rest.rest.now c.loop-rest.invariant (left-none c.loop-rest.rest.now (grind (arith, nat_tests)))).1

pub loop-rest-smaller : goal.loop-rest-smaller
loop-rest-smaller c =
    shorter c.word_at-word.result c.loop-rest.rest.now (grind (arith, nat_tests)) (sym c.is_white.ensures ∙ c.if-is_white.false) c.word_at-word.ensures

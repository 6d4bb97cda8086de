-- each answer comes where the tests before it fail
use Rattle.std.proofs.Common.{true, false, refl, sym, ◌∙◌}
use Rattle.ndb_reader.proofs.Causes.{picked-least}
use Rattle.ndb_reader.proofs.line.least_cause.Goals as goal

pub returns-then-goes_on_alone : goal.returns-then-goes_on_alone
returns-then-goes_on_alone c =
    picked-least c.args.has_tuple c.args.line.now c.args.words true _ _ _ _ _ c.requires.words (sym c.goes_on_alone.ensures ∙ c.if-goes_on_alone.true) refl refl refl refl refl

pub returns-then-words : goal.returns-then-words
returns-then-words c =
    picked-least c.args.has_tuple c.args.line.now c.args.words false true _ _ _ _ c.requires.words (sym c.goes_on_alone.ensures ∙ c.if-goes_on_alone.false) c.if-words.true refl refl refl refl

pub returns-then-words-2 : goal.returns-then-words-2
returns-then-words-2 c =
    picked-least c.args.has_tuple c.args.line.now c.args.words false false true _ _ _ c.requires.words (sym c.goes_on_alone.ensures ∙ c.if-goes_on_alone.false) c.if-words.false c.if-words-2.true refl refl refl

pub returns-then-words-3 : goal.returns-then-words-3
returns-then-words-3 c =
    picked-least c.args.has_tuple c.args.line.now c.args.words false false false true _ _ c.requires.words (sym c.goes_on_alone.ensures ∙ c.if-goes_on_alone.false) c.if-words.false c.if-words-2.false c.if-words-3.true refl refl

pub returns-then-is_zeroed : goal.returns-then-is_zeroed
returns-then-is_zeroed c =
    picked-least c.args.has_tuple c.args.line.now c.args.words false false false false true _ c.requires.words (sym c.goes_on_alone.ensures ∙ c.if-goes_on_alone.false) c.if-words.false c.if-words-2.false c.if-words-3.false (sym c.is_zeroed.ensures ∙ c.if-is_zeroed.true) refl

pub returns-then-is_directive : goal.returns-then-is_directive
returns-then-is_directive c =
    picked-least c.args.has_tuple c.args.line.now c.args.words false false false false false true c.requires.words (sym c.goes_on_alone.ensures ∙ c.if-goes_on_alone.false) c.if-words.false c.if-words-2.false c.if-words-3.false (sym c.is_zeroed.ensures ∙ c.if-is_zeroed.false) (sym c.is_directive.ensures ∙ c.if-is_directive.true)

pub returns-else-is_directive : goal.returns-else-is_directive
returns-else-is_directive c =
    picked-least c.args.has_tuple c.args.line.now c.args.words false false false false false false c.requires.words (sym c.goes_on_alone.ensures ∙ c.if-goes_on_alone.false) c.if-words.false c.if-words-2.false c.if-words-3.false (sym c.is_zeroed.ensures ∙ c.if-is_zeroed.false) (sym c.is_directive.ensures ∙ c.if-is_directive.false)

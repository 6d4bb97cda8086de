use Rattle.std.proofs.Common.{arith}
use Rattle.ndb_reader.proofs.Breaks.{word-end, attr-end, word-within}
use Rattle.ndb_reader.proofs.words.ends_of.Goals as goal

pub overflow_add-result : goal.overflow_add-result
overflow_add-result c = omega (arith, c.attr_len-attr.ensures.within, c.word_len-value.ensures.within)

pub returns-clause-word : goal.returns-clause-word
returns-clause-word c = word-end c.args.bytes.now c.from.result.now c.attr_len-attr.result c.word_len-value.result c.attr_len-attr.ensures.value c.from.ensures c.word_len-value.ensures.value

pub returns-clause-attr : goal.returns-clause-attr
returns-clause-attr c = attr-end c.args.bytes.now c.attr_len-attr.result _ c.attr_len-attr.ensures.value (returns-clause-word c)

pub returns-clause-within : goal.returns-clause-within
returns-clause-within c = word-within c.args.bytes.now _ (returns-clause-word c)

use Rattle.std.proofs.Common.{refl, sym, ◌∙◌}
use Rattle.ndb_reader.proofs.Rests.{quoted-room, word-quoted, word-plain}
use Rattle.ndb_reader.proofs.words.word_at.Goals as goal

pub quoted_at-requires : goal.quoted_at-requires
quoted_at-requires c =
    quoted-room c.args.bytes.now _ c.ends_of-ends.result.word c.ends_of-ends.result.attr refl c.ends_of-ends.ensures.within (sym c.is_quoted.ensures ∙ c.if-is_quoted.true)

pub returns-then-is_quoted : goal.returns-then-is_quoted
returns-then-is_quoted c =
    word-quoted _ c.args.bytes.now c.ends_of-ends.result.word c.ends_of-ends.result.attr c.ends_of-ends.ensures.word c.ends_of-ends.ensures.attr c.ends_of-ends.ensures.within (sym c.is_quoted.ensures ∙ c.if-is_quoted.true) c.quoted_at.ensures

pub returns : goal.returns
returns c =
    word-plain _ c.args.bytes.now c.ends_of-ends.result.word c.ends_of-ends.result.attr c.ends_of-ends.ensures.word c.ends_of-ends.ensures.attr c.ends_of-ends.ensures.within (sym c.is_quoted.ensures ∙ c.if-is_quoted.false) refl c.behind.ensures c.from.ensures refl refl

use Rattle.std.proofs.Common.{refl, sym, ap, ◌∙◌, not}
use Rattle.ndb_reader.proofs.Rests.{quoted-open, quoted-closed}
use Rattle.ndb_reader.proofs.words.quoted_at.Goals as goal

pub returns-then-not-has_quote : goal.returns-then-not-has_quote
returns-then-not-has_quote c =
    quoted-open _ c.args.bytes.now c.args.end c.from-quoted.result.now c.requires c.from-quoted.ensures
    (sym c.has_quote.ensures ∙ c.if-not-has_quote.true) refl refl refl refl refl

pub returns : goal.returns
returns c =
    quoted-closed _ c.args.bytes.now c.args.end c.quote_len-close.result c.word_len-more.result c.from-quoted.result.now c.behind-after.result.now c.requires c.from-quoted.ensures
    (sym c.has_quote.ensures ∙ c.if-not-has_quote.false) c.quote_len-close.ensures.value c.behind-after.ensures c.word_len-more.ensures.value
    refl refl c.from.ensures refl (ap not c.is_nothing.ensures)

use Rattle.std.proofs.Common.{Option, ℕ, bytes_eq, vec_items, ap, ◌∙◌}
use Rattle.std.specs.Prelude.{unwrap_or}
use Rattle.std.specs.List.{position}
use Rattle.ndb_reader.proofs.Chained.{bucket-is}
use Rattle.ndb_reader.proofs.choice.bucket_of.Goals as goal

pub returns-clause-value : goal.returns-clause-value
returns-clause-value c =
    c.unwrap_or.ensures
    ∙ ap (λ (o : Option ℕ). unwrap_or o c.len.result) c.get_index_of.ensures.index
    ∙ ap (λ (n : ℕ). unwrap_or (position (λ key. bytes_eq c.args.name.now (vec_items key)) c.args.names.now.keys) n) c.len.ensures.len
    ∙ bucket-is c.args.name.now c.args.names.now.keys

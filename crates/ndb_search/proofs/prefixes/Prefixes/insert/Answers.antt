use Rattle.std.proofs.Common.{ap, ◌∙◌, ◌||◌}
use Rattle.ndb_search.specs.Prefixes.{covers, is_on_prefix}
use Rattle.ndb_search.proofs.Covered.{lengths_more, prefixes_more, covers_more}
use Rattle.ndb_search.proofs.prefixes.Prefixes.insert.Goals as goal

pub invariant_of-self-in_err-insert-2 : goal.invariant_of-self-in_err-insert-2
invariant_of-self-in_err-insert-2 c = rw c.in_err-insert-2.ensures.err
    (lengths_more c.self.inside.lengths.keys c.insert.new.self.keys c.self.inside.prefixes.keys c.args.prefix.bits c.self.invariant c.in_ok-insert.ensures.updates.0)

pub invariant_of-self-2 : goal.invariant_of-self-2
invariant_of-self-2 c =
    prefixes_more c.self.inside.lengths.keys c.insert.new.self.keys c.self.inside.prefixes.keys c.insert-2.new.self.keys c.args.prefix c.self.invariant c.in_ok-insert.ensures.updates.0 c.in_ok-insert-2.ensures.keys

pub returns : goal.returns
returns c = λ ip.
    covers_more c.self.inside.prefixes.keys c.insert-2.new.self.keys c.args.prefix ip c.in_ok-insert-2.ensures.keys
    ∙ ap (λ (prefixes : _). covers prefixes ip || is_on_prefix ip c.args.prefix) c.self.view_is

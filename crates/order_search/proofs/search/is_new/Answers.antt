use Rattle.std.proofs.Common.{List, ℕ, ◌++◌, ap, ◌∙◌}
use Rattle.order_search.proofs.Lines.{fresh_is, text_put}
use Rattle.order_search.proofs.search.is_new.Goals as goal

pub returns-clause-texts : goal.returns-clause-texts
returns-clause-texts c =
    text_put c.args.known.now.keys c.insert.new.self.keys c.extend_from_slice.new.self (c.args.telling.now.results ++ c.args.telling.now.summary)
    (c.in_ok-extend_from_slice.ensures.items
    ∙ (ap (λ (xs : List ℕ). xs ++ c.as_slice-2.result.now) (c.in_ok-key.ensures.items ∙ c.as_slice.ensures)
    ∙ ap (λ (xs : List ℕ). c.args.telling.now.results ++ xs) c.as_slice-2.ensures))
    c.in_ok-insert.ensures.keys

pub returns-clause-fresh : goal.returns-clause-fresh
returns-clause-fresh c =
    fresh_is c.extend_from_slice.new.self (c.args.telling.now.results ++ c.args.telling.now.summary) c.args.known.now.keys c.in_ok-insert.field-0
    (c.in_ok-extend_from_slice.ensures.items
    ∙ (ap (λ (xs : List ℕ). xs ++ c.as_slice-2.result.now) (c.in_ok-key.ensures.items ∙ c.as_slice.ensures)
    ∙ ap (λ (xs : List ℕ). c.args.telling.now.results ++ xs) c.as_slice-2.ensures))
    c.in_ok-insert.ensures.added

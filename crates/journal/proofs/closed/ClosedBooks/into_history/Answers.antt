use Rattle.std.proofs.Common.{List, map, length, ap, sym, subst, ◌∙◌}
use Rattle.std.specs.Vec.Iter.{into_iter_items}
use Rattle.journal.specs.declared.tokens.Stamped.{Stamped}
use Rattle.journal.specs.Closing.{AreAt}
use Rattle.journal.specs.Places.{entries_at}
use Rattle.journal.proofs.Placing.{long_at}
use Rattle.journal.proofs.closed.ClosedBooks.into_history.Goals as goal

pub returns : goal.returns
returns c =
    let i = c.self.inside in
    let log = entries_at i.lists.items i.places.items in
    let only : AreAt log (map into_iter_items c.in_ok-lists.lists.items) =
    subst (λ (ls : List (List Stamped)). AreAt log ls) (sym c.in_ok-lists.ensures) c.self.invariant.only in
    let long = long_at 0 i.lists.items i.places.items c.self.invariant.all ∙ sym (ap length c.deref.ensures.value) in
    c.from_vec.ensures ∙ c.in_ok-merge.ensures log long only ∙ c.self.view_is

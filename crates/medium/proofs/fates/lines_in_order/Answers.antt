use Rattle.std.proofs.Common.{rules, sym, subst}
use Rattle.std.proofs.lemmas.List.Sorted.{IsNonDecreasingBy-from_sort_by_key}
use Rattle.net_base.specs.declared.world.FateRange.{FateRange}
use Rattle.medium.specs.OnFates.{AreInOrder}
use Rattle.medium.proofs.Fating.{in_order}
use Rattle.medium.proofs.fates.lines_in_order.Goals as goal

pub returns-clause-order : goal.returns-clause-order
returns-clause-order c =
    let sorted = IsNonDecreasingBy-from_sort_by_key (λ (f : FateRange). f.first) _ c.in_ok-sort_by_key.ensures.sorted (λ a r q k. search rules) in
    subst AreInOrder (sym c.from_vec.ensures.items) (in_order c.sort_by_key.new.self.items sorted)

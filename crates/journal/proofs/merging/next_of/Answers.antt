use Rattle.std.proofs.Common.{ap, sym, ◌∙◌, arith}
use Rattle.std.specs.Vec.Iter.{into_iter_items}
use Rattle.std.specs.Option.{option_to_list}
use Rattle.journal.proofs.Gathering.{found_left, kept_left}
use Rattle.journal.proofs.merging.next_of.Goals as goal

pub returns-clause-rest : goal.returns-clause-rest
returns-clause-rest c e i =
    kept_left into_iter_items c.args.lists.now.items c.args.place c.index_mut.result.now c.next.new.self (option_to_list c.next.result)
    (ap into_iter_items (sym c.index_mut.ensures.value) ∙ c.next.ensures.items) (omega (arith, c.if-place-len.false, c.len.ensures, c.args.lists.now.ok.0)) e i

pub returns-clause-found : goal.returns-clause-found
returns-clause-found c =
    found_left into_iter_items c.args.lists.now.items c.args.place c.index_mut.result.now c.next.result (into_iter_items c.next.new.self)
    (ap into_iter_items (sym c.index_mut.ensures.value) ∙ c.next.ensures.items) (omega (arith, c.if-place-len.false, c.len.ensures, c.args.lists.now.ok.0))

use Rattle.std.proofs.Common.{◌≡◌, ◌-◌, ◌++◌, sym, ap, ◌∙◌, arith, List, ℕ, append-nil}
use Rattle.std.specs.Prelude.{flat_map}
use Rattle.std.specs.List.{range_with_len}
use Rattle.ndb_search.proofs.Shared.{range_more}
use Rattle.ndb_index.specs.Nets.{own_places}
use Rattle.ndb_index.proofs.Own.{none_own}
use Rattle.ndb_index.proofs.networks.own_places.Goals as goal

pub loop-ones-preserved : goal.loop-ones-preserved
loop-ones-preserved c = λ db has all.
    c.in_ok-add_own.ensures db has
    ∙ ap (λ (front : List ℕ). front ++ own_places (32 - c.loop-ones.ones) c.args.ips.now db) (c.loop-ones.invariant db has all)
    ∙ sym (range_more (λ ones. own_places (32 - ones) c.args.ips.now db) c.loop-ones.ones)

pub loop-ones-preserved-then-not-contains : goal.loop-ones-preserved-then-not-contains
loop-ones-preserved-then-not-contains c = λ db has all.
    c.loop-ones.invariant db has all
    ∙ sym (range_more (λ ones. own_places (32 - ones) c.args.ips.now db) c.loop-ones.ones
    ∙ ap (λ (back : List ℕ). flat_map (λ ones. own_places (32 - ones) c.args.ips.now db) (range_with_len 0 c.loop-ones.ones) ++ back)
    (none_own (32 - c.loop-ones.ones) c.args.ips.now 0 db (sym (all (32 - c.loop-ones.ones)) ∙ (sym c.contains.ensures ∙ c.if-not-contains.true)))
    ∙ append-nil (flat_map (λ ones. own_places (32 - ones) c.args.ips.now db) (range_with_len 0 c.loop-ones.ones)))

pub returns : goal.returns
returns c = λ db has all.
    let end : c.loop-ones.ones ≡ 33 = omega arith in
    c.loop-ones.invariant db has all ∙ ap (λ n. flat_map (λ ones. own_places (32 - ones) c.args.ips.now db) (range_with_len 0 n)) end

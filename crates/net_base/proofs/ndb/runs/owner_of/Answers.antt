use Rattle.std.proofs.Common.{ℕ, leb, leb-true, leb-false, arith, rules}
use Rattle.std.proofs.lemmas.List.Sorted.{IsPartitionPoint-from_clause, IsPartitionedBy-leb}
use Rattle.net_base.proofs.Spots.{owner-found, rise-between}
use Rattle.net_base.proofs.ndb.runs.owner_of.Goals as goal

pub returns-then-owns : goal.returns-then-owns
returns-then-owns c = λ count rise below. c.owns.ensures c.if-owns.true

pub returns : goal.returns
returns c = λ count rise below.
    let parted = IsPartitionedBy-leb (λ (e : ℕ). e) c.args.ends.now c.args.number (λ i j d le lt. rise-between 0 c.args.ends.now count i j d rise le lt) in
    let point = IsPartitionPoint-from_clause (λ (e : ℕ). leb e c.args.number) _ _ c.partition_point.ensures.partitioned parted (λ a r q k. search rules) in
    let found = owner-found 0 c.args.ends.now count c.args.number c.partition_point.result rise (omega arith) below c.partition_point.ensures.bound
    (λ j h. leb-true _ _ (point.0 j 0 (omega arith) h)) (λ j le h. leb-false _ _ (point.1 j 0 le h)) in
    record { within = found.0; begins = found.1; behind = found.2 }

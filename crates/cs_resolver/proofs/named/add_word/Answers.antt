use Rattle.std.proofs.Common.{List, ℕ, sym, ◌∙◌, arith, subst}
use Rattle.cs_resolver.specs.Gathering.{Gathers}
use Rattle.cs_resolver.specs.Probes.{AreSpots}
use Rattle.cs_resolver.proofs.AtSpots.{spots_are_spots}
use Rattle.cs_resolver.proofs.Gathered.{word_gathered, word_count}
use Rattle.cs_resolver.proofs.named.add_word.Goals as goal

pub add_spots-requires-clause-each : goal.add_spots-requires-clause-each
add_spots-requires-clause-each g c = subst (AreSpots c.args.index.now) (sym (c.deref.ensures.value ∙ c.in_ok-spots.ensures)) (spots_are_spots _ c.args.word.now c.args.index.now)

pub returns-in_err-add_spots-clause-cost : goal.returns-in_err-add_spots-clause-cost
returns-in_err-add_spots-clause-cost g c =
    omega (arith, c.add_spots.ensures.cost, word_count c.args.index.now c.args.word.now c.name_attr.result.now c.deref.result.now (sym c.is_numeric.ensures ∙ c.if-not-is_numeric.true) c.name_attr.ensures (c.deref.ensures.value ∙ c.in_ok-spots.ensures))

pub returns-then-not-is_numeric-clause-ips : goal.returns-then-not-is_numeric-clause-ips
returns-then-not-is_numeric-clause-ips g c =
    subst (λ (more : List ℕ). Gathers more c.args.ips.now.items c.add_spots.new.ips.items)
    (word_gathered c.args.index.now c.args.word.now c.name_attr.result.now c.deref.result.now (sym c.is_numeric.ensures ∙ c.if-not-is_numeric.true) c.name_attr.ensures (c.deref.ensures.value ∙ c.in_ok-spots.ensures))
    c.in_ok-add_spots.ensures.ips

pub returns-then-not-is_numeric-clause-cost : goal.returns-then-not-is_numeric-clause-cost
returns-then-not-is_numeric-clause-cost g c =
    omega (arith, c.add_spots.ensures.cost, word_count c.args.index.now c.args.word.now c.name_attr.result.now c.deref.result.now (sym c.is_numeric.ensures ∙ c.if-not-is_numeric.true) c.name_attr.ensures (c.deref.ensures.value ∙ c.in_ok-spots.ensures))

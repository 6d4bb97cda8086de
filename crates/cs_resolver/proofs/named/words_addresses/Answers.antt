use Rattle.std.proofs.Common.{List, ℕ, ap, ◌∙◌, arith}
use Rattle.std.specs.Prelude.{flat_map}
use Rattle.std.specs.Borrow.{Bor}
use Rattle.std.specs.List.{sum_by}
use Rattle.std.proofs.lemmas.List.{take_all}
use Rattle.net_base.specs.Cs.{once_each, word_addresses}
use Rattle.cs_resolver.specs.Gathering.{words_seen}
use Rattle.cs_resolver.specs.Probes.{word_found}
use Rattle.cs_resolver.proofs.Gathered.{seen_more, seen_cost, seen_within}
use Rattle.cs_resolver.proofs.named.words_addresses.Goals as goal

pub returns-in_err-add_word-clause-cost : goal.returns-in_err-add_word-clause-cost
returns-in_err-add_word-clause-cost g c =
    let words = c.as_slice-word-items.result.now in
    omega (
      arith,
      seen_within (word_found c.args.index.now) words c.loop-word.word-index _ c.args.steps.now c.loop-word.steps c.add_word.new.steps (omega arith) c.loop-word.invariant.cost c.add_word.ensures.cost,
      ap (λ (keys : List (Bor (List ℕ))). sum_by (word_found c.args.index.now) (words_seen keys)) c.as_slice-word-items.ensures.keys,
      c.in_ok-once.ensures.count (word_found c.args.index.now),
    )

pub loop-word-preserved : goal.loop-word-preserved
loop-word-preserved g c =
    let words = c.as_slice-word-items.result.now in record {
      ips = seen_more (word_addresses c.args.index.now) words c.loop-word.word-index _ c.loop-word.ips.items c.add_word.new.ips.items (omega arith) c.loop-word.invariant.ips c.in_ok-add_word.ensures.ips;
      tuples = c.in_ok-add_word.ensures.tuples;
      spots = c.in_ok-add_word.ensures.spots;
      cost = seen_cost (word_found c.args.index.now) words c.loop-word.word-index _ c.args.steps.now c.loop-word.steps c.add_word.new.steps (omega arith) c.loop-word.invariant.cost c.in_ok-add_word.ensures.cost;
    }

pub returns-clause-ips : goal.returns-clause-ips
returns-clause-ips g c =
    c.loop-word.invariant.ips
    ∙ ap (λ (keys : List (Bor (List ℕ))). once_each (flat_map (word_addresses c.args.index.now) (words_seen keys)))
    (take_all c.loop-word.word-index c.as_slice-word-items.result.now (omega arith) ∙ c.as_slice-word-items.ensures.keys)
    ∙ c.in_ok-once.ensures.numbers (word_addresses c.args.index.now)

pub returns-clause-cost : goal.returns-clause-cost
returns-clause-cost g c =
    omega (
      arith,
      c.loop-word.invariant.cost,
      ap (λ (keys : List (Bor (List ℕ))). sum_by (word_found c.args.index.now) (words_seen keys))
          (take_all c.loop-word.word-index c.as_slice-word-items.result.now (omega arith) ∙ c.as_slice-word-items.ensures.keys),
      c.in_ok-once.ensures.count (word_found c.args.index.now),
    )

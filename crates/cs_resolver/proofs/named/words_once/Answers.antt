use Rattle.std.proofs.Common.{List, ℕ, [], ap, ◌∙◌, arith}
use Rattle.std.specs.Prelude.{flat_map}
use Rattle.std.specs.Borrow.{Bor}
use Rattle.std.specs.List.{sum_by}
use Rattle.net_base.specs.Cs.{once_each}
use Rattle.ndb_index.proofs.Shared.{same_default}
use Rattle.cs_resolver.specs.Gathering.{words_seen}
use Rattle.cs_resolver.proofs.Gathered.{words_more, count_more}
use Rattle.cs_resolver.proofs.named.words_once.Goals as goal

pub loop-word-init : goal.loop-word-init
loop-word-init c = (
  λ numbers. ap (λ (keys : List (Bor (List ℕ))). once_each (flat_map numbers (words_seen keys))) c.new-once.ensures.empty,
  λ count. omega (arith, ap (λ (keys : List (Bor (List ℕ))). sum_by count (words_seen keys)) c.new-once.ensures.empty),
)

pub loop-word-preserved : goal.loop-word-preserved
loop-word-preserved c =
    let words = c.args.words.now in
    let i = c.loop-word.word-index in
    let here = c.as_slice.ensures ∙ c.word-item.is ∙ same_default words i c.word-item.result [] (omega arith) in (
      λ numbers. words_more numbers words i c.as_slice.result c.loop-word.once.keys c.insert.new.self.keys (omega arith) here c.in_ok-insert.ensures.keys (c.loop-word.invariant.0 numbers),
      λ count. count_more count words i c.as_slice.result c.loop-word.once.keys c.insert.new.self.keys (omega arith) here c.in_ok-insert.ensures.keys (c.loop-word.invariant.1 count),
    )

use Rattle.std.proofs.Common.{◌≡◌, ℕ, List, ◌≤◌, take}
use Rattle.std.specs.Prelude.{flat_map}
use Rattle.std.specs.List.{sum_by}
use Rattle.net_base.specs.Cs.{once_each}
use Rattle.cs_resolver.specs.Gathering.{words_seen}
use Rattle.cs_resolver.proofs.named.words_once.Given as goal

abbrev pub invariant-loop-word : goal.invariant-loop-word
invariant-loop-word l =
    ((numbers : List ℕ → List ℕ) → once_each (flat_map numbers (words_seen l.once.keys)) ≡ once_each (flat_map numbers (take l.word-index l.words)))
    × ((count : List ℕ → ℕ) → sum_by count (words_seen l.once.keys) ≤ sum_by count (take l.word-index l.words))

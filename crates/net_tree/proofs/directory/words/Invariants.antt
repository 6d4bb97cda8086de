use Rattle.std.proofs.Common.{◌≡◌, take, map}
use Rattle.net_tree.proofs.directory.words.Given as goal

abbrev pub invariant-loop-word : goal.invariant-loop-word
invariant-loop-word l = l.lines ≡ map (λ w. w.now) (take l.word-index l.words)

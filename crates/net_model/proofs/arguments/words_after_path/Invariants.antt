use Rattle.std.proofs.Common.{◌≡◌, ◌+◌, length, map, string_bytes, IfSome}
use Rattle.net_model.proofs.arguments.words_after_path.Given as goal
use Rattle.net_model.proofs.WordsAfterPath.{AreReadSoFar}

abbrev pub invariant-loop-place : goal.invariant-loop-place
invariant-loop-place g l =
    (l.place ≡ length l.words.items + 1) ×
    IfSome (g.C.CommandLine.words l.line) (λ words. AreReadSoFar words (map string_bytes l.words.items))

use Rattle.std.proofs.Common.{◌≡◌, length, ◌++◌}
use Rattle.std.specs.Option.{option_map}
use Rattle.net_base.specs.Hexadecimal as spec
use Rattle.words.proofs.hexadecimal.hex_bytes.Given as goal

abbrev pub invariant-loop-rest : goal.invariant-loop-rest
invariant-loop-rest l = spec.hex_bytes l.word ≡ option_map (λ more. l.bytes.items ++ more) (spec.hex_bytes l.rest)

abbrev pub decreases-loop-rest : goal.decreases-loop-rest
decreases-loop-rest l = length l.rest

use Rattle.std.proofs.Common.{◌≡◌, ◌++◌, length}
use Rattle.std.specs.Option.{option_map}
use Rattle.net_base.specs.Addresses.{parts_at}
use Rattle.history_reader.specs.Fields as spec
use Rattle.history_reader.proofs.texts.cut_texts.Given as goal

abbrev pub invariant-loop-rest : goal.invariant-loop-rest
invariant-loop-rest l = spec.cut_texts (parts_at 10 l.bytes) ≡ option_map (λ more. l.texts ++ more) (spec.cut_texts (parts_at 10 l.rest))

abbrev pub decreases-loop-rest : goal.decreases-loop-rest
decreases-loop-rest l = length l.rest

use Rattle.std.proofs.Common.{◌≡◌, take}
use Rattle.std.specs.Prelude.{flat_map}
use Rattle.net_base.specs.Cs.{word_addresses}
use Rattle.cs_resolver.proofs.scanned.all_addresses.Given as goal

abbrev pub invariant-loop-word : goal.invariant-loop-word
invariant-loop-word l = l.ips.items ≡ flat_map (word_addresses l.db) (take l.word-index l.words)

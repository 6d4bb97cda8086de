use Rattle.std.proofs.Common.{◌≡◌, ◌++◌, length, take}
use Rattle.std.specs.List.{flat_map}
use Rattle.net_base.specs.NinepFields.{number_bytes, string}
use Rattle.ninep_wire.proofs.put.put_strings.Given as goal

abbrev pub invariant-loop-text : goal.invariant-loop-text
invariant-loop-text l = l.out ≡ l.fn.out ++ (number_bytes 2 (length l.texts) ++ flat_map string (take l.text-index l.texts))

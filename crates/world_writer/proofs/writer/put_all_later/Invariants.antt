use Rattle.std.proofs.Common.{◌≡◌, ◌++◌, drop}
use Rattle.std.specs.Prelude.{flat_map}
use Rattle.world_writer.specs.Written.{later_text}
use Rattle.world_writer.proofs.writer.put_all_later.Given as goal

abbrev pub invariant-loop-version : goal.invariant-loop-version
invariant-loop-version l = l.initial.out ++ flat_map later_text l.versions ≡ l.out ++ flat_map later_text (drop l.version-index l.versions)

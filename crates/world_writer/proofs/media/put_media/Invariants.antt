use Rattle.std.proofs.Common.{◌≡◌, ◌++◌, drop}
use Rattle.world_text.specs.WorldSpelling.{lines_of_medium}
use Rattle.world_writer.specs.Written.{parts_laid}
use Rattle.world_writer.proofs.media.put_media.Given as goal

abbrev pub invariant-loop-medium : goal.invariant-loop-medium
invariant-loop-medium l = l.initial.out ++ parts_laid lines_of_medium l.media ≡ l.out ++ parts_laid lines_of_medium (drop l.medium-index l.media)

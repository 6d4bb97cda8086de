use Rattle.std.proofs.Common.{ap, sym, ◌∙◌}
use Rattle.std.specs.Prelude.{unwrap_or}
use Rattle.world_writer.proofs.Said.{local_reads}
use Rattle.world_writer.proofs.world.database.Goals as goal

pub returns-in-Ok : goal.returns-in-Ok
returns-in-Ok c = ap (λ read. unwrap_or read c.in-Ok.db) (sym c.in-Ok.ensures.ok ∙ local_reads)

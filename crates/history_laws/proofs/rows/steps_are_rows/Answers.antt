use Rattle.history_laws.proofs.ActorTable.{actor_rows}
use Rattle.history_laws.proofs.ConvTable.{conv_rows}
use Rattle.history_laws.proofs.DirTable.{dir_rows}
use Rattle.history_laws.proofs.rows.steps_are_rows.Goals as goal

pub returns : goal.returns
returns c = record { conversations = conv_rows; directories = dir_rows; actors = actor_rows }

-- A session's bytes, message by message.
use Rattle.std.specs.Prelude.{◌≡◌, ℕ, List, ◌++◌, option_to_list}
use Rattle.net_base.specs.declared.world.Step.{Step}
use Rattle.net_base.specs.declared.ninep.Tmsg.{Tmsg}
use Rattle.net_base.specs.SessionScript.{Begins, table_next, message_step}
use Rattle.net_base.specs.SessionTable.{Table}

-- the first message was taken: its step stands behind the others, and the rest is left
pub record TakesBytes (old new : Table) (before steps : List Step) (bytes rest : List ℕ) : Type 0 where
  pub message : Tmsg
  pub begins : Begins old.msize message bytes rest
  pub table : new ≡ table_next old message
  pub adds : steps ≡ before ++ option_to_list (message_step old message)

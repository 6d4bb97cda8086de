-- A session of 9P as a server of messages.
use Rattle.std.specs.Prelude.{ℕ, [], Option, Some, None}
use Rattle.net_base.specs.declared.ninep.Tmsg.{Tmsg}
use Rattle.net_base.specs.declared.reply.Reply.{Reply}
use Rattle.net_base.specs.declared.world.Step.{Step}
use Rattle.net_base.specs.NinepMessages.{r_bytes}
use Rattle.net_base.specs.Server.{Doing, Gives, Server, doing_of}
use Rattle.net_base.specs.SessionAnswers.{Found, found_after, found_by, replied, said_at_once}
use Rattle.net_base.specs.SessionScript.{table_next, message_step}
use Rattle.net_base.specs.SessionTable.{Table, opening}
use Rattle.net_base.specs.Steps.{Ends, Names, no_names, play_of}

-- the fids, what was found in cs, and what the steps of the script have left
pub record State : Type 0 where
  pub table : Table
  pub found : Found
  pub names : Names

-- no message is a step that asks a database
abbrev pub first : State
first = record { table = opening; found = λ (n : ℕ). []; names = no_names [] }

-- after a message without a step
abbrev pub told : State → Tmsg → Doing State
told s m = Gives (r_bytes (said_at_once s.table s.found m)) (record { table = table_next s.table m; found = found_after s.found m; names = s.names })

-- by the last reply
abbrev pub by_last : State → Tmsg → Names → Option Reply → Doing State
by_last s m names None = told s m
by_last s m names (Some x) = Gives (r_bytes (replied s.table m x)) (record { table = table_next s.table m; found = found_by s.table s.found m x; names = names })

-- a message is told an answer, or it is a step of the host's script
abbrev pub serves_by : ℕ → State → Tmsg → Option Step → Doing State
serves_by h s m None = told s m
serves_by h s m (Some step) = doing_of (play_of h s.names step) None (by_last s m)

-- the session of a host, at whose end nothing is closed
abbrev pub session : ℕ → Server State Tmsg
session h =
    record {
      opening = first;
      names = λ (s : State). s.names;
      serves = λ (s : State) (m : Tmsg). serves_by h s m (message_step s.table m);
      closes = λ (s : State). Ends s.names;
    }

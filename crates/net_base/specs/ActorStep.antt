-- What the step of an actor leaves.
use Rattle.std.specs.Prelude.{Bool, false, Option, Some, None, if◌then◌else◌}
use Rattle.net_base.specs.declared.history.Outcome.{Outcome}
use Rattle.net_base.specs.declared.packet.Packet.{Packet}
use Rattle.net_base.specs.declared.reply.Reply.{Reply}

-- the actor's state after the step, and what the step gives
pub record Step (S : Type 0) : Type 0 where
  pub state : S
  pub outcome : Outcome

-- the actor replies and emits
abbrev pub replies : Reply → Option Packet → Outcome
replies answer emits = record { reply = answer; copy = Some answer; emit = emits; taken = None; ended = false }

-- the answer of a step, where the work is of the kind that the event asks for
abbrev pub when : {A : Type 0} → Bool → Option A → Option A
when of_kind answer = if of_kind then answer else None

-- A conversation as it is kept.
use Rattle.std.specs.Prelude.{ℕ, IsTrue, not, Option, Some, None}
use Rattle.net_base.specs.declared.history.Outcome.{Outcome}
use Rattle.net_base.specs.ActorStep.{Step}
use Rattle.net_base.specs.UdpEnd.{is_fresh_udp}
use Rattle.net_base.specs.Conversation as conv
use Rattle.conversation.specs.declared.parts.Core.{Core}
use Rattle.conversation.specs.declared.parts.Core.TheVariants as core
use Rattle.conversation.specs.declared.parts.Stage.{Stage}
use Rattle.conversation.specs.declared.parts.Stage.TheVariants as stage

-- the stage as the definitions see it
abbrev pub seen_stage : Stage → conv.Stage
seen_stage stage.Unused = conv.Unused
seen_stage stage.Listening = conv.Listening
seen_stage stage.Connected = conv.Connected

-- the end as the definitions see it
abbrev pub seen_core : Core → conv.Core
seen_core (core.Il e) = conv.Il e
seen_core (core.Udp e) = conv.Udp e

-- what is kept: the number of the slot, and its conversation
pub record Seat : Type 0 where
  pub slot : ℕ
  pub conv : conv.Conv

-- a UDP end is fresh as long as its conversation is unused
abbrev pub IsKept : Stage → Core → Type 0
IsKept stage.Unused (core.Udp e) = IsTrue (is_fresh_udp e.state)
IsKept stage.Listening (core.Udp e) = IsTrue (not (is_fresh_udp e.state))
IsKept stage.Connected (core.Udp e) = IsTrue (not (is_fresh_udp e.state))
IsKept s (core.Il e) = Unit {0}

-- the step that leaves this conversation, if it has an outcome
abbrev pub as_step : conv.Conv → Option Outcome → Option (Step conv.Conv)
as_step after (Some o) = Some (record { state = after; outcome = o })
as_step after None = None

-- One message and its reply: its requests, and what a reply makes of it.
use Rattle.std.specs.Prelude.{ℕ, Bool, true, false, List, Option, Some, None, if◌then◌else◌}
use Rattle.net_base.specs.declared.reply.Reply.{Reply}
use Rattle.net_base.specs.Steps.{is_accepted}
use Rattle.net_import.specs.declared.talk.Talk.{Talk}
use Rattle.net_import.specs.declared.talk.TalkPhase.{TalkPhase}
use Rattle.net_import.specs.declared.talk.TalkPhase.TheVariants as phase
use Rattle.net_base.specs.declared.request.Request.{Request}
use Rattle.net_base.specs.declared.request.Request.TheVariants as request

abbrev pub begun : List ℕ → List ℕ → Talk
begun call message = record { call = call; message = message; phase = phase.Write }

abbrev pub asks_by : TalkPhase → List ℕ → List ℕ → Option Request
asks_by phase.Write call message = Some (request.Write call message)
asks_by phase.Read call message = Some (request.Read call 8192)
asks_by phase.Over call message = None

-- its next request
abbrev pub asks : Talk → Option Request
asks t = asks_by t.phase t.call t.message

abbrev pub is_writing : TalkPhase → Bool
is_writing phase.Write = true
is_writing _ = false

abbrev pub is_reading : TalkPhase → Bool
is_reading phase.Read = true
is_reading _ = false

abbrev pub phase_after : TalkPhase → Reply → TalkPhase
phase_after phase.Write r = if is_accepted r then phase.Read else phase.Over
phase_after _ r = phase.Over

-- after a reply, whatever it says
abbrev pub after : Talk → Reply → Talk
after t r = record t { phase = phase_after t.phase r }

-- after a reply, where another message follows it or none
abbrev pub moves_talk : Talk → Option (List ℕ) → Reply → Talk
moves_talk t (Some message) r = begun t.call message
moves_talk t None r = after t r

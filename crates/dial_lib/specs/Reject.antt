-- A reject: its requests, its phases, and the play that it stands for.
use Rattle.std.specs.Prelude.{◌≡◌, ℕ, List, Option, Some, None, codes, if◌then◌else◌}
use Rattle.net_base.specs.declared.event.Event.TheVariants as event
use Rattle.net_base.specs.declared.reply.Reply.{Reply}
use Rattle.net_base.specs.declared.world.Step.{Step}
use Rattle.net_base.specs.declared.world.Step.TheVariants as step
use Rattle.net_base.specs.Steps.{Names, Fid, Play, Ends, fid_of, conversation_of, ends_with, unbind, is_accepted, play_of}
use Rattle.dial_lib.specs.declared.reject.Reject.{Reject}
use Rattle.dial_lib.specs.declared.reject.RejectPhase.{RejectPhase}
use Rattle.dial_lib.specs.declared.reject.RejectPhase.TheVariants as phase
use Rattle.net_base.specs.declared.request.Request.{Request}
use Rattle.net_base.specs.declared.request.Request.TheVariants as request

abbrev pub asks_by : RejectPhase → List ℕ → Option Request
asks_by phase.Write called = Some (request.Write called (codes "hangup"))
asks_by phase.Close called = Some (request.Close called)
asks_by phase.Through called = None

-- the next request under these names
abbrev pub asks : Reject → Names → Option Request
asks t names = asks_by t.phase t.name

-- a refused hangup ends the step
abbrev pub phase_after : RejectPhase → Reply → RejectPhase
phase_after phase.Write r = if is_accepted r then phase.Close else phase.Through
phase_after phase.Close r = phase.Through
phase_after phase.Through r = phase.Through

-- the reject after a reply
abbrev pub after : Reject → Reply → Reject
after t r = record t { phase = phase_after t.phase r }

-- the file is closed, with which the step is finished
abbrev pub closing : ℕ → Names → List ℕ → Fid → Play
closing h names called f = ends_with (conversation_of h f) (event.Close f.generation) (unbind called names)

pub data Stands (h : ℕ) (names : Names) (called : List ℕ) : RejectPhase → Play → Type 0 where
  IsWrite : Stands h names called phase.Write (play_of h names (step.Reject called))
  IsClose : (f : Fid) → fid_of called names ≡ Some f → Stands h names called phase.Close (closing h names called f)
  IsThrough : Stands h names called phase.Through (Ends names)

-- the play that it stands for
abbrev pub StandsFor : ℕ → Names → Reject → Play → Type 0
StandsFor h names t p = Stands h names t.name t.phase p

-- The beginning.

-- a reject that has recorded nothing yet
abbrev pub begun : List ℕ → Reject
begun called = record { name = called; phase = phase.Write }

-- on every host and under all names it stands for the step's play
abbrev pub Begins : Reject → Step → Type 0
Begins t s = (h : ℕ) (names : Names) → StandsFor h names t (play_of h names s)

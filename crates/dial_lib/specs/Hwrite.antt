-- An hwrite: its requests, its phases, and the play that it stands for.
use Rattle.std.specs.Prelude.{◌≡◌, ℕ, List, Option, Some, None, if◌then◌else◌}
use Rattle.net_base.specs.declared.event.Event.TheVariants as event
use Rattle.net_base.specs.declared.reply.Reply.{Reply}
use Rattle.net_base.specs.declared.world.Step.{Step}
use Rattle.net_base.specs.declared.world.Step.TheVariants as step
use Rattle.net_base.specs.DatagramHeaders.{text_behind}
use Rattle.net_base.specs.Steps.{Names, Fid, Play, Asks, Ends, fid_of, unbind, conversation_of, data_name, call_name, closes_name, is_answer, open_call, play_of}
use Rattle.dial_lib.specs.declared.hwrite.Hwrite.{Hwrite}
use Rattle.dial_lib.specs.declared.hwrite.HwritePhase.{HwritePhase}
use Rattle.dial_lib.specs.declared.hwrite.HwritePhase.TheVariants as phase
use Rattle.net_base.specs.declared.request.Request.{Request}
use Rattle.net_base.specs.declared.request.Request.TheVariants as request
use Rattle.script_task.specs.Fitting.{is_unopened}

abbrev pub hwrites_by : List ℕ → Names → Option Fid → Request
hwrites_by bytes names None = request.Unbound data_name
hwrites_by bytes names (Some f) = if is_answer bytes names.heard then request.Write data_name (text_behind bytes) else request.Misuse data_name

-- the text is written, where the call is open and the headers are its own
abbrev pub writes_so : List ℕ → List ℕ → Names → Request
writes_so called bytes names = hwrites_by bytes names (open_call called names)

abbrev pub writes_datagram : Hwrite → Names → Request
writes_datagram t names = writes_so t.name t.bytes names

abbrev pub asks_by : HwritePhase → List ℕ → List ℕ → Names → Option Request
asks_by phase.Write called bytes names = Some (writes_so called bytes names)
asks_by phase.LeaveData called bytes names = Some (request.Close data_name)
asks_by phase.LeaveCall called bytes names = Some (request.Close call_name)
asks_by phase.Through called bytes names = None

-- the next request under these names
abbrev pub asks : Hwrite → Names → Option Request
asks t names = asks_by t.phase t.name t.bytes names

-- where the call is open it is closed, whatever the replies
abbrev pub phase_after : HwritePhase → Reply → HwritePhase
phase_after phase.Write r = if is_unopened r then phase.Through else phase.LeaveData
phase_after phase.LeaveData r = phase.LeaveCall
phase_after phase.LeaveCall r = phase.Through
phase_after phase.Through r = phase.Through

-- the task after a reply
abbrev pub after : Hwrite → Reply → Hwrite
after t r = record t { phase = phase_after t.phase r }

-- the call's data file is closed, and then its ctl file
abbrev pub leaving : ℕ → Names → Fid → Play
leaving h names f = Asks (conversation_of h f) (event.Close f.generation) (λ (r : Reply). closes_name h call_name (unbind data_name names))

pub data Stands (h : ℕ) (called bytes : List ℕ) : Names → HwritePhase → Play → Type 0 where
  IsWrite : (names : Names) → Stands h called bytes names phase.Write (play_of h names (step.Hwrite called bytes))
  IsLeaveData : (names : Names) (f : Fid) → fid_of data_name names ≡ Some f → Stands h called bytes names phase.LeaveData (leaving h names f)
  IsLeaveCall : (names : Names) → Stands h called bytes names phase.LeaveCall (closes_name h call_name names)
  IsThrough : (names : Names) → Stands h called bytes names phase.Through (Ends names)

abbrev pub StandsFor : ℕ → Names → Hwrite → Play → Type 0
StandsFor h names t p = Stands h t.name t.bytes names t.phase p

-- an hwrite that has recorded nothing yet
abbrev pub begun : List ℕ → List ℕ → Hwrite
begun called bytes = record { name = called; bytes = bytes; phase = phase.Write }

-- on every host and under all names it stands for the step's play
abbrev pub Begins : Hwrite → Step → Type 0
Begins t s = (h : ℕ) (names : Names) → StandsFor h names t (play_of h names s)

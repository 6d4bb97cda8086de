-- A step that writes a text.
use Rattle.std.specs.Prelude.{◌≡◌, ℕ, List, Option, Some, None, if◌then◌else◌}
use Rattle.net_base.specs.declared.event.Event.TheVariants as event
use Rattle.net_base.specs.declared.reply.Reply.{Reply}
use Rattle.net_base.specs.Steps.{Names, Fid, Play, Asks, Ends, fid_of, conversation_of, if_accepted}
use Rattle.dial_lib.specs.declared.write_text.WritePhase.{WritePhase}
use Rattle.dial_lib.specs.declared.write_text.WritePhase.TheVariants as phase
use Rattle.dial_lib.specs.declared.write_text.WriteText.{WriteText}
use Rattle.net_base.specs.declared.request.Request.{Request}
use Rattle.net_base.specs.declared.request.Request.TheVariants as request
use Rattle.script_task.specs.Fitting.{is_granted}
use Rattle.net_base.specs.Requests.{request_play}

abbrev pub asks_by : WritePhase → List ℕ → List ℕ → Option Request
asks_by phase.Write called text = Some (request.Write called text)
asks_by phase.Wait called text = Some (request.Wait called)
asks_by phase.Through called text = None

-- the next request under these names
abbrev pub asks : WriteText → Names → Option Request
asks t names = asks_by t.phase t.name t.text

-- only a text that connects is granted a pair
abbrev pub phase_after : WritePhase → Reply → WritePhase
phase_after phase.Write r = if is_granted r then phase.Wait else phase.Through
phase_after phase.Wait r = phase.Through
phase_after phase.Through r = phase.Through

-- the step after a reply
abbrev pub after : WriteText → Reply → WriteText
after t r = record t { phase = phase_after t.phase r }

pub data Stands (h : ℕ) (names : Names) (called text : List ℕ) : WritePhase → Play → Type 0 where
  IsWrite : Stands h names called text phase.Write (request_play h names (request.Write called text))
  IsWait : (f : Fid) → fid_of called names ≡ Some f
      → Stands h names called text phase.Wait (Asks (conversation_of h f) (event.Await f.generation) (λ (r : Reply). if_accepted r (Ends names) (Ends names)))
  IsThrough : Stands h names called text phase.Through (Ends names)

-- the play that it stands for
abbrev pub StandsFor : ℕ → Names → WriteText → Play → Type 0
StandsFor h names t p = Stands h names t.name t.text t.phase p

-- The events of what scripts ask for, by what their names are bound to.
use Rattle.std.specs.Prelude.{ℕ, List, Option, Some, None, Result, Ok, Err, if◌then◌else◌}
use Rattle.net_base.specs.declared.actor.ActorName.{ActorName}
use Rattle.net_base.specs.declared.actor.ActorName.TheVariants as name
use Rattle.net_base.specs.declared.event.Event.{Event}
use Rattle.net_base.specs.declared.event.Event.TheVariants as event
use Rattle.net_base.specs.declared.names.Ctl.{Ctl}
use Rattle.net_base.specs.declared.names.Ctl.TheVariants as ctl
use Rattle.net_base.specs.declared.names.FileName.{FileName}
use Rattle.net_base.specs.declared.names.FileName.TheVariants as file
use Rattle.net_base.specs.declared.names.Mode.{Mode}
use Rattle.net_base.specs.ControlWords as control
use Rattle.net_base.specs.Paths as paths
use Rattle.net_base.specs.Steps as steps
use Rattle.net_base.specs.Steps.{Ask, Fid, Names}

abbrev pub asks : ActorName → Event → Ask
asks actor event = record { actor = actor; event = event }

abbrev pub at_desk : ℕ → Event → Ask
at_desk h e = asks (name.Desk h) e

abbrev pub at_file : ℕ → Fid → Event → Ask
at_file h f e = asks (steps.conversation_of h f) e

abbrev pub at_directory : ℕ → Fid → Event → Ask
at_directory h f e = asks (name.Dir h f.proto) e

abbrev pub opens_path : ℕ → Names → List ℕ → List ℕ → Mode → Ask
opens_path h names called path m =
    if steps.is_bound names called
    then at_desk h (event.Use called)
    else asks (steps.open_actor h (steps.openable (paths.walk path) m)) (steps.open_event path m (steps.openable (paths.walk path) m))

abbrev pub ls : ℕ → List ℕ → Ask
ls h path = asks (steps.ls_actor h (paths.walk path)) (steps.ls_event path (paths.walk path))

abbrev pub close : ℕ → List ℕ → Option Fid → Ask
close h called None = at_desk h (event.Use called)
close h called (Some f) = at_file h f (event.Close f.generation)

abbrev pub wait : ℕ → List ℕ → Option Fid → Ask
wait h called None = at_desk h (event.Use called)
wait h called (Some f) = at_file h f (event.Await f.generation)

abbrev pub read_ask : ℕ → List ℕ → ℕ → Option Fid → Ask
read_ask h called count None = at_desk h (event.Use called)
read_ask h called count (Some f) = if paths.mode_reads f.mode then at_file h f (steps.read_event f count f.file) else at_desk h (event.Misuse called)

-- the event of a control
abbrev pub controlled : ℕ → Fid → Ctl → Ask
controlled h f (ctl.Connect remote lport) = at_directory h f (event.Grant f.slot f.generation remote lport)
controlled h f (ctl.Announce ip port) = at_directory h f (event.Announce f.slot f.generation ip port)
controlled h f (ctl.Bind port) = at_directory h f (event.Bind f.slot f.generation port)
controlled h f ctl.Hangup = at_file h f (event.Hangup f.generation)
controlled h f (ctl.Ttl n) = at_file h f (event.Ttl f.generation n)
controlled h f (ctl.Tos n) = at_file h f (event.Tos f.generation n)

abbrev pub controls_by : ℕ → Fid → List ℕ → Result Ctl ℕ → Ask
controls_by h f text (Ok word) = controlled h f word
controls_by h f text (Err fault) = at_file h f (event.Ctl f.generation text)

abbrev pub control_ask : ℕ → Fid → List ℕ → Ask
control_ask h f text = controls_by h f text (control.read text)

abbrev pub put_ask : ℕ → Fid → List ℕ → FileName → Ask
put_ask h f text file.Data = at_file h f (event.Write f.generation text)
put_ask h f text _ = control_ask h f text

abbrev pub write : ℕ → List ℕ → List ℕ → Option Fid → Ask
write h called text None = at_desk h (event.Use called)
write h called text (Some f) = if paths.mode_writes f.mode then put_ask h f text f.file else at_desk h (event.Misuse called)

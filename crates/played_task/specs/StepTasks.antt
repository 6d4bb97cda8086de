-- The task of a step: what it begins with, its requests, what a reply makes of it, and the plays that it stands for.
use Rattle.std.specs.Prelude.{ℕ, Bool, true, false, List, [], ◌∷◌, Option, Some, None, find, is_none, length, nat_le, not, codes, unwrap_or, if◌then◌else◌}
use Rattle.net_base.specs.declared.left.Left.{Left}
use Rattle.net_base.specs.declared.names.FileName.TheVariants as file
use Rattle.net_base.specs.declared.reply.Reply.{Reply}
use Rattle.net_base.specs.declared.world.Step.{Step}
use Rattle.net_base.specs.declared.world.Step.TheVariants as step
use Rattle.net_base.specs.Paths.{walk}
use Rattle.net_base.specs.Exports.{is_dotted}
use Rattle.net_base.specs.Imports.{longest_text}
use Rattle.net_base.specs.Remotes.{is_remote, is_remote_path}
use Rattle.net_base.specs.Scripts.{new_names, step_play}
use Rattle.net_base.specs.Steps.{Names, Play, default_mode, no_names}
use Rattle.played_task.specs.declared.step.StepTask.{StepTask}
use Rattle.played_task.specs.declared.step.StepTask.TheVariants as task
use Rattle.dial_lib.specs.declared.write_text.WritePhase.TheVariants as write_phase
use Rattle.dial_lib.specs.Announce as announce
use Rattle.dial_lib.specs.Beside as beside
use Rattle.dial_lib.specs.Dials as dial
use Rattle.dial_lib.specs.Dns as dns
use Rattle.dial_lib.specs.Hread as hread
use Rattle.dial_lib.specs.Hwrite as hwrite
use Rattle.dial_lib.specs.OneRequest as one_request
use Rattle.dial_lib.specs.Reject as reject
use Rattle.dial_lib.specs.Slots.{HaveSlots}
use Rattle.dial_lib.specs.WriteText as write_text
use Rattle.net_export.specs.Exporting as export
use Rattle.net_import.specs.Errands as errand
use Rattle.net_import.specs.Importing as import
use Rattle.net_import.specs.Ropening as ropen
use Rattle.net_base.specs.declared.request.Request.{Request}
use Rattle.net_base.specs.declared.request.Request.TheVariants as request

-- The beginning.

abbrev pub asks_once : Request → StepTask
asks_once q = task.OneRequest (record { request = q; is_through = false })

abbrev pub writes_text : List ℕ → List ℕ → StepTask
writes_text called text = task.WriteText (record { name = called; text = text; phase = write_phase.Write })

-- a path or a text that no world says asks for the name alone
abbrev pub or_unbound : List ℕ → Bool → StepTask → StepTask
or_unbound called false t = asks_once (request.Unbound called)
or_unbound called true t = t

-- the task of a step whose new names no remote file has
abbrev pub begun_own : Left → Step → StepTask
begun_own left (step.Open called path m) = asks_once (request.Open called path (unwrap_or m (default_mode (walk path))))
begun_own left (step.Read called count) = asks_once (request.Read called count)
begun_own left (step.Write called text) = writes_text called text
begun_own left (step.Writex called text) = writes_text called text
begun_own left (step.Close called) = asks_once (request.Close called)
begun_own left (step.Ls path) = asks_once (request.Ls path)
begun_own left (step.Cs query) = asks_once (request.Cs query)
begun_own left (step.Until moment) = asks_once (request.Until moment)
begun_own left step.Refresh = asks_once request.Refresh
begun_own left (step.Dial called address) = task.Dial (dial.begun called address)
begun_own left (step.Announce called address) = task.Announce (announce.begun called address)
begun_own left (step.Listen called from) = task.Beside (beside.begun file.Listen called from)
begun_own left (step.Accept called from) = task.Beside (beside.begun file.Data called from)
begun_own left (step.Reject called) = task.Reject (reject.begun called)
begun_own left (step.Hangup called) = writes_text called (codes "hangup")
begun_own left (step.Hread called count) = task.Hread (hread.begun called count)
begun_own left (step.Hwrite called bytes) = task.Hwrite (hwrite.begun called bytes)
begun_own left (step.Dns called times) = task.Dns (dns.begun called times)
-- imports
begun_own left (step.Export called) = or_unbound called (not (is_dotted called)) (task.Export (export.begun called))
begun_own left (step.Import call) = task.Import (import.begun call)
begun_own left (step.Ropen called call path m) = or_unbound called (is_remote_path path) (task.Ropen (ropen.begun called call path m left))
begun_own left (step.Rread called count) = task.Rread (errand.read_errand called count left)
begun_own left (step.Rwrite called text) = or_unbound called (nat_le (length text) longest_text) (task.Rwrite (errand.write_errand called text left))
begun_own left (step.Rclose called) = task.Rclose (record { name = called; errand = errand.close_errand called left })

abbrev pub begun_by : Left → Step → Option (List ℕ) → StepTask
begun_by left s None = begun_own left s
begun_by left s (Some called) = asks_once (request.Unbound called)

-- the task of a step, which has recorded nothing yet, where this is left by earlier steps
abbrev pub begun : Left → Step → StepTask
begun left s = begun_by left s (find (is_remote left) (new_names s))

-- Requests and replies.

-- the next request under these names
abbrev pub asks : StepTask → Names → Option Request
asks (task.OneRequest t) names = one_request.asks t names
asks (task.WriteText t) names = write_text.asks t names
asks (task.Dial t) names = dial.asks t names
asks (task.Announce t) names = announce.asks t names
asks (task.Beside t) names = beside.asks t names
asks (task.Reject t) names = reject.asks t names
asks (task.Hread t) names = hread.asks t names
asks (task.Hwrite t) names = hwrite.asks t names
asks (task.Dns t) names = dns.asks t names
-- imports
asks (task.Export t) names = export.asks t names
asks (task.Import t) names = import.asks t names
asks (task.Ropen t) names = ropen.asks t names
asks (task.Rread t) names = errand.asks t names
asks (task.Rwrite t) names = errand.asks t names
asks (task.Rclose t) names = errand.asks t.errand names

-- the task after a reply
abbrev pub after : StepTask → Reply → StepTask
after (task.OneRequest t) r = task.OneRequest (one_request.after t r)
after (task.WriteText t) r = task.WriteText (write_text.after t r)
after (task.Dial t) r = task.Dial (dial.after t r)
after (task.Announce t) r = task.Announce (announce.after t r)
after (task.Beside t) r = task.Beside (beside.after t r)
after (task.Reject t) r = task.Reject (reject.after t r)
after (task.Hread t) r = task.Hread (hread.after t r)
after (task.Hwrite t) r = task.Hwrite (hwrite.after t r)
after (task.Dns t) r = task.Dns (dns.after t r)
-- imports
after (task.Export t) r = task.Export (export.after t r)
after (task.Import t) r = task.Import (import.after t r)
after (task.Ropen t) r = task.Ropen (ropen.after t r)
after (task.Rread t) r = task.Rread (errand.after t r)
after (task.Rwrite t) r = task.Rwrite (errand.after t r)
after (task.Rclose t) r = task.Rclose (record t { errand = errand.after t.errand r })

-- What it leaves for later steps.

abbrev pub leaves : StepTask → Left → Left
leaves (task.Ropen t) left = ropen.leaves t left
leaves (task.Rclose t) left = errand.leaves t left
leaves t left = left

-- where it is through; whether it is doesn't hang on the names
abbrev pub left_by : StepTask → Left → Left
left_by t left = if is_none (asks t (no_names [])) then leaves t left else left

-- The play that it stands for.

abbrev pub stands_by : ℕ → Names → StepTask → Play → Type 0
stands_by h names (task.OneRequest t) p = one_request.StandsFor h names t p
stands_by h names (task.WriteText t) p = write_text.StandsFor h names t p
stands_by h names (task.Dial t) p = dial.StandsFor h names t p
stands_by h names (task.Announce t) p = announce.StandsFor h names t p
stands_by h names (task.Beside t) p = beside.StandsFor h names t p
stands_by h names (task.Reject t) p = reject.StandsFor h names t p
stands_by h names (task.Hread t) p = hread.StandsFor h names t p
stands_by h names (task.Hwrite t) p = hwrite.StandsFor h names t p
stands_by h names (task.Dns t) p = dns.StandsFor h names t p
-- imports
stands_by h names (task.Export t) p = export.StandsFor h names t p
stands_by h names (task.Import t) p = import.StandsFor h names t p
stands_by h names (task.Ropen t) p = ropen.StandsFor h names t p
stands_by h names (task.Rread t) p = errand.StandsFor h names t p
stands_by h names (task.Rwrite t) p = errand.StandsFor h names t p
stands_by h names (task.Rclose t) p = errand.StandsFor h names t.errand p

-- under names that are bound to files of slots that there are
abbrev pub StandsFor : ℕ → Names → StepTask → Play → Type 0
StandsFor h names t p = HaveSlots names × stands_by h names t p

-- on every host it stands for the step's play, where this is left and each name is bound to a file of a slot that there is
abbrev pub Begins : StepTask → Left → Step → Type 0
Begins t left s = (h : ℕ) (names : Names) → HaveSlots names → StandsFor h names t (step_play h (record { names = names; left = left }) s)

-- What it leaves is what the replies that it was told leave.

abbrev pub after_all : StepTask → List Reply → StepTask
after_all t [] = t
after_all t (r ∷ rs) = after_all (after t r) rs

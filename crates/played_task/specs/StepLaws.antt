-- The task of a step stands for the step's play, and asks and moves as that does.
use Rattle.std.proofs.Common.{◌≡◌, ℕ, ◌-◌, Bool, true, false, List, [], Option, Some, None, if◌then◌else◌, unwrap_or, refl, sym, subst, ap, ◌∙◌}
use Rattle.std.specs.Prelude.{◌&&◌, find, is_none, length, nat_le, not}
use Rattle.std.proofs.lemmas.Bool.{true≢false}
use Rattle.net_base.specs.declared.left.Left.{Left}
use Rattle.net_base.specs.declared.left.Remote.{Remote}
use Rattle.net_base.specs.declared.names.FileName.{FileName}
use Rattle.net_base.specs.declared.ninep.Tmsg.{Tmsg}
use Rattle.net_base.specs.declared.names.Mode.{Mode}
use Rattle.net_base.specs.declared.reply.Reply.{Reply}
use Rattle.net_base.specs.declared.world.Step.{Step}
use Rattle.net_base.specs.declared.world.Step.TheVariants as step
use Rattle.net_base.specs.Paths.{walk, mode_reads}
use Rattle.net_base.specs.Steps.{Names, Fid, Play, Ends, fid_of, is_bound, bind, on_fid, opened_fid, openable, default_mode, no_names}
use Rattle.net_base.specs.Exports.{export_play, is_dotted}
use Rattle.net_base.specs.Imports.{clunk_message, longest_text, read_message, ropen_play, rwrite_play, write_message}
use Rattle.net_base.specs.Remotes.{is_remote, is_remote_path, remote_of}
use Rattle.net_base.specs.Scripts.{new_names, own_play, play_by, step_play}
use Rattle.played_task.specs.declared.step.StepTask.{StepTask}
use Rattle.played_task.specs.declared.step.StepTask.TheVariants as task
use Rattle.dial_lib.specs.declared.announce.AnnouncePhase.{AnnouncePhase}
use Rattle.dial_lib.specs.declared.announce.AnnouncePhase.TheVariants as announce_phase
use Rattle.dial_lib.specs.declared.call.CallPhase.{CallPhase}
use Rattle.dial_lib.specs.declared.call.CallPhase.TheVariants as call_phase
use Rattle.dial_lib.specs.declared.dial.DialPhase.{DialPhase}
use Rattle.dial_lib.specs.declared.dial.DialPhase.TheVariants as dial_phase
use Rattle.dial_lib.specs.declared.hwrite.HwritePhase.{HwritePhase}
use Rattle.dial_lib.specs.declared.hwrite.HwritePhase.TheVariants as hwrite_phase
use Rattle.dial_lib.specs.Announce as announce
use Rattle.dial_lib.specs.AnnounceLaws as announce_laws
use Rattle.dial_lib.specs.Beside as beside
use Rattle.dial_lib.specs.BesideLaws as beside_laws
use Rattle.dial_lib.specs.Calls as call
use Rattle.dial_lib.specs.Dials as dial
use Rattle.dial_lib.specs.DialTasks as dial_laws
use Rattle.dial_lib.specs.Dns as dns
use Rattle.dial_lib.specs.DnsLaws as dns_laws
use Rattle.dial_lib.specs.Hread as hread
use Rattle.dial_lib.specs.HreadLaws as hread_laws
use Rattle.dial_lib.specs.Hwrite as hwrite
use Rattle.dial_lib.specs.HwriteLaws as hwrite_laws
use Rattle.dial_lib.specs.Moves.{heads_slots}
use Rattle.dial_lib.specs.Names.{none_bound, unbind_free}
use Rattle.dial_lib.specs.OneRequest.{IsSingle, IsFresh}
use Rattle.dial_lib.specs.OneRequestLaws as one_request_laws
use Rattle.dial_lib.specs.Reject as reject
use Rattle.dial_lib.specs.RejectLaws as reject_laws
use Rattle.dial_lib.specs.Slots.{HaveSlots}
use Rattle.played_task.specs.StepTasks as spec
use Rattle.dial_lib.specs.WriteText as write_text
use Rattle.dial_lib.specs.WriteTextLaws as write_text_laws
use Rattle.net_export.specs.ExportLaws as export_laws
use Rattle.net_export.specs.Exporting as export
use Rattle.net_import.specs.declared.errand.Errand.{Errand}
use Rattle.net_import.specs.declared.errand.Errand.TheVariants as errands
use Rattle.net_import.specs.ErrandLaws as errand_laws
use Rattle.net_import.specs.Errands as errand
use Rattle.net_import.specs.ImportLaws as import_laws
use Rattle.net_import.specs.RopenLaws as ropen_laws
use Rattle.net_import.specs.Ropening as ropen
use Rattle.net_import.specs.Talks as talk
use Rattle.net_base.specs.declared.request.Request.{Request}
use Rattle.net_base.specs.declared.request.Request.TheVariants as request
use Rattle.net_base.specs.Requests.{settled, bound_after}
use Rattle.script_task.specs.Task.{Heads, AsksSo, MovesSo, follow, fits_play}

-- Steps of one request.

ends_bound : (called : List ℕ) (names : Names) (o : Option Fid) → on_fid o (Ends names) (λ (f : Fid). Ends (bind called f names)) ≡ Ends (bound_after called names o)
ends_bound called names None = refl
ends_bound called names (Some f) = refl

open_single : (h : ℕ) (names : Names) (called path : List ℕ) (m : Mode) (b : Bool) → is_bound names called ≡ b → IsSingle h names (request.Open called path m)
open_single h names called path m true is = rw is (_, refl, λ r. refl)
open_single h names called path m false is = rw is (_, refl, λ r. ends_bound called names (opened_fid m (openable (walk path) m) r))

read_mode : (h : ℕ) (names : Names) (called : List ℕ) (count : ℕ) (f : Fid) → fid_of called names ≡ Some f → (b : Bool) → mode_reads f.mode ≡ b → IsSingle h names (request.Read called count)
read_mode h names called count f is true may = rw (is, may) (_, refl, λ r. refl)
read_mode h names called count f is false may = rw (is, may) (_, refl, λ r. refl)

read_single : (h : ℕ) (names : Names) (called : List ℕ) (count : ℕ) (o : Option Fid) → fid_of called names ≡ o → IsSingle h names (request.Read called count)
read_single h names called count None is = rw is (_, refl, λ r. refl)
read_single h names called count (Some f) is = read_mode h names called count f is (mode_reads f.mode) refl

close_single : (h : ℕ) (names : Names) (called : List ℕ) (o : Option Fid) → fid_of called names ≡ o → IsSingle h names (request.Close called)
close_single h names called None is = rw is (_, refl, λ r. ap Ends (sym (unbind_free called names (none_bound called names is))))
close_single h names called (Some f) is = rw is (_, refl, λ r. refl)

-- The beginning.

begins_own : (h : ℕ) (names : Names) (left : Left) (s : Step) → HaveSlots names → find (is_remote left) (new_names s) ≡ None → spec.stands_by h names (spec.begun_own left s) (own_play h (record { names = names; left = left }) s)
begins_own h names left (step.Open called path m) slots free = IsFresh (open_single h names called path (unwrap_or m (default_mode (walk path))) (is_bound names called) refl)
begins_own h names left (step.Read called count) slots free = IsFresh (read_single h names called count (fid_of called names) refl)
begins_own h names left (step.Write called text) slots free = write_text.IsWrite
begins_own h names left (step.Writex called text) slots free = write_text.IsWrite
begins_own h names left (step.Close called) slots free = IsFresh (close_single h names called (fid_of called names) refl)
begins_own h names left (step.Ls path) slots free = IsFresh (_, refl, λ r. refl)
begins_own h names left (step.Cs query) slots free = IsFresh (_, refl, λ r. refl)
begins_own h names left (step.Until moment) slots free = IsFresh (_, refl, λ r. refl)
begins_own h names left step.Refresh slots free = IsFresh (_, refl, λ r. refl)
begins_own h names left (step.Dial called address) slots free = dial.IsFresh []
begins_own h names left (step.Announce called address) slots free = announce.IsFresh []
begins_own h names left (step.Listen called from) slots free = beside.IsFresh slots refl
begins_own h names left (step.Accept called from) slots free = beside.IsFresh slots refl
begins_own h names left (step.Reject called) slots free = reject.IsWrite
begins_own h names left (step.Hangup called) slots free = write_text.IsWrite
begins_own h names left (step.Hread called count) slots free = call.IsFresh names _ _ slots
begins_own h names left (step.Hwrite called bytes) slots free = hwrite.IsWrite names
begins_own h names left (step.Dns called times) slots free = dns_laws.begun_so h names called (times - 1) slots
-- imports
begins_own h names left (step.Export called) slots free = export_by (is_dotted called) refl
  where
    export_by : (b : Bool) → is_dotted called ≡ b → spec.stands_by h names (spec.or_unbound called (not b) (task.Export (export.begun called))) (export_play h called names)
    export_by true is = rw is (IsFresh (_, refl, λ r. refl))
    export_by false is = rw is (export_laws.begins h names called is)
begins_own h names left (step.Import call) slots free = refl
begins_own h names left (step.Ropen called call path m) slots free = ropen_by (is_remote_path path) refl
  where
    ropen_by : (b : Bool) → is_remote_path path ≡ b → spec.stands_by h names (spec.or_unbound called b (task.Ropen (ropen.begun called call path m left))) (ropen_play h left called call path m names)
    ropen_by true is = ropen_laws.begins h names called call path m left is (ropen_laws.free_in left called free)
    ropen_by false is = rw is (IsFresh (_, refl, λ r. refl))
begins_own h names left (step.Rread called count) slots free = errand_laws.rread_begins h names called count left
begins_own h names left (step.Rwrite called text) slots free = rwrite_by (nat_le (length text) longest_text) refl
  where
    rwrite_by : (b : Bool) → nat_le (length text) longest_text ≡ b
        → spec.stands_by h names (spec.or_unbound called b (task.Rwrite (errand.write_errand called text left))) (rwrite_play h left called text names)
    rwrite_by true is = errand_laws.rwrite_begins h names called text left is
    rwrite_by false is = rw is (IsFresh (_, refl, λ r. refl))
begins_own h names left (step.Rclose called) slots free = errand_laws.rclose_begins h names called left

begins_by : (h : ℕ) (names : Names) (left : Left) (s : Step) (o : Option (List ℕ)) → HaveSlots names → find (is_remote left) (new_names s) ≡ o
    → spec.stands_by h names (spec.begun_by left s o) (play_by h (record { names = names; left = left }) s o)
begins_by h names left s None slots free = begins_own h names left s slots free
begins_by h names left s (Some called) slots taken = IsFresh (_, refl, λ r. refl)

pub begins_so : (h : ℕ) (names : Names) (left : Left) (s : Step) → HaveSlots names → spec.stands_by h names (spec.begun left s) (step_play h (record { names = names; left = left }) s)
begins_so h names left s slots = begins_by h names left s (find (is_remote left) (new_names s)) slots refl

-- what has begun stands for its step
pub begun_stands : (t : StepTask) (left : Left) (s : Step) → t ≡ spec.begun left s → (h : ℕ) (names : Names) → HaveSlots names
    → spec.StandsFor h names t (step_play h (record { names = names; left = left }) s)
begun_stands t left s is h names slots =
    (slots, subst (λ (u : StepTask). spec.stands_by h names u (step_play h (record { names = names; left = left }) s)) (sym is) (begins_so h names left s slots))

-- the first request of an open whose name no remote file has
pub opens_first : (left : Left) (called path : List ℕ) (m : Option Mode) (q : Request) (names : Names) → is_remote left called ≡ false
    → spec.begun_own left (step.Open called path m) ≡ spec.asks_once q → Some q ≡ spec.asks (spec.begun left (step.Open called path m)) names
opens_first left called path m q names free is = by (is_remote left called) free
  where
    by : (b : Bool) → b ≡ false → Some q ≡ spec.asks (spec.begun_by left (step.Open called path m) (if b then Some called else None)) names
    by true taken = absurd (true≢false taken)
    by false free = ap (λ (t : StepTask). spec.asks t names) (sym is)

-- Requests and replies.

asks_by : (h : ℕ) (names : Names) (t : StepTask) (p : Play) → spec.stands_by h names t p → Heads h names (spec.asks t names) p
asks_by h names (task.OneRequest t) p stands = one_request_laws.asks_so h names t p stands
asks_by h names (task.WriteText t) p stands = write_text_laws.asks_so h names t p stands
asks_by h names (task.Dial t) p stands = dial_laws.asks_so h names t p stands
asks_by h names (task.Announce t) p stands = announce_laws.asks_so h names t p stands
asks_by h names (task.Beside t) p stands = beside_laws.asks_so h names t p stands
asks_by h names (task.Reject t) p stands = reject_laws.asks_so h names t p stands
asks_by h names (task.Hread t) p stands = hread_laws.asks_so h names t p stands
asks_by h names (task.Hwrite t) p stands = hwrite_laws.asks_so h names t p stands
asks_by h names (task.Dns t) p stands = dns_laws.asks_so h names t p stands
asks_by h names (task.Export t) p stands = export_laws.asks_so h names t p stands
asks_by h names (task.Import t) p stands = import_laws.asks_so h names t p stands
asks_by h names (task.Ropen t) p stands = ropen_laws.asks_so h names t p stands
asks_by h names (task.Rread t) p stands = errand_laws.asks_so h names t p stands
asks_by h names (task.Rwrite t) p stands = errand_laws.asks_so h names t p stands
asks_by h names (task.Rclose t) p stands = errand_laws.asks_so h names t.errand p stands

pub asks_so : AsksSo StepTask spec.asks spec.StandsFor
asks_so h names t p stands = asks_by h names t p stands.1

moves_by : (h : ℕ) (names : Names) (t : StepTask) (p : Play) (q : Request) (r : Reply) → spec.stands_by h names t p → spec.asks t names ≡ Some q → fits_play p r ≡ true
    → spec.stands_by h (settled names q r) (spec.after t r) (follow p r)
moves_by h names (task.OneRequest t) p q r stands asked fit = one_request_laws.moves_so h names t p q r stands asked fit
moves_by h names (task.WriteText t) p q r stands asked fit = write_text_laws.moves_so h names t p q r stands asked fit
moves_by h names (task.Dial t) p q r stands asked fit = dial_laws.moves_so h names t p q r stands asked fit
moves_by h names (task.Announce t) p q r stands asked fit = announce_laws.moves_so h names t p q r stands asked fit
moves_by h names (task.Beside t) p q r stands asked fit = beside_laws.moves_so h names t p q r stands asked fit
moves_by h names (task.Reject t) p q r stands asked fit = reject_laws.moves_so h names t p q r stands asked fit
moves_by h names (task.Hread t) p q r stands asked fit = hread_laws.moves_so h names t p q r stands asked fit
moves_by h names (task.Hwrite t) p q r stands asked fit = hwrite_laws.moves_so h names t p q r stands asked fit
moves_by h names (task.Dns t) p q r stands asked fit = dns_laws.moves_so h names t p q r stands asked fit
moves_by h names (task.Export t) p q r stands asked fit = export_laws.moves_so h names t p q r stands asked fit
moves_by h names (task.Import t) p q r stands asked fit = import_laws.moves_so h names t p q r stands asked fit
moves_by h names (task.Ropen t) p q r stands asked fit = ropen_laws.moves_so h names t p q r stands asked fit
moves_by h names (task.Rread t) p q r stands asked fit = errand_laws.moves_so h names t p q r stands asked fit
moves_by h names (task.Rwrite t) p q r stands asked fit = errand_laws.moves_so h names t p q r stands asked fit
moves_by h names (task.Rclose t) p q r stands asked fit = errand_laws.moves_so h names t.errand p q r stands asked fit

moves_slots : (h : ℕ) (names : Names) (t : StepTask) (p : Play) (q : Request) (r : Reply) → spec.StandsFor h names t p → spec.asks t names ≡ Some q → fits_play p r ≡ true → HaveSlots (settled names q r)
moves_slots h names t p q r stands asked fit = heads_slots h names q p r stands.0 (subst (λ (o : Option Request). Heads h names o p) asked (asks_by h names t p stands.1)) fit

pub moves_so : MovesSo StepTask spec.asks spec.after spec.StandsFor
moves_so h names t p q r stands asked fit = (moves_slots h names t p q r stands asked fit, moves_by h names t p q r stands.1 asked fit)

-- What is left.

-- a task that is neither of the two that leave something leaves nothing
leaves_none : (t : StepTask) (left : Left) → spec.leaves t left ≡ left → spec.left_by t left ≡ left
leaves_none t left same = by (is_none (spec.asks t (no_names [])))
  where
    by : (b : Bool) → (if b then spec.leaves t left else left) ≡ left
    by true = same
    by false = refl

-- a task that is through leaves what it leaves, and another one nothing
pub left_through : (t : StepTask) (through : Bool) (left : Left) → ((names : Names) → through ≡ is_none (spec.asks t names)) → through ≡ true
    → spec.leaves t left ≡ spec.left_by t left
left_through t through left is so = by (is_none (spec.asks t (no_names []))) (sym (is (no_names [])) ∙ so)
  where
    by : (b : Bool) → b ≡ true → spec.leaves t left ≡ (if b then spec.leaves t left else left)
    by true so = refl
    by false so = absurd (true≢false (sym so))

pub left_on : (t : StepTask) (through : Bool) (left : Left) → ((names : Names) → through ≡ is_none (spec.asks t names)) → through ≡ false → left ≡ spec.left_by t left
left_on t through left is so = by (is_none (spec.asks t (no_names []))) (sym (is (no_names [])) ∙ so)
  where
    by : (b : Bool) → b ≡ false → left ≡ (if b then spec.leaves t left else left)
    by true so = absurd (true≢false so)
    by false so = refl

-- .. and is of the same kind after a reply
pub leaves_nothing : (t : StepTask) (r : Reply) (left : Left) → ((u : StepTask) → u ≡ spec.after t r → spec.leaves u left ≡ left) → spec.left_by (spec.after t r) left ≡ left
leaves_nothing t r left same = leaves_none (spec.after t r) left (same (spec.after t r) refl)

-- Whether it is through.

unbound_asks : (called : List ℕ) (b : Bool) (t : StepTask) (names : Names) → is_none (spec.asks t names) ≡ false → is_none (spec.asks (spec.or_unbound called b t) names) ≡ false
unbound_asks called true t names is = is
unbound_asks called false t names is = refl

ropen_some : (o : Option Request) (b : Bool) (called : List ℕ) → is_none o ≡ false → is_none (ropen.asks_by o b called) ≡ false
ropen_some None b called is = is
ropen_some (Some q) true called is = refl
ropen_some (Some q) false called is = refl

errand_some : (called : List ℕ) (o : Option Remote) (message : ℕ → Tmsg) (names : Names) → is_none (errand.asks (errand.send_errand_by called o message) names) ≡ false
errand_some called None message names = refl
errand_some called (Some r) message names = refl

begun_own_asks : (left : Left) (s : Step) (names : Names) → is_none (spec.asks (spec.begun_own left s) names) ≡ false
begun_own_asks left (step.Open called path m) names = refl
begun_own_asks left (step.Read called count) names = refl
begun_own_asks left (step.Write called text) names = refl
begun_own_asks left (step.Writex called text) names = refl
begun_own_asks left (step.Close called) names = refl
begun_own_asks left (step.Ls path) names = refl
begun_own_asks left (step.Cs query) names = refl
begun_own_asks left (step.Until moment) names = refl
begun_own_asks left step.Refresh names = refl
begun_own_asks left (step.Dial called address) names = refl
begun_own_asks left (step.Announce called address) names = refl
begun_own_asks left (step.Listen called from) names = refl
begun_own_asks left (step.Accept called from) names = refl
begun_own_asks left (step.Reject called) names = refl
begun_own_asks left (step.Hangup called) names = refl
begun_own_asks left (step.Hread called count) names = refl
begun_own_asks left (step.Hwrite called bytes) names = refl
begun_own_asks left (step.Dns called times) names = refl
-- imports
begun_own_asks left (step.Export called) names = unbound_asks called (not (is_dotted called)) (task.Export (export.begun called)) names (export_laws.begun_asks called names)
begun_own_asks left (step.Import call) names = refl
begun_own_asks left (step.Ropen called call path m) names =
    unbound_asks called (is_remote_path path) (task.Ropen (ropen.begun called call path m left)) names
    (ropen_some (talk.asks (ropen.begun called call path m left).talk) (ropen.is_beginning (ropen.begun called call path m left) && ropen.is_name_taken (ropen.begun called call path m left) names) called refl)
begun_own_asks left (step.Rread called count) names = errand_some called (remote_of called left) (λ (fid : ℕ). read_message fid count) names
begun_own_asks left (step.Rwrite called text) names =
    unbound_asks called (nat_le (length text) longest_text) (task.Rwrite (errand.write_errand called text left)) names
    (errand_some called (remote_of called left) (λ (fid : ℕ). write_message fid text) names)
begun_own_asks left (step.Rclose called) names = errand_some called (remote_of called left) clunk_message names

begun_by_asks : (left : Left) (s : Step) (o : Option (List ℕ)) (names : Names) → is_none (spec.asks (spec.begun_by left s o) names) ≡ false
begun_by_asks left s None names = begun_own_asks left s names
begun_by_asks left s (Some called) names = refl

-- a step that has begun isn't through
pub begun_asks : (left : Left) (s : Step) (names : Names) → is_none (spec.asks (spec.begun left s) names) ≡ false
begun_asks left s names = begun_by_asks left s (find (is_remote left) (new_names s)) names

beside_alike : (to : FileName) (called from : List ℕ) (b : Bool) (m n : Names) → is_none (beside.asks_by to called from b m) ≡ is_none (beside.asks_by to called from b n)
beside_alike to called from true m n = refl
beside_alike to called from false m n = refl

announce_alike : (x : AnnouncePhase) (called address : List ℕ) (lines : List (List ℕ)) (m n : Names) → is_none (announce.asks_by x called address lines m) ≡ is_none (announce.asks_by x called address lines n)
announce_alike announce_phase.Fresh called address lines m n = refl
announce_alike announce_phase.Open called address lines m n = refl
announce_alike announce_phase.Write called address lines m n = refl
announce_alike announce_phase.Close called address lines m n = refl
announce_alike announce_phase.Through called address lines m n = refl

dial_alike : (x : DialPhase) (called address : List ℕ) (lines : List (List ℕ)) (m n : Names) → is_none (dial.asks_by x called address lines m) ≡ is_none (dial.asks_by x called address lines n)
dial_alike dial_phase.Fresh called address lines m n = refl
dial_alike dial_phase.Open called address lines m n = refl
dial_alike dial_phase.Write called address lines m n = refl
dial_alike dial_phase.Wait called address lines m n = refl
dial_alike dial_phase.Retry called address lines m n = refl
dial_alike dial_phase.Data called address lines m n = refl
dial_alike dial_phase.Close called address lines m n = refl
dial_alike dial_phase.Through called address lines m n = refl

ropen_alike : (o : Option Request) (a b : Bool) (called : List ℕ) → is_none (ropen.asks_by o a called) ≡ is_none (ropen.asks_by o b called)
ropen_alike None a b called = refl
ropen_alike (Some q) true true called = refl
ropen_alike (Some q) true false called = refl
ropen_alike (Some q) false true called = refl
ropen_alike (Some q) false false called = refl

errand_alike : (e : Errand) (m n : Names) → is_none (errand.asks e m) ≡ is_none (errand.asks e n)
errand_alike (errands.Unbound called true) m n = refl
errand_alike (errands.Unbound called false) m n = refl
errand_alike (errands.Talks t) m n = refl

-- so it is with a call
call_alike : (x : CallPhase) (called : List ℕ) (q : Option Request) (m n : Names) → is_none (call.asks_by x called q m) ≡ is_none (call.asks_by x called q n)
call_alike call_phase.Fresh called q m n = refl
call_alike call_phase.Data called q m n = refl
call_alike call_phase.Remote called q m n = refl
call_alike call_phase.TellRemote called q m n = refl
call_alike call_phase.CloseRemote called q m n = refl
call_alike call_phase.Local called q m n = refl
call_alike call_phase.TellLocal called q m n = refl
call_alike call_phase.CloseLocal called q m n = refl
call_alike call_phase.Read called q m n = refl
call_alike call_phase.Answer called q m n = refl
call_alike call_phase.LeaveData called q m n = refl
call_alike call_phase.LeaveCall called q m n = refl
call_alike call_phase.ShutRemote called q m n = refl
call_alike call_phase.ShutLocal called q m n = refl
call_alike call_phase.ShutData called q m n = refl
call_alike call_phase.ShutCall called q m n = refl
call_alike call_phase.Through called q m n = refl

hwrite_alike : (x : HwritePhase) (called bytes : List ℕ) (m n : Names) → is_none (hwrite.asks_by x called bytes m) ≡ is_none (hwrite.asks_by x called bytes n)
hwrite_alike hwrite_phase.Write called bytes m n = refl
hwrite_alike hwrite_phase.LeaveData called bytes m n = refl
hwrite_alike hwrite_phase.LeaveCall called bytes m n = refl
hwrite_alike hwrite_phase.Through called bytes m n = refl

dns_alike : (x : CallPhase) (called message : List ℕ) (m n : Names) → is_none (dns.asks_by x called message m) ≡ is_none (dns.asks_by x called message n)
dns_alike call_phase.Fresh called message m n = refl
dns_alike call_phase.Data called message m n = refl
dns_alike call_phase.Remote called message m n = refl
dns_alike call_phase.TellRemote called message m n = refl
dns_alike call_phase.CloseRemote called message m n = refl
dns_alike call_phase.Local called message m n = refl
dns_alike call_phase.TellLocal called message m n = refl
dns_alike call_phase.CloseLocal called message m n = refl
dns_alike call_phase.Read called message m n = refl
dns_alike call_phase.Answer called message m n = refl
dns_alike call_phase.LeaveData called message m n = refl
dns_alike call_phase.LeaveCall called message m n = refl
dns_alike call_phase.ShutRemote called message m n = refl
dns_alike call_phase.ShutLocal called message m n = refl
dns_alike call_phase.ShutData called message m n = refl
dns_alike call_phase.ShutCall called message m n = refl
dns_alike call_phase.Through called message m n = refl

-- whether a step is through doesn't hang on the names
pub asks_alike : (t : StepTask) (m n : Names) → is_none (spec.asks t m) ≡ is_none (spec.asks t n)
asks_alike (task.OneRequest t) m n = refl
asks_alike (task.WriteText t) m n = refl
asks_alike (task.Reject t) m n = refl
asks_alike (task.Beside t) m n = beside_alike t.file t.name t.from t.is_through m n
asks_alike (task.Announce t) m n = announce_alike t.phase t.name t.address t.lines m n
asks_alike (task.Dial t) m n = dial_alike t.phase t.called t.address t.lines m n
asks_alike (task.Hread t) m n = call_alike t.phase t.name (Some (hread.reads_datagram t)) m n
asks_alike (task.Hwrite t) m n = hwrite_alike t.phase t.name t.bytes m n
asks_alike (task.Dns t) m n = dns_alike t.phase t.name t.message m n
-- imports
asks_alike (task.Export t) m n = refl
asks_alike (task.Import t) m n = refl
asks_alike (task.Ropen t) m n = ropen_alike (talk.asks t.talk) (ropen.is_beginning t && ropen.is_name_taken t m) (ropen.is_beginning t && ropen.is_name_taken t n) t.name
asks_alike (task.Rread t) m n = errand_alike t m n
asks_alike (task.Rwrite t) m n = errand_alike t m n
asks_alike (task.Rclose t) m n = errand_alike t.errand m n

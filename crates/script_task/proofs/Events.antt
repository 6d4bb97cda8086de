-- The event of a request is that of its play.
use Rattle.std.proofs.Common.{◌≡◌, ℕ, Bool, true, false, List, Option, Some, None, Result, Ok, Err, refl, if◌then◌else◌}
use Rattle.net_base.specs.declared.event.Event.TheVariants as event
use Rattle.net_base.specs.declared.names.Ctl.{Ctl}
use Rattle.net_base.specs.declared.names.Ctl.TheVariants as ctl
use Rattle.net_base.specs.declared.names.FileName.{FileName}
use Rattle.net_base.specs.declared.names.FileName.TheVariants as file
use Rattle.net_base.specs.declared.names.Mode.{Mode}
use Rattle.net_base.specs.ControlWords as control
use Rattle.net_base.specs.declared.headers.Heard.{Heard}
use Rattle.net_base.specs.Paths.{walk, mode_reads, mode_writes}
use Rattle.net_base.specs.Steps as steps
use Rattle.net_base.specs.Steps.{Names, Fid, Play, Ends, fid_of, is_bound, puts_text, uses, misuses, on_fid}
use Rattle.net_base.specs.declared.request.Request.TheVariants as request
use Rattle.net_base.specs.Asks as asked
use Rattle.net_base.specs.Requests.{head, planned}

pub open_is : (h : ℕ) (names : Names) (called path : List ℕ) (m : Mode) → planned h names (request.Open called path m) ≡ Some (asked.opens_path h names called path m)
open_is h names called path m = by (is_bound names called)
  where
    by : (b : Bool) → head (if b then uses h called names else steps.opens h path m (Ends names) (λ (f : Fid). Ends (steps.bind called f names)))
        ≡ Some (if b then asked.at_desk h (event.Use called) else asked.asks (steps.open_actor h (steps.openable (walk path) m)) (steps.open_event path m (steps.openable (walk path) m)))
    by true = refl
    by false = refl

controls_are : (h : ℕ) (f : Fid) (text : List ℕ) (said : Result Ctl ℕ) (refused next : Play) → head (steps.controls h f text said refused next) ≡ Some (asked.controls_by h f text said)
controls_are h f text (Ok (ctl.Connect remote lport)) refused next = refl
controls_are h f text (Ok (ctl.Announce ip port)) refused next = refl
controls_are h f text (Ok (ctl.Bind port)) refused next = refl
controls_are h f text (Ok ctl.Hangup) refused next = refl
controls_are h f text (Ok (ctl.Ttl n)) refused next = refl
controls_are h f text (Ok (ctl.Tos n)) refused next = refl
controls_are h f text (Err fault) refused next = refl

puts_are : (h : ℕ) (f : Fid) (to : FileName) (text : List ℕ) (refused next : Play) → head (puts_text h f to text refused next) ≡ Some (asked.put_ask h f text to)
puts_are h f file.Data text refused next = refl
puts_are h f file.Ctl text refused next = controls_are h f text (control.read text) refused next
puts_are h f file.Err text refused next = controls_are h f text (control.read text) refused next
puts_are h f file.Listen text refused next = controls_are h f text (control.read text) refused next
puts_are h f file.Local text refused next = controls_are h f text (control.read text) refused next
puts_are h f file.Remote text refused next = controls_are h f text (control.read text) refused next
puts_are h f file.Status text refused next = controls_are h f text (control.read text) refused next

pub write_is : (h : ℕ) (names : Names) (called text : List ℕ) → planned h names (request.Write called text) ≡ Some (asked.write h called text (fid_of called names))
write_is h names called text = found (fid_of called names)
  where
    put : Fid → Play
    put f = puts_text h f f.file text (Ends names) (Ends names)

    open_so : (f : Fid) (b : Bool) → head (if b then put f else misuses h called names) ≡ Some (if b then asked.put_ask h f text f.file else asked.at_desk h (event.Misuse called))
    open_so f true = puts_are h f f.file text (Ends names) (Ends names)
    open_so f false = refl

    found : (o : Option Fid) → head (on_fid o (uses h called names) (λ (f : Fid). if mode_writes f.mode then put f else misuses h called names)) ≡ Some (asked.write h called text o)
    found None = refl
    found (Some f) = open_so f (mode_writes f.mode)

pub hear_is : (h : ℕ) (names : Names) (called : List ℕ) (count : ℕ) (heard : Heard) → planned h names (request.Hear called count heard) ≡ Some (asked.read_ask h called count (fid_of called names))
hear_is h names called count heard = found (fid_of called names)
  where
    asks : Fid → Play
    asks f = steps.ends_with (steps.conversation_of h f) (steps.read_event f count f.file) (steps.hearing heard names)

    open_so : (f : Fid) (b : Bool) → head (if b then asks f else misuses h called names) ≡ Some (if b then asked.at_file h f (steps.read_event f count f.file) else asked.at_desk h (event.Misuse called))
    open_so f true = refl
    open_so f false = refl

    found : (o : Option Fid) → head (on_fid o (uses h called names) (λ (f : Fid). if mode_reads f.mode then asks f else misuses h called names)) ≡ Some (asked.read_ask h called count o)
    found None = refl
    found (Some f) = open_so f (mode_reads f.mode)

-- what a read of a file asks
pub read_is : (h : ℕ) (names : Names) (called : List ℕ) (count : ℕ) → planned h names (request.Read called count) ≡ Some (asked.read_ask h called count (fid_of called names))
read_is h names called count = found (fid_of called names)
  where
    open_so : (f : Fid) (b : Bool) → head (if b then steps.ends_with (steps.conversation_of h f) (steps.read_event f count f.file) names else misuses h called names)
        ≡ Some (if b then asked.at_file h f (steps.read_event f count f.file) else asked.at_desk h (event.Misuse called))
    open_so f true = refl
    open_so f false = refl

    found : (o : Option Fid) → head (on_fid o (uses h called names) (λ (f : Fid). if mode_reads f.mode then steps.ends_with (steps.conversation_of h f) (steps.read_event f count f.file) names else misuses h called names)) ≡ Some (asked.read_ask h called count o)
    found None = refl
    found (Some f) = open_so f (mode_reads f.mode)

pub close_is : (h : ℕ) (names : Names) (called : List ℕ) → planned h names (request.Close called) ≡ Some (asked.close h called (fid_of called names))
close_is h names called = found (fid_of called names)
  where
    found : (o : Option Fid)
        → head (on_fid o (uses h called names) (λ (f : Fid). steps.ends_with (steps.conversation_of h f) (event.Close f.generation) (steps.unbind called names))) ≡ Some (asked.close h called o)
    found None = refl
    found (Some f) = refl

-- The importing steps of a script read whole messages.
use Rattle.std.proofs.Common.{◌≡◌, ℕ, Bool, true, false, ◌&&◌, not, List, Option, Some, None, Result, Ok, Err, arith, refl}
use Rattle.std.specs.Prelude.{find, length, nat_le, if◌then◌else◌}
use Rattle.std.proofs.lemmas.Bool.{false≢true}
use Rattle.net_base.specs.declared.event.Event.TheVariants as event
use Rattle.net_base.specs.declared.left.Remote.{Remote}
use Rattle.net_base.specs.declared.names.Ctl.{Ctl}
use Rattle.net_base.specs.declared.names.Ctl.TheVariants as ctl
use Rattle.net_base.specs.declared.names.FileName.{FileName}
use Rattle.net_base.specs.declared.names.FileName.TheVariants as file
use Rattle.net_base.specs.declared.names.Mode.{Mode}
use Rattle.net_base.specs.declared.ninep.Tmsg.{Tmsg}
use Rattle.net_base.specs.declared.world.Step.{Step}
use Rattle.net_base.specs.declared.world.Step.TheVariants as step
use Rattle.net_base.specs.Asks as asked
use Rattle.net_base.specs.ControlWords as control
use Rattle.net_base.specs.Exports.{own_of}
use Rattle.net_base.specs.Imports.{clunk_message, longest_text, read_message, sends_by, write_message}
use Rattle.net_base.specs.Paths.{mode_reads, mode_writes}
use Rattle.net_base.specs.Remotes.{free_fid, is_remote, is_remote_path, remote_of}
use Rattle.net_base.specs.Scripts.{Kept, new_names, own_play, play_by, step_play}
use Rattle.net_base.specs.Steps.{Names, Ask, Fid, Play, fid_of, is_bound, read_event, uses}
use Rattle.net_base.specs.Written.{Conversation}
use Rattle.prefix_law.specs.ImportLaw.{own_of_data}
use Rattle.prefix_law.specs.LongReads.{IsLong, ReadsLong, ReadsWhole}
use Rattle.prefix_law.specs.Scripted.{is_importing}
use Rattle.prefix_law.proofs.Importing.{imports_whole, opens_remote_whole, sends_once_whole}

abbrev AskLong : Ask → Type 0
AskLong a = ReadsLong a.event

either : (b : Bool) (x y : Ask) → AskLong x → AskLong y → AskLong (if b then x else y)
either true x y f g = f
either false x y f g = g

read_long : (f : Fid) (k : FileName) → ReadsLong (read_event f 8192 k)
read_long f file.Data = omega arith
read_long f _ = tt

reads_long : (h : ℕ) (called : List ℕ) (o : Option Fid) → AskLong (asked.read_ask h called 8192 o)
reads_long h called None = tt
reads_long h called (Some f) = either (mode_reads f.mode) (asked.at_file h f (read_event f 8192 f.file)) (asked.at_desk h (event.Misuse called)) (read_long f f.file) tt

control_long : (h : ℕ) (f : Fid) (text : List ℕ) (said : Result Ctl ℕ) → AskLong (asked.controls_by h f text said)
control_long h f text (Ok (ctl.Connect remote lport)) = tt
control_long h f text (Ok (ctl.Announce ip port)) = tt
control_long h f text (Ok (ctl.Bind port)) = tt
control_long h f text (Ok ctl.Hangup) = tt
control_long h f text (Ok (ctl.Ttl n)) = tt
control_long h f text (Ok (ctl.Tos n)) = tt
control_long h f text (Err fault) = tt

put_long : (h : ℕ) (f : Fid) (text : List ℕ) (k : FileName) → AskLong (asked.put_ask h f text k)
put_long h f text file.Data = tt
put_long h f text file.Ctl = control_long h f text (control.read text)
put_long h f text file.Err = control_long h f text (control.read text)
put_long h f text file.Listen = control_long h f text (control.read text)
put_long h f text file.Local = control_long h f text (control.read text)
put_long h f text file.Remote = control_long h f text (control.read text)
put_long h f text file.Status = control_long h f text (control.read text)

writes_long : (h : ℕ) (called text : List ℕ) (o : Option Fid) → AskLong (asked.write h called text o)
writes_long h called text None = tt
writes_long h called text (Some f) = either (mode_writes f.mode) (asked.put_ask h f text f.file) (asked.at_desk h (event.Misuse called)) (put_long h f text f.file) tt

own_long : (h : ℕ) (called : List ℕ) (names : Names) → IsLong (own_of h called names)
own_long h called names = (reads_long h called (fid_of called names), λ text. writes_long h called text (fid_of called names))

uses_whole : (h : ℕ) (called : List ℕ) (names : Names) → ReadsWhole (uses h called names)
uses_whole h called names = (tt, λ r. tt)

tested : (b : Bool) (p q : Play) → ReadsWhole p → ReadsWhole q → ReadsWhole (if b then p else q)
tested true p q one two = one
tested false p q one two = two

remote : (h : ℕ) (called : List ℕ) (names : Names) (o : Option Remote) (message : ℕ → Tmsg) → ReadsWhole (sends_by h called names o message)
remote h called names None message = uses_whole h called names
remote h called names (Some r) message = sends_once_whole (own_of h r.call names) (own_long h r.call names) (message r.fid) names

own_whole : (h : ℕ) (k : Kept) (s : Step) → is_importing s ≡ true → ReadsWhole (own_play h k s)
own_whole h k (step.Import call) is = imports_whole (own_of h call k.names) (own_long h call k.names) k.names
own_whole h k (step.Ropen called call path m) is =
    tested (is_remote_path path && not (is_bound k.names call && is_bound k.names called)) _ (uses h called k.names)
    (opens_remote_whole (own_of h call k.names) (own_long h call k.names) (free_fid k.left call) path m k.names) (uses_whole h called k.names)
own_whole h k (step.Rread called count) is = remote h called k.names (remote_of called k.left) (λ (fid : ℕ). read_message fid count)
own_whole h k (step.Rwrite called text) is =
    tested (nat_le (length text) longest_text) _ (uses h called k.names) (remote h called k.names (remote_of called k.left) (λ (fid : ℕ). write_message fid text)) (uses_whole h called k.names)
own_whole h k (step.Rclose called) is = remote h called k.names (remote_of called k.left) clunk_message
own_whole h k _ is = absurd (false≢true is)

by_whole : (h : ℕ) (k : Kept) (s : Step) (o : Option (List ℕ)) → is_importing s ≡ true → ReadsWhole (play_by h k s o)
by_whole h k s None is = own_whole h k s is
by_whole h k s (Some called) is = uses_whole h called k.names

pub whole : (h : ℕ) (k : Kept) (s : Step) → is_importing s ≡ true → ReadsWhole (step_play h k s)
whole h k s is = by_whole h k s (find (is_remote k.left) (new_names s)) is

-- what is asked on a data file
pub of_data : (f : Conversation) (called : List ℕ) (m : Mode) (names : Names)
    → fid_of called names ≡ Some (record { proto = f.proto; slot = f.slot; generation = f.generation; file = file.Data; mode = m }) → own_of f.host called names ≡ own_of_data f called m
of_data f called m names is = rw is refl

-- The events that a session records: those of its steps, which are of five kinds.
use Rattle.std.proofs.Common.{◌≡◌, ℕ, Bool, true, false, cond, List, [], ◌∷◌, ◌++◌, Option, Some, None, Result, Ok, Err, refl, sym, subst}
use Rattle.std.specs.Prelude.{find, option_to_list}
use Rattle.net_base.specs.declared.actor.ActorName.{ActorName}
use Rattle.net_base.specs.declared.actor.ActorName.TheVariants as name
use Rattle.net_base.specs.declared.event.Event.{Event}
use Rattle.net_base.specs.declared.event.Event.TheVariants as event
use Rattle.net_base.specs.declared.names.Ctl.{Ctl}
use Rattle.net_base.specs.declared.names.Ctl.TheVariants as ctl
use Rattle.net_base.specs.declared.names.FileName.{FileName}
use Rattle.net_base.specs.declared.names.FileName.TheVariants as file
use Rattle.net_base.specs.declared.names.Mode.{Mode}
use Rattle.net_base.specs.declared.names.Node.{Node}
use Rattle.net_base.specs.declared.names.Node.TheVariants as node
use Rattle.net_base.specs.declared.reply.Reply.{Reply}
use Rattle.net_base.specs.declared.world.Step.{Step}
use Rattle.net_base.specs.declared.world.Step.TheVariants as step
use Rattle.net_base.specs.ControlWords as control
use Rattle.net_base.specs.Paths.{mode_reads, walk, mode_writes}
use Rattle.net_base.specs.Remotes.{is_remote}
use Rattle.net_base.specs.Scripts.{Kept, heard_replies, kept_after, new_names, own_play, play_by, position, step_play}
use Rattle.net_base.specs.Steps.{Asking, Asks, Ends, Fid, Finished, Names, Play, Position, Stand, bind, controls, conversation_of, fid_of, if_accepted, is_accepted, is_bound, misuses, on_fid, open_actor, open_event, openable, opened_fid, opens, play_of, position_by, puts_text, read_event, stands, unbind, uses}
use Rattle.history_laws.proofs.Shared.{Each, IsNextEvent, Records}
use Rattle.net_base.specs.declared.ninep.Tmsg.{Tmsg}
use Rattle.net_base.specs.SessionScript.{IsScript, table_next, message_step, steps_of}
use Rattle.net_base.specs.SessionTable.{Table, opening}
use Rattle.session_answers.specs.Served.{IsServed}
use Rattle.session_answers.proofs.Shared.{step_served}

-- a session records it there
abbrev pub IsSessionEvent : ActorName → Event → Type 0
IsSessionEvent (name.Desk h) (event.Cs query) = Unit {0}
IsSessionEvent (name.Desk h) (event.OpenPath path m) = Unit {0}
IsSessionEvent (name.Desk h) (event.Use called) = Unit {0}
IsSessionEvent (name.Desk h) (event.Misuse called) = Unit {0}
IsSessionEvent (name.Dir h p) event.Reserve = Unit {0}
IsSessionEvent (name.Dir h p) (event.Grant n g remote port) = Unit {0}
IsSessionEvent (name.Dir h p) (event.Announce n g ip port) = Unit {0}
IsSessionEvent (name.Dir h p) (event.Bind n g port) = Unit {0}
IsSessionEvent (name.Dir h p) (event.Listen n) = Unit {0}
IsSessionEvent (name.Conv h p n) (event.Await g) = Unit {0}
IsSessionEvent (name.Conv h p n) (event.Open f m) = Unit {0}
IsSessionEvent (name.Conv h p n) (event.File g f count) = Unit {0}
IsSessionEvent (name.Conv h p n) (event.Read g count) = Unit {0}
IsSessionEvent (name.Conv h p n) (event.Write g text) = Unit {0}
IsSessionEvent (name.Conv h p n) (event.Hangup g) = Unit {0}
IsSessionEvent (name.Conv h p n) (event.Ttl g m) = Unit {0}
IsSessionEvent (name.Conv h p n) (event.Tos g m) = Unit {0}
IsSessionEvent (name.Conv h p n) (event.Ctl g text) = Unit {0}
IsSessionEvent (name.Conv h p n) (event.Close g) = Unit {0}
IsSessionEvent _ _ = ⊥

-- whatever is replied
abbrev Good : Play → Type 0
Good p = Records IsSessionEvent (λ (r : Reply). Unit {0}) p

-- ---- steps

either : (b : Bool) (x y : Play) → Good x → Good y → Good (cond b x y)
either true x y f g = f
either false x y f g = g

on_found : (o : Option Fid) (otherwise : Play) (next : Fid → Play) → Good otherwise → ((f : Fid) → Good (next f)) → Good (on_fid o otherwise next)
on_found None otherwise next f g = f
on_found (Some x) otherwise next f g = g x

used : (h : ℕ) (called : List ℕ) (names : Names) → Good (uses h called names)
used h called names = (tt, λ r fine. tt)

misused : (h : ℕ) (called : List ℕ) (names : Names) → Good (misuses h called names)
misused h called names = (tt, λ r fine. tt)

open_asked : (h : ℕ) (path : List ℕ) (m : Mode) (n : Option Node) → IsSessionEvent (open_actor h n) (open_event path m n)
open_asked h path m None = tt
open_asked h path m (Some node.Root) = tt
open_asked h path m (Some node.Cs) = tt
open_asked h path m (Some (node.Proto p)) = tt
open_asked h path m (Some (node.Clone p)) = tt
open_asked h path m (Some (node.Dir p n)) = tt
open_asked h path m (Some (node.File p n file.Ctl)) = tt
open_asked h path m (Some (node.File p n file.Data)) = tt
open_asked h path m (Some (node.File p n file.Err)) = tt
open_asked h path m (Some (node.File p n file.Listen)) = tt
open_asked h path m (Some (node.File p n file.Local)) = tt
open_asked h path m (Some (node.File p n file.Remote)) = tt
open_asked h path m (Some (node.File p n file.Status)) = tt

open_good : (h : ℕ) (names : Names) (called path : List ℕ) (m : Mode) → Good (play_of h names (step.Open called path (Some m)))
open_good h names called path m =
    either (is_bound names called) (uses h called names) (opens h path m (Ends names) (λ (f : Fid). Ends (bind called f names))) (used h called names)
    (open_asked h path m (openable (walk path) m), λ r fine. on_found (opened_fid m (openable (walk path) m) r) (Ends names) (λ (f : Fid). Ends (bind called f names)) tt (λ f. tt))

read_asked : (h : ℕ) (f : Fid) (count : ℕ) (g : FileName) → IsSessionEvent (conversation_of h f) (read_event f count g)
read_asked h f count file.Ctl = tt
read_asked h f count file.Data = tt
read_asked h f count file.Err = tt
read_asked h f count file.Listen = tt
read_asked h f count file.Local = tt
read_asked h f count file.Remote = tt
read_asked h f count file.Status = tt

read_good : (h : ℕ) (names : Names) (called : List ℕ) (count : ℕ) → Good (play_of h names (step.Read called count))
read_good h names called count =
    on_found (fid_of called names) (uses h called names)
    (λ (f : Fid). cond (mode_reads f.mode) (Asks (conversation_of h f) (read_event f count f.file) (λ (r : Reply). Ends names)) (misuses h called names)) (used h called names)
    (λ f.
    either (mode_reads f.mode) (Asks (conversation_of h f) (read_event f count f.file) (λ (r : Reply). Ends names)) (misuses h called names)
    (read_asked h f count f.file, λ r fine. tt) (misused h called names))

-- refused or not, it ends
ended : (r : Reply) (names : Names) → Good (if_accepted r (Ends names) (Ends names))
ended r names = either (is_accepted r) (Ends names) (Ends names) tt tt

controlled : (h : ℕ) (names : Names) (f : Fid) (text : List ℕ) (read : Result Ctl ℕ) → Good (controls h f text read (Ends names) (Ends names))
controlled h names f text (Ok (ctl.Connect remote lport)) = (
  tt,
  λ granted fine.
      either (is_accepted granted) (Asks (conversation_of h f) (event.Await f.generation) (λ (r : Reply). if_accepted r (Ends names) (Ends names))) (Ends names)
      (tt, λ r fine. ended r names) tt,
)
controlled h names f text (Ok (ctl.Announce ip port)) = (tt, λ r fine. ended r names)
controlled h names f text (Ok (ctl.Bind port)) = (tt, λ r fine. ended r names)
controlled h names f text (Ok ctl.Hangup) = (tt, λ r fine. ended r names)
controlled h names f text (Ok (ctl.Ttl n)) = (tt, λ r fine. ended r names)
controlled h names f text (Ok (ctl.Tos n)) = (tt, λ r fine. ended r names)
controlled h names f text (Err fault) = (tt, λ r fine. ended r names)

put : (h : ℕ) (names : Names) (f : Fid) (text : List ℕ) (g : FileName) → Good (puts_text h f g text (Ends names) (Ends names))
put h names f text file.Ctl = controlled h names f text (control.read text)
put h names f text file.Data = (tt, λ r fine. ended r names)
put h names f text file.Err = controlled h names f text (control.read text)
put h names f text file.Listen = controlled h names f text (control.read text)
put h names f text file.Local = controlled h names f text (control.read text)
put h names f text file.Remote = controlled h names f text (control.read text)
put h names f text file.Status = controlled h names f text (control.read text)

write_good : (h : ℕ) (names : Names) (called text : List ℕ) → Good (play_of h names (step.Writex called text))
write_good h names called text =
    on_found (fid_of called names) (uses h called names)
    (λ (f : Fid). cond (mode_writes f.mode) (puts_text h f f.file text (Ends names) (Ends names)) (misuses h called names)) (used h called names)
    (λ f. either (mode_writes f.mode) (puts_text h f f.file text (Ends names) (Ends names)) (misuses h called names) (put h names f text f.file) (misused h called names))

close_good : (h : ℕ) (names : Names) (called : List ℕ) → Good (play_of h names (step.Close called))
close_good h names called =
    on_found (fid_of called names) (uses h called names)
    (λ (f : Fid). Asks (conversation_of h f) (event.Close f.generation) (λ (r : Reply). Ends (unbind called names))) (used h called names)
    (λ f. (tt, λ r fine. tt))

good : (h : ℕ) (names : Names) (s : Step) → IsServed s → Good (play_of h names s)
good h names (step.Open called path (Some m)) is = open_good h names called path m
good h names (step.Read called count) is = read_good h names called count
good h names (step.Writex called text) is = write_good h names called text
good h names (step.Close called) is = close_good h names called
good h names (step.Cs query) is = (tt, λ r fine. tt)
good h names _ is = absurd is

-- ---- scripts

abbrev IsStand : Stand → Type 0
IsStand (Asking ask) = IsSessionEvent ask.actor ask.event
IsStand (Finished names rs) = Unit {0}

standing : (p : Play) (rs : List Reply) → Good p → IsStand (stands p rs)
standing (Ends names) rs f = tt
standing (Asks a e next) [] f = f.0
standing (Asks a e next) (r ∷ rs) f = standing (next r) rs (f.1 r tt)

next_by : (s : Stand) (steps : List Step) (go_on : Names → List Reply → Position) → IsStand s
    → ((names : Names) (rs : List Reply) → IsNextEvent IsSessionEvent (go_on names rs).next) → IsNextEvent IsSessionEvent (position_by s steps go_on).next
next_by (Asking ask) steps go_on f g = f
next_by (Finished names rs) steps go_on f g = g names rs

-- such a step needs the names alone
own_good : (h : ℕ) (k : Kept) (s : Step) → IsServed s → Good (own_play h k s)
own_good h k (step.Open called path (Some m)) is = good h k.names (step.Open called path (Some m)) is
own_good h k (step.Read called count) is = good h k.names (step.Read called count) is
own_good h k (step.Writex called text) is = good h k.names (step.Writex called text) is
own_good h k (step.Close called) is = good h k.names (step.Close called) is
own_good h k (step.Cs query) is = good h k.names (step.Cs query) is
own_good h k _ is = absurd is

-- .. and a name of its that a remote file has is asked for
step_good : (h : ℕ) (k : Kept) (s : Step) → IsServed s → Good (step_play h k s)
step_good h k s is = by (find (is_remote k.left) (new_names s))
  where
    by : (o : Option (List ℕ)) → Good (play_by h k s o)
    by (Some called) = used h called k.names
    by None = own_good h k s is

-- what a script of such steps records next
next_served : (h : ℕ) (steps : List Step) (k : Kept) (rs : List Reply) → Each IsServed steps → IsNextEvent IsSessionEvent (position h steps k rs).next
next_served h [] k rs served = tt
next_served h (s ∷ ss) k rs served =
    next_by (stands (step_play h k s) rs) (s ∷ ss) (λ (names : Names) (later : List Reply). position h ss (kept_after k s names (heard_replies (step_play h k s) rs)) later)
    (standing (step_play h k s) rs (step_good h k s served.0))
    (λ names later. next_served h ss (kept_after k s names (heard_replies (step_play h k s) rs)) later served.1)

some_served : (o : Option Step) (steps : List Step) → ((s : Step) → o ≡ Some s → IsServed s) → Each IsServed steps → Each IsServed (option_to_list o ++ steps)
some_served None steps one more = more
some_served (Some s) steps one more = (one s refl, more)

all_served : (table : Table) (ms : List Tmsg) → Each IsServed (steps_of table ms)
all_served table [] = tt
all_served table (m ∷ ms) = some_served (message_step table m) (steps_of (table_next table m) ms) (λ s is. step_served table m s is) (all_served (table_next table m) ms)

-- what a session records next
pub next_of_session : (h : ℕ) (bytes : List ℕ) (steps : List Step) (k : Kept) (rs : List Reply) → IsScript bytes steps → IsNextEvent IsSessionEvent (position h steps k rs).next
next_of_session h bytes steps k rs is = next_served h steps k rs (subst (λ (xs : List Step). Each IsServed xs) (sym is.2) (all_served opening is.0))

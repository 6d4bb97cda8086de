-- The requests of scripts: none is asked of the clock, and what one may bind there is room for.
use Rattle.std.proofs.Common.{◌≡◌, ℕ, Bool, true, false, List, Option, Some, None, if◌then◌else◌, refl, ap, sym, ◌∙◌}
use Rattle.std.specs.Prelude.{Result, Ok, Err}
use Rattle.std.proofs.lemmas.Option.{none-some, same_Some}
use Rattle.net_base.specs.declared.actor.ActorName.TheVariants as name
use Rattle.net_base.specs.declared.names.Ctl.{Ctl}
use Rattle.net_base.specs.declared.names.Ctl.TheVariants as ctl
use Rattle.net_base.specs.declared.names.FileName.{FileName}
use Rattle.net_base.specs.declared.names.FileName.TheVariants as file
use Rattle.net_base.specs.declared.names.Node.{Node}
use Rattle.net_base.specs.declared.names.Node.TheVariants as node
use Rattle.net_base.specs.ControlWords as control
use Rattle.net_base.specs.Paths.{mode_reads, walk, mode_writes}
use Rattle.net_base.specs.Stamped.{same_actor}
use Rattle.net_base.specs.Steps.{Ask, Names, Fid, Play, Asks, Ends, controls, fid_of, is_bound, ls_actor, on_fid, open_actor, openable, puts_text}
use Rattle.net_base.specs.declared.request.Request.{Request}
use Rattle.net_base.specs.declared.request.Request.TheVariants as request
use Rattle.net_base.specs.Requests.{head, planned, request_play}

-- The clock.

-- the first event of the play isn't one of the clock
abbrev IsAway : Play → Type 0
IsAway (Asks a e next) = same_actor a name.Clock ≡ false
IsAway (Ends names) = Unit {0}

either : (b : Bool) (p q : Play) → IsAway p → IsAway q → IsAway (if b then p else q)
either true p q one two = one
either false p q one two = two

bound_away : (o : Option Fid) (p : Play) (q : Fid → Play) → IsAway p → ((f : Fid) → IsAway (q f)) → IsAway (on_fid o p q)
bound_away None p q one each = one
bound_away (Some f) p q one each = each f

open_away : (h : ℕ) (n : Option Node) → same_actor (open_actor h n) name.Clock ≡ false
open_away h None = refl
open_away h (Some (node.Clone p)) = refl
open_away h (Some (node.File p n file.Listen)) = refl
open_away h (Some (node.File p n _)) = refl
open_away h (Some _) = refl

ls_away : (h : ℕ) (n : Option Node) → same_actor (ls_actor h n) name.Clock ≡ false
ls_away h None = refl
ls_away h (Some (node.Proto p)) = refl
ls_away h (Some (node.Dir p n)) = refl
ls_away h (Some _) = refl

controls_away : (h : ℕ) (f : Fid) (text : List ℕ) (word : Result Ctl ℕ) (refused next : Play) → IsAway (controls h f text word refused next)
controls_away h f text (Ok (ctl.Connect remote lport)) refused next = refl
controls_away h f text (Ok (ctl.Announce ip port)) refused next = refl
controls_away h f text (Ok (ctl.Bind port)) refused next = refl
controls_away h f text (Ok ctl.Hangup) refused next = refl
controls_away h f text (Ok (ctl.Ttl n)) refused next = refl
controls_away h f text (Ok (ctl.Tos n)) refused next = refl
controls_away h f text (Err fault) refused next = refl

puts_away : (h : ℕ) (f : Fid) (n : FileName) (text : List ℕ) (refused next : Play) → IsAway (puts_text h f n text refused next)
puts_away h f file.Data text refused next = refl
puts_away h f _ text refused next = controls_away h f text (control.read text) refused next

request_away : (h : ℕ) (names : Names) (q : Request) → IsAway (request_play h names q)
request_away h names (request.Open called path m) = either (is_bound names called) _ _ refl (open_away h (openable (walk path) m))
request_away h names (request.Read called count) = bound_away (fid_of called names) _ _ refl (λ f. either (mode_reads f.mode) _ _ refl refl)
request_away h names (request.Write called text) =
    bound_away (fid_of called names) _ _ refl
    (λ f. either (mode_writes f.mode) (puts_text h f f.file text (Ends names) (Ends names)) _ (puts_away h f f.file text (Ends names) (Ends names)) refl)
request_away h names (request.Close called) = bound_away (fid_of called names) _ _ refl (λ f. refl)
request_away h names (request.Cs query) = refl
request_away h names (request.Ls path) = ls_away h (walk path)
request_away h names (request.Until moment) = refl
request_away h names request.Refresh = refl
request_away h names (request.Hear called count heard) = bound_away (fid_of called names) _ _ refl (λ f. either (mode_reads f.mode) _ _ refl refl)
request_away h names (request.Wait called) = bound_away (fid_of called names) _ _ refl (λ f. refl)
request_away h names (request.Unbound called) = refl
request_away h names (request.Misuse called) = refl

head_away : (p : Play) (ask : Ask) → IsAway p → head p ≡ Some ask → same_actor ask.actor name.Clock ≡ false
head_away (Asks a e next) ask away is = ap (λ (q : Ask). same_actor q.actor name.Clock) (sym (same_Some _ ask is)) ∙ away
head_away (Ends names) ask away is = absurd (none-some ask is)

-- no request has its event at the clock
pub planned_away : (h : ℕ) (names : Names) (q : Request) (ask : Ask) → planned h names q ≡ Some ask → same_actor ask.actor name.Clock ≡ false
planned_away h names q ask is = head_away (request_play h names q) ask (request_away h names q) is

-- Room.

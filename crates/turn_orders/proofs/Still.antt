-- No follow-up event is a move, and neither is the next event of a script or of a delivery process.
use Rattle.std.proofs.Common.{◌≡◌, ℕ, List, Some, subst}
use Rattle.std.proofs.lemmas.Option.{none-some}
use Rattle.net_base.specs.declared.actor.ActorName.{ActorName}
use Rattle.net_base.specs.declared.actor.ActorName.TheVariants as name
use Rattle.net_base.specs.declared.event.Event.{Event}
use Rattle.net_base.specs.declared.event.Event.TheVariants as event
use Rattle.net_base.specs.declared.history.Entry.{Entry}
use Rattle.net_base.specs.declared.history.With.{With}
use Rattle.net_base.specs.declared.reply.Reply.{Reply}
use Rattle.net_base.specs.declared.world.Step.{Step}
use Rattle.net_base.specs.declared.world.Step.TheVariants as step
use Rattle.net_base.specs.declared.world.World.{World}
use Rattle.net_base.specs.Callers.{Caller, IsScript, IsCourier, IsClock, IsNobody}
use Rattle.net_base.specs.Legal.{IsInTime}
use Rattle.net_base.specs.Net.{Net}
use Rattle.net_base.specs.Next.{next_of, own_replies, zone_of}
use Rattle.net_base.specs.Scripts.{at_first, position}
use Rattle.net_base.specs.Steps.{Ask, call_names, clone_path, reply_lines}
use Rattle.net_base.specs.Versions.{Tuples}
use Rattle.history_laws.proofs.Shared.{each_any, next_event, Fits, IsKind, IsNamed, IsNextEvent, IsOpened, IsOwn, Says}

abbrev pub IsStill : Event → Type 0
IsStill (event.Move m) = ⊥
IsStill _ = Unit {0}

abbrev StillAt : ActorName → Event → Type 0
StillAt a e = IsStill e

pub still_in_time : (net : Net) (w : World) (e : Event) → IsStill e → IsInTime net w e
still_in_time net w (event.Move m) still = absurd still
still_in_time net w _ still = tt

pub duty_still : (w : World) (a : ActorName) (e : Event) (with : With) → IsKind w a e with → IsStill e
duty_still w (name.Conv h p n) (event.Move m) with kind = absurd kind.2
duty_still w (name.Dir h p) (event.Move m) with kind = absurd kind.1
duty_still w (name.Medium k) (event.Move m) with kind = absurd kind.1
duty_still w (name.Desk h) (event.Move m) with kind = absurd kind
duty_still w name.Clock (event.Move m) with kind = absurd kind
duty_still w _ _ with kind = tt

own_still : (a : ActorName) (e : Event) → IsOwn e → StillAt a e
own_still a (event.Move m) own = absurd own
own_still a _ own = tt

fits_still : Fits StillAt (λ (r : Reply). Unit {0})
fits_still = record {
  other = own_still;
  dialled = λ r fine. each_any (λ (line : List ℕ). IsOpened StillAt (clone_path line)) (λ line a m. tt) (reply_lines r);
}

names_still : (h : ℕ) (called : List ℕ) → IsNamed h StillAt called
names_still h called = (tt, tt)

says_still : (h : ℕ) (s : Step) → Says h StillAt s
says_still h (step.Open called path m) = ((tt, tt), λ a m. tt)
says_still h (step.Until moment) = tt
says_still h step.Refresh = tt
says_still h (step.Ls path) = tt
says_still h (step.Cs query) = tt
says_still h (step.Dial called address) = ((tt, tt), (tt, tt))
says_still h (step.Listen called from) = ((tt, tt), (tt, tt))
says_still h (step.Accept called from) = ((tt, tt), (tt, tt))
says_still h (step.Hread called count) = ((tt, tt), each_any (λ (called : List ℕ). IsNamed h StillAt called) (names_still h) call_names)
says_still h (step.Hwrite called bytes) = ((tt, tt), each_any (λ (called : List ℕ). IsNamed h StillAt called) (names_still h) call_names)
says_still h (step.Dns called times) = ((tt, tt), each_any (λ (called : List ℕ). IsNamed h StillAt called) (names_still h) call_names)
-- imports
says_still h (step.Export called) = ((tt, tt), record { named = λ n. (tt, tt); opened = λ at a m. tt })
says_still h (step.Ropen called call path m) = ((tt, tt), (tt, tt))
says_still h _ = (tt, tt)

position_still : (h : ℕ) (steps : List Step) (zone : Tuples) (rs : List Reply) → IsNextEvent StillAt (position h steps (at_first zone) rs).next
position_still h steps zone rs =
    next_event h StillAt (λ (r : Reply). Unit {0}) fits_still steps (at_first zone) rs tt
    (each_any (λ (s : Step). Says h StillAt s) (says_still h) steps)
    (each_any (λ (r : Reply). Unit {0}) (λ r. tt) rs)

pub next_still : (w : World) (k : Caller) (h : List Entry) (c : ℕ) (ask : Ask) → next_of w k h c ≡ Some ask → IsStill ask.event
next_still w (IsScript s) h c ask is = subst (IsNextEvent StillAt) is (position_still s.host s.steps (zone_of w) (own_replies h c))
next_still w (IsCourier m) h c ask is = subst (IsNextEvent StillAt) is tt
next_still w IsClock h c ask is = absurd (none-some ask is)
next_still w IsNobody h c ask is = absurd (none-some ask is)

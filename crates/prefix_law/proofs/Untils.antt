-- A script waits for a moment at its own host's desk.
use Rattle.std.proofs.Common.{◌≡◌, ℕ, List, Option, refl}
use Rattle.net_base.specs.declared.actor.ActorName.{ActorName}
use Rattle.net_base.specs.declared.actor.ActorName.TheVariants as name
use Rattle.net_base.specs.declared.event.Event.{Event}
use Rattle.net_base.specs.declared.event.Event.TheVariants as event
use Rattle.net_base.specs.declared.reply.Reply.{Reply}
use Rattle.net_base.specs.declared.world.Step.{Step}
use Rattle.net_base.specs.declared.world.Step.TheVariants as step
use Rattle.net_base.specs.Scripts.{at_first, position}
use Rattle.net_base.specs.Steps.{call_names, clone_path, reply_lines, Ask}
use Rattle.net_base.specs.Versions.{Tuples}
use Rattle.history_laws.proofs.Shared.{each_any, next_event, IsOther, own_other, IsNamed, IsOpened, Fits, Says, IsNextEvent}

-- a wait for a moment is recorded at the host's desk
abbrev pub UntilAt : ℕ → ActorName → Event → Type 0
UntilAt h a (event.Until m) = a ≡ name.Desk h
UntilAt h a _ = Unit {0}

abbrev pub FineNext : ℕ → Option Ask → Type 0
FineNext h ask = IsNextEvent (UntilAt h) ask

other_until : (h : ℕ) (a : ActorName) (e : Event) → IsOther e → UntilAt h a e
other_until h a (event.Until m) other = absurd other
other_until h a _ other = tt

fits_until : (h : ℕ) → Fits (UntilAt h) (λ (r : Reply). Unit {0})
fits_until h = record {
  other = λ a e own. other_until h a e (own_other e own);
  dialled = λ r fine. each_any (λ (line : List ℕ). IsOpened (UntilAt h) (clone_path line)) (λ line a m. tt) (reply_lines r);
}

says_until : (h : ℕ) (s : Step) → Says h (UntilAt h) s
says_until h (step.Open called path m) = ((tt, tt), λ a m. tt)
says_until h (step.Until moment) = refl
says_until h step.Refresh = tt
says_until h (step.Ls path) = tt
says_until h (step.Cs query) = tt
says_until h (step.Dial called address) = ((tt, tt), (tt, tt))
says_until h (step.Listen called from) = ((tt, tt), (tt, tt))
says_until h (step.Accept called from) = ((tt, tt), (tt, tt))
says_until h (step.Hread called count) = ((tt, tt), each_any (λ (called : List ℕ). IsNamed h (UntilAt h) called) (λ called. (tt, tt)) call_names)
says_until h (step.Hwrite called bytes) = ((tt, tt), each_any (λ (called : List ℕ). IsNamed h (UntilAt h) called) (λ called. (tt, tt)) call_names)
says_until h (step.Dns called times) = ((tt, tt), each_any (λ (called : List ℕ). IsNamed h (UntilAt h) called) (λ called. (tt, tt)) call_names)
-- imports
says_until h (step.Export called) = ((tt, tt), record { named = λ n. (tt, tt); opened = λ at a m. tt })
says_until h (step.Ropen called call path m) = ((tt, tt), (tt, tt))
says_until h _ = (tt, tt)

-- what a script records next
pub fine_position : (h : ℕ) (steps : List Step) (zone : Tuples) (rs : List Reply) → FineNext h (position h steps (at_first zone) rs).next
fine_position h steps zone rs =
    next_event h (UntilAt h) (λ (r : Reply). Unit {0}) (fits_until h) steps (at_first zone) rs tt
    (each_any (λ (s : Step). Says h (UntilAt h) s) (says_until h) steps)
    (each_any (λ (r : Reply). Unit {0}) (λ r. tt) rs)

-- What a turn owes: the ticks of a move, or what its step owes.
use Rattle.std.proofs.Common.{◌≡◌, ℕ, List, Some, Vec, Result, Ok, Err, OnOk, refl, sym, ap, subst, ◌∙◌}
use Rattle.ip_route.specs.Kept.{HostWays}
use Rattle.net_base.specs.declared.actor.ActorName.{ActorName}
use Rattle.net_base.specs.declared.actor.ActorName.TheVariants as name
use Rattle.net_base.specs.declared.event.Event.{Event}
use Rattle.net_base.specs.declared.event.Event.TheVariants as event
use Rattle.net_base.specs.declared.history.Outcome.{Outcome}
use Rattle.net_base.specs.declared.history.With.{With}
use Rattle.net_base.specs.declared.history.Work.{Work}
use Rattle.net_base.specs.declared.world.World.{World}
use Rattle.net_base.specs.ActorStep.{Step}
use Rattle.net_base.specs.Actors.{Actor, actor_step}
use Rattle.net_base.specs.Duties.{Duty, duties}
use Rattle.net_base.specs.Legal.{IsMove}
use Rattle.duties.specs.declared.due.Due.{Due}
use Rattle.duties.specs.Queue.{AddsDuty, Queue}
use Rattle.duties.specs.Ticking.{MoveOwes, dues_of, ticks_of}
use Rattle.plain_runner.specs.Recording.{OwesAll}

-- moves owe their ticks
abbrev pub MovesOwe : Type 0
MovesOwe = (w : World) (actors : ActorName → Actor) (stamp now : ℕ) → MoveOwes w actors stamp now

owes_ticks : MovesOwe
    → (w : World) (actors : ActorName → Actor) (a : ActorName) (stamp : ℕ) (e : Event) (with : With) (step : Step Actor) (before : Actor) (now : ℕ)
    → (old new : Queue) (dues : List Due) → IsMove a e
    → actor_step w a before now (record { event = e; with = with }) ≡ Some step → dues ≡ dues_of w actors
    → ((m : ℕ) → e ≡ event.Move m → AddsDuty old new (ticks_of stamp m dues))
    → AddsDuty old new (duties w actors a stamp (record { event = e; with = with }) step)
owes_ticks law w actors name.Clock stamp (event.Move m) with step before now old new dues is gives same adds =
    subst (λ (ds : List Duty). AddsDuty old new ds) (ap (ticks_of stamp m) same ∙ sym (law w actors stamp m with before now step gives)) (adds m refl)
owes_ticks law w actors _ stamp _ with step before now old new dues is gives same adds = absurd is

module _ {Z : Type 0} where
  pub move_owes : MovesOwe → (ways : List HostWays) (a : ActorName) (stamp : ℕ) (work : Work) (o : Outcome) (dues : Vec Due Z) (old new : Queue)
      → ((m : ℕ) → work.event ≡ event.Move m → AddsDuty old new (ticks_of stamp m dues.items))
      → OwesAll ways a stamp work o (Some dues) old new
  move_owes law ways a stamp work o dues old new adds = λ w actors step are due gives.
      owes_ticks law w actors a stamp work.event work.with step gives.before gives.now old new dues.items due.0 gives.gives due.1 adds

pub is_move : (a : ActorName) (e : Event) (m : ℕ) → a ≡ name.Clock → e ≡ event.Move m → IsMove a e
is_move a e m clock moves = rw (clock, moves) tt

pub on_ok_more : {A E : Type 0} (r : Result A E) (P Q : Type 0) → (P → Q) → OnOk r P → OnOk r Q
on_ok_more (Ok x) P Q more is = more is
on_ok_more (Err e) P Q more is = tt

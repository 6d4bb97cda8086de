-- What a caller does at an actor's lock, by what its pass has seen.
use Rattle.std.specs.Prelude.{◌≡◌, ℕ, ◌<◌, List, [], ◌∷◌, ◌++◌, length, drop, Some, None}
use mathlib.Core.List.{IsPrefix}
use Rattle.net_base.specs.declared.actor.ActorName.{ActorName}
use Rattle.net_base.specs.declared.event.Event.{Event}
use Rattle.net_base.specs.declared.history.With.TheVariants as given
use Rattle.net_base.specs.declared.history.Work.{Work}
use Rattle.net_base.specs.declared.noted.Noted.{Noted}
use Rattle.net_base.specs.declared.noted.Number.TheVariants as number
use Rattle.net_base.specs.declared.reply.Reply.{Reply}
use Rattle.net_base.specs.declared.world.World.{World}
use Rattle.net_base.specs.ActorStep.{Step}
use Rattle.net_base.specs.Actors.{Actor, actor_step}
use Rattle.net_base.specs.Callers.{caller_of}
use Rattle.net_base.specs.Duties.{Duty, duties}
use Rattle.net_base.specs.Legal.{IsAsked}
use Rattle.net_base.specs.Next.{next_by}
use Rattle.net_base.specs.Stamped.{at}
use Rattle.net_base.specs.Tasks.{Tasks}
use Rattle.journal.specs.declared.tokens.Sight.{Sight}
use Rattle.locked.specs.Acts.{made, act_without_copy}
use Rattle.net_locks.specs.Guests.{Deed}
use Rattle.net_locks.specs.Works.{entries, noted_net}
use Rattle.net_locks.specs.Own.{AreNext, AreTimely, OwnStandsStill}
use Rattle.net_locks.specs.declared.turn.Turn.{Turn}
use Rattle.net_locks.specs.declared.turn.Turn.TheVariants as turn

-- the caller's entries, of all that was seen
abbrev pub own_seen : ℕ → Sight → List (ℕ × Noted)
own_seen c p = at (number.Caller c) p.seen

abbrev pub HasRoom : ℕ → Sight → Type 0
HasRoom c p = length (own_seen c p) < 131072

abbrev pub IsFull : ℕ → Sight → Type 0
IsFull c p = length (own_seen c p) ≡ 131072

-- one entry of the caller was recorded: its actor's step in the net of the past, and its first duty is done
pub record RecordedTurn (ts : Tasks) (w : World) (q : Deed) (p : Sight) (ds : List Duty) (stamp : ℕ) (answer : Reply)
    (p' : Sight) (ds' : List Duty) : Type 0 where
  pub room : HasRoom q.caller p
  pub past : List Noted
  pub stamp_is : length past ≡ stamp
  pub before : IsPrefix p.seen past
  pub alone : at (number.Caller q.caller) past ≡ own_seen q.caller p
  pub step : Step Actor
  pub stepped : actor_step w q.actor ((noted_net w past).actors q.actor) q.now q.work ≡ Some step
  pub reply : answer ≡ step.outcome.reply
  pub seen : p'.seen ≡ past ++ made q.actor q.caller q.now q.work q.cites (act_without_copy step.outcome) ∷ []
  pub owed : ds' ≡ drop 1 ds ++ duties w (noted_net w past).actors q.actor stamp q.work step
  pub nexts : IsAsked ds (caller_of w q.caller) (next_by ts w (entries p.seen) q.caller)
      (made q.actor q.caller q.now q.work q.cites (act_without_copy step.outcome)).entry
      → AreNext ts w q.caller p.seen → AreNext ts w q.caller p'.seen
  pub timely : AreTimely ts w q.caller p.seen → AreTimely ts w q.caller p'.seen

-- more was seen, but no entry of the caller
pub record StaysOwn (w : World) (c : ℕ) (p p' : Sight) : Type 0 where
  pub before : IsPrefix p.seen p'.seen
  pub alone : own_seen c p' ≡ own_seen c p
  pub stands : OwnStandsStill w c p.seen p'.seen

-- after all that was seen the work isn't ready
pub record Unready (w : World) (c now : ℕ) (a : ActorName) (work : Work) (p : Sight) (p' : Sight) : Type 0 where
  pub room : HasRoom c p
  pub stays : StaysOwn w c p p'
  pub unready : actor_step w a ((noted_net w p'.seen).actors a) now work ≡ None

-- what a turn of the caller for this deed did, by its answer
abbrev pub Turned : Tasks → World → Deed → Sight → List Duty → Turn → Sight → List Duty → Type 0
Turned ts w q p ds (turn.Recorded stamp answer) p' ds' = RecordedTurn ts w q p ds stamp answer p' ds'
Turned ts w q p ds turn.NotReady p' ds' = Unready w q.caller q.now q.actor q.work p p' × (ds' ≡ ds)
Turned ts w q p ds turn.Owes p' ds' = ⊥
Turned ts w q p ds turn.Limit p' ds' = IsFull q.caller p × (p' ≡ p) × (ds' ≡ ds)
Turned ts w q p ds turn.Memory p' ds' = HasRoom q.caller p × (p' ≡ p) × (ds' ≡ ds)

-- with nothing given
abbrev pub bare : Event → Work
bare e = record { event = e; with = given.Nothing }

-- What a guest keeps: its pass, and the duties that its caller owes after all that the pass has seen.
use Rattle.std.specs.Prelude.{◌≡◌, ℕ, ◌<◌, ◌++◌, true, List, drop, filter, not, Option, Some}
use Rattle.net_base.specs.declared.actor.ActorName.{ActorName}
use Rattle.net_base.specs.declared.history.Outcome.{Outcome}
use Rattle.net_base.specs.declared.history.Work.{Work}
use Rattle.net_base.specs.declared.noted.Noted.{Noted}
use Rattle.net_base.specs.declared.noted.Number.TheVariants as number
use Rattle.net_base.specs.declared.world.World.{World}
use Rattle.net_base.specs.ActorStep.{Step}
use Rattle.net_base.specs.Actors.{Actor, actor_step, has_actor}
use Rattle.net_base.specs.Callers.{caller_count, caller_of}
use Rattle.net_base.specs.Duties.{Duty, duties}
use Rattle.net_base.specs.Legal.{IsAsked, IsInTimeBy, cites_of}
use Rattle.net_base.specs.Net.{with_of}
use Rattle.net_base.specs.Next.{next_recorded, next_by}
use Rattle.net_base.specs.Stamped.{at, In}
use Rattle.net_base.specs.Tasks.{Tasks}
use Rattle.journal.specs.declared.law.Roster.{Roster}
use Rattle.journal.specs.declared.tokens.Sight.{Sight}
use Rattle.journal.specs.Rule.{Held, Lawful, same_number}
use Rattle.journal.specs.Tokens.{Met}
use Rattle.locked.specs.Acts.{IsDone, made, act_without_copy}
use Rattle.net_locks.specs.Works.{entries, noted_net, owed_in}
use Rattle.net_locks.specs.Own.{AreNext, AreTimely, AreTurns, IsAskedButOfScripts, OwnStandsStill}
use Rattle.net_locks.specs.Named.{answer_in, named_opening}

-- the pass holds the caller's number, the caller owes these, and each of its entries is a turn of it
pub record IsGuest (w : World) (r : Roster) (c : ℕ) (p : Sight) (ds : List Duty) : Type 0 where
  pub list : List (ℕ × Noted)
  pub held : In (number.Caller c, list) p.held
  pub all : at (number.Caller c) p.seen ≡ list
  pub known : c < r.callers
  pub owed : owed_in w p.seen c ≡ ds
  pub turns : AreTurns w c p.seen

-- the event at the actor, with what is given to it and the stamp that it cites, is a turn of the caller that owes these
pub record IsGuestTurn (w : World) (c : ℕ) (p : Sight) (ds : List Duty) (a : ActorName) (work : Work)
    (cites : Option ℕ) : Type 0 where
  pub given : work.with ≡ with_of ds
  pub cites_it : cites ≡ cites_of ds
  pub asked : (now : ℕ) (o : Outcome) →
      IsAskedButOfScripts ds (caller_of w c) (next_recorded w (entries p.seen) c) (made a c now work cites o).entry

-- a deed of a caller: that an actor does a work at a moment, for the stamp that it cites
pub record Deed : Type 0 where
  pub actor : ActorName
  pub caller : ℕ
  pub now : ℕ
  pub work : Work
  pub cites : Option ℕ

abbrev pub deed_at : ActorName → ℕ → ℕ → Work → Option ℕ → Deed
deed_at a c now work cites = record { actor = a; caller = c; now = now; work = work; cites = cites }

-- one entry of the caller was recorded at the actor's lock
abbrev pub GuestRecords : World → Roster → Deed → Sight → ℕ → Outcome → Sight → Type 0
GuestRecords w r q p stamp o p' =
    IsDone (named_opening w) (answer_in w) r q.actor q.caller q.now q.work q.cites p stamp o p'

-- after the later pass the caller stands as it stood after the earlier one, and is a guest of the same duties
pub record StaysGuest (w : World) (r : Roster) (c : ℕ) (p : Sight) (ds : List Duty) (p' : Sight) : Type 0 where
  pub guest : IsGuest w r c p' ds
  pub stands : OwnStandsStill w c p.seen p'.seen

-- the entry was a step of its actor in the net of the past, and the caller is a guest still. Its first duty is done,
-- and the duties of the entry are owed after the others
pub record HasRecorded (w : World) (r : Roster) (q : Deed) (past : List Noted) (p : Sight) (ds : List Duty)
    (stamp : ℕ) (o : Outcome) (p' : Sight) : Type 0 where
  pub step : Step Actor
  pub stepped : actor_step w q.actor ((noted_net w past).actors q.actor) q.now q.work ≡ Some step
  pub outcome : o ≡ act_without_copy step.outcome
  pub guest : IsGuest w r q.caller p' (drop 1 ds ++ duties w (noted_net w past).actors q.actor stamp q.work step)
  pub nexts : (ts : Tasks)
      → IsAsked ds (caller_of w q.caller) (next_by ts w (entries p.seen) q.caller)
      (made q.actor q.caller q.now q.work q.cites o).entry
      → AreNext ts w q.caller p.seen → AreNext ts w q.caller p'.seen
  pub timely : (ts : Tasks) → IsInTimeBy ts (noted_net w past) w q.work.event → AreTimely ts w q.caller p.seen
      → AreTimely ts w q.caller p'.seen

-- the history of a journal of the world's callers and actors, each of whose callers made its entries as turns
pub record IsOfGuests (w : World) (r : Roster) (log : List Noted) : Type 0 where
  pub actors_are : (a : ActorName) → In a r.actors → has_actor w a ≡ true
  pub callers_are : r.callers ≡ caller_count w
  pub lawful : Lawful r log
  pub turns : (c : ℕ) → c < r.callers → AreTurns w c log

-- A number goes from one pass to another.

pub record HandsOver (r : Roster) (c : ℕ) (p q p' q' : Sight) : Type 0 where
  pub moved : Sight
  pub given_seen : moved.seen ≡ p.seen
  pub given_held : moved.held ≡ filter (λ (h : Held). same_number h.0 (number.Caller c)) p.held
  pub left_seen : p'.seen ≡ p.seen
  pub left_held : p'.held ≡ filter (λ (h : Held). not (same_number h.0 (number.Caller c))) p.held
  pub met : Met r q moved q'

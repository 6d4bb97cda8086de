-- The calm clock: what keeps it where it is, and what its move leaves.
--     Halts          whether it may move
--     MayGo          what became of its move
use Rattle.std.specs.Prelude.{◌≡◌, ℕ, ◌<◌, ◌≤◌, ◌==◌, Bool, true, false, List, [], Option, Some, None}
use Rattle.net_base.specs.declared.actor.ActorName.TheVariants as name
use Rattle.net_base.specs.declared.event.Event.TheVariants as event
use Rattle.net_base.specs.declared.reply.Reply.{Reply}
use Rattle.net_base.specs.declared.world.World.{World}
use Rattle.net_base.specs.Callers.{caller_count}
use Rattle.net_base.specs.Calm.{done_by, limited_by, movable_by, stopped_by, target_by}
use Rattle.net_base.specs.Duties.{Duty}
use Rattle.net_base.specs.Net.{Net}
use Rattle.net_base.specs.Stamped.{moment_noted}
use Rattle.net_base.specs.Tasks.{Tasks}
use Rattle.history_laws.specs.Could.{could}
use Rattle.journal.specs.declared.law.Roster.{Roster}
use Rattle.journal.specs.declared.tokens.Sight.{Sight}
use Rattle.duties.specs.Marks.{Covers, Marks}
use Rattle.net_locks.specs.Guests.{IsGuest, deed_at}
use Rattle.net_locks.specs.Works.{noted_net}
use Rattle.net_locks.specs.declared.clock.Advance.{Advance}
use Rattle.net_locks.specs.declared.clock.Advance.TheVariants as advance
use Rattle.net_locks.specs.declared.visitor.Bearer.{Bearer}
use Rattle.net_locks.specs.Turns.{HasRoom, RecordedTurn, StaysOwn, bare, own_seen}

-- the least caller that owes a duty or whose next event is ready
pub record IsLeast (ts : Tasks) (w : World) (net : Net) (c : ℕ) : Type 0 where
  pub known : c < caller_count w
  pub could_is : could ts w net c ≡ true
  pub least : (d : ℕ) → d < caller_count w → could ts w net d ≡ true → c ≤ d

-- what keeps the clock where it is, where the net stands so. What limits a run is told before what keeps the clock from
-- moving, and before how the run ended
abbrev pub KeepsMoving : Tasks → World → Net → Advance → Type 0
KeepsMoving ts w net (advance.Moved m) = ⊥
KeepsMoving ts w net advance.Done = done_by ts w net ≡ true
KeepsMoving ts w net advance.Stopped = stopped_by ts w net ≡ true
KeepsMoving ts w net (advance.NotCalm c) = IsLeast ts w net c × (limited_by ts w net ≡ false)
KeepsMoving ts w net advance.Limit = limited_by ts w net ≡ true
KeepsMoving ts w net advance.Memory = ⊥

-- the clock may move, and has room
pub record MayMove (ts : Tasks) (w : World) (c : ℕ) (p : Sight) : Type 0 where
  pub may : movable_by ts w (noted_net w p.seen) ≡ true
  pub unlimited : limited_by ts w (noted_net w p.seen) ≡ false
  pub free : could ts w (noted_net w p.seen) c ≡ false
  pub room : HasRoom c p

abbrev pub Halts : Tasks → World → ℕ → Sight → Option Advance → Type 0
Halts ts w c p None = MayMove ts w c p
Halts ts w c p (Some answer) = KeepsMoving ts w (noted_net w p.seen) answer

-- the clock's move to this moment was recorded, after all that had been seen
pub record MovesTo (ts : Tasks) (w : World) (c now m : ℕ) (p : Sight) (ds : List Duty) (p' : Sight) (ds' : List Duty)
    : Type 0 where
  pub stamp : ℕ
  pub reply : Reply
  pub turn : RecordedTurn ts w (deed_at name.Clock c now (bare (event.Move m)) None) p ds stamp reply p' ds'
  pub whole : turn.past ≡ p.seen

-- what the entry leaves of the clock, which owed nothing, and of the others by its pass
pub record LeavesMoved (ts : Tasks) (w : World) (r : Roster) (c now m : ℕ) (p : Sight) (ds : List Duty)
    (p' : Sight) (ds' : List Duty) : Type 0 where
  pub guest : IsGuest w r c p' ds'
  pub entry : MovesTo ts w c now m p ds p' ds'
  pub free : ds ≡ []
  pub here : m ≡ moment_noted p'.seen
  pub covers : (t : Marks) → Covers (own_seen c p) t → Covers (own_seen c p') t
  pub others : (k : ℕ) (es : List Duty) → IsGuest w r k p es → (k == c) ≡ false
      → IsGuest w r k p' es × StaysOwn w k p p'

-- by whether it was recorded
abbrev pub MayLeave : {J : Type 0} → Tasks → World → Roster → ℕ → Bearer J → List Duty → Bool → Bearer J → List Duty
    → Type 0
MayLeave ts w r m old ds true new ds' = LeavesMoved ts w r old.caller old.now m old.pass ds new.pass ds'
MayLeave ts w r m old ds false new ds' = (new.pass ≡ old.pass) × (ds' ≡ ds)

-- by the moment to which it moved, if it did
abbrev pub MayGo : {J : Type 0} → Tasks → World → Roster → Bearer J → List Duty → Option ℕ → Bearer J → List Duty
    → Type 0
MayGo ts w r old ds None new ds' = (new.pass ≡ old.pass) × (ds' ≡ ds)
MayGo ts w r old ds (Some m) new ds' =
    LeavesMoved ts w r old.caller old.now m old.pass ds new.pass ds'
    × (m ≡ target_by ts w (noted_net w old.pass.seen)) × (m ≤ w.end)

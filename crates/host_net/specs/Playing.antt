-- Callers that are played.
--     IsPlayer      what a player keeps
--     IsCounted     how many steps of its script are finished
--     PlaysOn       what its turn did
use Rattle.std.specs.Prelude.{◌≡◌, ℕ, ◌-◌, ◌⊎◌, Bool, true, false, List, [], ◌∷◌, ◌++◌, length, map, take, Option, Some, None}
use Rattle.net_base.specs.declared.noted.Noted.{Noted}
use Rattle.net_base.specs.declared.reply.Reply.{Reply}
use Rattle.net_base.specs.declared.world.Script.{Script}
use Rattle.net_base.specs.declared.world.World.{World}
use Rattle.net_base.specs.Actors.{actor_step}
use Rattle.net_base.specs.Callers.{IsScript, IsCourier, IsClock, caller_of}
use Rattle.net_base.specs.Duties.{Duty}
use Rattle.net_base.specs.Next.{finished_by, next_by, own_replies, zone_of}
use Rattle.net_base.specs.Steps.{Ask, Names}
use Rattle.net_base.specs.Stamped.{In}
use Rattle.net_base.specs.Tasks.{Asking, Tasks}
use Rattle.net_base.specs.Versions.{Tuples}
use Rattle.duties.specs.Queue.{work_of_duty}
use Rattle.net_locks.specs.Own.{AreNext, AreTimely}
use Rattle.net_locks.specs.Works.{entries, noted_net}
use Rattle.host_net.specs.declared.player.Played.{Played}
use Rattle.host_net.specs.declared.player.Played.TheVariants as played
use Rattle.host_net.specs.declared.player.Role.{Role}
use Rattle.host_net.specs.declared.player.Role.TheVariants as role
use Rattle.net_locks.specs.declared.turn.Turn.{Turn}
use Rattle.net_locks.specs.declared.turn.Turn.TheVariants as turn
use Rattle.net_locks.specs.Turns.{IsFull, bare, own_seen}
use Rattle.net_guests.specs.Visits.{Visit}

-- who a caller is
abbrev pub VisitHasRole : World → ℕ → Role → Type 0
VisitHasRole w c role.Script = (s : Script) × (caller_of w c ≡ IsScript s)
VisitHasRole w c (role.Courier m) = caller_of w c ≡ IsCourier m
VisitHasRole w c role.Clock = caller_of w c ≡ IsClock

-- each entry of the guest's caller was its first duty or what came next, and each of its moves came in time
pub record IsVisitPlayed (ts : Tasks) (w : World) (v : Visit) : Type 0 where
  pub nexts : AreNext ts w v.caller v.sight.seen
  pub timely : AreTimely ts w v.caller v.sight.seen

-- and so for each of these guests
abbrev pub AreVisitsPlayed : Tasks → World → List Visit → Type 0
AreVisitsPlayed ts w vs = (v : Visit) → In v vs → IsVisitPlayed ts w v

-- of guests with what they played, the guests
abbrev pub guests_of : {T : Type 0} → List (Visit × T) → List Visit
guests_of xs = map (λ x. x.0) xs

-- what contracts see of a player
pub record Playing (T : Type 0) : Type 0 where
  pub visit : Visit
  pub role : Role
  pub task : T
  -- the task wasn't told its last reply, for want of memory
  pub lost : Bool
  -- the task plays the whole script, and so tells how many of its steps are finished
  pub counts : Bool

module _ {T : Type 0} (Goes : Option Asking → Tuples → Script → List Reply → Names → T → Type 0) where
  -- the task goes on where the own entries leave what is played in the place of the script
  abbrev pub GoesOn : Option Asking → Tuples → Script → Visit → T → Type 0
  GoesOn own_seen zone s v t = Goes own_seen zone s (own_replies (entries v.sight.seen) v.caller) v.names t

  -- what a player keeps: its role is who its caller is, what its caller recorded was its duties and what came next, and
  -- unless a reply was lost for want of memory, the task in the place of a script goes on there
  pub record IsPlayer (ts : Tasks) (w : World) (v : Visit) (who : Role) (t : T) (lost : Bool) : Type 0 where
    pub role_is : VisitHasRole w v.caller who
    pub plays : IsVisitPlayed ts w v
    pub goes_on : (s : Script) → caller_of w v.caller ≡ IsScript s → lost ≡ false → GoesOn (ts v.caller) (zone_of w) s v t

  -- what was played in the place of a script goes on there
  abbrev pub IsGoing : Tasks → World → Visit × T → Type 0
  IsGoing ts w x = (s : Script) → caller_of w x.0.caller ≡ IsScript s → GoesOn (ts x.0.caller) (zone_of w) s x.0 x.1

  abbrev pub AreGoing : Tasks → World → List (Visit × T) → Type 0
  AreGoing ts w xs = (x : Visit × T) → In x xs → IsGoing ts w x

-- Steps.

-- the replies to the own events of a visit's caller
abbrev pub replies_of : Visit → List Reply
replies_of v = own_replies (entries v.sight.seen) v.caller

-- all of these but the last
abbrev pub before_last : List Reply → List Reply
before_last rs = take (length rs - 1) rs

-- unless a reply was lost for want of memory, the task of a script plays it after all its own replies; before the last of
-- them so many of its steps were finished
pub record IsCounted {T : Type 0} (Plays : Tuples → Script → List Reply → Names → T → Type 0) (w : World) (v : Visit) (t : T) (lost : Bool)
    (before : ℕ) : Type 0 where
  pub plays : (s : Script) → caller_of w v.caller ≡ IsScript s → lost ≡ false → Plays (zone_of w) s (replies_of v) v.names t
  pub before_is : (s : Script) → caller_of w v.caller ≡ IsScript s → before ≡ finished_by (zone_of w) (before_last (replies_of v)) s

-- what stands for the steps before the last reply after a turn: where that recorded an entry, the steps that were finished
abbrev pub CountsTurn : {T : Type 0} → (Tuples → Script → List Reply → Names → T → Type 0) → T → ℕ → Turn → ℕ → Type 0
CountsTurn Plays t before (turn.Recorded stamp answer) before' =
    (zone : Tuples) (s : Script) (rs : List Reply) (names : Names) → Plays zone s rs names t → before' ≡ finished_by zone rs s
CountsTurn Plays t before answer before' = before' ≡ before

-- Turns.

-- what a turn came to
abbrev pub played_by : Turn → Played
played_by (turn.Recorded stamp answer) = played.Recorded
played_by turn.NotReady = played.Waits
played_by turn.Owes = played.Waits
played_by turn.Limit = played.Waits
played_by turn.Memory = played.Memory

-- the task took the reply; or it is as before, and the reply is lost
abbrev pub ToldReply : {T : Type 0} → (T → Reply → T) → T → Bool → Reply → Played → T → Bool → Type 0
ToldReply after t lost r played.Recorded t' lost' = (t' ≡ after t r) × (lost' ≡ lost)
ToldReply after t lost r played.Waits t' lost' = ⊥
ToldReply after t lost r played.Memory t' lost' = (t' ≡ t) × (lost' ≡ true)

-- where the turn recorded an entry, the task was told the reply
abbrev pub Heard : {T : Type 0} → (T → Reply → T) → T → Bool → Turn → Played → T → Bool → Type 0
Heard after t lost (turn.Recorded stamp answer) result t' lost' = ToldReply after t lost answer result t' lost'
Heard after t lost answer result t' lost' = (result ≡ played_by answer) × (t' ≡ t) × (lost' ≡ lost)

-- a player of this caller at this moment, whose task tells as much
pub record IsSamePlayer {T : Type 0} (old new : Playing T) : Type 0 where
  pub caller : new.visit.caller ≡ old.visit.caller
  pub now : new.visit.now ≡ old.visit.now
  pub role : new.role ≡ old.role
  pub counts : new.counts ≡ old.counts

-- the first duty, or what comes next where nothing is owed, isn't ready after all that was seen
abbrev pub IsUnready : Tasks → World → Visit → List Duty → Type 0
IsUnready ts w v [] =
    (ask : Ask) → next_by ts w (entries v.sight.seen) v.caller ≡ Some ask
    → actor_step w ask.actor ((noted_net w v.sight.seen).actors ask.actor) v.now (bare ask.event) ≡ None
IsUnready ts w v (d ∷ ds) =
    actor_step w d.actor ((noted_net w v.sight.seen).actors d.actor) v.now (work_of_duty d) ≡ None

-- it has no room, or nothing of it is ready
abbrev pub IsWaiting : Tasks → World → Visit → Type 0
IsWaiting ts w v = IsFull v.caller v.sight ⊎ IsUnready ts w v v.owed

-- one entry of its own more
abbrev pub HasMore : Visit → Visit → Type 0
HasMore old new = (x : ℕ × Noted) × (own_seen new.caller new.sight ≡ own_seen old.caller old.sight ++ x ∷ [])

module _ {T : Type 0} where
  -- its caller recorded nothing
  pub record IsUnmoved (old new : Playing T) : Type 0 where
    pub own_is : own_seen new.visit.caller new.visit.sight ≡ own_seen old.visit.caller old.visit.sight
    pub owed : new.visit.owed ≡ old.visit.owed
    pub names : new.visit.names ≡ old.visit.names
    pub task : new.task ≡ old.task
    pub lost : new.lost ≡ old.lost

  -- what a player's turn did: it recorded an entry; or it waits; or it found no memory, and then it recorded nothing, or
  -- its task wasn't told the reply
  abbrev pub PlaysOn : Tasks → World → Playing T → Played → Playing T → Type 0
  PlaysOn ts w old played.Recorded new = HasMore old.visit new.visit × (new.lost ≡ old.lost)
  PlaysOn ts w old played.Waits new = IsUnmoved old new × IsWaiting ts w new.visit
  PlaysOn ts w old played.Memory new =
      IsUnmoved old new ⊎ (HasMore old.visit new.visit × (new.task ≡ old.task) × (new.lost ≡ true))

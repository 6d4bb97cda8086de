-- The turn of a caller after a history: what it records next.
use Rattle.std.specs.Prelude.{◌≡◌, ℕ, ◌<◌, Bool, true, List, [], ◌∷◌, length, Option, Some, None, is_some}
use Rattle.std.specs.Option.{option_map}
use Rattle.net_base.specs.declared.actor.ActorName.TheVariants as name
use Rattle.net_base.specs.declared.event.Event.TheVariants as event
use Rattle.net_base.specs.declared.history.Entry.{Entry}
use Rattle.net_base.specs.declared.history.With.TheVariants as given
use Rattle.net_base.specs.declared.world.World.{World}
use Rattle.net_base.specs.Actors.{actor_step}
use Rattle.net_base.specs.Callers.{caller_of, caller_count}
use Rattle.net_base.specs.Calm.{can_go_on, most_entries}
use Rattle.net_base.specs.Duties.{Duty}
use Rattle.net_base.specs.Legal.{IsAsked, IsInTime, cites_of}
use Rattle.net_base.specs.Net.{Net, after, owed, moment, with_of}
use Rattle.net_base.specs.Next.{by, next_recorded}
use Rattle.net_base.specs.Steps.{Ask}
use Rattle.plain_runner.specs.declared.turn.Turn.{Turn}

-- the turn is the caller's first duty, or its next event, or a move of the clock
abbrev pub IsAskedOf : World → List Entry → ℕ → Turn → Type 0
IsAskedOf w h c t =
    (x : Entry) → x.actor ≡ t.actor → x.event ≡ t.work.event → IsAsked (owed w h c) (caller_of w c) (next_recorded w h c) x

-- a caller's turn after a history
pub record IsTurn (w : World) (h : List Entry) (c : ℕ) (t : Turn) : Type 0 where
  pub asked : IsAskedOf w h c t
  pub cited : t.cites ≡ cites_of (owed w h c)
  pub given : t.work.with ≡ with_of (owed w h c)

-- which can be recorded
pub record IsReadyTurn (w : World) (h : List Entry) (c : ℕ) (t : Turn) : Type 0 where
  pub turn : IsTurn w h c t
  pub known : c < caller_count w
  pub room : length (by h c) < most_entries
  pub ready : is_some (actor_step w t.actor ((after w h).actors t.actor) (moment w h) t.work) ≡ true
  pub in_time : IsInTime (after w h) w t.work.event

-- the event of a turn
abbrev pub turn_ask : Turn → Ask
turn_ask t = record { actor = t.actor; event = t.work.event }

abbrev pub asks_of : Option Turn → Option Ask
asks_of t = option_map turn_ask t

-- nothing was owed to it
pub record IsOwnTurn (t : Turn) : Type 0 where
  pub nothing : t.work.with ≡ given.Nothing
  pub none : t.cites ≡ None

abbrev pub AreOwn : Option Turn → Type 0
AreOwn None = Unit {0}
AreOwn (Some t) = IsOwnTurn t

-- a duty, as it is recorded, is ready
abbrev pub is_duty_ready : World → Net → Duty → Bool
is_duty_ready w net d =
    is_some (actor_step w d.actor (net.actors d.actor) net.moment (record { event = d.event; with = d.with }))

-- what the caller owes first is ready, or its next event where it owes nothing
abbrev pub may_turn_by : World → Net → ℕ → List Duty → Bool
may_turn_by w net c [] = can_go_on w net c
may_turn_by w net c (d ∷ ds) = is_duty_ready w net d

abbrev pub may_turn : World → List Entry → ℕ → Bool
may_turn w h c = may_turn_by w (after w h) c (owed w h c)

-- it is this duty
pub record OfDuty (d : Duty) (t : Turn) : Type 0 where
  pub actor : t.actor ≡ d.actor
  pub work : t.work ≡ record { event = d.event; with = d.with }
  pub cites : t.cites ≡ Some d.cites

-- a move of the clock to this moment
pub record IsMoving (t : Turn) (m : ℕ) : Type 0 where
  pub actor : t.actor ≡ name.Clock
  pub event : t.work.event ≡ event.Move m
  pub own : IsOwnTurn t

-- All actors of a world, each at its number.
use Rattle.std.specs.Prelude.{◌≡◌, ℕ, Bool, true, List, length, Option, Some, None, filter_map, option_to_list, slice_get, is_some, IfSome}
use Rattle.std.specs.Option.{option_map_or}
use Rattle.net_base.specs.declared.actor.ActorName.{ActorName}
use Rattle.net_base.specs.declared.actor.ActorName.TheVariants as name
use Rattle.net_base.specs.declared.address.Proto.{Proto}
use Rattle.net_base.specs.declared.history.Outcome.{Outcome}
use Rattle.net_base.specs.declared.history.Work.{Work}
use Rattle.net_base.specs.declared.world.World.{World}
use Rattle.net_base.specs.Actors.{Actor, IsPlain, actor_step, has_actor, opening_actor}
use Rattle.net_base.specs.Duties.{slots_of}
use Rattle.net_base.specs.Net.{actors_after}
use Rattle.duties.specs.declared.due.Due.{Due}
use Rattle.duties.specs.Ticking.{due_at}
use Rattle.net_actors.specs.declared.actor.Actor.{Actor as Kept}
use Rattle.net_actors.specs.Kept.{IsActorOf, kept_state}
use Rattle.net_actors.specs.Numbers.{is_actor_among, number_in_world, number_of}
use Rattle.net_actors.specs.Small.{IsSmallActor}
use Rattle.net_actors.specs.Stepping.{ActorMayWant}

-- how many hosts and media there are, and the actors in the order of their numbers
pub record Numbered : Type 0 where
  pub hosts : ℕ
  pub media : ℕ
  pub actors : List Kept

-- there is an actor of this name
abbrev pub has_name : Numbered → ActorName → Bool
has_name v a = is_actor_among v.hosts v.media a

-- it is the actor of this name in the world, in this state
abbrev pub IsAtActor : World → ActorName → Actor → Option Kept → Type 0
IsAtActor w a s None = ⊥
IsAtActor w a s (Some x) = IsActorOf w x × (x.name ≡ a) × (kept_state x ≡ s)

-- they are all actors of the world, each at its number, in these states
pub record AreActors (w : World) (v : Numbered) (states : ActorName → Actor) : Type 0 where
  pub hosts_are : v.hosts ≡ length w.hosts
  pub media_are : v.media ≡ length w.media
  pub each : (a : ActorName) → has_actor w a ≡ true → IsAtActor w a (states a) (slice_get v.actors (number_in_world w a))

-- the state of the actor of this name, or that of one that keeps nothing
abbrev pub state_at_actor : Numbered → ActorName → Actor
state_at_actor v a = option_map_or kept_state (slice_get v.actors (number_of v.hosts v.media a)) IsPlain

-- the due moments of these actors' conversations of a host and protocol
abbrev pub dues_at : Numbered → ℕ → Proto → List Due
dues_at v h p = filter_map (due_at (state_at_actor v)) (slots_of h p)

-- the due moment of the one in a slot, if it has one
abbrev pub due_in_slot : Numbered → ℕ → Proto → ℕ → List Due
due_in_slot v h p n = option_to_list (due_at (state_at_actor v) (name.Conv h p n))

-- these are the first n actors of the world, to which nothing has happened
pub record AreFirst (w : World) (n : ℕ) (actors : List Kept) : Type 0 where
  pub count : length actors ≡ n
  pub place : (k : ℕ) (x : Kept) → slice_get actors k ≡ Some x → IsActorOf w x × (has_actor w x.name ≡ true) × (number_in_world w x.name ≡ k) × (kept_state x ≡ opening_actor w.timers x.name)

-- they are the actors of some world, and the table of this one there answers the work
pub record CanStep (v : Numbered) (a : ActorName) (now : ℕ) (work : Work) : Type 0 where
  pub world : World
  pub states : ActorName → Actor
  pub are : AreActors world v states
  pub has : has_actor world a ≡ true
  pub small : IsSmallActor (states a)
  pub ready : is_some (actor_step world a (states a) now work) ≡ true

-- the table of this actor answers with this outcome, after which all are the actors of the world
pub record StepsIn (w : World) (states : ActorName → Actor) (new : Numbered) (a : ActorName) (now : ℕ) (work : Work) (o : Outcome) : Type 0 where
  pub state : Actor
  pub step : actor_step w a (states a) now work ≡ Some (record { state = state; outcome = o })
  pub are : AreActors w new (actors_after states a state)

-- so in each world of which they are the actors
abbrev pub StepsTogether : Numbered → Numbered → ActorName → ℕ → Work → Outcome → Type 0
StepsTogether old new a now work o =
    (w : World) (states : ActorName → Actor) → AreActors w old states → has_actor w a ≡ true → StepsIn w states new a now work o

-- by its kind this actor may want memory for the work
abbrev pub MayWantAt : Numbered → ActorName → ℕ → Work → Type 0
MayWantAt v a now work = IfSome (slice_get v.actors (number_of v.hosts v.media a)) (λ (x : Kept). ActorMayWant x.kind now work)

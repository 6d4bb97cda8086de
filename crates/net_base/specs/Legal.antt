-- Which histories are legal, and which are timed.
--     Follows, MayFollow      an entry may stand after these: a field a rule
--     IsLegal          each entry may follow those before it
--     IsTimed          each move comes after a calm, and to the right moment
--     IsLegalBy, IsTimedBy ..    the same by who plays a task in the place of a script
--     Keeps, IsFault   the same by rules, and the first entry that breaks one
use Rattle.std.specs.Prelude.{ℕ, ◌≡◌, ◌<◌, Bool, true, List, [], ◌∷◌, length, take, Option, Some, None, IsSome, slice_get}
use Rattle.std.specs.Option.{option_map}
use Rattle.net_base.specs.declared.actor.ActorName.{ActorName}
use Rattle.net_base.specs.declared.actor.ActorName.TheVariants as name
use Rattle.net_base.specs.declared.event.Event.{Event}
use Rattle.net_base.specs.declared.event.Event.TheVariants as event
use Rattle.net_base.specs.declared.history.Entry.{Entry}
use Rattle.net_base.specs.declared.history.Outcome.{Outcome}
use Rattle.net_base.specs.declared.packet.Header.{Header}
use Rattle.net_base.specs.declared.reply.Reply.{Reply}
use Rattle.net_base.specs.declared.world.World.{World}
use Rattle.net_base.specs.Actors.{has_actor}
use Rattle.net_base.specs.Callers.{Caller, IsClock, caller_of, caller_count}
use Rattle.net_base.specs.Calm.{movable_by, target_by, most_entries}
use Rattle.net_base.specs.Duties.{Duty}
use Rattle.net_base.specs.Headers.{header}
use Rattle.net_base.specs.Net.{Net, after, outcome_in}
use Rattle.net_base.specs.Next.{by, next_recorded, next_by}
use Rattle.net_base.specs.Steps.{Ask}
use Rattle.net_base.specs.Tasks.{Tasks, nobody}

-- what an entry shows of its outcome
pub record Shown : Type 0 where
  pub reply : Reply
  pub emits : Option Header
  pub ended : Bool

abbrev pub shown_of : Outcome → Shown
shown_of o = record { reply = o.reply; emits = option_map header o.emit; ended = o.ended }

abbrev pub shown_by : Entry → Shown
shown_by x = record { reply = x.reply; emits = x.emits; ended = x.ended }

-- where there is an outcome, the entry shows it
abbrev pub Shows : Option Outcome → Entry → Type 0
Shows None x = Unit {0}
Shows (Some o) x = shown_by x ≡ shown_of o

-- the stamp that the first duty cites, or nothing where none is owed
abbrev pub cites_of : List Duty → Option ℕ
cites_of [] = None
cites_of (d ∷ ds) = Some d.cites

-- the event at the actor
abbrev pub asked_by : Entry → Ask
asked_by x = record { actor = x.actor; event = x.event }

-- a move at the clock
abbrev pub IsMove : ActorName → Event → Type 0
IsMove name.Clock (event.Move m) = Unit {0}
IsMove _ _ = ⊥

-- where nothing is owed: the clock moves, and another caller records its next event
abbrev pub IsNext : Caller → Option Ask → Entry → Type 0
IsNext IsClock ask x = IsMove x.actor x.event
IsNext _ ask x = ask ≡ Some (asked_by x)

-- the first duty, or the next event where none is owed
abbrev pub IsAsked : List Duty → Caller → Option Ask → Entry → Type 0
IsAsked [] caller ask x = IsNext caller ask x
IsAsked (d ∷ ds) caller ask x = record { actor = d.actor; event = d.event } ≡ asked_by x

-- the entry may stand after these, after which the net stands so
pub record FollowsBy (ts : Tasks) (w : World) (past : List Entry) (net : Net) (x : Entry) : Type 0 where
  -- its reply, its header and its `ended` are those of its outcome
  pub answers : Shows (outcome_in w net x) x
  pub at_moment : x.moment ≡ net.moment
  pub cites : x.cites ≡ cites_of (net.owed x.caller)
  -- its actor and its event are those of its caller's first duty, or those that come next
  pub is_asked : IsAsked (net.owed x.caller) (caller_of w x.caller) (next_by ts w past x.caller) x
  pub is_ready : IsSome (outcome_in w net x)
  pub is_known : (has_actor w x.actor ≡ true) × (x.caller < caller_count w)
  pub has_room : length (by past x.caller) < most_entries

abbrev pub MayFollowBy : Tasks → World → List Entry → Entry → Type 0
MayFollowBy ts w past x = FollowsBy ts w past (after w past) x

-- each entry may follow those before it
abbrev pub IsLegalBy : Tasks → World → List Entry → Type 0
IsLegalBy ts w h = (k : ℕ) (x : Entry) → slice_get h k ≡ Some x → MayFollowBy ts w (take k h) x

-- where each script is played
abbrev pub Follows : World → List Entry → Net → Entry → Type 0
Follows w past net x = FollowsBy nobody w past net x

abbrev pub MayFollow : World → List Entry → Entry → Type 0
MayFollow w past x = MayFollowBy nobody w past x

abbrev pub IsLegal : World → List Entry → Type 0
IsLegal w h = IsLegalBy nobody w h

-- The moves.

-- a move comes where the clock may move, and to the target
abbrev pub IsInTimeBy : Tasks → Net → World → Event → Type 0
IsInTimeBy ts net w (event.Move m) = (movable_by ts w net ≡ true) × (m ≡ target_by ts w net)
IsInTimeBy ts net w _ = Unit {0}

abbrev pub IsTimedBy : Tasks → World → List Entry → Type 0
IsTimedBy ts w h = (k : ℕ) (x : Entry) → slice_get h k ≡ Some x → IsInTimeBy ts (after w (take k h)) w x.event

-- where each script is played
abbrev pub IsInTime : Net → World → Event → Type 0
IsInTime net w e = IsInTimeBy nobody net w e

abbrev pub IsTimed : World → List Entry → Type 0
IsTimed w h = IsTimedBy nobody w h

-- The rules, in the order of their numbers.

pub data Rule : Type 0 where
  -- 1: its reply, its header and its `ended` are those of its outcome
  Answers : Rule
  -- 2: its moment
  AtMoment : Rule
  -- 3: what it cites
  Cites : Rule
  -- 4: it is its caller's first duty or next event
  Asked : Rule
  -- 5: it is ready
  Ready : Rule
  -- 6: a move comes in time
  InTime : Rule
  -- 7: its actor and its caller are the world's
  Known : Rule
  -- 8: its caller has room for it
  HasRoom : Rule

abbrev pub rule_number : Rule → ℕ
rule_number Answers = 1
rule_number AtMoment = 2
rule_number Cites = 3
rule_number Asked = 4
rule_number Ready = 5
rule_number InTime = 6
rule_number Known = 7
rule_number HasRoom = 8

-- the entry keeps the rule, after these entries and where the net stands so
abbrev pub Keeps : Rule → World → List Entry → Net → Entry → Type 0
Keeps Answers w past net x = Shows (outcome_in w net x) x
Keeps AtMoment w past net x = x.moment ≡ net.moment
Keeps Cites w past net x = x.cites ≡ cites_of (net.owed x.caller)
Keeps Asked w past net x = IsAsked (net.owed x.caller) (caller_of w x.caller) (next_recorded w past x.caller) x
Keeps Ready w past net x = IsSome (outcome_in w net x)
Keeps InTime w past net x = IsInTime net w x.event
Keeps Known w past net x = (has_actor w x.actor ≡ true) × (x.caller < caller_count w)
Keeps HasRoom w past net x = length (by past x.caller) < most_entries

-- the first entry that breaks a rule stands here, and this is the least rule that it breaks
pub record IsFault (w : World) (h : List Entry) (stamp : ℕ) (rule : Rule) : Type 0 where
  pub entry : Entry
  pub stands : slice_get h stamp ≡ Some entry
  pub legal : IsLegal w (take stamp h)
  pub timed : IsTimed w (take stamp h)
  pub lower : (r : Rule) → rule_number r < rule_number rule → Keeps r w (take stamp h) (after w (take stamp h)) entry
  pub broken : Keeps rule w (take stamp h) (after w (take stamp h)) entry → ⊥

-- What the player of a script stands for.
use Rattle.std.specs.Prelude.{◌≡◌, ◌≤◌, ◌++◌, ◌+◌, ◌&&◌, ℕ, false, List, [], ◌∷◌, drop, take, length, Option, Some, None, is_none, nat_lt, slice_get, if◌then◌else◌}
use Rattle.net_base.specs.declared.actor.ActorName.{ActorName}
use Rattle.net_base.specs.declared.event.Event.{Event}
use Rattle.net_base.specs.declared.left.Left.{Left}
use Rattle.net_base.specs.declared.reply.Reply.{Reply}
use Rattle.net_base.specs.declared.world.Script.{Script}
use Rattle.net_base.specs.declared.world.Step.{Step}
use Rattle.net_base.specs.Next.{finished_by}
use Rattle.net_base.specs.Scripts.{Kept, at_first, heard_replies as heard_in, left_after, position}
use Rattle.net_base.specs.Steps.{Ask, Names, Play, Position, position_by, stands}
use Rattle.net_base.specs.Versions.{Tuples}
use Rattle.script_task.specs.Holdings.{Holdings, holdings}
use Rattle.script_task.specs.declared.effect.Effect.{Effect}
use Rattle.script_task.specs.declared.effect.Effect.TheVariants.{Opens}
use Rattle.net_base.specs.declared.request.Request.{Request}
use Rattle.script_task.specs.Effects.{effect_of, opened_file, settles_effect}
use Rattle.net_base.specs.Requests.{planned}
use Rattle.played_task.specs.declared.step.StepTask.{StepTask}
use Rattle.dial_lib.specs.Slots.{HaveSlots}
use Rattle.played_task.specs.StepTasks.{StandsFor, asks, after, after_all, begun, left_by as left_by_task}

-- what a contract sees of a player
pub record Playing : Type 0 where
  pub holdings : Holdings
  pub finished : ℕ
  -- the task of the step behind those, where it has begun
  pub task : Option StepTask
  -- what the reply to its next event does to the names, where it was asked for
  pub effect : Option Effect
  -- what the finished steps leave for later ones
  pub left : Left

-- an event at its actor
abbrev pub asked_event : ActorName × Event → Ask
asked_event e = record { actor = e.0; event = e.1 }

-- where the script stands after the replies to its own events, where `dns` answers from this database
abbrev pub position_after : Tuples → Script → List Reply → Position
position_after zone s rs = position s.host s.steps (at_first zone) rs

-- the event that it records next
abbrev pub next_after : Tuples → Script → List Reply → Option Ask
next_after zone s rs = (position_after zone s rs).next

-- the script with these steps added at its end
abbrev pub with_steps : Script → List Step → Script
with_steps s extra = record s { steps = s.steps ++ extra }

-- where a script stands after these replies, if these steps follow its first n steps in place of its own
abbrev pub position_with : Tuples → Script → ℕ → List Step → List Reply → Position
position_with zone s n later rs = position s.host (take n s.steps ++ later) (at_first zone) rs

-- After these replies, the last of them to the events of this step, this play is left of the step, whatever steps follow it.
-- The first n steps are finished, and this was left before the step.
abbrev pub PlaysLeft : Tuples → Script → ℕ → List Reply → List Reply → Left → Play → Step → Type 0
PlaysLeft zone s n rs said left p step =
    (later : List Step) (more : List Reply) → position_with zone s n (step ∷ later) (rs ++ more)
    ≡ position_by (stands p more) (step ∷ later)
    (λ (names : Names) (replies : List Reply). position s.host later (record { names = names; left = left_after left step (said ++ heard_in p more) }) replies)

-- after these replies the first n steps are finished, and this is kept, whatever steps follow them
abbrev pub LeavesSteps : Tuples → Script → ℕ → List Reply → Kept → Type 0
LeavesSteps zone s n rs k = (later : List Step) (more : List Reply) → position_with zone s n later (rs ++ more) ≡ position s.host later k more

-- what is kept
abbrev pub playing_kept : Playing → Kept
playing_kept p = record { names = p.holdings.names; left = p.left }

-- what is known is the effect of the task's next request
abbrev pub KnowsPlaying : Names → StepTask → Option Effect → Type 0
KnowsPlaying names t None = Unit {0}
KnowsPlaying names t (Some e) = (q : Request) × (asks t names ≡ Some q) × (e ≡ effect_of names q)

-- in the midst of a step, which isn't through
pub record IsInStep (zone : Tuples) (s : Script) (rs : List Reply) (p : Playing) (t : StepTask) : Type 0 where
  pub play : Play
  pub step : Step
  pub rest : List Step
  -- the replies to the steps before it, and those that it was told
  pub before : List Reply
  pub said : List Reply
  pub replies_are : rs ≡ before ++ said
  -- what the steps before it left
  pub names : Names
  pub began : LeavesSteps zone s p.finished before (record { names = names; left = p.left })
  pub unheard : said ≡ [] → p.holdings.names ≡ names
  pub told : t ≡ after_all (begun p.left step) said
  pub behind : drop p.finished s.steps ≡ step ∷ rest
  pub plays : PlaysLeft zone s p.finished rs said p.left play step
  pub stands_for : StandsFor s.host p.holdings.names t play
  pub goes_on : is_none (asks t p.holdings.names) ≡ false
  pub knows : KnowsPlaying p.holdings.names t p.effect

-- before a step, or at the end
pub record Between (zone : Tuples) (s : Script) (rs : List Reply) (p : Playing) : Type 0 where
  pub slots : HaveSlots p.holdings.names
  pub leaves : LeavesSteps zone s p.finished rs (playing_kept p)
  pub within : p.finished ≤ length s.steps
  pub unknown : p.effect ≡ None

abbrev pub IsAtBy : Tuples → Script → List Reply → Playing → Option StepTask → Type 0
IsAtBy zone s rs p None = Between zone s rs p
IsAtBy zone s rs p (Some t) = IsInStep zone s rs p t

-- the player of the script was told these replies to its own events, and no others
unfoldable pub IsAt : Tuples → Script → List Reply → Playing → Type 0
IsAt zone s rs p = IsAtBy zone s rs p p.task

-- after these replies each step of the script is finished, and no step that follows them has a reply
abbrev pub AreStepsFinished : Tuples → Script → List Reply → Type 0
AreStepsFinished zone s rs = (later : List Step) → finished_by zone rs (with_steps s later) ≡ length s.steps

-- Moves.

-- the step that it is at has not begun
abbrev pub unbegun : Playing → Playing
unbegun p = record p { task = None; effect = None }

abbrev pub playing_begun_by : Playing → Option StepTask → Option Step → Playing
playing_begun_by p (Some t) o = p
playing_begun_by p None None = p
playing_begun_by p None (Some step) = record p { task = Some (begun p.left step); effect = None }

-- its next step has begun
abbrev pub begun_in : Script → Playing → Playing
begun_in s p = playing_begun_by p p.task (slice_get s.steps p.finished)

abbrev pub request_by : Names → Option StepTask → Option Request
request_by names None = None
request_by names (Some t) = asks t names

-- the request of the step that it is at
abbrev pub request_of : Playing → Option Request
request_of p = request_by p.holdings.names p.task

abbrev pub asked_as : ℕ → Names → Option Request → Option Ask
asked_as h names None = None
asked_as h names (Some q) = planned h names q

-- the event of that request
abbrev pub asked_at : ℕ → Playing → Option Ask
asked_at h p = asked_as h p.holdings.names (request_of p)

-- there is room for the name that is opened
abbrev pub with_room : Effect → Holdings → Holdings
with_room (Opens called n m) b = holdings b.names (Some called)
with_room _ b = b

abbrev pub prepared_by : Playing → Option Request → Playing
prepared_by p None = p
prepared_by p (Some q) = record p { holdings = with_room (effect_of p.holdings.names q) p.holdings; effect = Some (effect_of p.holdings.names q) }

-- it is ready for the reply
abbrev pub prepared : Playing → Playing
prepared p = prepared_by p (request_of p)

abbrev pub expected_by : Script → Playing → Option Effect → Playing
expected_by s p None = prepared (begun_in s p)
expected_by s p (Some e) = p

abbrev pub expected_in : Script → Playing → Playing
expected_in s p = expected_by s p p.effect

abbrev pub heard_by : Playing → Option StepTask → Option Effect → Reply → Playing
heard_by p (Some t) (Some e) r = record p { holdings = settles_effect e (opened_file e r) p.holdings; task = Some (after t r); effect = None; left = left_by_task (after t r) p.left }
heard_by p _ _ r = p

-- its task and its names after a reply
abbrev pub playing_heard : Playing → Reply → Playing
playing_heard p r = heard_by p p.task p.effect r

abbrev pub left_by_playing : ℕ → Playing → Option StepTask → Playing
left_by_playing count p None = p
left_by_playing count p (Some t) = if is_none (asks t p.holdings.names) && nat_lt p.finished count then record p { finished = p.finished + 1; task = None } else p

-- a step that is through is finished
abbrev pub left : ℕ → Playing → Playing
left count p = left_by_playing count p p.task

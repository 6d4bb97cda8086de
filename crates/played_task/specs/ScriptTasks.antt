-- The task of a whole script: its requests, what a reply makes of it, and the plays that it stands for.
use Rattle.std.specs.Prelude.{◌≡◌, ℕ, ◌+◌, ◌<◌, Bool, true, false, List, [], ◌∷◌, ◌++◌, drop, length, Option, Some, None, IfSome, is_none, option_map}
use Rattle.net_base.specs.declared.left.Left.{Left}
use Rattle.net_base.specs.declared.reply.Reply.{Reply}
use Rattle.net_base.specs.declared.world.Script.{Script}
use Rattle.net_base.specs.declared.world.Step.{Step}
use Rattle.net_base.specs.Next.{finished_by}
use Rattle.net_base.specs.Scripts.{Kept as Holds, kept_after, left_after, step_play}
use Rattle.net_base.specs.Steps.{Names, Play, Asks, Ends, no_names}
use Rattle.net_base.specs.Tasks.{Asking}
use Rattle.net_base.specs.Versions.{Tuples}
use Rattle.net_base.specs.declared.request.Request.{Request}
use Rattle.script_task.specs.Rest.{Continues}
use Rattle.script_task.specs.Task.{follow, fits_play}
use Rattle.played_task.specs.declared.step.StepTask.{StepTask}
use Rattle.played_task.specs.StepTasks as step

-- The task.

-- what a contract sees of it: how many steps are finished, what they leave for later ones, and, if one is left, the step that is played and
-- those behind
pub data Scripting : Type 0 where
  AtStep : ℕ → Left → StepTask → List Step → Scripting
  AtEnd : ℕ → Left → Scripting

abbrev pub finished_in : Scripting → ℕ
finished_in (AtStep n left t behind) = n
finished_in (AtEnd n left) = n

-- where so many steps are finished, this is left and these are to come, the first of them begins
abbrev pub begun_at : ℕ → Left → List Step → Scripting
begun_at n left [] = AtEnd n left
begun_at n left (s ∷ ss) = AtStep n left (step.begun left s) ss

-- where so many steps are finished, the first of those to come goes on, if it has begun already
abbrev pub progress : ℕ → Left → Option StepTask → List Step → Scripting
progress n left None steps = begun_at n left steps
progress n left (Some t) steps = AtStep n left t (drop 1 steps)

-- the task of a step, where it has begun, or else of this one
abbrev pub begun_by : Left → Option StepTask → Option Step → Option StepTask
begun_by left None o = option_map (step.begun left) o
begun_by left (Some t) o = Some t

-- Requests and replies.

-- the next request under these names
abbrev pub asks : Scripting → Names → Option Request
asks (AtStep n left t behind) names = step.asks t names
asks (AtEnd n left) names = None

-- what this step, if there is one, asks before it has recorded anything
abbrev pub first_asked : Left → Option Step → Names → Option Request
first_asked left None names = None
first_asked left (Some s) names = step.asks (step.begun left s) names

-- a step has a request, whatever the names
abbrev pub HasRequest : StepTask → Type 0
HasRequest t = (names : Names) → is_none (step.asks t names) ≡ false

-- a step that has begun is one of those that are to come, and isn't through
abbrev pub KeptStep : ℕ → Option StepTask → List Step → Type 0
KeptStep n t steps = IfSome t (λ (x : StepTask). (n < length steps) × HasRequest x)

-- a step that is through is finished and leaves what it leaves, and the next one begins
abbrev pub step_goes_on : ℕ → Left → StepTask → List Step → Bool → Scripting
step_goes_on n left t behind false = AtStep n left t behind
step_goes_on n left t behind true = begun_at (n + 1) (step.leaves t left) behind

-- the task after a reply; whether a step is through doesn't hang on the names
abbrev pub after : Scripting → Reply → Scripting
after (AtStep n left t behind) r = step_goes_on n left (step.after t r) behind (is_none (step.asks (step.after t r) (no_names [])))
after (AtEnd n left) r = AtEnd n left

-- the step that has begun, if one has, after a reply
abbrev pub heard_in_step : Option StepTask → Reply → Option StepTask
heard_in_step None r = None
heard_in_step (Some t) r = Some (step.after t r)

-- the step after a reply, which begins if it hasn't
abbrev pub told_by_task : Left → Option StepTask → Option Step → Reply → Option StepTask
told_by_task left t o r = heard_in_step (begun_by left t o) r

-- a step has begun and is through
abbrev pub is_played : Option StepTask → Names → Bool
is_played None names = false
is_played (Some t) names = is_none (step.asks t names)

-- what is left then
abbrev pub left_by : Option StepTask → Left → Left
left_by None left = left
left_by (Some t) left = step.left_by t left

-- The play that it stands for.

-- a play, after these replies to its events, and then the one that begins with the names that it leaves and all its replies
abbrev pub play_behind : List Reply → Play → (Names → List Reply → Play) → Play
play_behind said (Asks a e next) later = Asks a e (λ (r : Reply). play_behind (said ++ r ∷ []) (next r) later)
play_behind said (Ends names) later = later names said

-- the plays of these steps, one after another, where this is kept
abbrev pub plays_of : ℕ → List Step → Holds → Play
plays_of h [] k = Ends k.names
plays_of h (s ∷ ss) k = play_behind [] (step_play h k s) (λ (names : Names) (rs : List Reply). plays_of h ss (kept_after k s names rs))

-- the plays behind a step, where this was left before it
abbrev pub plays_behind : ℕ → List Step → Left → Step → Names → List Reply → Play
plays_behind h behind left s names rs = plays_of h behind (record { names = names; left = left_after left s rs })

-- In the midst of a step, which was told these replies, stands for the rest of its play and isn't through, before these. What it leaves
-- once it is through is what those replies leave.
pub record InStep (h : ℕ) (names : Names) (left : Left) (t : StepTask) (behind : List Step) (p : Play) : Type 0 where
  pub step_is : Step
  pub said : List Reply
  pub told : t ≡ step.after_all (step.begun left step_is) said
  pub step_play : Play
  pub stands_for : step.StandsFor h names t step_play
  pub asks_on : is_none (step.asks t names) ≡ false
  pub play_is : p ≡ play_behind said step_play (plays_behind h behind left step_is)

-- on this host, under these names
abbrev pub StandsFor : ℕ → Names → Scripting → Play → Type 0
StandsFor h names (AtStep n left t behind) p = InStep h names left t behind p
StandsFor h names (AtEnd n left) p = p ≡ Ends names

-- The script that it plays.

-- the task after these replies
abbrev pub task_after_all : Scripting → List Reply → Scripting
task_after_all t [] = t
task_after_all t (r ∷ rs) = task_after_all (after t r) rs

-- each of these replies is one that the play's event can have
abbrev pub AllFit : Play → List Reply → Type 0
AllFit p [] = Unit {0}
AllFit p (r ∷ rs) = (fits_play p r ≡ true) × AllFit (follow p r) rs

-- After these replies, under these names, it plays the script: it stands for a play that goes on where they leave the
-- script. Whatever replies come then, as many steps are finished as the script has finished.
pub record Plays (zone : Tuples) (s : Script) (rs : List Reply) (names : Names) (t : Scripting) : Type 0 where
  pub play : Play
  pub stands_for : StandsFor s.host names t play
  pub continues : Continues zone s rs play
  pub counts : (more : List Reply) → AllFit play more → finished_in (task_after_all t more) ≡ finished_by zone (rs ++ more) s

-- it goes on in the place of the script where that is played there
abbrev pub GoesScripting : Option Asking → Tuples → Script → List Reply → Names → Scripting → Type 0
GoesScripting own zone s rs names t = (own ≡ None) × Plays zone s rs names t

-- What is played in the place of a script: the script itself, or a task of one's own.
use Rattle.std.specs.Prelude.{◌≡◌, List, Option, Some}
use Rattle.net_base.specs.declared.reply.Reply.{Reply}
use Rattle.net_base.specs.declared.request.Request.{Request}
use Rattle.net_base.specs.declared.world.Script.{Script}
use Rattle.net_base.specs.Steps.{Names, no_names}
use Rattle.net_base.specs.Tasks.{Asking, asking_of, names_told, told_all}
use Rattle.net_base.specs.Versions.{Tuples}
use Rattle.played_task.specs.declared.place.PlaceTask.{PlaceTask}
use Rattle.played_task.specs.declared.place.PlaceTask.TheVariants as place
use Rattle.played_task.specs.ScriptTasks as script

-- a script is played by its steps
abbrev pub PlaysPlace : {T : Type 0} → Tuples → Script → List Reply → Names → PlaceTask T → Type 0
PlaysPlace zone s rs names (place.Script t) = script.Plays zone s rs names t
PlaysPlace zone s rs names (place.Own t) = ⊥

module _ {T : Type 0} (asks_of : T → Names → Option Request) where
  abbrev pub asks : PlaceTask T → Names → Option Request
  asks (place.Script t) names = script.asks t names
  asks (place.Own t) names = asks_of t names

module _ {T : Type 0} (after_of : T → Reply → T) where
  abbrev pub after : PlaceTask T → Reply → PlaceTask T
  after (place.Script t) r = place.Script (script.after t r)
  after (place.Own t) r = place.Own (after_of t r)

module _ {T : Type 0} (asks_of : T → Names → Option Request) (after_of : T → Reply → T) (Keeps : T → List Reply → Type 0) where
  -- the task that is played there began so, was told these replies, and keeps what is claimed of it; and so these names were bound
  pub record GoesOwn (own : Option Asking) (zone : Tuples) (rs : List Reply) (names : Names) (t : T) : Type 0 where
    pub begun : T
    pub own_is : own ≡ Some (asking_of after_of asks_of begun)
    pub task_is : t ≡ told_all after_of begun rs
    pub keeps : Keeps t rs
    pub names_are : names ≡ names_told (asking_of after_of asks_of begun) (no_names zone) rs

  abbrev pub Goes : Option Asking → Tuples → Script → List Reply → Names → PlaceTask T → Type 0
  Goes own zone s rs names (place.Script t) = script.GoesScripting own zone s rs names t
  Goes own zone s rs names (place.Own t) = GoesOwn own zone rs names t

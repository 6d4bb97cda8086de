-- The tasks that a run is given, by the places of scripts, and how they come back.
use Rattle.std.specs.Prelude.{◌≡◌, ℕ, List, [], Option, Some, None, option_map, slice_get}
use Rattle.std.specs.Option.{option_and_then}
use Rattle.net_base.specs.declared.history.Entry.{Entry}
use Rattle.net_base.specs.declared.reply.Reply.{Reply}
use Rattle.net_base.specs.declared.request.Request.{Request}
use Rattle.net_base.specs.declared.world.Script.{Script}
use Rattle.net_base.specs.declared.world.World.{World}
use Rattle.net_base.specs.Next.{own_replies, zone_of}
use Rattle.net_base.specs.Stamped.{In}
use Rattle.net_base.specs.Steps.{Names}
use Rattle.net_base.specs.Tasks.{Asking, Tasks, asking_of, told_all}
use Rattle.history_laws.specs.Asked.{AsksInOrder}
use Rattle.host_net.specs.Playing.{replies_of}
use Rattle.net_guests.specs.Visits.{HasGuest, Visit}
use Rattle.played_task.specs.declared.place.PlaceTask.{PlaceTask}
use Rattle.played_task.specs.declared.place.PlaceTask.TheVariants as place
use Rattle.played_task.specs.Places.{GoesOwn}

-- the task that is given for a place, if one is
abbrev pub task_at : {T : Type 0} → List (Option T) → ℕ → Option T
task_at given c = option_and_then (λ o. o) (slice_get given c)

-- where none is given none comes back
abbrev pub NoneElse : {T : Type 0} → List (Option T) → List (Option T) → Type 0
NoneElse given back = (c : ℕ) → task_at given c ≡ None → task_at back c ≡ None

-- each of these is of a place in which a task is played
abbrev pub AreTheirs : {T : Type 0} → Tasks → List (Option T) → Type 0
AreTheirs {T} ts back = (c : ℕ) (t : T) → task_at back c ≡ Some t → (asking : Asking) × (ts c ≡ Some asking)

-- the task of one's own among what is played
abbrev pub own_task : {T : Type 0} → PlaceTask T → Option T
own_task (place.Script t) = None
own_task (place.Own t) = Some t

-- what is claimed of each task holds as it is given
abbrev pub AreBegun : {T : Type 0} → (T → List Reply → Type 0) → List (Option T) → Type 0
AreBegun {T} Keeps given = (c : ℕ) (t : T) → task_at given c ≡ Some t → Keeps t []

module _ {T : Type 0} (asks : T → Names → Option Request) (after : T → Reply → T) where
  -- what is asked in each place; the script of a place for which no task is given is played
  abbrev pub tasks_of : List (Option T) → Tasks
  tasks_of given c = option_map (asking_of after asks) (task_at given c)

  -- what is recorded in each script's place for which a task is given is what that asks, in order
  abbrev pub AskInOrder : World → List (Option T) → List Entry → Type 0
  AskInOrder w given h =
      (c : ℕ) (s : Script) (t : T) → slice_get w.scripts c ≡ Some s → task_at given c ≡ Some t → AsksInOrder w h c s (asking_of after asks t)

  module _ (Keeps : T → List Reply → Type 0) where
    -- what comes back from a place is a task that keeps what is claimed of it after these replies, and asks on as the given one would
    -- that was told them
    pub record WasTold (t : T) (rs : List Reply) (there : Option T) : Type 0 where
      pub back : T
      pub back_is : there ≡ Some back
      pub keeps : Keeps back rs
      pub asks_on : asking_of after asks back ≡ asking_of after asks (told_all after t rs)

    -- each task of a script's place was told the replies to what it asked, in order, and nothing else
    abbrev pub WereTold : World → List (Option T) → List Entry → List (Option T) → Type 0
    WereTold w given h back =
        (c : ℕ) (s : Script) (t : T) → slice_get w.scripts c ≡ Some s → task_at given c ≡ Some t → WasTold t (own_replies h c) (task_at back c)

    -- The end.

    -- the task of a place, which one of these played
    pub record IsBack (ts : Tasks) (w : World) (vs : List Visit) (c : ℕ) (there : Option T) : Type 0 where
      pub visit : Visit
      pub played : In visit vs
      pub caller : visit.caller ≡ c
      pub task : T
      pub back_is : there ≡ Some task
      pub goes : GoesOwn asks after Keeps (ts c) (zone_of w) (replies_of visit) visit.names task

    -- and so for the place of each of these that played one
    abbrev pub AreBack : Tasks → World → List Visit → List (Option T) → Type 0
    AreBack ts w vs back =
        (c : ℕ) (s : Script) (asking : Asking) → slice_get w.scripts c ≡ Some s → ts c ≡ Some asking → HasGuest c vs → IsBack ts w vs c (task_at back c)

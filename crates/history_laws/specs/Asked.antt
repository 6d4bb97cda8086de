-- What is recorded in the place of a script by a task that is played there: what it asks for, in order.
use Rattle.std.specs.Prelude.{◌≡◌, ℕ, List, take, Some, slice_get}
use Rattle.net_base.specs.declared.history.Entry.{Entry}
use Rattle.net_base.specs.declared.world.Script.{Script}
use Rattle.net_base.specs.declared.world.World.{World}
use Rattle.net_base.specs.Legal.{asked_by}
use Rattle.net_base.specs.Next.{own_entries, own_replies, zone_of}
use Rattle.net_base.specs.Steps.{no_names}
use Rattle.net_base.specs.Tasks.{Asking, task_next}

-- each own entry of the caller is the event that the task asks for once it was told the replies to the own entries before it
abbrev pub AsksInOrder : World → List Entry → ℕ → Script → Asking → Type 0
AsksInOrder w h c s asks =
    (k : ℕ) (x : Entry) → slice_get (own_entries h c) k ≡ Some x
    → task_next s.host (no_names (zone_of w)) asks (take k (own_replies h c)) ≡ Some (asked_by x)

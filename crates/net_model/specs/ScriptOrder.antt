-- A script's entries are those of its steps, in order, each once.
--     own_entries     the entries of a caller that cite nothing
--     IsPlayed        a play records exactly these entries
--     Begins          these are the first entries of a play that isn't over
--     StandInOrder    entries of steps, of which so many are finished
--     KeepsScript     what a history has of a script
use Rattle.std.specs.Prelude.{ℕ, ◌≡◌, ◌≤◌, ◌-◌, Bool, true, false, List, length, take, Some, None, slice_get}
use Rattle.net_base.specs.declared.history.Entry.{Entry}
use Rattle.net_base.specs.declared.world.Script.{Script}
use Rattle.net_base.specs.declared.world.World.{World}
use Rattle.net_base.specs.Calm.{owes}
use Rattle.net_base.specs.Duties.{Duty}
use Rattle.net_base.specs.Net.{after, owed}
use Rattle.net_base.specs.Next.{answered, finished_by, own_entries, own_replies, zone_of}
use Rattle.net_base.specs.Stamped.{In}
use Rattle.net_base.specs.Scripts.{at_first}
use Rattle.prefix_law.specs.Order.{StandInOrder}
use Rattle.prefix_law.specs.Scripted.{scripted}

-- the entries of steps of which a caller owes nothing: what it owes is of the step of its last own entry
abbrev pub settled_entries : Bool → List Entry → List Entry
settled_entries true xs = take (length xs - 1) xs
settled_entries false xs = xs

-- the last entry of a caller that cites nothing
pub record IsLastOwn (h : List Entry) (c k : ℕ) : Type 0 where
  pub entry : Entry
  pub stands : slice_get h k ≡ Some entry
  pub caller_is : entry.caller ≡ c
  pub cites_is : entry.cites ≡ None
  pub last : (j : ℕ) (x : Entry) → slice_get h j ≡ Some x → x.caller ≡ c → x.cites ≡ None → j ≤ k

-- the duty cites the caller's last own entry, or one that stands after it
pub record IsOfLastStep (h : List Entry) (c : ℕ) (d : Duty) : Type 0 where
  pub stamp : ℕ
  pub is_last : IsLastOwn h c stamp
  pub cites : stamp ≤ d.cites

-- what a history has of the script of a caller
pub record KeepsScript (w : World) (h : List Entry) (c : ℕ) (s : Script) : Type 0 where
  -- the steps that are finished, and those that are answered
  pub finished : StandInOrder (scripted (zone_of w) s) (at_first (zone_of w)) s.steps (finished_by (zone_of w) (own_replies h c) s) (own_entries h c)
  pub answered_is : StandInOrder (scripted (zone_of w) s) (at_first (zone_of w)) s.steps (answered w h c (owes (after w h) c) s) (settled_entries (owes (after w h) c) (own_entries h c))
  pub owed_is : (d : Duty) → In d (owed w h c) → IsOfLastStep h c d

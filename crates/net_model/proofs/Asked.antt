-- An entry follows, where what is asked for is computed as one value.
use Rattle.std.proofs.Common.{◌≡◌, ◌<◌, ℕ, true, List, [], ◌∷◌, Option, Some, IsSome, length}
use Rattle.std.proofs.lemmas.Option.{none-some, same_Some}
use Rattle.net_base.specs.declared.history.Entry.{Entry}
use Rattle.net_base.specs.declared.world.World.{World}
use Rattle.net_base.specs.Actors.{has_actor}
use Rattle.net_base.specs.Callers.{Caller, IsClock, IsCourier, IsNobody, IsScript, caller_count, caller_of}
use Rattle.net_base.specs.Calm.{most_entries}
use Rattle.net_base.specs.Duties.{Duty}
use Rattle.net_base.specs.Legal.{Follows, IsAsked, Shows, asked_by, cites_of}
use Rattle.net_base.specs.Net.{Net, outcome_in}
use Rattle.net_base.specs.Next.{by, next_recorded, next_of}
use Rattle.net_base.specs.Steps.{Ask}

-- the first duty, or what comes next
abbrev pub asked_in : List Duty → Option Ask → Option Ask
asked_in [] ask = ask
asked_in (d ∷ ds) ask = Some (record { actor = d.actor; event = d.event })

pub record Stands (w : World) (past : List Entry) (net : Net) (x : Entry) : Type 0 where
  pub answers : Shows (outcome_in w net x) x
  pub at_moment : x.moment ≡ net.moment
  pub cites : x.cites ≡ cites_of (net.owed x.caller)
  pub asked : asked_in (net.owed x.caller) (next_recorded w past x.caller) ≡ Some (asked_by x)
  pub is_ready : IsSome (outcome_in w net x)
  pub is_known : (has_actor w x.actor ≡ true) × (x.caller < caller_count w)
  pub has_room : length (by past x.caller) < most_entries

by_caller : (w : World) (past : List Entry) (c : ℕ) (k : Caller) (x : Entry) → next_of w k past c ≡ Some (asked_by x) → IsAsked [] k (next_of w k past c) x
by_caller w past c (IsScript s) x is = is
by_caller w past c (IsCourier m) x is = is
by_caller w past c IsClock x is = absurd (none-some (asked_by x) is)
by_caller w past c IsNobody x is = is

by_duties : (w : World) (past : List Entry) (c : ℕ) (ds : List Duty) (x : Entry) → asked_in ds (next_recorded w past c) ≡ Some (asked_by x) → IsAsked ds (caller_of w c) (next_recorded w past c) x
by_duties w past c [] x is = by_caller w past c (caller_of w c) x is
by_duties w past c (d ∷ ds) x is = same_Some (record { actor = d.actor; event = d.event }) (asked_by x) is

pub stands : {w : World} {past : List Entry} {net : Net} {x : Entry} → Stands w past net x → Follows w past net x
stands {w} {past} {net} {x} s =
    record {
      answers = s.answers;
      at_moment = s.at_moment;
      cites = s.cites;
      is_asked = by_duties w past x.caller (net.owed x.caller) x s.asked;
      is_ready = s.is_ready;
      is_known = s.is_known;
      has_room = s.has_room;
    }

-- The players of all callers, in groups.
--     Seats        the callers of a group
--     IsDealt      each caller so far has its place in one group
--     Follows      that is the group that the deal says
use Rattle.std.specs.Prelude.{◌≡◌, ℕ, zero, suc, ◌+◌, ◌<◌, ◌++◌, ◌==◌, Bool, false, List, [], ◌∷◌, length, map, option_map, Option, Some}
use Rattle.std.specs.Prelude.{None, IfSome, slice_get, ◌%◌}
use Rattle.std.specs.Option.{option_map_or}
use Rattle.net_base.specs.declared.world.World.{World}
use Rattle.net_base.specs.Callers.{IsClock, caller_of}
use Rattle.net_base.specs.Stamped.{In}
use Rattle.net_base.specs.Tasks.{Tasks}
use Rattle.host_net.specs.Playing.{IsWaiting, Playing}
use Rattle.net_guests.specs.Visits.{Visit}
use Rattle.host_net.specs.declared.player.Role.{Role}
use Rattle.host_net.specs.declared.player.Role.TheVariants as role

-- what contracts see of a group: its players, the clock's where it is in this group, and whether memory ran out in a turn
pub record Grouped (T : Type 0) : Type 0 where
  pub players : List (Playing T)
  pub clock : Option (Playing T)
  pub memory : Bool

-- what contracts see of all groups, and of the deal, which has a number for each caller or for some first ones
pub record Grouping (T : Type 0) : Type 0 where
  pub groups : List (Grouped T)
  pub callers : ℕ
  pub deal : List ℕ

-- the number of a caller's group, of so many: the deal's number for it, or its own where the deal has none, modulo theirs
abbrev pub seat_of : List ℕ → ℕ → ℕ → ℕ
seat_of deal c many = option_map_or (λ (k : ℕ). k) (slice_get deal c) c % many

abbrev pub with_last : {A : Type 0} → List A → Option A → List A
with_last xs None = xs
with_last xs (Some x) = xs ++ x ∷ []

module _ {T : Type 0} where
  -- all players of the group
  abbrev pub members : Grouped T → List (Playing T)
  members g = with_last g.players g.clock

  abbrev pub all_members : List (Grouped T) → List (Playing T)
  all_members [] = []
  all_members (g ∷ gs) = members g ++ all_members gs

  abbrev pub visits : List (Playing T) → List Visit
  visits ps = map (λ (p : Playing T). p.visit) ps

  abbrev pub caller : Playing T → ℕ
  caller p = p.visit.caller

  abbrev pub callers_of : List (Playing T) → List ℕ
  callers_of ps = map caller ps

  -- each of them waits
  abbrev pub AreWaiting : Tasks → World → List (Playing T) → Type 0
  AreWaiting ts w ps = (p : Playing T) → In p ps → IsWaiting ts w p.visit

  -- nobody yet
  abbrev pub no_players : Grouped T
  no_players = record { players = []; clock = None; memory = false }

  abbrev pub joined_as : Role → Grouped T → Playing T → Grouped T
  joined_as role.Clock g p = record g { clock = Some p }
  joined_as _ g p = record g { players = g.players ++ p ∷ [] }

  -- with a player more, which is the clock's where that is its role
  abbrev pub joined : Grouped T → Playing T → Grouped T
  joined g p = joined_as p.role g p

  abbrev pub joined_at : ℕ → List (Grouped T) → Playing T → List (Grouped T)
  joined_at k [] p = []
  joined_at zero (g ∷ gs) p = joined g p ∷ gs
  joined_at (suc k) (g ∷ gs) p = g ∷ joined_at k gs p

  -- with the next caller's player in its group
  abbrev pub dealt : Grouping T → Playing T → Grouping T
  dealt x p = record x { groups = joined_at (seat_of x.deal x.callers (length x.groups)) x.groups p; callers = x.callers + 1 }

-- Callers.

-- the callers of a group
pub record Seats : Type 0 where
  pub others : List ℕ
  pub clock : Option ℕ

abbrev pub seats : {T : Type 0} → Grouped T → Seats
seats g = record { others = callers_of g.players; clock = option_map caller g.clock }

-- the callers of all groups
abbrev pub all_seats : {T : Type 0} → List (Grouped T) → List Seats
all_seats gs = map seats gs

abbrev pub callers_in : Seats → List ℕ
callers_in s = with_last s.others s.clock

abbrev pub all_callers : List Seats → List ℕ
all_callers [] = []
all_callers (s ∷ ss) = callers_in s ++ all_callers ss

-- a number that isn't among these
abbrev pub NotIn : ℕ → List ℕ → Type 0
NotIn c [] = Unit {0}
NotIn c (d ∷ ds) = ((c == d) ≡ false) × NotIn c ds

-- no number stands twice
abbrev pub GroupsApart : List ℕ → Type 0
GroupsApart [] = Unit {0}
GroupsApart (c ∷ cs) = NotIn c cs × GroupsApart cs

-- the callers up to this number are there, each once, and no others
pub record AreUpTo (n : ℕ) (cs : List ℕ) : Type 0 where
  pub all : (c : ℕ) → c < n → In c cs
  pub known : (c : ℕ) → In c cs → c < n
  pub apart : GroupsApart cs

-- the clock, where it is in this group, has its own place, and the others are scripts and couriers
pub record IsSeated (w : World) (s : Seats) : Type 0 where
  pub clock_is : IfSome s.clock (λ (c : ℕ). caller_of w c ≡ IsClock)
  pub others_are : (c : ℕ) → In c s.others → caller_of w c ≡ IsClock → ⊥

-- there are groups, and each caller below the number has its place in one of them
pub record IsDealt (w : World) (n : ℕ) (ss : List Seats) : Type 0 where
  pub some : 0 < length ss
  pub callers : AreUpTo n (all_callers ss)
  pub seated : (s : Seats) → In s ss → IsSeated w s

-- each caller stands in the group of its number by the deal
abbrev pub FollowsDeal : List ℕ → List Seats → Type 0
FollowsDeal deal ss = (k : ℕ) (s : Seats) (c : ℕ) → slice_get ss k ≡ Some s → In c (callers_in s) → seat_of deal c (length ss) ≡ k

-- one number more stands somewhere among these
pub record Inserts (c : ℕ) (old new : List ℕ) : Type 0 where
  pub before : List ℕ
  pub behind : List ℕ
  pub old_is : old ≡ before ++ behind
  pub new_is : new ≡ before ++ c ∷ behind

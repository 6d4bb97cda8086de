-- The clock's player is out of its group while its guest decides, and then it is back.
use Rattle.std.proofs.Common.{◌≡◌, ℕ, zero, suc, ◌<◌, ◌⊎◌, List, [], ◌∷◌, length, Some, slice_get, slice_set, refl, ap, sym, subst, ◌∙◌}
use Rattle.std.proofs.lemmas.Option.{none-some, slice_get_within}
use Rattle.net_base.specs.declared.world.World.{World}
use Rattle.net_base.specs.Callers.{IsClock, caller_of}
use Rattle.net_base.specs.Net.{after}
use Rattle.net_base.specs.Stamped.{In}
use Rattle.journal.specs.declared.law.Roster.{Roster}
use Rattle.net_locks.specs.Guests.{IsOfGuests}
use Rattle.net_locks.specs.Own.{IsLegalButScripts}
use Rattle.net_locks.specs.Works.{entries, noted_net}
use Rattle.net_locks.specs.declared.clock.Advance.{Advance}
use Rattle.net_locks.specs.declared.clock.Standing.{Standing}
use Rattle.net_base.specs.declared.noted.Noted.{Noted}
use Rattle.net_base.specs.Tasks.{Tasks}
use Rattle.host_net.proofs.Histories.{AreOne}
use Rattle.host_net.proofs.Outcomes.{advanced, clock_records, stay_at_once}
use Rattle.host_net.proofs.Standings.{all_clocks, clock_apart, clock_seated, has_guest, lent_first}
use Rattle.host_net.proofs.Taking.{NoClocks, all_placed, clock_among, emptied, emptied_again, filled, filled_at, filled_kept, filled_others}
use Rattle.host_net.proofs.Taking.{none_left, others_stay, place_back, seats_kept, still_none}
use Rattle.host_net.specs.Advancing.{Advanced, Advances, AreLent, AreStandings, GroupsAreBack, GroupsAreKept, IsClockKept, IsTaken, StayAtOnce, other_players}
use Rattle.host_net.specs.Groups.{GroupsApart, AreUpTo, Grouped, IsDealt, all_callers, all_members, all_seats, caller, callers_of, visits}
use Rattle.host_net.specs.Playing.{Playing}
use Rattle.net_guests.specs.Visits.{HasGuest, IsWith}

set_there : {A : Type 0} (xs : List A) (n : ℕ) (x y : A) → slice_get xs n ≡ Some x → slice_get (slice_set xs n y) n ≡ Some y
set_there [] n x y there = absurd (none-some x there)
set_there (z ∷ xs) zero x y there = refl
set_there (z ∷ xs) (suc n) x y there = set_there xs n x y there

-- what the laws say of all that guests recorded
abbrev pub ButScripts : World → Roster → Type 0
ButScripts w r = (log : List Noted) → IsOfGuests w r log → IsLegalButScripts w (entries log)

abbrev pub SameNets : World → Roster → Type 0
SameNets w r = (log : List Noted) → IsOfGuests w r log → noted_net w log ≡ after w (entries log)

module _ {T : Type 0} (ts : Tasks) (w : World) (r : Roster) (gs lent : List (Grouped T)) (place : ℕ) (p : Playing T) (taken : IsTaken gs p place lent)
    (dealt : IsDealt w r.callers (all_seats gs)) where
  pub is_clock : caller_of w (caller p) ≡ IsClock
  is_clock = clock_seated w gs place taken.group p dealt.seated taken.there taken.clock_is

  none_set : NoClocks (slice_set gs place (emptied taken.group))
  none_set =
      none_left (caller p) taken.group p taken.clock_is refl gs place taken.there (all_clocks w (caller p) gs is_clock dealt.seated) dealt.callers.apart

  none : NoClocks lent
  none = subst (λ (l : List (Grouped T)). NoClocks l) (sym taken.new_is) none_set

  same_others : other_players lent ≡ other_players gs
  same_others = ap other_players taken.new_is ∙ others_stay gs place taken.group taken.there

  pub clock_alone : GroupsApart (caller p ∷ callers_of (other_players lent))
  clock_alone =
      subst (λ (l : List (Playing T)). GroupsApart (caller p ∷ callers_of l)) (sym same_others)
      (clock_apart w (caller p) gs is_clock dealt.seated dealt.callers.apart)

  placed : (x : Playing T) → In x (all_members gs) → In x (other_players lent) ⊎ (x ≡ p)
  placed x i =
      subst (λ (l : List (Playing T)). In x l ⊎ (x ≡ p)) (sym same_others) (all_placed gs place taken.group p x taken.there taken.clock_is none_set i)

  pub all_lent_first : (ss : List Standing) → AreStandings ts w (visits (all_members gs)) ss → IsWith w r p.visit p.visit.sight
      → AreLent ts w r (visits (other_players lent)) p.visit.sight ss
  all_lent_first ss are mine = lent_first ts w r gs (other_players lent) p ss are placed mine (has_guest r.callers gs dealt.callers)

  -- the clock's player is `q` then, and stands in its group again
  module _ (q : Playing T) (ks : List (Grouped T)) (back : GroupsAreBack w q.visit.now lent ks) where
    there_back : (k : Grouped T) × (slice_get ks place ≡ Some k)
    there_back =
        place_back w q.visit.now lent ks back place (emptied taken.group)
        (ap (λ (l : List (Grouped T)). slice_get l place) taken.new_is ∙ set_there gs place taken.group (emptied taken.group) taken.there)

    pub place_within : place < length ks
    place_within = slice_get_within ks place there_back.0 there_back.1

    module _ (answer : Advance) (advances : Advances ts w r (visits (other_players lent)) p.visit answer q.visit) (mine : IsWith w r p.visit p.visit.sight)
        (one : AreOne) (but : ButScripts w r) (net : SameNets w r) (role : q.role ≡ p.role) (task : q.task ≡ p.task) (lost : q.lost ≡ p.lost)
        (counts : q.counts ≡ p.counts)
        (new : List (Grouped T)) (is : (k : Grouped T) → slice_get ks place ≡ Some k → new ≡ slice_set ks place (filled k q)) where
      clock : IsClockKept ts w (visits (all_members gs)) answer p q
      clock =
          record {
            caller_is = advances.caller_is;
            names_are = advances.names_are;
            role_is = role;
            task_is = task;
            lost_is = lost;
            counts_is = counts;
            records = clock_records ts w r gs lent p q answer advances placed mine (has_guest r.callers gs dealt.callers) one
                (but advances.at.sight.seen advances.guests) (net advances.at.sight.seen advances.guests);
          }

      put_is : new ≡ slice_set ks place (filled there_back.0 q)
      put_is = is there_back.0 there_back.1

      pub all_kept : GroupsAreKept ts w gs answer new
      all_kept =
          subst (λ (l : List (Grouped T)). GroupsAreKept ts w gs answer l) (sym put_is)
          (filled_kept ts w (visits (all_members gs)) answer q.visit.now gs ks place taken.group there_back.0 p q taken.there taken.clock_is there_back.1 clock
          (subst (λ (l : List (Grouped T)). GroupsAreBack w q.visit.now l ks) taken.new_is back) none_set)

      pub all_seated : all_seats new ≡ all_seats gs
      all_seated = seats_kept ts w (visits (all_members gs)) answer gs new all_kept

      replaced : (x : Playing T) → In x (all_members new) → In x (other_players ks) ⊎ (x ≡ q)
      replaced x i =
          subst (λ (l : List (Playing T)). In x l ⊎ (x ≡ q)) (filled_others ks place there_back.0 q there_back.1)
          (all_placed (slice_set ks place (filled there_back.0 q)) place (filled there_back.0 q) q x (filled_at ks place there_back.0 q there_back.1) refl
          (emptied_again ks place there_back.0 q there_back.1 (still_none w q.visit.now lent ks back none))
          (subst (λ (l : List (Grouped T)). In x (all_members l)) put_is i))

      all_again : (c : ℕ) → c < r.callers → HasGuest c (visits (all_members new))
      all_again =
          has_guest r.callers new
          (subst (λ (l : List _). AreUpTo r.callers (all_callers l)) (sym all_seated) dealt.callers)

      pub all_advanced : Advanced ts w (visits (all_members gs)) answer (visits (all_members new))
      all_advanced =
          advanced ts w r gs lent ks new p q answer advances back placed replaced mine (has_guest r.callers gs dealt.callers) all_again one
          (but advances.at.sight.seen advances.guests) (net advances.at.sight.seen advances.guests)

      -- the moment
      pub all_at_once : StayAtOnce answer (visits (all_members gs)) (visits (all_members new))
      all_at_once =
          stay_at_once ts w r gs lent ks new p q answer advances back placed replaced mine (has_guest r.callers gs dealt.callers) all_again one
          (but advances.at.sight.seen advances.guests) (net advances.at.sight.seen advances.guests)
          (clock_among gs place taken.group p taken.there taken.clock_is)

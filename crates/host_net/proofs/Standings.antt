-- How all callers stand, before the clock's guest gets their numbers.
use Rattle.std.proofs.Common.{◌≡◌, ℕ, zero, suc, ◌+◌, ◌<◌, ◌≤◌, ◌⊎◌, inl, inr, List, [], ◌∷◌, ◌++◌, get_or, length}
use Rattle.std.proofs.Common.{take, Option, Some, None, slice_get, refl, ap, sym, subst, ◌∙◌}
use Rattle.std.proofs.Common.{append_assoc, ◌-◌}
use Rattle.std.specs.Prelude.{IfSome}
use Rattle.std.specs.Option.{option_map}
use Rattle.std.proofs.lemmas.List.{append-nil, map-append, take_all, take_more}
use Rattle.std.proofs.lemmas.Option.{none-some, same_Some}
use Rattle.net_base.specs.declared.world.Script.{Script}
use Rattle.net_base.specs.declared.world.World.{World}
use Rattle.net_base.specs.Callers.{Caller, IsScript, IsClock, caller_of}
use Rattle.net_base.specs.Stamped.{In}
use Rattle.net_base.specs.Tasks.{Tasks}
use Rattle.journal.specs.declared.law.Roster.{Roster}
use Rattle.net_locks.specs.declared.clock.Standing.{Standing}
use Rattle.net_guests.proofs.Shared.{apart_test}
use Rattle.host_net.proofs.Taking.{ClockIs, Clocks, all_callers_are, all_not, caller_in, in_visits, of_both, of_callers, others_apart, visit_in}
use Rattle.host_net.specs.Advancing.{AddsToGroups, AreLent, AreStandings, IsStanding, other_players}
use Rattle.host_net.specs.Groups.{GroupsApart, AreUpTo, Grouped, IsSeated, Seats, all_callers, all_members, all_seats, caller, callers_of}
use Rattle.host_net.specs.Groups.{members, seats, visits, with_last}
use Rattle.host_net.specs.Playing.{Playing}
use Rattle.net_guests.specs.Visits.{HasGuest, IsWith, Visit}
use Rattle.net_locks.proofs.Shared.{clock_at}

-- The clock's number.

abbrev ClockOnly : Caller → Type 0
ClockOnly IsClock = Unit {0}
ClockOnly _ = ⊥

-- a script is no clock
pub no_script : (w : World) (c : ℕ) (s : Script) → caller_of w c ≡ IsClock → caller_of w c ≡ IsScript s → ⊥
no_script w c s clock script = subst ClockOnly (sym clock ∙ script) tt

-- Standings in the order of their callers.

pub standings_more : (ts : Tasks) (w : World) (us vs : List Visit) (ss rest : List Standing) → AreStandings ts w us ss → AreStandings ts w vs rest
    → AreStandings ts w (us ++ vs) (ss ++ rest)
standings_more ts w [] vs [] rest one two = two
standings_more ts w [] vs (s ∷ ss) rest one two = absurd one
standings_more ts w (u ∷ us) vs [] rest one two = absurd one
standings_more ts w (u ∷ us) vs (s ∷ ss) rest one two = (one.0, standings_more ts w us vs ss rest one.1 two)

pub adds_on : (ts : Tasks) (w : World) (us vs : List Visit) (old mid new : List Standing) → AddsToGroups ts w us old mid → AddsToGroups ts w vs mid new → AddsToGroups ts w (us ++ vs) old new
adds_on ts w us vs old mid new one two =
    record {
      added = one.added ++ two.added;
      behind = two.behind ∙ (ap (λ (l : List Standing). l ++ two.added) one.behind ∙ append_assoc old one.added two.added);
      standings = standings_more ts w us vs one.added two.added one.standings two.standings;
    }

pub adds_one : (ts : Tasks) (w : World) (v : Visit) (s : Standing) (old new : List Standing) → IsStanding ts w v s → new ≡ old ++ s ∷ [] → AddsToGroups ts w (v ∷ []) old new
adds_one ts w v s old new is behind = record { added = s ∷ []; behind = behind; standings = (is, tt) }

standing_in : (ts : Tasks) (w : World) (vs : List Visit) (ss : List Standing) → AreStandings ts w vs ss → (s : Standing) → In s ss
    → (v : Visit) × In v vs × IsStanding ts w v s
standing_in ts w [] [] are s there = absurd there
standing_in ts w [] (t ∷ ss) are s there = absurd are
standing_in ts w (v ∷ vs) [] are s there = absurd are
standing_in ts w (v ∷ vs) (t ∷ ss) are s (inl is) = (v, inl refl, subst (λ (x : Standing). IsStanding ts w v x) (sym is) are.0)
standing_in ts w (v ∷ vs) (t ∷ ss) are s (inr there) = let found = standing_in ts w vs ss are.1 s there in (found.0, inr found.1, found.2)

standing_for : (ts : Tasks) (w : World) (vs : List Visit) (ss : List Standing) → AreStandings ts w vs ss → (v : Visit) → In v vs
    → (s : Standing) × In s ss × IsStanding ts w v s
standing_for ts w [] [] are v there = absurd there
standing_for ts w [] (t ∷ ss) are v there = absurd are
standing_for ts w (x ∷ vs) [] are v there = absurd are
standing_for ts w (x ∷ vs) (t ∷ ss) are v (inl is) = (t, inl refl, subst (λ (y : Visit). IsStanding ts w y t) (sym is) are.0)
standing_for ts w (x ∷ vs) (t ∷ ss) are v (inr there) = let found = standing_for ts w vs ss are.1 v there in (found.0, inr found.1, found.2)

-- The standings of players, one more at a time.
module _ {T : Type 0} (ts : Tasks) (w : World) where
  pub adds_player : (ps : List (Playing T)) (i : ℕ) (p : Playing T) (old mid new : List Standing) (s : Standing) → i < length ps → p ≡ get_or ps i p
      → AddsToGroups ts w (visits (take i ps)) old mid → IsStanding ts w p.visit s → new ≡ mid ++ s ∷ [] → AddsToGroups ts w (visits (take (i + 1) ps)) old new
  adds_player ps i p old mid new s lt is adds stands push =
      subst (λ (l : List (Playing T)). AddsToGroups ts w (visits l) old new)
      (sym (take_more ps i p lt ∙ ap (λ (x : Playing T). take i ps ++ x ∷ []) (sym is)))
      (subst (λ (l : List Visit). AddsToGroups ts w l old new) (sym (map-append (λ (x : Playing T). x.visit) (take i ps) (p ∷ [])))
      (adds_on ts w (visits (take i ps)) (p.visit ∷ []) old mid new adds (adds_one ts w p.visit s mid new stands push)))

  -- and the clock's behind them
  pub adds_clock : (g : Grouped T) (ps : List (Playing T)) (i : ℕ) (p : Playing T) (old mid new : List Standing) (s : Standing) → length ps ≤ i
      → ps ≡ g.players → g.clock ≡ Some p → AddsToGroups ts w (visits (take i ps)) old mid → IsStanding ts w p.visit s → new ≡ mid ++ s ∷ []
      → AddsToGroups ts w (visits (members g)) old new
  adds_clock g ps i p old mid new s le players clock adds stands push =
      subst (λ (c : Option (Playing T)). AddsToGroups ts w (visits (with_last g.players c)) old new) (sym clock)
      (subst (λ (l : List Visit). AddsToGroups ts w l old new) (sym (map-append (λ (x : Playing T). x.visit) g.players (p ∷ [])))
      (adds_on ts w (visits g.players) (p.visit ∷ []) old mid new
      (subst (λ (l : List (Playing T)). AddsToGroups ts w (visits l) old mid) (take_all i ps le ∙ players) adds) (adds_one ts w p.visit s mid new stands push)))

  one_more : (gs : List (Grouped T)) (g : Grouped T) → all_members (gs ++ g ∷ []) ≡ all_members gs ++ members g
  one_more [] g = append-nil (members g)
  one_more (x ∷ gs) g =
      ap (λ (l : List (Playing T)). members x ++ l) (one_more gs g) ∙ sym (append_assoc (members x) (all_members gs) (members g))

  -- a group more
  pub standings_group : (gs : List (Grouped T)) (i : ℕ) (g : Grouped T) (ss new : List Standing) → i < length gs → g ≡ get_or gs i g
      → AreStandings ts w (visits (all_members (take i gs))) ss → AddsToGroups ts w (visits (members g)) ss new
      → AreStandings ts w (visits (all_members (take (i + 1) gs))) new
  standings_group gs i g ss new lt is are adds =
      subst (λ (l : List (Grouped T)). AreStandings ts w (visits (all_members l)) new)
      (sym (take_more gs i g lt ∙ ap (λ (x : Grouped T). take i gs ++ x ∷ []) (sym is)))
      (subst (λ (l : List (Playing T)). AreStandings ts w (visits l) new) (sym (one_more (take i gs) g))
      (subst (λ (l : List Visit). AreStandings ts w l new) (sym (map-append (λ (x : Playing T). x.visit) (all_members (take i gs)) (members g)))
      (subst (λ (l : List Standing). AreStandings ts w (visits (all_members (take i gs)) ++ visits (members g)) l) (sym adds.behind)
      (standings_more ts w (visits (all_members (take i gs))) (visits (members g)) ss adds.added are adds.standings))))

  pub all_standings : (gs : List (Grouped T)) (i : ℕ) (hs : List (Grouped T)) (ss : List Standing) → length gs ≤ i → gs ≡ hs
      → AreStandings ts w (visits (all_members (take i gs))) ss → AreStandings ts w (visits (all_members hs)) ss
  all_standings gs i hs ss le is are = subst (λ (l : List (Grouped T)). AreStandings ts w (visits (all_members l)) ss) (take_all i gs le ∙ is) are

-- The players of groups.

module _ {T : Type 0} where
  pub has_guest : (n : ℕ) (gs : List (Grouped T)) → AreUpTo n (all_callers (all_seats gs)) → (c : ℕ) → c < n → HasGuest c (visits (all_members gs))
  has_guest n gs are c lt =
      let found = of_callers c (all_members gs) (subst (λ (l : List ℕ). In c l) (all_callers_are gs) (are.all c lt)) in
      (found.0.visit, visit_in found.0 (all_members gs) found.1, found.2)

  pub seats_in : (gs : List (Grouped T)) (n : ℕ) (g : Grouped T) → slice_get gs n ≡ Some g → In (seats g) (all_seats gs)
  seats_in [] n g there = absurd (none-some g there)
  seats_in (x ∷ gs) zero g there = inl (ap seats (sym (same_Some x g there)))
  seats_in (x ∷ gs) (suc n) g there = inr (seats_in gs n g there)

  -- the clock's player in a group is the clock's
  pub clock_seated : (w : World) (gs : List (Grouped T)) (n : ℕ) (g : Grouped T) (p : Playing T) → ((s : Seats) → In s (all_seats gs) → IsSeated w s)
      → slice_get gs n ≡ Some g → g.clock ≡ Some p → caller_of w (caller p) ≡ IsClock
  clock_seated w gs n g p seated there is =
      subst (λ (c : Option (Playing T)). IfSome (option_map caller c) (λ (k : ℕ). caller_of w k ≡ IsClock)) is
      (seated (seats g) (seats_in gs n g there)).clock_is

  pub all_clocks : (w : World) (k : ℕ) (gs : List (Grouped T)) → caller_of w k ≡ IsClock → ((s : Seats) → In s (all_seats gs) → IsSeated w s) → Clocks k gs
  all_clocks w k [] clock seated = tt
  all_clocks w k (g ∷ gs) clock seated =
      (by_clock g.clock (seated (seats g) (inl refl)).clock_is, all_clocks w k gs clock (λ s there. seated s (inr there)))
    where
      by_clock : (c : Option (Playing T)) → IfSome (option_map caller c) (λ (n : ℕ). caller_of w n ≡ IsClock) → ClockIs k c
      by_clock None is = tt
      by_clock (Some q) is = clock_at w (caller q) is ∙ sym (clock_at w k clock)

  others_seated : (w : World) (gs : List (Grouped T)) → ((s : Seats) → In s (all_seats gs) → IsSeated w s) → (q : Playing T)
      → In q (other_players gs) → caller_of w (caller q) ≡ IsClock → ⊥
  others_seated w [] seated q there = absurd there
  others_seated w (g ∷ gs) seated q there =
      place (λ behind. others_seated w gs (λ s i. seated s (inr i)) q behind) (of_both q g.players (other_players gs) there)
    where
      place : (In q (other_players gs) → caller_of w (caller q) ≡ IsClock → ⊥) → In q g.players ⊎ In q (other_players gs)
          → caller_of w (caller q) ≡ IsClock → ⊥
      place rest (inl here) = (seated (seats g) (inl refl)).others_are (caller q) (caller_in q g.players here)
      place rest (inr behind) = rest behind

  -- the clock is none of the others, and no two of these are one caller
  pub clock_apart : (w : World) (k : ℕ) (gs : List (Grouped T)) → caller_of w k ≡ IsClock → ((s : Seats) → In s (all_seats gs) → IsSeated w s)
      → GroupsApart (all_callers (all_seats gs)) → GroupsApart (k ∷ callers_of (other_players gs))
  clock_apart w k gs clock seated apart = (
    all_not k (callers_of (other_players gs)) (λ d there.
        let found = of_callers d (other_players gs) there in
        apart_test k d (λ (e : k ≡ d).
        others_seated w gs seated found.0 found.1 (ap (caller_of w) (found.2 ∙ sym e) ∙ clock))),
    others_apart gs apart,
  )

  -- at first each is with its own guest, and the clock's with the clock's pass
  pub lent_first : (ts : Tasks) (w : World) (r : Roster) (gs : List (Grouped T)) (left : List (Playing T)) (p : Playing T) (ss : List Standing)
      → AreStandings ts w (visits (all_members gs)) ss → ((q : Playing T) → In q (all_members gs) → In q left ⊎ (q ≡ p))
      → IsWith w r p.visit p.visit.sight → ((c : ℕ) → c < r.callers → HasGuest c (visits (all_members gs)))
      → AreLent ts w r (visits left) p.visit.sight ss
  lent_first ts w r gs left p ss are placed mine all = record { each = each; all = each_caller }
    where
      at_place : (q : Playing T) → In q left ⊎ (q ≡ p) → IsWith w r q.visit p.visit.sight ⊎ In q.visit (visits left)
      at_place q (inl there) = inr (visit_in q left there)
      at_place q (inr e) = inl (subst (λ (x : Playing T). IsWith w r x.visit p.visit.sight) (sym e) mine)

      each : (s : Standing) → In s ss → (v : Visit) × IsStanding ts w v s × (IsWith w r v p.visit.sight ⊎ In v (visits left))
      each s i =
          let found = standing_in ts w (visits (all_members gs)) ss are s i in
          let q = in_visits found.0 (all_members gs) found.1 in
          (found.0, found.2, subst (λ (v : Visit). IsWith w r v p.visit.sight ⊎ In v (visits left)) (sym q.2) (at_place q.0 (placed q.0 q.1)))

      each_caller : (c : ℕ) → c < r.callers → (s : Standing) × In s ss × (s.caller ≡ c)
      each_caller c lt =
          let v = all c lt in
          let found = standing_for ts w (visits (all_members gs)) ss are v.0 v.1 in
          (found.0, found.1, found.2.caller_is ∙ v.2)

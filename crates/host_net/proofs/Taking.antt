-- The clock's player is taken out of its group, and put back: no other group has one, and the other players stay.
use Rattle.std.proofs.Common.{◌≡◌, ℕ, zero, suc, ◌==◌, ◌⊎◌, inl, inr, false, List, [], ◌∷◌, ◌++◌, Option, Some, None, slice_get}
use Rattle.std.proofs.Common.{slice_set, refl, ap, sym, subst, ◌∙◌}
use Rattle.std.specs.Option.{option_map}
use Rattle.std.proofs.lemmas.Bool.{true≢false}
use Rattle.std.proofs.lemmas.List.{map-append}
use Rattle.std.proofs.lemmas.Option.{none-some, same_Some}
use Rattle.net_base.specs.declared.world.World.{World}
use Rattle.net_base.specs.Stamped.{In}
use Rattle.net_base.specs.Tasks.{Tasks}
use Rattle.net_guests.proofs.Shared.{none_more, last_or}
use Rattle.net_locks.specs.declared.clock.Advance.{Advance}
use Rattle.net_locks.specs.declared.clock.Advance.TheVariants as advance
use Rattle.host_net.specs.Advancing.{AreBack, AreKept, ClockStays, EachIsKept, GroupsAreBack, GroupsAreKept, IsBack, IsClockKept}
use Rattle.host_net.specs.Advancing.{IsGroupKept, IsKept, other_players}
use Rattle.host_net.specs.Groups.{GroupsApart, Grouped, NotIn, all_callers, all_members, all_seats, caller, callers_in, callers_of, members, seats, visits, with_last}
use Rattle.host_net.specs.Playing.{Playing}
use Rattle.net_locks.specs.Turns.{StaysOwn}
use Rattle.net_guests.specs.Visits.{Visit}
use Rattle.net_base.proofs.Shared.{number_itself, in_front, in_back}

-- Numbers.

pub not_front : (c : ℕ) (xs ys : List ℕ) → NotIn c (xs ++ ys) → NotIn c xs
not_front c [] ys none = tt
not_front c (x ∷ xs) ys none = (none.0, not_front c xs ys none.1)

pub not_back : (c : ℕ) (xs ys : List ℕ) → NotIn c (xs ++ ys) → NotIn c ys
not_back c [] ys none = none
not_back c (x ∷ xs) ys none = not_back c xs ys none.1

pub not_there : (c d : ℕ) (xs : List ℕ) → NotIn c xs → In d xs → (c == d) ≡ false
not_there c d [] none there = absurd there
not_there c d (x ∷ xs) none (inl is) = ap (λ (n : ℕ). c == n) is ∙ none.0
not_there c d (x ∷ xs) none (inr there) = not_there c d xs none.1 there

pub not_itself : (c : ℕ) (xs : List ℕ) → NotIn c xs → In c xs → ⊥
not_itself c xs none there = true≢false (sym (number_itself c) ∙ not_there c c xs none there)

pub all_not : (c : ℕ) (xs : List ℕ) → ((d : ℕ) → In d xs → (c == d) ≡ false) → NotIn c xs
all_not c [] each = tt
all_not c (x ∷ xs) each = (each x (inl refl), all_not c xs (λ d there. each d (inr there)))

pub apart_back : (xs ys : List ℕ) → GroupsApart (xs ++ ys) → GroupsApart ys
apart_back [] ys apart = apart
apart_back (x ∷ xs) ys apart = apart_back xs ys apart.1

apart_front : (xs ys : List ℕ) → GroupsApart (xs ++ ys) → GroupsApart xs
apart_front [] ys apart = tt
apart_front (x ∷ xs) ys apart = (not_front x xs ys apart.0, apart_front xs ys apart.1)

apart_between : (c : ℕ) (xs ys : List ℕ) → GroupsApart (xs ++ ys) → In c xs → NotIn c ys
apart_between c [] ys apart there = absurd there
apart_between c (x ∷ xs) ys apart (inl is) = subst (λ (n : ℕ). NotIn n ys) (sym is) (not_back x xs ys apart.0)
apart_between c (x ∷ xs) ys apart (inr there) = apart_between c xs ys apart.1 there

-- where each of some comes from these
join_apart : (xs ys : List ℕ) → GroupsApart xs → GroupsApart ys → ((c : ℕ) → In c xs → NotIn c ys) → GroupsApart (xs ++ ys)
join_apart [] ys one two between = two
join_apart (x ∷ xs) ys one two between =
    (join_not x xs ys one.0 (between x (inl refl)), join_apart xs ys one.1 two (λ c there. between c (inr there)))
  where
    join_not : (c : ℕ) (xs ys : List ℕ) → NotIn c xs → NotIn c ys → NotIn c (xs ++ ys)
    join_not c [] ys one two = two
    join_not c (x ∷ xs) ys one two = (one.0, join_not c xs ys one.1 two)

-- nothing more was seen
stays_itself : (w : World) (v : Visit) → StaysOwn w v.caller v.sight v.sight
stays_itself w v =
    record {
      before = none_more v.sight.seen;
      alone = refl;
      stands = record { owes = refl; comes_next = λ ts. refl; turns = λ t. t; nexts = λ ts t. t; timely = λ ts t. t };
    }

-- Players.

module _ {T : Type 0} where
  pub with_front : (q : Playing T) (ps : List (Playing T)) (c : Option (Playing T)) → In q ps → In q (with_last ps c)
  with_front q ps None there = there
  with_front q ps (Some p) there = in_front q ps (p ∷ []) there

  pub with_clock : (q : Playing T) (ps : List (Playing T)) → In q (with_last ps (Some q))
  with_clock q ps = in_back q ps (q ∷ []) (inl refl)

  pub of_last : (q : Playing T) (ps : List (Playing T)) (c : Option (Playing T)) → In q (with_last ps c) → In q ps ⊎ (c ≡ Some q)
  of_last q ps None there = inl there
  of_last q ps (Some p) there = place (last_or q ps p there)
    where
      place : In q ps ⊎ (q ≡ p) → In q ps ⊎ (Some p ≡ Some q)
      place (inl i) = inl i
      place (inr e) = inr (ap (λ (x : Playing T). Some x) (sym e))

  pub of_both : (q : Playing T) (xs ys : List (Playing T)) → In q (xs ++ ys) → In q xs ⊎ In q ys
  of_both q [] ys there = inr there
  of_both q (x ∷ xs) ys (inl is) = inl (inl is)
  of_both q (x ∷ xs) ys (inr there) = place (of_both q xs ys there)
    where
      place : In q xs ⊎ In q ys → In q (x ∷ xs) ⊎ In q ys
      place (inl i) = inl (inr i)
      place (inr i) = inr i

  pub caller_in : (q : Playing T) (ps : List (Playing T)) → In q ps → In (caller q) (callers_of ps)
  caller_in q [] there = absurd there
  caller_in q (p ∷ ps) (inl is) = inl (ap caller is)
  caller_in q (p ∷ ps) (inr there) = inr (caller_in q ps there)

  pub in_visits : (v : Visit) (ps : List (Playing T)) → In v (visits ps) → (q : Playing T) × In q ps × (v ≡ q.visit)
  in_visits v [] there = absurd there
  in_visits v (p ∷ ps) (inl is) = (p, inl refl, is)
  in_visits v (p ∷ ps) (inr there) = let found = in_visits v ps there in (found.0, inr found.1, found.2)

  pub visit_in : (q : Playing T) (ps : List (Playing T)) → In q ps → In q.visit (visits ps)
  visit_in q [] there = absurd there
  visit_in q (p ∷ ps) (inl is) = inl (ap (λ (x : Playing T). x.visit) is)
  visit_in q (p ∷ ps) (inr there) = inr (visit_in q ps there)

  -- the caller of a place is one of a player
  pub of_callers : (c : ℕ) (ps : List (Playing T)) → In c (callers_of ps) → (q : Playing T) × In q ps × (caller q ≡ c)
  of_callers c [] there = absurd there
  of_callers c (p ∷ ps) (inl is) = (p, inl refl, sym is)
  of_callers c (p ∷ ps) (inr there) = let found = of_callers c ps there in (found.0, inr found.1, found.2)

  pub callers_are : (g : Grouped T) → callers_in (seats g) ≡ callers_of (members g)
  callers_are g = by_clock g.clock
    where
      by_clock : (c : Option (Playing T)) → with_last (callers_of g.players) (option_map caller c) ≡ callers_of (with_last g.players c)
      by_clock None = refl
      by_clock (Some p) = sym (map-append caller g.players (p ∷ []))

  pub all_callers_are : (gs : List (Grouped T)) → all_callers (all_seats gs) ≡ callers_of (all_members gs)
  all_callers_are [] = refl
  all_callers_are (g ∷ gs) =
      ap (λ (l : List ℕ). l ++ all_callers (all_seats gs)) (callers_are g)
      ∙ (ap (λ (l : List ℕ). callers_of (members g) ++ l) (all_callers_are gs) ∙ sym (map-append caller (members g) (all_members gs)))

  -- The one clock.

  abbrev pub ClockIs : ℕ → Option (Playing T) → Type 0
  ClockIs k None = Unit {0}
  ClockIs k (Some q) = caller q ≡ k

  -- the clock of each group that has one is this caller
  abbrev pub Clocks : ℕ → List (Grouped T) → Type 0
  Clocks k [] = Unit {0}
  Clocks k (g ∷ gs) = ClockIs k g.clock × Clocks k gs

  -- no group has one
  abbrev pub NoClocks : List (Grouped T) → Type 0
  NoClocks [] = Unit {0}
  NoClocks (g ∷ gs) = (g.clock ≡ None) × NoClocks gs

  not_clock : (k : ℕ) (ps : List (Playing T)) (c : Option (Playing T)) → ClockIs k c → NotIn k (with_last (callers_of ps) (option_map caller c)) → c ≡ None
  not_clock k ps None is none = refl
  not_clock k ps (Some q) is none =
      absurd (not_itself k (callers_of ps ++ caller q ∷ []) none (in_back k (callers_of ps) (caller q ∷ []) (inl (sym is))))

  no_clocks : (k : ℕ) (gs : List (Grouped T)) → Clocks k gs → NotIn k (all_callers (all_seats gs)) → NoClocks gs
  no_clocks k [] are none = tt
  no_clocks k (g ∷ gs) are none = (
    not_clock k g.players g.clock are.0 (not_front k (callers_in (seats g)) (all_callers (all_seats gs)) none),
    no_clocks k gs are.1 (not_back k (callers_in (seats g)) (all_callers (all_seats gs)) none),
  )

  -- the clock's caller is one of its group
  seat_of : (k : ℕ) (g : Grouped T) (p : Playing T) → g.clock ≡ Some p → caller p ≡ k → In k (callers_in (seats g))
  seat_of k g p is at_k =
      subst (λ (c : Option (Playing T)). In k (with_last (callers_of g.players) (option_map caller c))) (sym is)
      (in_back k (callers_of g.players) (caller p ∷ []) (inl (sym at_k)))

  seat_there : (k : ℕ) (gs : List (Grouped T)) (place : ℕ) (g : Grouped T) (p : Playing T) → slice_get gs place ≡ Some g → g.clock ≡ Some p
      → caller p ≡ k → In k (all_callers (all_seats gs))
  seat_there k [] place g p there is at_k = absurd (none-some g there)
  seat_there k (x ∷ gs) zero g p there is at_k =
      in_front k (callers_in (seats x)) (all_callers (all_seats gs))
      (seat_of k x p (ap (λ (y : Grouped T). y.clock) (same_Some x g there) ∙ is) at_k)
  seat_there k (x ∷ gs) (suc place) g p there is at_k =
      in_back k (callers_in (seats x)) (all_callers (all_seats gs)) (seat_there k gs place g p there is at_k)

  abbrev pub emptied : Grouped T → Grouped T
  emptied g = record g { clock = None }

  abbrev pub filled : Grouped T → Playing T → Grouped T
  filled g p = record g { clock = Some p }

  -- what stands before the clock has none
  none_before : (k : ℕ) (x : Grouped T) (gs : List (Grouped T)) → ClockIs k x.clock → In k (all_callers (all_seats gs))
      → GroupsApart (callers_in (seats x) ++ all_callers (all_seats gs)) → x.clock ≡ None
  none_before k x gs is there apart = by_clock x.clock is refl
    where
      by_clock : (c : Option (Playing T)) → ClockIs k c → x.clock ≡ c → c ≡ None
      by_clock None at_k e = refl
      by_clock (Some q) at_k e =
          absurd (not_itself k (all_callers (all_seats gs))
          (apart_between k (callers_in (seats x)) (all_callers (all_seats gs)) apart (seat_of k x q e at_k)) there)

  module _ (k : ℕ) (g : Grouped T) (p : Playing T) (is : g.clock ≡ Some p) (at_k : caller p ≡ k) where
    pub none_left : (gs : List (Grouped T)) (place : ℕ) → slice_get gs place ≡ Some g → Clocks k gs
        → GroupsApart (all_callers (all_seats gs)) → NoClocks (slice_set gs place (emptied g))
    none_left [] place there are apart = absurd (none-some g there)
    none_left (x ∷ gs) zero there are apart = (
      refl,
      no_clocks k gs are.1 (apart_between k (callers_in (seats x)) (all_callers (all_seats gs)) apart
          (seat_of k x p (ap (λ (y : Grouped T). y.clock) (same_Some x g there) ∙ is) at_k)),
    )
    none_left (x ∷ gs) (suc place) there are apart = (
      none_before k x gs are.0 (seat_there k gs place g p there is at_k) apart,
      none_left gs place there are.1 (apart_back (callers_in (seats x)) (all_callers (all_seats gs)) apart),
    )

  -- the other players are as they were
  pub others_stay : (gs : List (Grouped T)) (place : ℕ) (g : Grouped T) → slice_get gs place ≡ Some g
      → other_players (slice_set gs place (emptied g)) ≡ other_players gs
  others_stay [] place g there = absurd (none-some g there)
  others_stay (x ∷ gs) zero g there = ap (λ (y : Grouped T). y.players ++ other_players gs) (sym (same_Some x g there))
  others_stay (x ∷ gs) (suc place) g there = ap (λ (l : List (Playing T)). x.players ++ l) (others_stay gs place g there)

  -- without a clock all players are the others
  pub all_others : (gs : List (Grouped T)) → NoClocks gs → all_members gs ≡ other_players gs
  all_others [] none = refl
  all_others (g ∷ gs) none =
      ap (λ (c : Option (Playing T)). with_last g.players c ++ all_members gs) none.0
      ∙ ap (λ (l : List (Playing T)). g.players ++ l) (all_others gs none.1)

  -- with a clock in one group, a player is one of the others or the clock's
  pub all_placed : (gs : List (Grouped T)) (place : ℕ) (g : Grouped T) (p q : Playing T) → slice_get gs place ≡ Some g → g.clock ≡ Some p
      → NoClocks (slice_set gs place (emptied g)) → In q (all_members gs) → In q (other_players gs) ⊎ (q ≡ p)
  all_placed [] place g p q there is none i = absurd (none-some g there)
  all_placed (x ∷ gs) zero g p q there is none i = place (of_both q (members x) (all_members gs) i)
    where
      at_clock : In q x.players ⊎ (x.clock ≡ Some q) → In q (x.players ++ other_players gs) ⊎ (q ≡ p)
      at_clock (inl here) = inl (in_front q x.players (other_players gs) here)
      at_clock (inr e) = inr (same_Some q p (sym e ∙ (ap (λ (y : Grouped T). y.clock) (same_Some x g there) ∙ is)))

      place : In q (members x) ⊎ In q (all_members gs) → In q (x.players ++ other_players gs) ⊎ (q ≡ p)
      place (inl here) = at_clock (of_last q x.players x.clock here)
      place (inr behind) =
          inl (in_back q x.players (other_players gs) (subst (λ (l : List (Playing T)). In q l) (all_others gs none.1) behind))
  all_placed (x ∷ gs) (suc n) g p q there is none i =
      place (λ behind. all_placed gs n g p q there is none.1 behind) (of_both q (members x) (all_members gs) i)
    where
      at_clock : In q x.players ⊎ (x.clock ≡ Some q) → In q (x.players ++ other_players gs) ⊎ (q ≡ p)
      at_clock (inl here) = inl (in_front q x.players (other_players gs) here)
      at_clock (inr e) = absurd (none-some q (sym none.0 ∙ e))

      later : In q (other_players gs) ⊎ (q ≡ p) → In q (x.players ++ other_players gs) ⊎ (q ≡ p)
      later (inl there_) = inl (in_back q x.players (other_players gs) there_)
      later (inr e) = inr e

      place : (In q (all_members gs) → In q (other_players gs) ⊎ (q ≡ p)) → In q (members x) ⊎ In q (all_members gs)
          → In q (x.players ++ other_players gs) ⊎ (q ≡ p)
      place rest (inl here) = at_clock (of_last q x.players x.clock here)
      place rest (inr behind) = later (rest behind)

  -- the clock's player is one of all
  pub clock_among : (gs : List (Grouped T)) (place : ℕ) (g : Grouped T) (p : Playing T) → slice_get gs place ≡ Some g → g.clock ≡ Some p → In p (all_members gs)
  clock_among [] place g p there is = absurd (none-some g there)
  clock_among (x ∷ gs) zero g p there is =
      in_front p (members x) (all_members gs)
      (subst (λ (c : Option (Playing T)). In p (with_last x.players c)) (sym (ap (λ (y : Grouped T). y.clock) (same_Some x g there) ∙ is))
      (with_clock p x.players))
  clock_among (x ∷ gs) (suc place) g p there is = in_back p (members x) (all_members gs) (clock_among gs place g p there is)

  -- the other way
  pub others_among : (gs : List (Grouped T)) (q : Playing T) → In q (other_players gs) → In q (all_members gs)
  others_among [] q there = absurd there
  others_among (g ∷ gs) q there = place (λ behind. others_among gs q behind) (of_both q g.players (other_players gs) there)
    where
      place : (In q (other_players gs) → In q (all_members gs)) → In q g.players ⊎ In q (other_players gs) → In q (members g ++ all_members gs)
      place rest (inl here) = in_front q (members g) (all_members gs) (with_front q g.players g.clock here)
      place rest (inr behind) = in_back q (members g) (all_members gs) (rest behind)

  -- no two of the others are one caller
  pub others_apart : (gs : List (Grouped T)) → GroupsApart (all_callers (all_seats gs)) → GroupsApart (callers_of (other_players gs))
  others_apart [] apart = tt
  others_apart (g ∷ gs) apart =
      subst (λ (l : List ℕ). GroupsApart l) (sym (map-append caller g.players (other_players gs)))
      (join_apart (callers_of g.players) (callers_of (other_players gs)) (front g.clock (apart_front (callers_in (seats g)) (all_callers (all_seats gs)) apart))
      (others_apart gs (apart_back (callers_in (seats g)) (all_callers (all_seats gs)) apart)) between)
    where
      front : (c : Option (Playing T)) → GroupsApart (with_last (callers_of g.players) (option_map caller c)) → GroupsApart (callers_of g.players)
      front None a = a
      front (Some p) a = apart_front (callers_of g.players) (caller p ∷ []) a

      seated : (c : ℕ) (o : Option (Playing T)) → In c (callers_of g.players) → In c (with_last (callers_of g.players) (option_map caller o))
      seated c None here = here
      seated c (Some p) here = in_front c (callers_of g.players) (caller p ∷ []) here

      later : (c : ℕ) → NotIn c (all_callers (all_seats gs)) → (d : ℕ) → In d (callers_of (other_players gs)) → (c == d) ≡ false
      later c none d there =
          let found = of_callers d (other_players gs) there in
          not_there c d (all_callers (all_seats gs)) none
          (subst (λ (l : List ℕ). In d l) (sym (all_callers_are gs))
          (subst (λ (n : ℕ). In n (callers_of (all_members gs))) found.2 (caller_in found.0 (all_members gs) (others_among gs found.0 found.1))))

      between : (c : ℕ) → In c (callers_of g.players) → NotIn c (callers_of (other_players gs))
      between c here =
          all_not c (callers_of (other_players gs))
          (later c (apart_between c (callers_in (seats g)) (all_callers (all_seats gs)) apart (seated c g.clock here)))

  -- What was given back.

  pub kept_of : (w : World) (now : ℕ) (ps qs : List (Playing T)) → AreBack w now ps qs → AreKept w ps qs
  kept_of w now [] [] back = tt
  kept_of w now [] (q ∷ qs) back = absurd back
  kept_of w now (p ∷ ps) [] back = absurd back
  kept_of w now (p ∷ ps) (q ∷ qs) back = (back.0.0, kept_of w now ps qs back.1)

  -- the clock stands in another group
  no_clock : (ts : Tasks) (w : World) (all : List Visit) (answer : Advance) (c d : Option (Playing T)) → d ≡ c → c ≡ None → ClockStays ts w all answer c d
  no_clock ts w all answer c d same none =
      subst (λ (x : Option (Playing T)). ClockStays ts w all answer x d) (sym none)
      (subst (λ (x : Option (Playing T)). ClockStays ts w all answer None x) (sym (same ∙ none)) tt)

  group_kept : (ts : Tasks) (w : World) (all : List Visit) (answer : Advance) (now : ℕ) (g k : Grouped T) → IsBack w now g k → g.clock ≡ None → IsGroupKept ts w all answer g k
  group_kept ts w all answer now g k back none =
      record {
        players = kept_of w now g.players k.players back.players;
        clock_stays = no_clock ts w all answer g.clock k.clock back.clock_is none;
        memory_is = back.memory_is;
      }

  groups_kept : (ts : Tasks) (w : World) (all : List Visit) (answer : Advance) (now : ℕ) (gs ks : List (Grouped T)) → GroupsAreBack w now gs ks → NoClocks gs
      → EachIsKept ts w all answer gs ks
  groups_kept ts w all answer now [] [] back none = tt
  groups_kept ts w all answer now [] (k ∷ ks) back none = absurd back
  groups_kept ts w all answer now (g ∷ gs) [] back none = absurd back
  groups_kept ts w all answer now (g ∷ gs) (k ∷ ks) back none =
      (group_kept ts w all answer now g k back.0 none.0, groups_kept ts w all answer now gs ks back.1 none.1)

  -- the group of the same place
  pub place_back : (w : World) (now : ℕ) (gs ks : List (Grouped T)) → GroupsAreBack w now gs ks → (n : ℕ) (g : Grouped T)
      → slice_get gs n ≡ Some g → (k : Grouped T) × (slice_get ks n ≡ Some k)
  place_back w now [] [] back n g there = absurd (none-some g there)
  place_back w now [] (k ∷ ks) back n g there = absurd back
  place_back w now (x ∷ gs) [] back n g there = absurd back
  place_back w now (x ∷ gs) (y ∷ ks) back zero g there = (y, refl)
  place_back w now (x ∷ gs) (y ∷ ks) back (suc n) g there = place_back w now gs ks back.1 n g there

  pub filled_kept : (ts : Tasks) (w : World) (all : List Visit) (answer : Advance) (now : ℕ) (gs ks : List (Grouped T)) (n : ℕ) (g k : Grouped T) (p q : Playing T)
      → slice_get gs n ≡ Some g → g.clock ≡ Some p → slice_get ks n ≡ Some k → IsClockKept ts w all answer p q
      → GroupsAreBack w now (slice_set gs n (emptied g)) ks → NoClocks (slice_set gs n (emptied g))
      → EachIsKept ts w all answer gs (slice_set ks n (filled k q))
  filled_kept ts w all answer now [] ks n g k p q there is at clock back none = absurd (none-some g there)
  filled_kept ts w all answer now (x ∷ gs) [] n g k p q there is at clock back none = absurd (none-some k at)
  filled_kept ts w all answer now (x ∷ gs) (y ∷ ks) zero g k p q there is at clock back none = (
    record {
      players = subst (λ (z : Grouped T). AreKept w z.players k.players) (sym (same_Some x g there))
          (subst (λ (z : Grouped T). AreKept w g.players z.players) (same_Some y k at) (kept_of w now g.players y.players back.0.players));
      clock_stays = subst (λ (c : Option (Playing T)). ClockStays ts w all answer c (Some q))
          (sym (ap (λ (z : Grouped T). z.clock) (same_Some x g there) ∙ is)) clock;
      memory_is = ap (λ (z : Grouped T). z.memory) (sym (same_Some y k at)) ∙ (back.0.memory_is ∙ ap (λ (z : Grouped T). z.memory) (sym (same_Some x g there)));
    },
    groups_kept ts w all answer now gs ks back.1 none.1,
  )
  filled_kept ts w all answer now (x ∷ gs) (y ∷ ks) (suc n) g k p q there is at clock back none =
      (group_kept ts w all answer now x y back.0 none.0, filled_kept ts w all answer now gs ks n g k p q there is at clock back.1 none.1)

  players_itself : (w : World) (ps : List (Playing T)) → AreKept w ps ps
  players_itself w [] = tt
  players_itself w (p ∷ ps) = (
    record {
      caller_is = refl;
      owed_is = refl;
      names_are = refl;
      role_is = refl;
      task_is = refl;
      lost_is = refl;
      counts_is = refl;
      stays =
          stays_itself w p.visit;
    },
    players_itself w ps,
  )

  clock_itself : (ts : Tasks) (w : World) (all : List Visit) (c : Option (Playing T)) → ClockStays ts w all advance.Memory c c
  clock_itself ts w all None = tt
  clock_itself ts w all (Some q) =
      record {
        caller_is = refl;
        names_are = refl;
        role_is = refl;
        task_is = refl;
        lost_is = refl;
        counts_is = refl;
        records =
            record { own_is = refl; owed_is = refl; now_is = refl };
      }

  each_itself : (ts : Tasks) (w : World) (all : List Visit) (gs : List (Grouped T)) → EachIsKept ts w all advance.Memory gs gs
  each_itself ts w all [] = tt
  each_itself ts w all (g ∷ gs) =
      (record { players = players_itself w g.players; clock_stays = clock_itself ts w all g.clock; memory_is = refl }, each_itself ts w all gs)

  -- nothing was done, for want of memory
  pub kept_itself : (ts : Tasks) (w : World) (gs : List (Grouped T)) → GroupsAreKept ts w gs advance.Memory gs
  kept_itself ts w gs = each_itself ts w (visits (all_members gs)) gs

  callers_kept : (w : World) (ps qs : List (Playing T)) → AreKept w ps qs → callers_of qs ≡ callers_of ps
  callers_kept w [] [] kept = refl
  callers_kept w [] (q ∷ qs) kept = absurd kept
  callers_kept w (p ∷ ps) [] kept = absurd kept
  callers_kept w (p ∷ ps) (q ∷ qs) kept =
      ap (λ (c : ℕ). c ∷ callers_of qs) kept.0.caller_is ∙ ap (λ (l : List ℕ). caller p ∷ l) (callers_kept w ps qs kept.1)

  clock_kept : (ts : Tasks) (w : World) (all : List Visit) (answer : Advance) (c d : Option (Playing T)) → ClockStays ts w all answer c d
      → option_map caller d ≡ option_map caller c
  clock_kept ts w all answer None None stays = refl
  clock_kept ts w all answer None (Some q) stays = absurd stays
  clock_kept ts w all answer (Some p) None stays = absurd stays
  clock_kept ts w all answer (Some p) (Some q) stays = ap (λ (c : ℕ). Some c) stays.caller_is

  pub seats_kept : (ts : Tasks) (w : World) (all : List Visit) (answer : Advance) (gs ks : List (Grouped T)) → EachIsKept ts w all answer gs ks → all_seats ks ≡ all_seats gs
  seats_kept ts w all answer [] [] kept = refl
  seats_kept ts w all answer [] (k ∷ ks) kept = absurd kept
  seats_kept ts w all answer (g ∷ gs) [] kept = absurd kept
  seats_kept ts w all answer (g ∷ gs) (k ∷ ks) kept =
      ap (λ (l : List ℕ). record { others = l; clock = option_map caller k.clock } ∷ all_seats ks) (callers_kept w g.players k.players kept.0.players)
      ∙ (ap (λ (c : Option ℕ). record { others = callers_of g.players; clock = c } ∷ all_seats ks) (clock_kept ts w all answer g.clock k.clock kept.0.clock_stays)
      ∙ ap (λ (l : List _). seats g ∷ l) (seats_kept ts w all answer gs ks kept.1))

  -- each of those that were given back is one of those that were lent
  abbrev pub Lent : World → ℕ → List (Playing T) → Playing T → Type 0
  Lent w now ps q = (p : Playing T) × In p ps × IsKept w p q × (q.visit.now ≡ now)

  lent_of : (w : World) (now : ℕ) (ps qs : List (Playing T)) → AreBack w now ps qs → (q : Playing T) → In q qs → Lent w now ps q
  lent_of w now [] [] back q there = absurd there
  lent_of w now [] (x ∷ qs) back q there = absurd back
  lent_of w now (p ∷ ps) [] back q there = absurd back
  lent_of w now (p ∷ ps) (x ∷ qs) back q (inl is) =
      (p, inl refl, subst (λ (y : Playing T). IsKept w p y) (sym is) back.0.0, ap (λ (y : Playing T). y.visit.now) is ∙ back.0.1)
  lent_of w now (p ∷ ps) (x ∷ qs) back q (inr there) =
      let found = lent_of w now ps qs back.1 q there in (found.0, inr found.1, found.2, found.3)

  pub all_lent : (w : World) (now : ℕ) (gs ks : List (Grouped T)) → GroupsAreBack w now gs ks → (q : Playing T) → In q (other_players ks)
      → Lent w now (other_players gs) q
  all_lent w now [] [] back q there = absurd there
  all_lent w now [] (k ∷ ks) back q there = absurd back
  all_lent w now (g ∷ gs) [] back q there = absurd back
  all_lent w now (g ∷ gs) (k ∷ ks) back q there =
      place (λ behind. all_lent w now gs ks back.1 q behind) (of_both q k.players (other_players ks) there)
    where
      place : (In q (other_players ks) → Lent w now (other_players gs) q) → In q k.players ⊎ In q (other_players ks)
          → Lent w now (g.players ++ other_players gs) q
      place rest (inl here) =
          let found = lent_of w now g.players k.players back.0.players q here in
          (found.0, in_front found.0 g.players (other_players gs) found.1, found.2, found.3)
      place rest (inr behind) =
          let found = rest behind in
          (found.0, in_back found.0 g.players (other_players gs) found.1, found.2, found.3)

  -- no clock came meanwhile
  pub still_none : (w : World) (now : ℕ) (gs ks : List (Grouped T)) → GroupsAreBack w now gs ks → NoClocks gs → NoClocks ks
  still_none w now [] [] back none = tt
  still_none w now [] (k ∷ ks) back none = absurd back
  still_none w now (g ∷ gs) [] back none = absurd back
  still_none w now (g ∷ gs) (k ∷ ks) back none = (back.0.clock_is ∙ none.0, still_none w now gs ks back.1 none.1)

  -- the group with the clock put in, and emptied again
  pub emptied_again : (ks : List (Grouped T)) (n : ℕ) (k : Grouped T) (q : Playing T) → slice_get ks n ≡ Some k → NoClocks ks
      → NoClocks (slice_set (slice_set ks n (filled k q)) n (emptied (filled k q)))
  emptied_again [] n k q there none = absurd (none-some k there)
  emptied_again (x ∷ ks) zero k q there none = (refl, none.1)
  emptied_again (x ∷ ks) (suc n) k q there none = (none.0, emptied_again ks n k q there none.1)

  pub filled_at : (ks : List (Grouped T)) (n : ℕ) (k : Grouped T) (q : Playing T) → slice_get ks n ≡ Some k
      → slice_get (slice_set ks n (filled k q)) n ≡ Some (filled k q)
  filled_at [] n k q there = absurd (none-some k there)
  filled_at (x ∷ ks) zero k q there = refl
  filled_at (x ∷ ks) (suc n) k q there = filled_at ks n k q there

  pub filled_others : (ks : List (Grouped T)) (n : ℕ) (k : Grouped T) (q : Playing T) → slice_get ks n ≡ Some k
      → other_players (slice_set ks n (filled k q)) ≡ other_players ks
  filled_others [] n k q there = absurd (none-some k there)
  filled_others (x ∷ ks) zero k q there = ap (λ (y : Grouped T). y.players ++ other_players ks) (sym (same_Some x k there))
  filled_others (x ∷ ks) (suc n) k q there = ap (λ (l : List (Playing T)). x.players ++ l) (filled_others ks n k q there)

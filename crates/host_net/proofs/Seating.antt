-- The callers of groups, and what becomes of them.
use Rattle.std.proofs.Common.{◌≡◌, ℕ, zero, suc, ◌+◌, ◌<◌, ◌≤◌, ◌==◌, nat_lt, ◌⊎◌, inl, inr, Bool, true, false, ◌||◌, List, [], ◌∷◌}
use Rattle.std.proofs.Common.{◌++◌, length, map, take, option_map, Option, Some, None, IfSome, slice_get, slice_set, slice_index_or}
use Rattle.std.proofs.Common.{reverse, refl, ap, sym, subst, ◌∙◌, append_assoc, arith}
use Rattle.std.specs.List.{list_any}
use Rattle.std.specs.Option.{option_map_or}
use Rattle.std.proofs.lemmas.Bool.{true≢false}
use Rattle.std.proofs.lemmas.Bool.Decides.{nat_tests}
use Rattle.std.proofs.lemmas.List.{append-nil, reverse-append}
use Rattle.std.proofs.lemmas.Nat.{mod_below}
use Rattle.std.proofs.lemmas.Option.{none-some, same_Some}
use Rattle.net_base.specs.declared.world.World.{World}
use Rattle.net_base.specs.Callers.{Caller, IsClock, caller_of}
use Rattle.net_base.specs.Stamped.{In}
use Rattle.net_base.specs.Tasks.{Tasks}
use Rattle.host_net.specs.declared.player.Role.{Role}
use Rattle.host_net.specs.declared.player.Role.TheVariants as role
use Rattle.host_net.specs.Groups.{GroupsApart, AreUpTo, AreWaiting, FollowsDeal, Grouped, Inserts, IsDealt, IsSeated, NotIn, Seats, all_callers, all_members}
use Rattle.host_net.specs.Groups.{all_seats, caller, callers_in, callers_of, joined, joined_as, joined_at, members, seat_of, seats, visits}
use Rattle.host_net.specs.Groups.{with_last}
use Rattle.host_net.specs.Playing.{AreVisitsPlayed, VisitHasRole, IsVisitPlayed, IsWaiting, Playing}
use Rattle.net_guests.specs.Visits.{HasGuest, Visit}
use Rattle.net_base.proofs.Shared.{apart_turned, in_front, in_back, in_parts, in_of_get}

-- Members of lists.

map_append : {A B : Type 0} (f : A → B) (xs ys : List A) → map f (xs ++ ys) ≡ map f xs ++ map f ys
map_append f [] ys = refl
map_append {B = B} f (x ∷ xs) ys = ap (λ (l : List B). f x ∷ l) (map_append f xs ys)

-- A number more.

inserts_front : (c : ℕ) (zs old new : List ℕ) → Inserts c old new → Inserts c (zs ++ old) (zs ++ new)
inserts_front c zs old new is =
    record {
      before = zs ++ is.before;
      behind = is.behind;
      old_is = ap (λ (l : List ℕ). zs ++ l) is.old_is ∙ sym (append_assoc zs is.before is.behind);
      new_is = ap (λ (l : List ℕ). zs ++ l) is.new_is ∙ sym (append_assoc zs is.before (c ∷ is.behind));
    }

inserts_back : (c : ℕ) (zs old new : List ℕ) → Inserts c old new → Inserts c (old ++ zs) (new ++ zs)
inserts_back c zs old new is =
    record {
      before = is.before;
      behind = is.behind ++ zs;
      old_is = ap (λ (l : List ℕ). l ++ zs) is.old_is ∙ append_assoc is.before is.behind zs;
      new_is = ap (λ (l : List ℕ). l ++ zs) is.new_is ∙ append_assoc is.before (c ∷ is.behind) zs;
    }

other_number : (n d : ℕ) → d < n → (n == d) ≡ false
other_number n d lt = grind (arith, nat_tests)

not_below : (n : ℕ) (cs : List ℕ) → ((c : ℕ) → In c cs → c < n) → NotIn n cs
not_below n [] known = tt
not_below n (d ∷ ds) known = (other_number n d (known d (inl refl)), not_below n ds (λ c there. known c (inr there)))

not_in_more : (d n : ℕ) (xs ys : List ℕ) → (d == n) ≡ false → NotIn d (xs ++ ys) → NotIn d (xs ++ n ∷ ys)
not_in_more d n [] ys other not_in = (other, not_in)
not_in_more d n (x ∷ xs) ys other not_in = (not_in.0, not_in_more d n xs ys other not_in.1)

apart_more : (n : ℕ) (xs ys : List ℕ) → GroupsApart (xs ++ ys) → NotIn n (xs ++ ys) → GroupsApart (xs ++ n ∷ ys)
apart_more n [] ys apart not_in = (not_in, apart)
apart_more n (x ∷ xs) ys apart not_in = (not_in_more x n xs ys (apart_turned n x not_in.0) apart.0, apart_more n xs ys apart.1 not_in.1)

by_less : (n c : ℕ) → c < n + 1 → (c < n) ⊎ (c ≡ n)
by_less n c lt = by_test (nat_lt c n) refl
  where
    by_test : (b : Bool) → nat_lt c n ≡ b → (c < n) ⊎ (c ≡ n)
    by_test true is = inl (grind (arith, nat_tests, is))
    by_test false is = inr (grind (arith, nat_tests, is, lt))

-- one caller more of all so far
up_to_more : (n : ℕ) (old new : List ℕ) → AreUpTo n old → Inserts n old new → AreUpTo (n + 1) new
up_to_more n old new are is =
    let was : AreUpTo n (is.before ++ is.behind) = subst (λ (l : List ℕ). AreUpTo n l) is.old_is are in
    subst (λ (l : List ℕ). AreUpTo (n + 1) l) (sym is.new_is)
    (record {
      all = λ c lt. has c (by_less n c lt) was.all;
      known = λ c there. below c (in_parts c is.before (n ∷ is.behind) there) was.known;
      apart = apart_more n is.before is.behind was.apart (not_below n (is.before ++ is.behind) was.known);
    })
  where
    widen : (c : ℕ) → In c is.before ⊎ In c is.behind → In c (is.before ++ n ∷ is.behind)
    widen c (inl first) = in_front c is.before (n ∷ is.behind) first
    widen c (inr second) = in_back c is.before (n ∷ is.behind) (inr second)

    has : (c : ℕ) → (c < n) ⊎ (c ≡ n) → ((d : ℕ) → d < n → In d (is.before ++ is.behind)) → In c (is.before ++ n ∷ is.behind)
    has c (inl lt) all = widen c (in_parts c is.before is.behind (all c lt))
    has c (inr same) all = in_back c is.before (n ∷ is.behind) (inl same)

    below : (c : ℕ) → In c is.before ⊎ In c (n ∷ is.behind) → ((d : ℕ) → In d (is.before ++ is.behind) → d < n) → c < n + 1
    below c (inl first) known = omega (arith, known c (in_front c is.before is.behind first))
    below c (inr (inl same)) known = omega (arith, same)
    below c (inr (inr second)) known = omega (arith, known c (in_back c is.before is.behind second))

-- A player joins a group.

with_last_more : (xs : List ℕ) (c : ℕ) (last : Option ℕ) → Inserts c (with_last xs last) (with_last (xs ++ c ∷ []) last)
with_last_more xs c None = record { before = xs; behind = []; old_is = sym (append-nil xs); new_is = refl }
with_last_more xs c (Some k) = record { before = xs; behind = k ∷ []; old_is = refl; new_is = append_assoc xs (c ∷ []) (k ∷ []) }

-- whether a caller is the clock
abbrev is_clock : Caller → Bool
is_clock IsClock = true
is_clock _ = false

module _ {T : Type 0} where
  callers_push : (ps : List (Playing T)) (p : Playing T) → callers_of (ps ++ p ∷ []) ≡ callers_of ps ++ caller p ∷ []
  callers_push ps p = map_append caller ps (p ∷ [])

  other_inserts : (g : Grouped T) (p : Playing T)
      → Inserts (caller p) (callers_in (seats g)) (with_last (callers_of (g.players ++ p ∷ [])) (option_map caller g.clock))
  other_inserts g p =
      subst (λ (l : List ℕ). Inserts (caller p) (callers_in (seats g)) (with_last l (option_map caller g.clock))) (sym (callers_push g.players p))
      (with_last_more (callers_of g.players) (caller p) (option_map caller g.clock))

  clock_inserts : (xs : List ℕ) (c : ℕ) (o : Option (Playing T)) → o ≡ None → Inserts c (with_last xs (option_map caller o)) (xs ++ c ∷ [])
  clock_inserts xs c o none =
      subst (λ (q : Option (Playing T)). Inserts c (with_last xs (option_map caller q)) (xs ++ c ∷ [])) (sym none)
      (record { before = xs; behind = []; old_is = sym (append-nil xs); new_is = refl })

  pub group_inserts : (r : Role) (g : Grouped T) (p : Playing T) → (r ≡ role.Clock → g.clock ≡ None)
      → Inserts (caller p) (callers_in (seats g)) (callers_in (seats (joined_as r g p)))
  group_inserts role.Clock g p alone = clock_inserts (callers_of g.players) (caller p) g.clock (alone refl)
  group_inserts role.Script g p alone = other_inserts g p
  group_inserts (role.Courier m) g p alone = other_inserts g p

  other_seats : (w : World) (g : Grouped T) (p : Playing T) → IsSeated w (seats g) → (caller_of w (caller p) ≡ IsClock → ⊥)
      → IsSeated w (record { others = callers_of (g.players ++ p ∷ []); clock = option_map caller g.clock })
  other_seats w g p is other =
      record {
        clock_is = is.clock_is;
        others_are = λ c there. which c (in_parts c (callers_of g.players) (caller p ∷ []) (subst (λ (l : List ℕ). In c l) (callers_push g.players p) there));
      }
    where
      which : (c : ℕ) → In c (callers_of g.players) ⊎ In c (caller p ∷ []) → caller_of w c ≡ IsClock → ⊥
      which c (inl first) = is.others_are c first
      which c (inr (inl same)) = λ clock. other (ap (caller_of w) (sym same) ∙ clock)
      which c (inr (inr none)) = absurd none

  pub group_seated : (w : World) (r : Role) (g : Grouped T) (p : Playing T) → VisitHasRole w (caller p) r → IsSeated w (seats g)
      → IsSeated w (seats (joined_as r g p))
  group_seated w role.Clock g p has is = record { clock_is = has; others_are = is.others_are }
  group_seated w role.Script g p has is = other_seats w g p is (λ clock. true≢false (ap is_clock (sym clock ∙ has.1)))
  group_seated w (role.Courier m) g p has is = other_seats w g p is (λ clock. true≢false (ap is_clock (sym clock ∙ has)))

  -- the groups with the next caller's player

  joined_long : (k : ℕ) (gs : List (Grouped T)) (p : Playing T) → length (joined_at k gs p) ≡ length gs
  joined_long k [] p = refl
  joined_long zero (g ∷ gs) p = refl
  joined_long (suc k) (g ∷ gs) p = ap suc (joined_long k gs p)

  pub seats_long : (gs : List (Grouped T)) → length (all_seats gs) ≡ length gs
  seats_long [] = refl
  seats_long (g ∷ gs) = ap suc (seats_long gs)

  abbrev pub IsAlone : ℕ → List (Grouped T) → Playing T → Type 0
  IsAlone k gs p = (g : Grouped T) → slice_get gs k ≡ Some g → p.role ≡ role.Clock → g.clock ≡ None

  all_inserts : (k : ℕ) (gs : List (Grouped T)) (p : Playing T) → k < length gs → IsAlone k gs p
      → Inserts (caller p) (all_callers (all_seats gs)) (all_callers (all_seats (joined_at k gs p)))
  all_inserts k [] p lt alone = absurd (omega (arith, lt))
  all_inserts zero (g ∷ gs) p lt alone =
      inserts_back (caller p) (all_callers (all_seats gs)) (callers_in (seats g)) (callers_in (seats (joined g p))) (group_inserts p.role g p (alone g refl))
  all_inserts (suc k) (g ∷ gs) p lt alone =
      inserts_front (caller p) (callers_in (seats g)) (all_callers (all_seats gs)) (all_callers (all_seats (joined_at k gs p)))
      (all_inserts k gs p (omega (arith, lt)) alone)

  -- what stands at a place, or what stood there with a player more
  pub record Joined (k : ℕ) (gs : List (Grouped T)) (p : Playing T) (j : ℕ) (s : Seats) : Type 0 where
    pub group : Grouped T
    pub there : slice_get gs j ≡ Some group
    pub here : j ≡ k
    pub is : s ≡ seats (joined group p)

  seats_at : (k : ℕ) (gs : List (Grouped T)) (p : Playing T) (j : ℕ) (s : Seats) → slice_get (all_seats (joined_at k gs p)) j ≡ Some s
      → (slice_get (all_seats gs) j ≡ Some s) ⊎ Joined k gs p j s
  seats_at k [] p j s is = inl is
  seats_at zero (g ∷ gs) p zero s is = inr (record { group = g; there = refl; here = refl; is = sym (same_Some (seats (joined g p)) s is) })
  seats_at zero (g ∷ gs) p (suc j) s is = inl is
  seats_at (suc k) (g ∷ gs) p zero s is = inl is
  seats_at (suc k) (g ∷ gs) p (suc j) s is = shift (seats_at k gs p j s is)
    where
      shift : (slice_get (all_seats gs) j ≡ Some s) ⊎ Joined k gs p j s
          → (slice_get (all_seats (g ∷ gs)) (suc j) ≡ Some s) ⊎ Joined (suc k) (g ∷ gs) p (suc j) s
      shift (inl old) = inl old
      shift (inr new) = inr (record { group = new.group; there = new.there; here = ap suc new.here; is = new.is })

  pub get_seats : (gs : List (Grouped T)) (j : ℕ) (g : Grouped T) → slice_get gs j ≡ Some g → slice_get (all_seats gs) j ≡ Some (seats g)
  get_seats [] j g is = absurd (none-some g is)
  get_seats (x ∷ gs) zero g is = ap (λ (y : Grouped T). Some (seats y)) (same_Some x g is)
  get_seats (x ∷ gs) (suc j) g is = get_seats gs j g is

in_get : {A : Type 0} (xs : List A) (x : A) → In x xs → (j : ℕ) × (slice_get xs j ≡ Some x)
in_get [] x none = absurd none
in_get (y ∷ xs) x (inl here) = (0, ap Some (sym here))
in_get (y ∷ xs) x (inr there) = let rest = in_get xs x there in (suc rest.0, rest.1)

inserted : (c d : ℕ) (old new : List ℕ) → Inserts c old new → In d new → In d old ⊎ (d ≡ c)
inserted c d old new is there = which (in_parts d is.before (c ∷ is.behind) (subst (λ (l : List ℕ). In d l) is.new_is there))
  where
    back : In d (is.before ++ is.behind) → In d old ⊎ (d ≡ c)
    back found = inl (subst (λ (l : List ℕ). In d l) (sym is.old_is) found)

    which : In d is.before ⊎ In d (c ∷ is.behind) → In d old ⊎ (d ≡ c)
    which (inl first) = back (in_front d is.before is.behind first)
    which (inr (inl same)) = inr same
    which (inr (inr second)) = back (in_back d is.before is.behind second)

in_all : (ss : List Seats) (s : Seats) (c : ℕ) → In s ss → In c (callers_in s) → In c (all_callers ss)
in_all [] s c none there = absurd none
in_all (x ∷ ss) s c (inl here) there = in_front c (callers_in x) (all_callers ss) (subst (λ (y : Seats). In c (callers_in y)) here there)
in_all (x ∷ ss) s c (inr behind) there = in_back c (callers_in x) (all_callers ss) (in_all ss s c behind there)

module _ {T : Type 0} (w : World) (n : ℕ) (gs : List (Grouped T)) (dealt : IsDealt w n (all_seats gs)) (p : Playing T) (next : caller p ≡ n)
    (has : VisitHasRole w (caller p) p.role) (place : ℕ) where
  alone_from : (one : (a b : ℕ) → caller_of w a ≡ IsClock → caller_of w b ≡ IsClock → a ≡ b) → (g : Grouped T) → In (seats g) (all_seats gs)
      → p.role ≡ role.Clock → g.clock ≡ None
  alone_from one g there clock = by_clock g.clock refl
    where
      is_clock_too : caller_of w n ≡ IsClock
      is_clock_too = ap (caller_of w) (sym next) ∙ subst (λ (r : Role). VisitHasRole w (caller p) r) clock has

      by_clock : (o : Option (Playing T)) → g.clock ≡ o → g.clock ≡ None
      by_clock None is = is
      by_clock (Some q) is = absurd (omega (arith, below, same))
        where
          other : caller_of w (caller q) ≡ IsClock
          other = subst (λ (o : Option (Playing T)). IfSome (option_map caller o) (λ (c : ℕ). caller_of w c ≡ IsClock)) is
              (dealt.seated (seats g) there).clock_is

          same : caller q ≡ n
          same = one (caller q) n other is_clock_too

          among : In (caller q) (callers_in (seats g))
          among = subst (λ (o : Option (Playing T)). In (caller q) (with_last (callers_of g.players) (option_map caller o))) (sym is)
              (in_back (caller q) (callers_of g.players) (caller q ∷ []) (inl refl))

          below : caller q < n
          below = dealt.callers.known (caller q) (in_all (all_seats gs) (seats g) (caller q) there among)

  seats_many : length (all_seats gs) ≡ length gs
  seats_many = seats_long gs

  pub alone_at : ((a b : ℕ) → caller_of w a ≡ IsClock → caller_of w b ≡ IsClock → a ≡ b) → IsAlone place gs p
  alone_at one g is = alone_from one g (in_of_get (all_seats gs) place (seats g) (get_seats gs place g is))

  seated_at : (k j : ℕ) (s : Seats) → (slice_get (all_seats gs) j ≡ Some s) ⊎ Joined k gs p j s → IsSeated w s
  seated_at k j s (inl old) = dealt.seated s (in_of_get (all_seats gs) j s old)
  seated_at k j s (inr new) =
      subst (λ (x : Seats). IsSeated w x) (sym new.is)
      (group_seated w p.role new.group p has (dealt.seated (seats new.group) (in_of_get (all_seats gs) j (seats new.group) (get_seats gs j new.group new.there))))

  placed_at : (deal : List ℕ) → FollowsDeal deal (all_seats gs) → place ≡ seat_of deal n (length gs) → IsAlone place gs p → (j : ℕ) (s : Seats) (c : ℕ)
      → (slice_get (all_seats gs) j ≡ Some s) ⊎ Joined place gs p j s → In c (callers_in s) → seat_of deal c (length (all_seats gs)) ≡ j
  placed_at deal follows is alone j s c (inl old) there = follows j s c old there
  placed_at deal follows is alone j s c (inr new) there = which (inserted (caller p) c (callers_in (seats new.group)) (callers_in (seats (joined new.group p))) inserts among)
    where
      inserts : Inserts (caller p) (callers_in (seats new.group)) (callers_in (seats (joined new.group p)))
      inserts = group_inserts p.role new.group p (alone new.group (subst (λ (i : ℕ). slice_get gs i ≡ Some new.group) new.here new.there))

      among : In c (callers_in (seats (joined new.group p)))
      among = subst (λ (x : Seats). In c (callers_in x)) new.is there

      which : In c (callers_in (seats new.group)) ⊎ (c ≡ caller p) → seat_of deal c (length (all_seats gs)) ≡ j
      which (inl old) = follows j (seats new.group) c (get_seats gs j new.group new.there) old
      which (inr same) =
          ap (λ (d : ℕ). seat_of deal d (length (all_seats gs))) (same ∙ next) ∙ (ap (seat_of deal n) seats_many ∙ (sym is ∙ sym new.here))

  -- each caller so far has its place, the next one too
  pub dealt_more : place < length gs → IsAlone place gs p → IsDealt w (n + 1) (all_seats (joined_at place gs p))
  dealt_more lt alone =
      let long : length (all_seats (joined_at place gs p)) ≡ length (all_seats gs) = seats_long (joined_at place gs p)
      ∙ (joined_long place gs p ∙ sym seats_many) in
      record {
        some = subst (λ (k : ℕ). 0 < k) (sym long) dealt.some;
        callers = up_to_more n (all_callers (all_seats gs)) (all_callers (all_seats (joined_at place gs p))) dealt.callers
            (subst (λ (c : ℕ). Inserts c (all_callers (all_seats gs)) (all_callers (all_seats (joined_at place gs p)))) next (all_inserts place gs p lt alone));
        seated = λ s there. let at_j = in_get (all_seats (joined_at place gs p)) s there in seated_at place at_j.0 s (seats_at place gs p at_j.0 s at_j.1);
      }

  -- and it is the one that the deal says
  pub follows_more : (deal : List ℕ) → FollowsDeal deal (all_seats gs) → place ≡ seat_of deal n (length gs) → IsAlone place gs p
      → FollowsDeal deal (all_seats (joined_at place gs p))
  follows_more deal follows is alone j s c there among =
      let long : length (all_seats (joined_at place gs p)) ≡ length (all_seats gs) = seats_long (joined_at place gs p)
      ∙ (joined_long place gs p ∙ sym seats_many) in
      ap (seat_of deal c) long ∙ placed_at deal follows is alone j s c (seats_at place gs p j s there) among

-- A caller's seat is in one of the groups.

pub some_groups : {T : Type 0} (w : World) (n : ℕ) (gs : List (Grouped T)) → IsDealt w n (all_seats gs) → 0 < length gs
some_groups w n gs dealt = subst (λ (k : ℕ). 0 < k) (seats_long gs) dealt.some

pub seat_same : (k : ℕ) (ds deal : List ℕ) (c n many m : ℕ) → k ≡ seat_of ds c many → ds ≡ deal → c ≡ n → many ≡ m → k ≡ seat_of deal n m
seat_same k ds deal c n many m is same caller as_many =
    is ∙ (ap (λ (l : List ℕ). seat_of l c many) same ∙ (ap (λ (i : ℕ). seat_of deal i many) caller ∙ ap (seat_of deal n) as_many))

pub seat_within : (deal : List ℕ) (c many k : ℕ) → 0 < many → k ≡ seat_of deal c many → k < many
seat_within deal c many k some is = subst (λ (i : ℕ). i < many) (sym is) (mod_below (option_map_or (λ (i : ℕ). i) (slice_get deal c) c) many some)

-- No players at all.

module _ {T : Type 0} where
  abbrev pub AreEmpty : List (Grouped T) → Type 0
  AreEmpty gs = (s : Seats) → In s (all_seats gs) → callers_in s ≡ []

  pub empty_more : (gs : List (Grouped T)) (g : Grouped T) → AreEmpty gs → callers_in (seats g) ≡ [] → AreEmpty (gs ++ g ∷ [])
  empty_more gs g are is s there = which (in_parts s (all_seats gs) (seats g ∷ []) (subst (λ (l : List Seats). In s l) (map_append seats gs (g ∷ [])) there))
    where
      which : In s (all_seats gs) ⊎ In s (seats g ∷ []) → callers_in s ≡ []
      which (inl first) = are s first
      which (inr (inl same)) = ap callers_in same ∙ is
      which (inr (inr none)) = absurd none

no_callers : (ss : List Seats) → ((s : Seats) → In s ss → callers_in s ≡ []) → all_callers ss ≡ []
no_callers [] are = refl
no_callers (s ∷ ss) are = ap (λ (l : List ℕ). l ++ all_callers ss) (are s (inl refl)) ∙ no_callers ss (λ x there. are x (inr there))

no_others : (w : World) (s : Seats) → callers_in s ≡ [] → IsSeated w s
no_others w s is =
    record {
      clock_is = no_clock s.clock is;
      others_are = λ c there clock. subst (λ (l : List ℕ). In c l) is (others_in s.clock c there);
    }
  where
    others_in : (o : Option ℕ) (c : ℕ) → In c s.others → In c (with_last s.others o)
    others_in None c there = there
    others_in (Some k) c there = in_front c s.others (k ∷ []) there

    no_clock : (o : Option ℕ) → with_last s.others o ≡ [] → IfSome o (λ (c : ℕ). caller_of w c ≡ IsClock)
    no_clock None none = tt
    no_clock (Some k) none = absurd (subst (λ (l : List ℕ). In k l) none (in_back k s.others (k ∷ []) (inl refl)))

pub none_dealt : {T : Type 0} (w : World) (gs : List (Grouped T)) → 0 < length gs → AreEmpty gs → IsDealt w 0 (all_seats gs)
none_dealt w gs some are =
    record {
      some = subst (λ (k : ℕ). 0 < k) (sym (seats_long gs)) some;
      callers = subst (λ (l : List ℕ). AreUpTo 0 l) (sym (no_callers (all_seats gs) are))
          (record { all = λ c lt. absurd (omega (arith, lt)); known = λ c none. absurd none; apart = tt });
      seated = λ s there. no_others w s (are s there);
    }

pub none_follow : {T : Type 0} (deal : List ℕ) (gs : List (Grouped T)) → AreEmpty gs → FollowsDeal deal (all_seats gs)
none_follow deal gs are k s c is there = absurd (subst (λ (l : List ℕ). In c l) (are s (in_of_get (all_seats gs) k s is)) there)

-- What is set at a place.

pub set_joined : {T : Type 0} (gs : List (Grouped T)) (k : ℕ) (d : Grouped T) (p : Playing T) → slice_set gs k (joined (slice_index_or gs k d) p)
    ≡ joined_at k gs p
set_joined [] k d p = refl
set_joined (g ∷ gs) zero d p = refl
set_joined (g ∷ gs) (suc k) d p = ap (λ (l : _). g ∷ l) (set_joined gs k d p)

pub set_same : {A : Type 0} (xs : List A) (k : ℕ) (d : A) → slice_set xs k (slice_index_or xs k d) ≡ xs
set_same [] k d = refl
set_same (x ∷ xs) zero d = refl
set_same (x ∷ xs) (suc k) d = ap (λ (l : _). x ∷ l) (set_same xs k d)

-- a player that keeps its caller
pub same_callers : {T : Type 0} (ps : List (Playing T)) (i : ℕ) (d q : Playing T) → caller q ≡ caller (slice_index_or ps i d)
    → callers_of (slice_set ps i q) ≡ callers_of ps
same_callers [] i d q same = refl
same_callers (p ∷ ps) zero d q same = ap (λ (c : ℕ). c ∷ callers_of ps) same
same_callers (p ∷ ps) (suc i) d q same = ap (λ (l : List ℕ). caller p ∷ l) (same_callers ps i d q same)

-- groups that keep their callers
pub same_seats : {T : Type 0} (gs gs' : List (Grouped T)) → length gs' ≡ length gs
    → ((i : ℕ) (d : Grouped T) → i < length gs → seats (slice_index_or gs' i d) ≡ seats (slice_index_or gs i d)) → all_seats gs' ≡ all_seats gs
same_seats [] [] long each = refl
same_seats [] (g ∷ gs') long each = absurd (omega (arith, long))
same_seats (g ∷ gs) [] long each = absurd (omega (arith, long))
same_seats (g ∷ gs) (g' ∷ gs') long each =
    ap (λ (s : Seats). s ∷ all_seats gs') (each 0 g (omega arith))
    ∙ ap (λ (l : List Seats). seats g ∷ l) (same_seats gs gs' (omega (arith, long)) (λ i d lt. each (suc i) d (omega (arith, lt))))

-- groups whose callers stay are as many
pub as_many : {T : Type 0} (gs hs : List (Grouped T)) → all_seats gs ≡ all_seats hs → length gs ≡ length hs
as_many gs hs same = sym (seats_long gs) ∙ (ap length same ∙ seats_long hs)

-- a group that keeps its callers, before others that do
pub seats_on : {T : Type 0} (gs : List (Grouped T)) (g h : Grouped T) (rest after : List (Grouped T)) → gs ≡ g ∷ rest → seats h ≡ seats g
    → all_seats after ≡ all_seats rest
    → all_seats (h ∷ after) ≡ all_seats gs
seats_on gs g h rest after parts first others =
    ap (λ (s : Seats). s ∷ all_seats after) first ∙ (ap (λ (l : List Seats). seats g ∷ l) others ∙ sym (ap all_seats parts))

-- memory ran out in the first group, or in another
pub some_short : {T A B : Type 0} (h : Grouped T) (after : List (Grouped T)) → (A → h.memory ≡ true)
    → (B → list_any (λ (x : Grouped T). x.memory) after ≡ true) → A ⊎ B
    → list_any (λ (x : Grouped T). x.memory) (h ∷ after) ≡ true
some_short {T = T} h after first others (inl here) = ap (λ (b : Bool). b || list_any (λ (x : Grouped T). x.memory) after) (first here)
some_short {T = T} h after first others (inr there) = or_true h.memory (list_any (λ (x : Grouped T). x.memory) after) (others there)
  where
    or_true : (a b : Bool) → b ≡ true → (a || b) ≡ true
    or_true true b is = refl
    or_true false b is = is

-- Waiting.

module _ {T : Type 0} (ts : Tasks) (w : World) where
  pub waiting_parts : (xs ys : List (Playing T)) → AreWaiting ts w xs → AreWaiting ts w ys → AreWaiting ts w (xs ++ ys)
  waiting_parts xs ys first second p there = which (in_parts p xs ys there)
    where
      which : In p xs ⊎ In p ys → IsWaiting ts w p.visit
      which (inl one) = first p one
      which (inr other) = second p other

  pub waiting_members : (ps : List (Playing T)) (o : Option (Playing T)) → AreWaiting ts w ps → IfSome o (λ (p : Playing T). IsWaiting ts w p.visit)
      → AreWaiting ts w (with_last ps o)
  waiting_members ps None others clock = others
  waiting_members ps (Some q) others clock = waiting_parts ps (q ∷ []) others one
    where
      one : AreWaiting ts w (q ∷ [])
      one p (inl same) = subst (λ (x : Playing T). IsWaiting ts w x.visit) (sym same) clock
      one p (inr none) = absurd none

  take_set : (ps : List (Playing T)) (i : ℕ) (q : Playing T) → i < length ps → take (suc i) (slice_set ps i q) ≡ take i ps ++ q ∷ []
  take_set [] i q lt = absurd (omega (arith, lt))
  take_set (p ∷ ps) zero q lt = refl
  take_set (p ∷ ps) (suc i) q lt = ap (λ (l : List (Playing T)). p ∷ l) (take_set ps i q (omega (arith, lt)))

  -- one more of them waits
  pub waiting_more : (ps : List (Playing T)) (i : ℕ) (q : Playing T) → i < length ps → AreWaiting ts w (take i ps) → IsWaiting ts w q.visit
      → AreWaiting ts w (take (i + 1) (slice_set ps i q))
  waiting_more ps i q lt are is =
      subst (λ (k : ℕ). AreWaiting ts w (take k (slice_set ps i q))) {x = suc i} (omega arith)
      (subst (λ (l : List (Playing T)). AreWaiting ts w l) (sym (take_set ps i q lt)) (waiting_members (take i ps) (Some q) are is))

  take_whole : (ps : List (Playing T)) (n : ℕ) → length ps ≤ n → take n ps ≡ ps
  take_whole [] zero le = refl
  take_whole [] (suc n) le = refl
  take_whole (p ∷ ps) zero le = absurd (omega (arith, le))
  take_whole (p ∷ ps) (suc n) le = ap (λ (l : List (Playing T)). p ∷ l) (take_whole ps n (omega (arith, le)))

  pub all_waiting : (ps : List (Playing T)) (n : ℕ) → length ps ≤ n → AreWaiting ts w (take n ps) → AreWaiting ts w ps
  all_waiting ps n le are = subst (λ (l : List (Playing T)). AreWaiting ts w l) (take_whole ps n le) are

-- Guests of all callers.

last_first : {A : Type 0} (xs : List A) (x : A) → reverse (xs ++ x ∷ []) ≡ x ∷ reverse xs
last_first xs x = reverse-append xs (x ∷ [])

module _ {T : Type 0} where
  members_callers : (ps : List (Playing T)) (o : Option (Playing T)) → callers_of (with_last ps o) ≡ with_last (callers_of ps) (option_map caller o)
  members_callers ps None = refl
  members_callers ps (Some p) = map_append caller ps (p ∷ [])

  all_callers_are : (gs : List (Grouped T)) → callers_of (all_members gs) ≡ all_callers (all_seats gs)
  all_callers_are [] = refl
  all_callers_are (g ∷ gs) =
      map_append caller (members g) (all_members gs)
      ∙ (ap (λ (l : List ℕ). l ++ callers_of (all_members gs)) (members_callers g.players g.clock)
      ∙ ap (λ (l : List ℕ). callers_in (seats g) ++ l) (all_callers_are gs))

  guest_of : (c : ℕ) (ps : List (Playing T)) → In c (callers_of ps) → HasGuest c (visits ps)
  guest_of c [] none = absurd none
  guest_of c (p ∷ ps) (inl here) = (p.visit, inl refl, sym here)
  guest_of c (p ∷ ps) (inr there) = let rest = guest_of c ps there in (rest.0, inr rest.1, rest.2)

  -- each caller so far has a guest
  pub has_guest : (w : World) (n : ℕ) (gs : List (Grouped T)) → IsDealt w n (all_seats gs) → (c : ℕ) → c < n → HasGuest c (visits (all_members gs))
  has_guest w n gs dealt c lt = guest_of c (all_members gs) (subst (λ (l : List ℕ). In c l) (sym (all_callers_are gs)) (dealt.callers.all c lt))

  pub visits_more : (ps qs : List (Playing T)) → visits (ps ++ qs) ≡ visits ps ++ visits qs
  visits_more ps qs = map_append (λ (p : Playing T). p.visit) ps qs

  pub all_members_more : (gs hs : List (Grouped T)) → all_members (gs ++ hs) ≡ all_members gs ++ all_members hs
  all_members_more [] hs = refl
  all_members_more (g ∷ gs) hs = ap (λ (l : List (Playing T)). members g ++ l) (all_members_more gs hs)
      ∙ sym (append_assoc (members g) (all_members gs) (all_members hs))

  -- Guests that are taken out, one after another.

  -- the guests of one group more
  pub groups_on : (before after whole : List Visit) (gs rest : List (Grouped T)) (g : Grouped T) → before ++ visits (all_members (reverse gs)) ≡ whole
      → gs ≡ rest ++ g ∷ [] → after ≡ before ++ visits (members g) → after ++ visits (all_members (reverse rest)) ≡ whole
  groups_on before after whole gs rest g so_far parts adds =
      ap (λ (l : List Visit). l ++ visits (all_members (reverse rest))) adds
      ∙ (append_assoc before (visits (members g)) (visits (all_members (reverse rest)))
      ∙ (ap (λ (l : List Visit). before ++ l) (sym (visits_more (members g) (all_members (reverse rest))))
      ∙ (ap (λ (l : List (Grouped T)). before ++ visits (all_members l)) (sym (ap reverse parts ∙ last_first rest g))
      ∙ so_far)))

  -- one guest more
  pub players_on : (before after whole : List Visit) (ps rest : List (Playing T)) (p : Playing T) → before ++ visits (reverse ps) ≡ whole
      → ps ≡ rest ++ p ∷ [] → after ≡ before ++ p.visit ∷ [] → after ++ visits (reverse rest) ≡ whole
  players_on before after whole ps rest p so_far parts adds =
      ap (λ (l : List Visit). l ++ visits (reverse rest)) adds
      ∙ (append_assoc before (p.visit ∷ []) (visits (reverse rest))
      ∙ (ap (λ (l : List (Playing T)). before ++ visits l) (sym (ap reverse parts ∙ last_first rest p))
      ∙ so_far))

-- each of these guests was played, and one more
pub plays_more : (ts : Tasks) (w : World) (vs : List Visit) (v : Visit) → AreVisitsPlayed ts w vs → IsVisitPlayed ts w v → AreVisitsPlayed ts w (vs ++ v ∷ [])
plays_more ts w vs v are is u there = which (in_parts u vs (v ∷ []) there)
  where
    which : In u vs ⊎ In u (v ∷ []) → IsVisitPlayed ts w u
    which (inl first) = are u first
    which (inr (inl same)) = subst (λ (x : Visit). IsVisitPlayed ts w x) (sym same) is
    which (inr (inr none)) = absurd none

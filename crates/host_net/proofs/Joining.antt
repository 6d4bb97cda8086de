-- The next caller's player joins its group.
use Rattle.std.proofs.Common.{◌≡◌, ℕ, zero, suc, ◌+◌, ◌<◌, Result, Ok, Err, OnErr, List, [], ◌∷◌, ◌++◌, append_assoc, length, Option}
use Rattle.std.proofs.Common.{None, Some, ◌⊎◌, inl, inr, slice_get, slice_set, slice_index_or, take, drop, refl, ap, sym, subst, ◌∙◌, arith}
use Rattle.net_base.specs.declared.world.World.{World}
use Rattle.host_net.specs.declared.player.Role.{Role}
use Rattle.host_net.specs.declared.player.Role.TheVariants as role
use Rattle.host_net.specs.Groups.{FollowsDeal, Grouped, Grouping, IsDealt, all_seats, caller, callers_of, joined, joined_as, joined_at, seat_of, visits}
use Rattle.host_net.specs.Groups.{with_last}
use Rattle.host_net.specs.Playing.{VisitHasRole, Playing}
use Rattle.host_net.proofs.Naming.{one_clock}
use Rattle.host_net.proofs.Seating.{alone_at, dealt_more, follows_more, set_joined, visits_more}
use Rattle.net_guests.specs.Visits.{Visit}
use Rattle.std.proofs.lemmas.List.{append-nil}

pub get_index : {A : Type 0} (xs : List A) (k : ℕ) (d : A) → k < length xs → slice_get xs k ≡ Some (slice_index_or xs k d)
get_index [] k d lt = absurd (omega (arith, lt))
get_index (x ∷ xs) zero d lt = refl
get_index (x ∷ xs) (suc k) d lt = get_index xs k d (omega (arith, lt))

-- an error leaves what stands anyway
pub on_error : {A E : Type 0} (r : Result A E) (P : Type 0) → P → OnErr r P
on_error (Ok x) P p = tt
on_error (Err e) P p = p

abbrev pub grouping : {T : Type 0} → List (Grouped T) → ℕ → List ℕ → Grouping T
grouping gs n deal = record { groups = gs; callers = n; deal = deal }

pub groups_set : {T : Type 0} (gs : List (Grouped T)) (k : ℕ) (d : Grouped T) (p : Playing T) (new : Grouped T) → new ≡ joined (slice_index_or gs k d) p
    → slice_set gs k new ≡ joined_at k gs p
groups_set gs k d p new joins = ap (slice_set gs k) joins ∙ set_joined gs k d p

module _ {T : Type 0} (w : World) (n : ℕ) (gs : List (Grouped T)) (dealt : IsDealt w n (all_seats gs)) (p : Playing T) (next : caller p ≡ n)
    (has : VisitHasRole w (caller p) p.role)
    (k : ℕ) (lt : k < length gs) (d : Grouped T) where
  -- the group that the player joins
  pub alone_index : p.role ≡ role.Clock → (slice_index_or gs k d).clock ≡ None
  alone_index = alone_at w n gs dealt p next has k (one_clock w) (slice_index_or gs k d) (get_index gs k d lt)

  pub dealt_set : (new : Grouped T) → new ≡ joined (slice_index_or gs k d) p → IsDealt w (n + 1) (all_seats (slice_set gs k new))
  dealt_set new joins =
      subst (λ (l : List (Grouped T)). IsDealt w (n + 1) (all_seats l)) (sym (groups_set gs k d p new joins))
      (dealt_more w n gs dealt p next has k lt (alone_at w n gs dealt p next has k (one_clock w)))

  pub follows_set : (deal : List ℕ) → FollowsDeal deal (all_seats gs) → k ≡ seat_of deal n (length gs) → (new : Grouped T)
      → new ≡ joined (slice_index_or gs k d) p → FollowsDeal deal (all_seats (slice_set gs k new))
  follows_set deal follows is new joins =
      subst (λ (l : List (Grouped T)). FollowsDeal deal (all_seats l)) (sym (groups_set gs k d p new joins))
      (follows_more w n gs dealt p next has k deal follows is (alone_at w n gs dealt p next has k (one_clock w)))

-- the players of a group, and then its clock
pub group_visits : {T : Type 0} (vs : List Visit) (ps : List (Playing T)) (o : Option (Playing T)) → (vs ++ visits ps) ++ visits (with_last [] o) ≡ vs
    ++ visits (with_last ps o)
group_visits vs ps None = append-nil (vs ++ visits ps)
group_visits vs ps (Some p) = append_assoc vs (visits ps) (p.visit ∷ []) ∙ ap (λ (l : List Visit). vs ++ l) (sym (visits_more ps (p ∷ [])))

-- What a call wrote to all elements of a vector.

take_first : {A : Type 0} (xs ys : List A) (n : ℕ) → n ≡ length xs → take n (xs ++ ys) ≡ xs
take_first [] ys zero is = refl
take_first [] ys (suc n) is = absurd (omega (arith, is))
take_first (x ∷ xs) ys zero is = absurd (omega (arith, is))
take_first (x ∷ xs) ys (suc n) is = ap (λ (l : _). x ∷ l) (take_first xs ys n (omega (arith, is)))

pub written : {A : Type 0} (xs ys : List A) (n : ℕ) → n ≡ length ys → length xs ≡ length ys → take n (xs ++ drop (length xs) ys) ≡ xs
written xs ys n long same = take_first xs (drop (length xs) ys) n (long ∙ sym same)

callers_long : {T : Type 0} (ps : List (Playing T)) → length (callers_of ps) ≡ length ps
callers_long [] = refl
callers_long (p ∷ ps) = ap suc (callers_long ps)

pub same_long : {T : Type 0} (ps qs : List (Playing T)) → callers_of ps ≡ callers_of qs → length ps ≡ length qs
same_long ps qs is = sym (callers_long ps) ∙ (ap length is ∙ callers_long qs)

-- a player that isn't the clock's joins the others
abbrev pub IsOther : {T : Type 0} → Playing T → Type 0
IsOther p = (p.role ≡ role.Script) ⊎ ((m : ℕ) × (p.role ≡ role.Courier m))

pub joins_others : {T : Type 0} (inside g : Grouped T) (p : Playing T) (ps : List (Playing T)) → inside ≡ g → IsOther p → ps ≡ inside.players ++ p ∷ []
    → record { players = ps; clock = inside.clock; memory = inside.memory } ≡ joined g p
joins_others {T = T} inside g p ps same other adds =
    let with_players : List (Playing T) → Grouped T = λ l. record { players = l; clock = inside.clock; memory = inside.memory } in
    ap with_players adds ∙ (ap (λ (x : Grouped T). record x { players = x.players ++ p ∷ [] }) same ∙ by_role other)
  where
    by_role : IsOther p → record g { players = g.players ++ p ∷ [] } ≡ joined g p
    by_role (inl is) = ap (λ (r : Role). joined_as r g p) (sym is)
    by_role (inr is) = ap (λ (r : Role). joined_as r g p) (sym is.1)

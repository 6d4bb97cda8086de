-- What stands in lists, and which conversations a world has.
use Rattle.std.proofs.Common.{◌≡◌, ℕ, zero, suc, ◌+◌, ◌<◌, ◌≤◌, true, List, [], ◌∷◌, ◌++◌, length, map, nat_lt, filter_map, Option, Some, None, ◌⊎◌, inl, inr, refl, sym, ap, subst, ◌∙◌, arith}
use Rattle.std.specs.List.{cons_option, flat_map, range_with_len}
use Rattle.std.proofs.lemmas.Bool.{and_from, and_parts, lt-ltb, ltb-true}
use Rattle.net_base.specs.declared.actor.ActorName.{ActorName}
use Rattle.net_base.specs.declared.actor.ActorName.TheVariants as name
use Rattle.net_base.specs.declared.address.Proto.{Proto}
use Rattle.net_base.specs.declared.address.Proto.TheVariants as proto
use Rattle.net_base.specs.declared.world.World.{World}
use Rattle.net_base.specs.Actors.{has_actor, slot_count}
use Rattle.net_base.specs.Duties.{conversations, slots_of}
use Rattle.net_base.specs.Stamped.{In}
use Rattle.net_base.proofs.Shared.{in_flat}
use Rattle.history_laws.proofs.Ordered.{in_range}

-- Ranges.

pub range_in : (a n c : ℕ) → In c (range_with_len a n) → (a ≤ c) × (c < a + n)
range_in a zero c there = absurd there
range_in a (suc n) c (inl is) = (omega (arith, is), omega (arith, is))
range_in a (suc n) c (inr there) = let p = range_in (a + 1) n c there in (omega (arith, p.0), omega (arith, p.1))

-- Lists in a row.

pub in_left : {A : Type 0} (xs ys : List A) (x : A) → In x xs → In x (xs ++ ys)
in_left [] ys x there = absurd there
in_left (y ∷ xs) ys x (inl is) = inl is
in_left (y ∷ xs) ys x (inr there) = inr (in_left xs ys x there)

pub in_right : {A : Type 0} (xs ys : List A) (x : A) → In x ys → In x (xs ++ ys)
in_right [] ys x there = there
in_right (y ∷ xs) ys x there = inr (in_right xs ys x there)

pub in_either : {A : Type 0} (xs ys : List A) (x : A) → In x (xs ++ ys) → In x xs ⊎ In x ys
in_either [] ys x there = inr there
in_either (y ∷ xs) ys x (inl is) = inl (inl is)
in_either (y ∷ xs) ys x (inr there) = elim (in_either xs ys x there) [ inl left ↦ inl (inr left) | inr right ↦ inr right ]

-- Lists made from others.

pub in_map : {A B : Type 0} (f : A → B) (xs : List A) (x : A) → In x xs → In (f x) (map f xs)
in_map f [] x there = absurd there
in_map f (y ∷ xs) x (inl is) = inl (ap f is)
in_map f (y ∷ xs) x (inr there) = inr (in_map f xs x there)

pub map_in : {A B : Type 0} (f : A → B) (xs : List A) (y : B) → In y (map f xs) → (x : A) × In x xs × (y ≡ f x)
map_in f [] y there = absurd there
map_in f (x ∷ xs) y (inl is) = (x, inl refl, is)
map_in f (x ∷ xs) y (inr there) = let p = map_in f xs y there in (p.0, inr p.1, p.2)

pub flat_map_in : {A B : Type 0} (f : A → List B) (xs : List A) (y : B) → In y (flat_map f xs) → (x : A) × In x xs × In y (f x)
flat_map_in f [] y there = absurd there
flat_map_in f (x ∷ xs) y there = elim (in_either (f x) (flat_map f xs) y there) [
  | inl here ↦ (x, inl refl, here)
  | inr later ↦ let p = flat_map_in f xs y later in (p.0, inr p.1, p.2)
]

-- what a partial function gives, and from what
pub record IsGiven {A : Type 0} (f : A → Option ℕ) (xs : List A) (m : ℕ) : Type 0 where
  pub from : A
  pub there : In from xs
  pub gives : f from ≡ Some m

pub in_filter_map : {A : Type 0} (f : A → Option ℕ) (xs : List A) (x : A) (m : ℕ) → In x xs → f x ≡ Some m → In m (filter_map f xs)
in_filter_map f [] x m there gives = absurd there
in_filter_map f (y ∷ xs) x m (inl is) gives = rw (ap f (sym is) ∙ gives) (inl refl)
in_filter_map f (y ∷ xs) x m (inr there) gives = at (f y) (in_filter_map f xs x m there gives)
  where
    at : (o : Option ℕ) → In m (filter_map f xs) → In m (cons_option o (filter_map f xs))
    at None later = later
    at (Some k) later = inr later

pub filter_map_in : {A : Type 0} (f : A → Option ℕ) (xs : List A) (m : ℕ) → In m (filter_map f xs) → IsGiven f xs m
filter_map_in f [] m there = absurd there
filter_map_in f (x ∷ xs) m there = at (f x) refl there (filter_map_in f xs m)
  where
    more : IsGiven f xs m → IsGiven f (x ∷ xs) m
    more p = record { from = p.from; there = inr p.there; gives = p.gives }

    at : (o : Option ℕ) → f x ≡ o → In m (cons_option o (filter_map f xs)) → (In m (filter_map f xs) → IsGiven f xs m) → IsGiven f (x ∷ xs) m
    at None is there rest = more (rest there)
    at (Some k) is (inl same) rest = record { from = x; there = inl refl; gives = is ∙ ap (λ (i : ℕ). Some i) (sym same) }
    at (Some k) is (inr later) rest = more (rest later)

-- Conversations.

in_slots : (h n : ℕ) (p : Proto) → n < slot_count → In (name.Conv h p n) (slots_of h p)
in_slots h n p lt = in_map (λ (k : ℕ). name.Conv h p k) (range_with_len 0 slot_count) n (in_range 0 slot_count n (omega arith) (omega (arith, lt)))

in_host : (h n : ℕ) (p : Proto) → n < slot_count → In (name.Conv h p n) (slots_of h proto.Il ++ slots_of h proto.Udp)
in_host h n proto.Il lt = in_left (slots_of h proto.Il) (slots_of h proto.Udp) (name.Conv h proto.Il n) (in_slots h n proto.Il lt)
in_host h n proto.Udp lt = in_right (slots_of h proto.Il) (slots_of h proto.Udp) (name.Conv h proto.Udp n) (in_slots h n proto.Udp lt)

abbrev of_host : ℕ → List ActorName
of_host h = slots_of h proto.Il ++ slots_of h proto.Udp

pub conversation_there : (w : World) (h : ℕ) (p : Proto) (n : ℕ) → has_actor w (name.Conv h p n) ≡ true → In (name.Conv h p n) (conversations w)
conversation_there w h p n has =
    let parts = and_parts (nat_lt h (length w.hosts)) (nat_lt n slot_count) has in
    in_flat of_host (range_with_len 0 (length w.hosts)) h (name.Conv h p n)
    (in_range 0 (length w.hosts) h (omega arith) (omega (arith, ltb-true h (length w.hosts) parts.0)))
    (in_host h n p (ltb-true n slot_count parts.1))

abbrev IsOne : World → ActorName → Type 0
IsOne w a = (h : ℕ) × (p : Proto) × (n : ℕ) × (a ≡ name.Conv h p n) × (has_actor w a ≡ true)

slot_in : (w : World) (a : ActorName) (h : ℕ) (p : Proto) → h < length w.hosts → In a (slots_of h p) → IsOne w a
slot_in w a h p lt there =
    let found = map_in (λ (k : ℕ). name.Conv h p k) (range_with_len 0 slot_count) a there in
    let near : found.0 < slot_count = omega (arith, (range_in 0 slot_count found.0 found.1).1) in
    let has : has_actor w (name.Conv h p found.0) ≡ true = and_from (nat_lt h (length w.hosts)) (nat_lt found.0 slot_count)
    (lt-ltb h (length w.hosts) lt) (lt-ltb found.0 slot_count near) in
    (h, p, found.0, found.2, subst (λ (b : ActorName). has_actor w b ≡ true) (sym found.2) has)

pub conversation_only : (w : World) (a : ActorName) → In a (conversations w) → IsOne w a
conversation_only w a there =
    let found = flat_map_in of_host (range_with_len 0 (length w.hosts)) a there in
    let lt : found.0 < length w.hosts = omega (arith, (range_in 0 (length w.hosts) found.0 found.1).1) in
    elim (in_either (slots_of found.0 proto.Il) (slots_of found.0 proto.Udp) a found.2) [
      | inl il ↦ slot_in w a found.0 proto.Il lt il
      | inr udp ↦ slot_in w a found.0 proto.Udp lt udp
    ]

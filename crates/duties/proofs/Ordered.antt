-- The conversations of a world stand in the order of their numbers.
use Rattle.std.proofs.Common.{◌≡◌, ℕ, zero, suc, ◌+◌, ◌*◌, ◌<◌, ◌≤◌, ◌==◌, ◌&&◌, inl, inr, Bool, true, false, List, [], ◌∷◌, ◌++◌, length, map, flat_map, filter_map, nat_lt, option_to_list, Option, Some, None, if◌then◌else◌, refl, ap, sym, ◌∙◌, arith}
use Rattle.std.specs.List.{cons_option, range_with_len}
use Rattle.std.proofs.lemmas.Bool.{and_parts, eqb-true, lt-ltb, true≢false}
use Rattle.std.proofs.lemmas.Bool.Decides.{nat_tests}
use Rattle.net_base.specs.declared.actor.ActorName.{ActorName}
use Rattle.net_base.specs.declared.actor.ActorName.TheVariants as name
use Rattle.net_base.specs.declared.address.Proto.{Proto}
use Rattle.net_base.specs.declared.address.Proto.TheVariants as proto
use Rattle.net_base.specs.declared.world.World.{World}
use Rattle.net_base.specs.Duties.{conversations, slots_of}
use Rattle.net_base.specs.Stamped.{In, same_actor, same_proto}
use Rattle.duties.specs.declared.due.Due.{Due}
use Rattle.duties.specs.Places.{AreOwnPlaces, conversation_place, due_place, put_at, rank}
use Rattle.duties.proofs.Covering.{in_either}

abbrev number : ActorName → ℕ
number (name.Conv h p n) = conversation_place h p n
number _ = 0

-- each comes before those behind it
abbrev Ascends : List ActorName → Type 0
Ascends [] = Unit {0}
Ascends (a ∷ as') = ((b : ActorName) → In b as' → number a < number b) × Ascends as'

ascends_append : (xs ys : List ActorName) → Ascends xs → Ascends ys
    → ((x y : ActorName) → In x xs → In y ys → number x < number y) → Ascends (xs ++ ys)
ascends_append [] ys one other across = other
ascends_append (x ∷ xs) ys one other across = (
  λ b there. elim (in_either xs ys b there) [ inl left ↦ one.0 b left | inr right ↦ across x b (inl refl) right ],
  ascends_append xs ys one.1 other (λ a b first second. across a b (inr first) second),
)

-- Slots.

abbrev slots : ℕ → Proto → ℕ → ℕ → List ActorName
slots h p a n = map (λ (k : ℕ). name.Conv h p k) (range_with_len a n)

slot_within : (h : ℕ) (p : Proto) (a n : ℕ) (b : ActorName) → In b (slots h p a n) → (conversation_place h p a ≤ number b) × (number b < conversation_place h p a + n)
slot_within h p a zero b there = absurd there
slot_within h p a (suc n) b (inl is) = (omega (arith, ap number is), omega (arith, ap number is))
slot_within h p a (suc n) b (inr there) =
    let rest = slot_within h p (a + 1) n b there in
    (omega (arith, rest.0), omega (arith, rest.1))

slots_ascend : (h : ℕ) (p : Proto) (a n : ℕ) → Ascends (slots h p a n)
slots_ascend h p a zero = tt
slots_ascend h p a (suc n) =
    (λ b there. omega (arith, (slot_within h p (a + 1) n b there).0), slots_ascend h p (a + 1) n)

-- Hosts.

abbrev of_host : ℕ → List ActorName
of_host h = slots_of h proto.Il ++ slots_of h proto.Udp

host_within : (h : ℕ) (b : ActorName) → In b (of_host h) → (64 * h ≤ number b) × (number b < 64 * h + 64)
host_within h b there = elim (in_either (slots_of h proto.Il) (slots_of h proto.Udp) b there) [
  | inl il ↦ let at = slot_within h proto.Il 0 32 b il in (omega (arith, at.0), omega (arith, at.1))
  | inr udp ↦ let at = slot_within h proto.Udp 0 32 b udp in (omega (arith, at.0), omega (arith, at.1))
]

host_ascends : (h : ℕ) → Ascends (of_host h)
host_ascends h =
    ascends_append (slots_of h proto.Il) (slots_of h proto.Udp) (slots_ascend h proto.Il 0 32) (slots_ascend h proto.Udp 0 32)
    (λ x y first second. omega (arith, (slot_within h proto.Il 0 32 x first).1, (slot_within h proto.Udp 0 32 y second).0))

hosts_within : (a n : ℕ) (b : ActorName) → In b (flat_map of_host (range_with_len a n)) → 64 * a ≤ number b
hosts_within a zero b there = absurd there
hosts_within a (suc n) b there = elim (in_either (of_host a) (flat_map of_host (range_with_len (a + 1) n)) b there) [
  | inl here ↦ (host_within a b here).0
  | inr later ↦ omega (arith, hosts_within (a + 1) n b later)
]

hosts_ascend : (a n : ℕ) → Ascends (flat_map of_host (range_with_len a n))
hosts_ascend a zero = tt
hosts_ascend a (suc n) =
    ascends_append (of_host a) (flat_map of_host (range_with_len (a + 1) n)) (host_ascends a) (hosts_ascend (a + 1) n)
    (λ x y first second. omega (arith, (host_within a x first).1, hosts_within (a + 1) n y second))

-- What differs at one conversation alone.

same_rank : (p q : Proto) → same_proto p q ≡ true → rank p ≡ rank q
same_rank proto.Il proto.Il is = refl
same_rank proto.Udp proto.Udp is = refl
same_rank proto.Il proto.Udp is = absurd (true≢false (sym is))
same_rank proto.Udp proto.Il is = absurd (true≢false (sym is))

same_place : (b : ActorName) (h : ℕ) (p : Proto) (n : ℕ) → same_actor (name.Conv h p n) b ≡ true → conversation_place h p n ≡ number b
same_place (name.Conv i q m) h p n is =
    let outer = and_parts ((h == i) && same_proto p q) (n == m) is in
    let inner = and_parts (h == i) (same_proto p q) outer.0 in
    omega (arith, eqb-true h i inner.0, same_rank p q inner.1, eqb-true n m outer.1)
same_place (name.Desk i) h p n is = absurd (true≢false (sym is))
same_place (name.Dir i q) h p n is = absurd (true≢false (sym is))
same_place (name.Medium i) h p n is = absurd (true≢false (sym is))
same_place name.Clock h p n is = absurd (true≢false (sym is))

apart : (b : ActorName) (h : ℕ) (p : Proto) (n : ℕ) → (conversation_place h p n ≡ number b → ⊥) → same_actor (name.Conv h p n) b ≡ false
apart b h p n other = by_test (same_actor (name.Conv h p n) b) refl
  where
    by_test : (t : Bool) → same_actor (name.Conv h p n) b ≡ t → same_actor (name.Conv h p n) b ≡ false
    by_test true is = absurd (other (same_place b h p n is))
    by_test false is = is

cons_is : (o : Option Due) (ds : List Due) → cons_option o ds ≡ option_to_list o ++ ds
cons_is None ds = refl
cons_is (Some d) ds = refl

module _ (h : ℕ) (p : Proto) (n : ℕ) (before after : ActorName → Option Due) (own : AreOwnPlaces before)
    (same : (b : ActorName) → same_actor (name.Conv h p n) b ≡ false → after b ≡ before b) where
  abbrev k : ℕ
  k = conversation_place h p n

  abbrev o : Option Due
  o = after (name.Conv h p n)

  place_own : (b : ActorName) (d : Due) → before b ≡ Some d → due_place d ≡ number b
  place_own b d is = sym (ap number (own b d is))

  -- those behind the conversation are the same
  past_same : (bs : List ActorName) → ((b : ActorName) → In b bs → k < number b) → filter_map after bs ≡ filter_map before bs
  past_same [] above = refl
  past_same (b ∷ bs) above =
      ap (λ (x : Option Due). cons_option x (filter_map after bs)) (same b (apart b h p n (λ e. omega (arith, e, above b (inl refl)))))
      ∙ ap (cons_option (before b)) (past_same bs (λ c there. above c (inr there)))

  stop : (d : Due) (ds : List Due) → k < due_place d → put_at k o (d ∷ ds) ≡ option_to_list o ++ d ∷ ds
  stop d ds lt = by_tests (nat_lt (due_place d) k) (due_place d == k) (grind (arith, nat_tests, lt)) (grind (arith, nat_tests, lt))
    where
      by_tests : (s t : Bool) → s ≡ false → t ≡ false
          → (if s then d ∷ put_at k o ds else option_to_list o ++ (if t then ds else d ∷ ds)) ≡ option_to_list o ++ d ∷ ds
      by_tests false false a b = refl
      by_tests true t a b = absurd (true≢false a)
      by_tests false true a b = absurd (true≢false b)

  put_past : (bs : List ActorName) → ((b : ActorName) → In b bs → k < number b)
      → put_at k o (filter_map before bs) ≡ option_to_list o ++ filter_map before bs
  put_past [] above = by_option o
    where
      by_option : (x : Option Due) → option_to_list x ≡ option_to_list x ++ []
      by_option None = refl
      by_option (Some d) = refl
  put_past (b ∷ bs) above = by_due (before b) refl (put_past bs (λ c there. above c (inr there)))
    where
      by_due : (x : Option Due) → before b ≡ x → put_at k o (filter_map before bs) ≡ option_to_list o ++ filter_map before bs
          → put_at k o (cons_option x (filter_map before bs)) ≡ option_to_list o ++ cons_option x (filter_map before bs)
      by_due None is rest = rest
      by_due (Some d) is rest = stop d (filter_map before bs) (omega (arith, place_own b d is, above b (inl refl)))

  instead : (d : Due) (ds : List Due) → due_place d ≡ k → put_at k o (d ∷ ds) ≡ option_to_list o ++ ds
  instead d ds at = by_tests (nat_lt (due_place d) k) (due_place d == k) (grind (arith, nat_tests, at)) (grind (arith, nat_tests, at))
    where
      by_tests : (s t : Bool) → s ≡ false → t ≡ true
          → (if s then d ∷ put_at k o ds else option_to_list o ++ (if t then ds else d ∷ ds)) ≡ option_to_list o ++ ds
      by_tests false true a b = refl
      by_tests true t a b = absurd (true≢false a)
      by_tests false false a b = absurd (true≢false (sym b))

  goes_on : (d : Due) (ds : List Due) → due_place d < k → put_at k o (d ∷ ds) ≡ d ∷ put_at k o ds
  goes_on d ds lt = by_test (nat_lt (due_place d) k) (lt-ltb (due_place d) k lt)
    where
      by_test : (s : Bool) → s ≡ true → (if s then d ∷ put_at k o ds else option_to_list o ++ (if due_place d == k then ds else d ∷ ds)) ≡ d ∷ put_at k o ds
      by_test true is = refl
      by_test false is = absurd (true≢false (sym is))

  -- at the conversation itself
  put_here : (b : ActorName) (bs : List ActorName) → name.Conv h p n ≡ b → ((c : ActorName) → In c bs → number b < number c)
      → cons_option (after b) (filter_map after bs) ≡ put_at k o (cons_option (before b) (filter_map before bs))
  put_here b bs is above =
      ap (λ (c : ActorName). cons_option (after c) (filter_map after bs)) (sym is)
      ∙ (ap (cons_option o) (past_same bs past)
      ∙ (cons_is o (filter_map before bs) ∙ sym (by_due (before b) refl)))
    where
      at : number b ≡ k
      at = sym (ap number is)

      past : (c : ActorName) → In c bs → k < number c
      past c there = omega (arith, above c there, at)

      by_due : (x : Option Due) → before b ≡ x → put_at k o (cons_option x (filter_map before bs)) ≡ option_to_list o ++ filter_map before bs
      by_due None gives = put_past bs past
      by_due (Some d) gives = instead d (filter_map before bs) (place_own b d gives ∙ at)

  -- before it
  put_later : (b : ActorName) (bs : List ActorName) → number b < k → filter_map after bs ≡ put_at k o (filter_map before bs)
      → cons_option (after b) (filter_map after bs) ≡ put_at k o (cons_option (before b) (filter_map before bs))
  put_later b bs lt rest =
      ap (λ (x : Option Due). cons_option x (filter_map after bs)) (same b (apart b h p n (λ e. omega (arith, e, lt))))
      ∙ (ap (cons_option (before b)) rest ∙ by_due (before b) refl)
    where
      by_due : (x : Option Due) → before b ≡ x → cons_option x (put_at k o (filter_map before bs)) ≡ put_at k o (cons_option x (filter_map before bs))
      by_due None gives = refl
      by_due (Some d) gives = sym (goes_on d (filter_map before bs) (omega (arith, place_own b d gives, lt)))

  puts_in : (names : List ActorName) → Ascends names → In (name.Conv h p n) names → filter_map after names ≡ put_at k o (filter_map before names)
  puts_in [] asc there = absurd there
  puts_in (b ∷ bs) asc (inl is) = put_here b bs is asc.0
  puts_in (b ∷ bs) asc (inr there) = put_later b bs (asc.0 (name.Conv h p n) there) (puts_in bs asc.1 there)

pub puts : (w : World) (h : ℕ) (p : Proto) (n : ℕ) (before after : ActorName → Option Due) → In (name.Conv h p n) (conversations w) → AreOwnPlaces before
    → ((b : ActorName) → same_actor (name.Conv h p n) b ≡ false → after b ≡ before b)
    → filter_map after (conversations w) ≡ put_at (conversation_place h p n) (after (name.Conv h p n)) (filter_map before (conversations w))
puts w h p n before after there own same = puts_in h p n before after own same (conversations w) (hosts_ascend 0 (length w.hosts)) there

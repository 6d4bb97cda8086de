-- Each step of a directory keeps what holds of all pairs.
use Rattle.std.proofs.Common.{◌≡◌, ℕ, zero, suc, ◌+◌, ◌<◌, ◌≤◌, not, Bool, true, false, cond, List, [], ◌∷◌, ◌++◌, Option, Some, None, is_some, slice_get, ◌⊎◌, inl, inr, refl, sym, ap, subst, ◌∙◌, arith}
use Rattle.std.specs.Prelude.{slice_set, replicate}
use Rattle.std.specs.Option.{option_map_or}
use Rattle.std.proofs.lemmas.Option.{none-some, same_Some}
use Rattle.std.proofs.lemmas.Bool.{cond_both}
use Rattle.net_base.specs.declared.address.Pair.{Pair}
use Rattle.net_base.specs.declared.address.Proto.TheVariants as proto
use Rattle.net_base.specs.declared.il.StateName.{StateName}
use Rattle.net_base.specs.declared.il.StateName.TheVariants as name
use Rattle.net_base.specs.declared.actor.ActorName.{ActorName}
use Rattle.net_base.specs.declared.actor.ActorName.TheVariants as actor
use Rattle.net_base.specs.declared.event.Event.{Event}
use Rattle.net_base.specs.declared.event.Event.TheVariants as event
use Rattle.net_base.specs.declared.history.With.{With}
use Rattle.net_base.specs.declared.history.With.TheVariants as given
use Rattle.net_base.specs.Same.{same_pair}
use Rattle.net_base.specs.Mirror.{mirror}
use Rattle.net_base.specs.declared.world.World.{World}
use Rattle.net_base.specs.Routes.{has_address}
use Rattle.net_base.specs.ActorStep.{Step}
use Rattle.net_base.specs.Conversation.{Core, Il, Udp, Stage, Unused, Listening, Connected}
use Rattle.net_base.specs.Directory.{Slot, Dir, free_slot, is_free, is_reserved, is_announced, pair_place}
use Rattle.net_base.specs.Actors.{Actor, IsConv}
use Rattle.net_base.specs.Duties.{Duty, follow_up}
use Rattle.prefix_law.proofs.Trace.{Owner, Trace, empty_side, put_at}
use Rattle.prefix_law.proofs.Deeds.{both_ways}
use Rattle.prefix_law.proofs.ConvMoves.{is_connected}
use Rattle.prefix_law.proofs.Sides.{put_here, put_there, put_same}
use Rattle.prefix_law.proofs.Touch.{owner_of, Owned, Later, Emitted, EmittedIf, HasEnd, ActorFine}
use Rattle.prefix_law.proofs.ConvSteps.{GiftFine}
use Rattle.net_base.proofs.Shared.{same_pair_is, same_pair_itself}

-- what duties carry
abbrev pub WithFine : World → Trace → ActorName → Event → With → Type 0
WithFine w t (actor.Conv h proto.Il n) ev gift = GiftFine t h n ev gift
WithFine w t (actor.Medium m) (event.Put to) (given.Packet p) = Emitted t p
WithFine w t (actor.Dir h proto.Il) event.Arrive (given.Packet p) = Emitted t p × (has_address w h p.dst.ip ≡ true)
WithFine w t _ _ _ = Unit {0}

abbrev pub EachDuty : World → Trace → List Duty → Type 0
EachDuty w t [] = Unit {0}
EachDuty w t (d ∷ ds) = WithFine w t d.actor d.event d.with × EachDuty w t ds

-- a slot's pair is that of its generation
pub record SlotFine (t : Trace) (h n : ℕ) (kind : StateName) (generation : ℕ) (pair : Option Pair) : Type 0 where
  pub has : (p : Pair) → pair ≡ Some p → t.owner p ≡ owner_of h n generation
  pub past : (p : Pair) (g : ℕ) → t.owner p ≡ owner_of h n g → g ≤ generation
  pub unused : is_reserved kind ≡ true → (p : Pair) (g : ℕ) → t.owner p ≡ owner_of h n g → g < generation

abbrev pub SlotIsFine : Trace → ℕ → ℕ → Slot → Type 0
SlotIsFine t h n s = SlotFine t h n s.kind s.generation s.pair

pub record DirFine (t : Trace) (h : ℕ) (slots : List Slot) (pairs : List Pair) : Type 0 where
  pub slots_fine : (n : ℕ) (s : Slot) → slice_get slots n ≡ Some s → SlotIsFine t h n s
  pub known : (p : Pair) (o : Owner) → t.owner p ≡ Some o → o.host ≡ h → is_some (pair_place p 1 pairs) ≡ true

abbrev pub DirIsFine : Trace → ℕ → Dir → Type 0
DirIsFine t h d = DirFine t h d.slots d.pairs

abbrev pub Addressed : World → Trace → Type 0
Addressed w t = (p : Pair) (o : Owner) → t.owner p ≡ Some o → has_address w o.host p.local.ip ≡ true

-- what a step of the directory of host h leaves
pub record DirStep (w : World) (k h stamp : ℕ) (ev : Event) (gift : With) (t u : Trace) (s : Step Dir) : Type 0 where
  pub owned : Owned k u
  pub addressed : Addressed w u
  pub fine : DirIsFine u h s.state
  pub other_dirs : (h' : ℕ) (d : Dir) → (h ≡ h' → ⊥) → DirIsFine t h' d → DirIsFine u h' d
  pub convs : (h' n' : ℕ) (a : Actor) → ActorFine t h' n' a → ActorFine u h' n' a
  pub later : Later t u
  pub side_same : (p : Pair) → u.side p ≡ t.side p
  pub owner_back : (p : Pair) (o : Owner) → u.owner p ≡ Some o → (t.owner p ≡ Some o) ⊎ ((t.owner p ≡ None) × ((q : Pair) → t.owner q ≡ Some o → ⊥))
  pub emitted : EmittedIf u s.outcome.emit
  pub follow : EachDuty w u (follow_up (actor.Dir h proto.Il) stamp ev gift s.outcome.reply)

-- where no pair is given
pub dir_keeps : (w : World) (k h stamp : ℕ) (ev : Event) (gift : With) (t : Trace) (s : Step Dir) → Owned k t → Addressed w t → DirIsFine t h s.state → EmittedIf t s.outcome.emit
    → EachDuty w t (follow_up (actor.Dir h proto.Il) stamp ev gift s.outcome.reply) → DirStep w k h stamp ev gift t t s
dir_keeps w k h stamp ev gift t s owned addressed fine emitted follow = record {
  owned = owned;
  addressed = addressed;
  fine = fine;
  other_dirs = λ h' d apart f. f;
  convs = λ h' n' a f. f;
  later = record { owner_stays = λ p o is. is; out_stays = λ p m there. there };
  side_same = λ p. refl;
  owner_back = λ p o is. inl is;
  emitted = emitted;
  follow = follow;
}

-- Where a pair is given.

abbrev pub owns : Trace → Pair → ℕ → ℕ → ℕ → Trace
owns t p h n g = record t { owner = put_at t.owner p (owner_of h n g) }

module _ (t : Trace) (p : Pair) (h n g : ℕ) (free : t.owner p ≡ None) where
  -- who has a pair now
  owner_cases : (q : Pair) (o : Owner) → (owns t p h n g).owner q ≡ Some o → ((p ≡ q) × (◌≡◌ {A = Owner} (record { host = h; slot = n; generation = g }) o)) ⊎ (t.owner q ≡ Some o)
  owner_cases q o is = go (same_pair p q) refl
    where
      go : (b : Bool) → same_pair p q ≡ b → ((p ≡ q) × (◌≡◌ {A = Owner} (record { host = h; slot = n; generation = g }) o)) ⊎ (t.owner q ≡ Some o)
      go true same = inl (same_pair_is p q same, same_Some _ _ (sym (put_same t.owner p (owner_of h n g) q same) ∙ is))
      go false same = inr (sym (put_there t.owner p (owner_of h n g) q same) ∙ is)

  pub owner_stays : (q : Pair) (o : Owner) → t.owner q ≡ Some o → (owns t p h n g).owner q ≡ Some o
  owner_stays q o is = go (same_pair p q) refl
    where
      go : (b : Bool) → same_pair p q ≡ b → (owns t p h n g).owner q ≡ Some o
      go true same = absurd (none-some o (sym free ∙ (ap t.owner (same_pair_is p q same) ∙ is)))
      go false same = put_there t.owner p (owner_of h n g) q same ∙ is

  -- a new owner had nothing before
  pub owner_back : ((q : Pair) → t.owner q ≡ owner_of h n g → ⊥) → (q : Pair) (o : Owner) → (owns t p h n g).owner q ≡ Some o → (t.owner q ≡ Some o) ⊎ ((t.owner q ≡ None) × ((r : Pair) → t.owner r ≡ Some o → ⊥))
  owner_back alone q o is =
      elim (owner_cases q o is) [
        | inl x ↦ inr (ap t.owner (sym x.0) ∙ free, λ r own. alone r (own ∙ ap (λ (y : Owner). Some y) (sym x.1)))
        | inr x ↦ inl x
      ]

  pub owned_owns : (k : ℕ) → same_pair p (mirror p) ≡ false → ((q : Pair) → t.owner q ≡ owner_of h n g → ⊥) → Owned k t → Owned k (owns t p h n g)
  owned_owns k apart alone w = record { talk = w.talk; untouched = untouched; unique = unique; apart = others; few = w.few }
    where
      untouched : (q : Pair) → (owns t p h n g).owner q ≡ None → t.side q ≡ empty_side
      untouched q none = go (same_pair p q) refl
        where
          go : (b : Bool) → same_pair p q ≡ b → t.side q ≡ empty_side
          go true same = absurd (none-some _ (sym none ∙ put_same t.owner p (owner_of h n g) q same))
          go false same = w.untouched q (sym (put_there t.owner p (owner_of h n g) q same) ∙ none)

      unique : (q r : Pair) (o : Owner) → (owns t p h n g).owner q ≡ Some o → (owns t p h n g).owner r ≡ Some o → q ≡ r
      unique q r o one two = go (owner_cases q o one) (owner_cases r o two)
        where
          go : ((p ≡ q) × (◌≡◌ {A = Owner} (record { host = h; slot = n; generation = g }) o)) ⊎ (t.owner q ≡ Some o) → ((p ≡ r) × (◌≡◌ {A = Owner} (record { host = h; slot = n; generation = g }) o)) ⊎ (t.owner r ≡ Some o) → q ≡ r
          go (inl a) (inl b) = sym a.0 ∙ b.0
          go (inl a) (inr b) = absurd (alone r (b ∙ ap (λ (x : Owner). Some x) (sym a.1)))
          go (inr a) (inl b) = absurd (alone q (a ∙ ap (λ (x : Owner). Some x) (sym b.1)))
          go (inr a) (inr b) = w.unique q r o a b

      others : (q : Pair) (o : Owner) → (owns t p h n g).owner q ≡ Some o → same_pair q (mirror q) ≡ false
      others q o is = go (owner_cases q o is)
        where
          go : ((p ≡ q) × (◌≡◌ {A = Owner} (record { host = h; slot = n; generation = g }) o)) ⊎ (t.owner q ≡ Some o) → same_pair q (mirror q) ≡ false
          go (inl a) = subst (λ (x : Pair). same_pair x (mirror x) ≡ false) a.0 apart
          go (inr b) = w.apart q o b

  pub addressed_owns : (w : World) → has_address w h p.local.ip ≡ true → Addressed w t → Addressed w (owns t p h n g)
  addressed_owns w here a q o is = go (owner_cases q o is)
    where
      go : ((p ≡ q) × (◌≡◌ {A = Owner} (record { host = h; slot = n; generation = g }) o)) ⊎ (t.owner q ≡ Some o) → has_address w o.host q.local.ip ≡ true
      go (inl x) = subst (λ (r : Pair). has_address w o.host r.local.ip ≡ true) x.0 (subst (λ (y : Owner). has_address w y.host p.local.ip ≡ true) x.1 here)
      go (inr x) = a q o x

  -- a conversation keeps what it has: the new pair was never used
  pub convs_owns : (k : ℕ) → Owned k t → (h' n' : ℕ) (a : Actor) → ActorFine t h' n' a → ActorFine (owns t p h n g) h' n' a
  convs_owns k w h' n' (IsConv c) fine = (has c.stage c.core fine.0, λ q g' owner le not. not_yet q g' owner le not (owner_cases q _ owner))
    where
      has : (s : Stage) (core : Core) → HasEnd t h' n' c s core → HasEnd (owns t p h n g) h' n' c s core
      has Connected (Il e) x = (owner_stays c.pair _ x.0, x.1)
      has Unused (Il e) x = x
      has Listening (Il e) x = x
      has Connected (Udp e) x = absurd x
      has Unused (Udp e) x = absurd x
      has Listening (Udp e) x = absurd x

      not_yet : (q : Pair) (g' : ℕ) → (owns t p h n g).owner q ≡ owner_of h' n' g' → c.generation ≤ g' → (g' ≡ c.generation → is_connected c.stage ≡ false)
          → ((p ≡ q) × (◌≡◌ {A = Owner} (record { host = h; slot = n; generation = g }) (record { host = h'; slot = n'; generation = g' }))) ⊎ (t.owner q ≡ owner_of h' n' g') → t.side q ≡ empty_side
      not_yet q g' owner le not (inl x) = w.untouched q (ap t.owner (sym x.0) ∙ free)
      not_yet q g' owner le not (inr x) = fine.1 q g' x le not
  convs_owns k w h' n' _ fine = absurd fine

  -- a slot of another number keeps what it has
  pub slot_owns : (m : ℕ) (s : Slot) → (n ≡ m → ⊥) → SlotIsFine t h m s → SlotIsFine (owns t p h n g) h m s
  slot_owns m s apart f = record {
    has = λ q is. owner_stays q _ (f.has q is);
    past = λ q g' is. elim (owner_cases q _ is) [ inl x ↦ absurd (apart (ap (λ (o : Owner). o.slot) x.1)) | inr x ↦ f.past q g' x ];
    unused = λ r q g' is. elim (owner_cases q _ is) [ inl x ↦ absurd (apart (ap (λ (o : Owner). o.slot) x.1)) | inr x ↦ f.unused r q g' x ];
  }

  -- the slot that gets the pair
  pub slot_gets : (kind : StateName) (pair : Option Pair) → pair ≡ Some p → is_reserved kind ≡ false → ((q : Pair) (g' : ℕ) → t.owner q ≡ owner_of h n g' → g' ≤ g) → SlotFine (owns t p h n g) h n kind g pair
  slot_gets kind pair is not past = record {
    has = λ q same. ap (put_at t.owner p (owner_of h n g)) (same_Some q p (sym same ∙ is)) ∙ put_here t.owner p (owner_of h n g);
    past = λ q g' owner. elim (owner_cases q _ owner) [ inl x ↦ omega (arith, ap (λ (o : Owner). o.generation) x.1) | inr x ↦ past q g' x ];
    unused = λ r. absurd (both_ways r not);
  }

  -- the directory of another host keeps what it has
  pub other_dir_owns : (h' : ℕ) (d : Dir) → (h ≡ h' → ⊥) → DirIsFine t h' d → DirIsFine (owns t p h n g) h' d
  other_dir_owns h' d apart f = record {
    slots_fine = λ m s there.
        let x = f.slots_fine m s there in
        record {
          has = λ q is. owner_stays q _ (x.has q is);
          past = λ q g' is. elim (owner_cases q _ is) [ inl y ↦ absurd (apart (ap (λ (o : Owner). o.host) y.1)) | inr y ↦ x.past q g' y ];
          unused = λ r q g' is. elim (owner_cases q _ is) [ inl y ↦ absurd (apart (ap (λ (o : Owner). o.host) y.1)) | inr y ↦ x.unused r q g' y ];
        };
    known = λ q o is host. elim (owner_cases q o is) [ inl y ↦ absurd (apart (ap (λ (z : Owner). z.host) y.1 ∙ host)) | inr y ↦ f.known q o y host ];
  }

  -- every pair that is had is listed
  pub known_owns : (pairs pairs' : List Pair) → is_some (pair_place p 1 pairs') ≡ true → ((q : Pair) → is_some (pair_place q 1 pairs) ≡ true → is_some (pair_place q 1 pairs') ≡ true)
      → ((q : Pair) (o : Owner) → t.owner q ≡ Some o → o.host ≡ h → is_some (pair_place q 1 pairs) ≡ true)
      → (q : Pair) (o : Owner) → (owns t p h n g).owner q ≡ Some o → o.host ≡ h → is_some (pair_place q 1 pairs') ≡ true
  known_owns pairs pairs' here more known q o is host =
      elim (owner_cases q o is) [ inl x ↦ subst (λ (r : Pair). is_some (pair_place r 1 pairs') ≡ true) x.0 here | inr x ↦ more q (known q o x host) ]

-- Lists of slots and pairs.

pub set_cases : (ss : List Slot) (n : ℕ) (new : Slot) (m : ℕ) (s : Slot) → slice_get (slice_set ss n new) m ≡ Some s → ((n ≡ m) × (new ≡ s)) ⊎ ((n ≡ m → ⊥) × (slice_get ss m ≡ Some s))
set_cases [] n new m s is = absurd (none-some s is)
set_cases (x ∷ ss) zero new zero s is = inl (refl, same_Some new s is)
set_cases (x ∷ ss) zero new (suc m) s is = inr (λ e. absurd (omega (arith, e)), is)
set_cases (x ∷ ss) (suc n) new zero s is = inr (λ e. absurd (omega (arith, e)), is)
set_cases (x ∷ ss) (suc n) new (suc m) s is =
    elim (set_cases ss n new m s is) [ inl here ↦ inl (ap suc here.0, here.1) | inr there ↦ inr (λ e. there.0 (omega (arith, e)), there.1) ]

pub place_push : (q p : Pair) (k : ℕ) (pairs : List Pair) → is_some (pair_place q k pairs) ≡ true → is_some (pair_place q k (pairs ++ p ∷ [])) ≡ true
place_push q p k [] is = absurd (both_ways is refl)
place_push q p k (r ∷ pairs) is = go (same_pair q r) refl is (place_push q p (k + 1) pairs)
  where
    go : (b : Bool) → same_pair q r ≡ b → is_some (cond b (Some k) (pair_place q (k + 1) pairs)) ≡ true → (is_some (pair_place q (k + 1) pairs) ≡ true → is_some (pair_place q (k + 1) (pairs ++ p ∷ [])) ≡ true)
        → is_some (cond (same_pair q r) (Some k) (pair_place q (k + 1) (pairs ++ p ∷ []))) ≡ true
    go true same is later = rw same refl
    go false same is later = rw same (later is)

pub place_last : (p : Pair) (k : ℕ) (pairs : List Pair) → is_some (pair_place p k (pairs ++ p ∷ [])) ≡ true
place_last p k [] = rw (same_pair_itself p) refl
place_last p k (r ∷ pairs) = cond_both (same_pair p r) (Some k) (pair_place p (k + 1) (pairs ++ p ∷ [])) (λ (x : Option ℕ). is_some x ≡ true) (λ _. refl) (λ _. place_last p (k + 1) pairs)

-- a slot that has the pair
pub has_pair_is : (p : Pair) (o : Option Pair) → option_map_or (same_pair p) o false ≡ true → o ≡ Some p
has_pair_is p None is = absurd (both_ways is refl)
has_pair_is p (Some q) is = ap (λ (x : Pair). Some x) (sym (same_pair_is p q is))

-- a free slot doesn't announce
pub free_or_announced : (kind : StateName) (s : Slot) → is_free (record s { kind = kind }) ≡ true → is_announced kind ≡ true → ⊥
free_or_announced name.Free s one two = both_ways two refl
free_or_announced name.Reserved s one two = both_ways one refl
free_or_announced name.Announced s one two = both_ways one refl
free_or_announced name.Granted s one two = both_ways one refl
free_or_announced name.Withdrawn s one two = both_ways one refl
free_or_announced _ s one two = both_ways one refl

-- every slot of a fresh directory is free
pub all_free : (k n : ℕ) (s : Slot) → slice_get (replicate k free_slot) n ≡ Some s → free_slot ≡ s
all_free zero n s is = absurd (none-some s is)
all_free (suc k) zero s is = same_Some free_slot s is
all_free (suc k) (suc n) s is = all_free k n s is

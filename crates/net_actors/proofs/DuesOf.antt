-- The due moments of all conversations, host by host.
use Rattle.std.proofs.Common.{◌≡◌, ℕ, zero, suc, ◌+◌, ◌<◌, List, [], ◌∷◌, ◌++◌, map, length, Option, Some, None, filter_map, flat_map, nat_lt, slice_get, option_to_list, refl, ap, sym, ◌∙◌, arith, append_assoc, append-nil}
use Rattle.std.specs.List.{range_with_len, cons_option}
use Rattle.std.specs.Option.{option_map}
use Rattle.std.proofs.lemmas.Bool.{lt-ltb, and_from}
use Rattle.std.proofs.lemmas.Grind.{flat_map-append}
use Rattle.std.proofs.lemmas.List.{map-append}
use Rattle.std.proofs.lemmas.List.Elements.{filter_map-append}
use Rattle.net_base.specs.declared.actor.ActorName.{ActorName}
use Rattle.net_base.specs.declared.actor.ActorName.TheVariants as name
use Rattle.net_base.specs.declared.address.Proto.{Proto}
use Rattle.net_base.specs.declared.address.Proto.TheVariants as proto
use Rattle.net_base.specs.declared.world.World.{World}
use Rattle.net_base.specs.Actors.{Actor}
use Rattle.net_base.specs.Duties.{due_of, generation_of, slots_of}
use Rattle.duties.specs.declared.due.Due.{Due}
use Rattle.duties.specs.Ticking.{due_at, dues_of}
use Rattle.net_actors.specs.Together.{AreActors, Numbered, state_at_actor}
use Rattle.net_actors.specs.declared.actor.Actor.{Actor as Kept}
use Rattle.net_actors.specs.Kept.{kept_state}
use Rattle.net_actors.specs.Numbers.{number_of}
use Rattle.net_actors.proofs.Placed.{stands_in, states_are}

-- those of the conversations of the first so many hosts
abbrev pub dues_below : (ActorName → Actor) → ℕ → List Due
dues_below actors hosts =
    filter_map (due_at actors) (flat_map (λ (h : ℕ). slots_of h proto.Il ++ slots_of h proto.Udp) (range_with_len 0 hosts))

-- that of the conversation in this slot, in this state
abbrev due_in_state : ℕ → Proto → ℕ → Actor → Option Due
due_in_state h p n s = option_map (λ (at : ℕ). record { host = h; proto = p; slot = n; generation = generation_of s; due = at }) (due_of s)

range_more : (a n : ℕ) → range_with_len a (suc n) ≡ range_with_len a n ++ (a + n) ∷ []
range_more a zero = ap (λ (k : ℕ). k ∷ []) (omega arith)
range_more a (suc n) = ap (λ (ks : List ℕ). a ∷ ks) (range_more (a + 1) n ∙ ap (λ (k : ℕ). range_with_len (a + 1) n ++ k ∷ []) (omega arith))

one_past : (n : ℕ) → n + 1 ≡ suc n
one_past n = omega arith

from_zero : (n : ℕ) → range_with_len 0 (n + 1) ≡ range_with_len 0 n ++ n ∷ []
from_zero n = ap (range_with_len 0) (one_past n) ∙ range_more 0 n ∙ ap (λ (k : ℕ). range_with_len 0 n ++ k ∷ []) (omega arith)

as_list : (o : Option Due) → cons_option o [] ≡ option_to_list o
as_list None = refl
as_list (Some d) = refl

-- a slot more
pub slot_more : (actors : ActorName → Actor) (h : ℕ) (p : Proto) (n : ℕ)
    → filter_map (due_at actors) (map (λ (k : ℕ). name.Conv h p k) (range_with_len 0 (n + 1)))
    ≡ filter_map (due_at actors) (map (λ (k : ℕ). name.Conv h p k) (range_with_len 0 n)) ++ option_to_list (due_at actors (name.Conv h p n))
slot_more actors h p n =
    ap (λ (ks : List ℕ). filter_map (due_at actors) (map (λ (k : ℕ). name.Conv h p k) ks)) (from_zero n)
    ∙ (ap (filter_map (due_at actors)) (map-append (λ (k : ℕ). name.Conv h p k) (range_with_len 0 n) (n ∷ []))
    ∙ (filter_map-append (due_at actors) (map (λ (k : ℕ). name.Conv h p k) (range_with_len 0 n)) (name.Conv h p n ∷ [])
    ∙ ap (λ (ds : List Due). filter_map (due_at actors) (map (λ (k : ℕ). name.Conv h p k) (range_with_len 0 n)) ++ ds) (as_list (due_at actors (name.Conv h p n)))))

-- what was added so far, and a slot more
pub one_slot : (actors : ActorName → Actor) (h : ℕ) (p : Proto) (n : ℕ) (first old new : List Due)
    → old ≡ first ++ filter_map (due_at actors) (map (λ (k : ℕ). name.Conv h p k) (range_with_len 0 n)) → new ≡ old ++ option_to_list (due_at actors (name.Conv h p n))
    → new ≡ first ++ filter_map (due_at actors) (map (λ (k : ℕ). name.Conv h p k) (range_with_len 0 (n + 1)))
one_slot actors h p n first old new was is =
    is
    ∙ (ap (λ (ds : List Due). ds ++ option_to_list (due_at actors (name.Conv h p n))) was
    ∙ (append_assoc first (filter_map (due_at actors) (map (λ (k : ℕ). name.Conv h p k) (range_with_len 0 n))) (option_to_list (due_at actors (name.Conv h p n)))
    ∙ ap (λ (ds : List Due). first ++ ds) (sym (slot_more actors h p n))))

pub no_slot : (ds : List Due) → ds ≡ ds ++ []
no_slot ds = sym (append-nil ds)

-- a host more
pub host_more : (actors : ActorName → Actor) (n : ℕ)
    → dues_below actors (n + 1) ≡ dues_below actors n ++ filter_map (due_at actors) (slots_of n proto.Il) ++ filter_map (due_at actors) (slots_of n proto.Udp)
host_more actors n =
    ap (λ (ks : List ℕ). filter_map (due_at actors) (flat_map (λ (h : ℕ). slots_of h proto.Il ++ slots_of h proto.Udp) ks)) (from_zero n)
    ∙ (ap (filter_map (due_at actors)) (flat_map-append (λ (h : ℕ). slots_of h proto.Il ++ slots_of h proto.Udp) (range_with_len 0 n) (n ∷ []))
    ∙ (filter_map-append (due_at actors) (flat_map (λ (h : ℕ). slots_of h proto.Il ++ slots_of h proto.Udp) (range_with_len 0 n)) ((slots_of n proto.Il ++ slots_of n proto.Udp) ++ [])
    ∙ (ap (λ (names : List ActorName). dues_below actors n ++ filter_map (due_at actors) names) (append-nil (slots_of n proto.Il ++ slots_of n proto.Udp))
    ∙ (ap (λ (ds : List Due). dues_below actors n ++ ds) (filter_map-append (due_at actors) (slots_of n proto.Il) (slots_of n proto.Udp))
    ∙ sym (append_assoc (dues_below actors n) (filter_map (due_at actors) (slots_of n proto.Il)) (filter_map (due_at actors) (slots_of n proto.Udp)))))))

pub one_host : (actors : ActorName → Actor) (n : ℕ) (old mid new : List Due) → old ≡ dues_below actors n → mid ≡ old ++ filter_map (due_at actors) (slots_of n proto.Il)
    → new ≡ mid ++ filter_map (due_at actors) (slots_of n proto.Udp) → new ≡ dues_below actors (n + 1)
one_host actors n old mid new was one two =
    two
    ∙ (ap (λ (ds : List Due). ds ++ filter_map (due_at actors) (slots_of n proto.Udp)) (one ∙ ap (λ (ds : List Due). ds ++ filter_map (due_at actors) (slots_of n proto.Il)) was)
    ∙ sym (host_more actors n))

-- One conversation.

abbrev at_moment : ℕ → Proto → ℕ → Actor → ℕ → Due
at_moment h p n s at = record { host = h; proto = p; slot = n; generation = generation_of s; due = at }

none_due : (h : ℕ) (p : Proto) (n : ℕ) (s : Actor) → due_of s ≡ None → [] ≡ option_to_list (due_in_state h p n s)
none_due h p n s is = ap (λ (o : Option ℕ). option_to_list (option_map (at_moment h p n s) o)) (sym is)

some_due : (h : ℕ) (p : Proto) (n at : ℕ) (s : Actor) → due_of s ≡ Some at → at_moment h p n s at ∷ [] ≡ option_to_list (due_in_state h p n s)
some_due h p n at s is = ap (λ (o : Option ℕ). option_to_list (option_map (at_moment h p n s) o)) (sym is)

pub due_none : (v : Numbered) (h : ℕ) (p : Proto) (n : ℕ) (x : Kept) (ds : List Due) → slice_get v.actors (number_of v.hosts v.media (name.Conv h p n)) ≡ Some x → None ≡ due_of (kept_state x)
    → ds ≡ ds ++ option_to_list (due_at (state_at_actor v) (name.Conv h p n))
due_none v h p n x ds is none =
    no_slot ds ∙ ap (λ (more : List Due). ds ++ more) (none_due h p n (state_at_actor v (name.Conv h p n)) (ap due_of (stands_in v (name.Conv h p n) x is) ∙ sym none))

abbrev with_generation : ℕ → Proto → ℕ → ℕ → ℕ → Due
with_generation h p n g at = record { host = h; proto = p; slot = n; generation = g; due = at }

pub due_some : (v : Numbered) (h : ℕ) (p : Proto) (n : ℕ) (x : Kept) (at g : ℕ) (old new : List Due) → slice_get v.actors (number_of v.hosts v.media (name.Conv h p n)) ≡ Some x → Some at ≡ due_of (kept_state x)
    → g ≡ generation_of (kept_state x) → new ≡ old ++ with_generation h p n g at ∷ []
    → new ≡ old ++ option_to_list (due_at (state_at_actor v) (name.Conv h p n))
due_some v h p n x at g old new is some gen added =
    let same = stands_in v (name.Conv h p n) x is in
    added
    ∙ (ap (λ (k : ℕ). old ++ with_generation h p n k at ∷ []) (gen ∙ ap generation_of (sym same))
    ∙ ap (λ (more : List Due). old ++ more) (some_due h p n at (state_at_actor v (name.Conv h p n)) (ap due_of same ∙ sym some)))

-- States that are equal give equal moments.

map_same : (f g : ActorName → Option Due) (c : ℕ → ActorName) (a n : ℕ) → ((k : ℕ) → k < a + n → f (c k) ≡ g (c k))
    → filter_map f (map c (range_with_len a n)) ≡ filter_map g (map c (range_with_len a n))
map_same f g c a zero same = refl
map_same f g c a (suc n) same =
    ap (λ (o : Option Due). cons_option o (filter_map f (map c (range_with_len (a + 1) n)))) (same a (omega arith))
    ∙ ap (cons_option (g (c a))) (map_same f g c (a + 1) n (λ k lt. same k (omega (arith, lt))))

flat_same : (f g : ActorName → Option Due) (c : ℕ → List ActorName) (a n : ℕ) → ((k : ℕ) → k < a + n → filter_map f (c k) ≡ filter_map g (c k))
    → filter_map f (flat_map c (range_with_len a n)) ≡ filter_map g (flat_map c (range_with_len a n))
flat_same f g c a zero same = refl
flat_same f g c a (suc n) same =
    filter_map-append f (c a) (flat_map c (range_with_len (a + 1) n))
    ∙ (ap (λ (ds : List Due). ds ++ filter_map f (flat_map c (range_with_len (a + 1) n))) (same a (omega arith))
    ∙ (ap (λ (ds : List Due). filter_map g (c a) ++ ds) (flat_same f g c (a + 1) n (λ k lt. same k (omega (arith, lt))))
    ∙ sym (filter_map-append g (c a) (flat_map c (range_with_len (a + 1) n)))))

due_same : (f g : ActorName → Actor) (h : ℕ) (p : Proto) (n : ℕ) → f (name.Conv h p n) ≡ g (name.Conv h p n) → due_at f (name.Conv h p n) ≡ due_at g (name.Conv h p n)
due_same f g h p n same = ap (due_in_state h p n) same

pub dues_are : (v : Numbered) (ds : List Due) → ds ≡ dues_below (state_at_actor v) v.hosts → (w : World) (states : ActorName → Actor) → AreActors w v states → ds ≡ dues_of w states
dues_are v ds is w states are =
    is
    ∙ (ap (dues_below (state_at_actor v)) are.hosts_are
    ∙ flat_same (due_at (state_at_actor v)) (due_at states) (λ (h : ℕ). slots_of h proto.Il ++ slots_of h proto.Udp) 0 (length w.hosts) at_host)
  where
    at_slot : (h : ℕ) (p : Proto) (n : ℕ) → h < length w.hosts → n < 32 → due_at (state_at_actor v) (name.Conv h p n) ≡ due_at states (name.Conv h p n)
    at_slot h p n host slot =
        due_same (state_at_actor v) states h p n
        (states_are w v states (name.Conv h p n) are (and_from (nat_lt h (length w.hosts)) (nat_lt n 32) (lt-ltb h (length w.hosts) host) (lt-ltb n 32 slot)))

    at_proto : (h : ℕ) (p : Proto) → h < length w.hosts → filter_map (due_at (state_at_actor v)) (slots_of h p) ≡ filter_map (due_at states) (slots_of h p)
    at_proto h p host = map_same (due_at (state_at_actor v)) (due_at states) (λ (n : ℕ). name.Conv h p n) 0 32 (λ n slot. at_slot h p n host (omega (arith, slot)))

    at_host : (h : ℕ) → h < 0 + length w.hosts
        → filter_map (due_at (state_at_actor v)) (slots_of h proto.Il ++ slots_of h proto.Udp) ≡ filter_map (due_at states) (slots_of h proto.Il ++ slots_of h proto.Udp)
    at_host h lt =
        let host : h < length w.hosts = omega (arith, lt) in
        filter_map-append (due_at (state_at_actor v)) (slots_of h proto.Il) (slots_of h proto.Udp)
        ∙ (ap (λ (ds : List Due). ds ++ filter_map (due_at (state_at_actor v)) (slots_of h proto.Udp)) (at_proto h proto.Il host)
        ∙ (ap (λ (ds : List Due). filter_map (due_at states) (slots_of h proto.Il) ++ ds) (at_proto h proto.Udp host)
        ∙ sym (filter_map-append (due_at states) (slots_of h proto.Il) (slots_of h proto.Udp))))

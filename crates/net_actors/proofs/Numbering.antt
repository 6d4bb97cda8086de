-- The numbers of actors tell them apart.
use Rattle.std.proofs.Common.{◌≡◌, ℕ, ◌+◌, ◌*◌, ◌<◌, ◌≤◌, true, length, nat_lt, refl, ap, sym, ◌∙◌, arith}
use Rattle.std.proofs.lemmas.Bool.{and_parts, ltb-true}
use Rattle.net_base.specs.declared.actor.ActorName.{ActorName}
use Rattle.net_base.specs.declared.actor.ActorName.TheVariants as name
use Rattle.net_base.specs.declared.address.Proto.{Proto}
use Rattle.net_base.specs.declared.address.Proto.TheVariants as proto
use Rattle.net_base.specs.declared.world.World.{World}
use Rattle.net_base.specs.Actors.{has_actor}
use Rattle.net_actors.specs.Numbers.{actor_count, count_in, is_actor_among, number_in_world, number_of, number_of_proto}

-- the bounds of a name's numbers
abbrev Place : ℕ → ℕ → ActorName → Type 0
Place hosts media (name.Desk h) = h < hosts
Place hosts media (name.Dir h p) = h < hosts
Place hosts media (name.Conv h p n) = (h < hosts) × (n < 32)
Place hosts media (name.Medium m) = m < media
Place hosts media name.Clock = Unit {0}

place : (hosts media : ℕ) (a : ActorName) → is_actor_among hosts media a ≡ true → Place hosts media a
place hosts media (name.Desk h) is = ltb-true h hosts is
place hosts media (name.Dir h p) is = ltb-true h hosts is
place hosts media (name.Conv h p n) is = let both = and_parts (nat_lt h hosts) (nat_lt n 32) is in (ltb-true h hosts both.0, ltb-true n 32 both.1)
place hosts media (name.Medium m) is = ltb-true m media is
place hosts media name.Clock is = tt

small_proto : (p : Proto) → number_of_proto p ≤ 1
small_proto proto.Il = omega arith
small_proto proto.Udp = omega arith

below_at : (hosts media : ℕ) (a : ActorName) → Place hosts media a → number_of hosts media a < actor_count hosts media
below_at hosts media (name.Desk h) is = omega (arith, is)
below_at hosts media (name.Dir h p) is = let one = small_proto p in omega (arith, is, one)
below_at hosts media (name.Conv h p n) is = let one = small_proto p in let host = is.0 in let slot = is.1 in omega (arith, host, slot, one)
below_at hosts media (name.Medium m) is = omega (arith, is)
below_at hosts media name.Clock is = omega arith

-- a number is below the count
pub below : (hosts media : ℕ) (a : ActorName) → is_actor_among hosts media a ≡ true → number_of hosts media a < actor_count hosts media
below hosts media a is = below_at hosts media a (place hosts media a is)

same_dir : (h i : ℕ) (p q : Proto) → 2 * h + number_of_proto p ≡ 2 * i + number_of_proto q → name.Dir h p ≡ name.Dir i q
same_dir h i proto.Il proto.Il e = ap (λ (k : ℕ). name.Dir k proto.Il) (omega (arith, e))
same_dir h i proto.Udp proto.Udp e = ap (λ (k : ℕ). name.Dir k proto.Udp) (omega (arith, e))
same_dir h i proto.Il proto.Udp e = absurd (omega (arith, e))
same_dir h i proto.Udp proto.Il e = absurd (omega (arith, e))

same_conv : (h i n k : ℕ) (p q : Proto) → n < 32 → k < 32 → 64 * h + 32 * number_of_proto p + n ≡ 64 * i + 32 * number_of_proto q + k → name.Conv h p n ≡ name.Conv i q k
same_conv h i n k proto.Il proto.Il l m e =
    ap (λ (j : ℕ). name.Conv j proto.Il n) (omega (arith, e, l, m)) ∙ ap (λ (j : ℕ). name.Conv i proto.Il j) (omega (arith, e, l, m))
same_conv h i n k proto.Udp proto.Udp l m e =
    ap (λ (j : ℕ). name.Conv j proto.Udp n) (omega (arith, e, l, m)) ∙ ap (λ (j : ℕ). name.Conv i proto.Udp j) (omega (arith, e, l, m))
same_conv h i n k proto.Il proto.Udp l m e = absurd (omega (arith, e, l, m))
same_conv h i n k proto.Udp proto.Il l m e = absurd (omega (arith, e, l, m))

-- the kinds in the order of their numbers
abbrev first_of : ℕ → ℕ → ActorName → ℕ
first_of hosts media (name.Desk h) = 0
first_of hosts media (name.Dir h p) = hosts
first_of hosts media (name.Conv h p n) = 3 * hosts
first_of hosts media (name.Medium m) = 67 * hosts
first_of hosts media name.Clock = 67 * hosts + media

abbrev past_last : ℕ → ℕ → ActorName → ℕ
past_last hosts media (name.Desk h) = hosts
past_last hosts media (name.Dir h p) = 3 * hosts
past_last hosts media (name.Conv h p n) = 67 * hosts
past_last hosts media (name.Medium m) = 67 * hosts + media
past_last hosts media name.Clock = 67 * hosts + media + 1

between : (hosts media : ℕ) (a : ActorName) → Place hosts media a → (first_of hosts media a ≤ number_of hosts media a) × (number_of hosts media a < past_last hosts media a)
between hosts media (name.Desk h) is = (omega arith, omega (arith, is))
between hosts media (name.Dir h p) is = let one = small_proto p in (omega arith, omega (arith, is, one))
between hosts media (name.Conv h p n) is = let one = small_proto p in let host = is.0 in let slot = is.1 in (omega arith, omega (arith, host, slot, one))
between hosts media (name.Medium m) is = (omega arith, omega (arith, is))
between hosts media name.Clock is = (omega arith, omega arith)

-- numbers of different kinds
apart : (hosts media : ℕ) (a b : ActorName) → Place hosts media a → Place hosts media b → number_of hosts media a ≡ number_of hosts media b
    → past_last hosts media a ≤ first_of hosts media b → ⊥
apart hosts media a b here there same under =
    let low = (between hosts media a here).1 in let high = (between hosts media b there).0 in omega (arith, low, high, same, under)

same_at : (hosts media : ℕ) (a b : ActorName) → Place hosts media a → Place hosts media b → number_of hosts media a ≡ number_of hosts media b → a ≡ b
same_at hosts media (name.Desk h) (name.Desk i) here there same = ap name.Desk same
same_at hosts media (name.Desk h) (name.Dir i q) here there same = absurd (apart hosts media (name.Desk h) (name.Dir i q) here there same (omega arith))
same_at hosts media (name.Desk h) (name.Conv i q k) here there same = absurd (apart hosts media (name.Desk h) (name.Conv i q k) here there same (omega arith))
same_at hosts media (name.Desk h) (name.Medium l) here there same = absurd (apart hosts media (name.Desk h) (name.Medium l) here there same (omega arith))
same_at hosts media (name.Desk h) name.Clock here there same = absurd (apart hosts media (name.Desk h) name.Clock here there same (omega arith))
same_at hosts media (name.Dir h p) (name.Desk i) here there same = absurd (apart hosts media (name.Desk i) (name.Dir h p) there here (sym same) (omega arith))
same_at hosts media (name.Dir h p) (name.Dir i q) here there same = same_dir h i p q (omega (arith, same))
same_at hosts media (name.Dir h p) (name.Conv i q k) here there same = absurd (apart hosts media (name.Dir h p) (name.Conv i q k) here there same (omega arith))
same_at hosts media (name.Dir h p) (name.Medium l) here there same = absurd (apart hosts media (name.Dir h p) (name.Medium l) here there same (omega arith))
same_at hosts media (name.Dir h p) name.Clock here there same = absurd (apart hosts media (name.Dir h p) name.Clock here there same (omega arith))
same_at hosts media (name.Conv h p n) (name.Desk i) here there same = absurd (apart hosts media (name.Desk i) (name.Conv h p n) there here (sym same) (omega arith))
same_at hosts media (name.Conv h p n) (name.Dir i q) here there same = absurd (apart hosts media (name.Dir i q) (name.Conv h p n) there here (sym same) (omega arith))
same_at hosts media (name.Conv h p n) (name.Conv i q k) here there same = same_conv h i n k p q here.1 there.1 (omega (arith, same))
same_at hosts media (name.Conv h p n) (name.Medium l) here there same = absurd (apart hosts media (name.Conv h p n) (name.Medium l) here there same (omega arith))
same_at hosts media (name.Conv h p n) name.Clock here there same = absurd (apart hosts media (name.Conv h p n) name.Clock here there same (omega arith))
same_at hosts media (name.Medium m) (name.Desk i) here there same = absurd (apart hosts media (name.Desk i) (name.Medium m) there here (sym same) (omega arith))
same_at hosts media (name.Medium m) (name.Dir i q) here there same = absurd (apart hosts media (name.Dir i q) (name.Medium m) there here (sym same) (omega arith))
same_at hosts media (name.Medium m) (name.Conv i q k) here there same = absurd (apart hosts media (name.Conv i q k) (name.Medium m) there here (sym same) (omega arith))
same_at hosts media (name.Medium m) (name.Medium l) here there same = ap name.Medium (omega (arith, same))
same_at hosts media (name.Medium m) name.Clock here there same = absurd (apart hosts media (name.Medium m) name.Clock here there same (omega arith))
same_at hosts media name.Clock (name.Desk i) here there same = absurd (apart hosts media (name.Desk i) name.Clock there here (sym same) (omega arith))
same_at hosts media name.Clock (name.Dir i q) here there same = absurd (apart hosts media (name.Dir i q) name.Clock there here (sym same) (omega arith))
same_at hosts media name.Clock (name.Conv i q k) here there same = absurd (apart hosts media (name.Conv i q k) name.Clock there here (sym same) (omega arith))
same_at hosts media name.Clock (name.Medium l) here there same = absurd (apart hosts media (name.Medium l) name.Clock there here (sym same) (omega arith))
same_at hosts media name.Clock name.Clock here there same = refl

-- different actors have different numbers
pub same_number : (hosts media : ℕ) (a b : ActorName) → is_actor_among hosts media a ≡ true → is_actor_among hosts media b ≡ true → number_of hosts media a ≡ number_of hosts media b → a ≡ b
same_number hosts media a b here there same = same_at hosts media a b (place hosts media a here) (place hosts media b there) same

-- the actors of a world
pub among_is : (w : World) (a : ActorName) → has_actor w a ≡ is_actor_among (length w.hosts) (length w.media) a
among_is w (name.Desk h) = refl
among_is w (name.Dir h p) = refl
among_is w (name.Conv h p n) = refl
among_is w (name.Medium m) = refl
among_is w name.Clock = refl

pub below_in : (w : World) (a : ActorName) → has_actor w a ≡ true → number_in_world w a < count_in w
below_in w a has = below (length w.hosts) (length w.media) a (sym (among_is w a) ∙ has)

pub same_in : (w : World) (a b : ActorName) → has_actor w a ≡ true → has_actor w b ≡ true → number_in_world w a ≡ number_in_world w b → a ≡ b
same_in w a b here there same = same_number (length w.hosts) (length w.media) a b (sym (among_is w a) ∙ here) (sym (among_is w b) ∙ there) same

-- The networks with the longest mask first are the same networks.
use Rattle.std.proofs.Common.{◌≡◌, ◌≢◌, ℕ, zero, suc, ◌+◌, ◌-◌, ◌<◌, ◌≤◌, ◌==◌, ◌||◌, ◌&&◌, Bool, true, false, cond, List, [], ◌∷◌, refl, sym, ap, ◌∙◌, Option, Some, None, arith, unwrap_or}
use Rattle.std.specs.Prelude.{filter, filter_map, flat_map, find, option_and_then, option_map, codes}
use Rattle.std.specs.List.{list_any, cons_option, range_with_len}
use Rattle.std.proofs.lemmas.List.Folds.{list_any-append}
use Rattle.std.proofs.lemmas.Bool.Decides.{nat_tests}
use Rattle.net_base.specs.Ndb.{NdbPair}
use Rattle.net_base.specs.Addresses.{read_address}
use Rattle.net_base.specs.Networks.{Network, first_of, mask_of, mask_bits, read_mask, class_bits, bits_of, tuple_names, network_of, contains_address, addresses_of, own_networks, is_on, longest_first}
use Rattle.net_base.specs.Search.{values_in}

by_both : (b x l a r : Bool) → (cond b (x || a) a || ((x && l) || r)) ≡ ((x && (b || l)) || (a || r))
by_both true true l a r = refl
by_both true false l a r = refl
by_both false true true true r = refl
by_both false true true false r = refl
by_both false true false true r = refl
by_both false true false false r = refl
by_both false false l a r = refl

-- one more network, which is found where its length is in the range
any_split : (p : Network → Bool) (q : ℕ → Network → Bool) (n : Network) (ns : List Network) (range : List ℕ) → list_any p (flat_map (λ o. filter (q o) (n ∷ ns)) range) ≡ ((p n && list_any (λ o. q o n) range) || list_any p (flat_map (λ o. filter (q o) ns) range))
any_split p q n ns [] = none (p n)
  where
    none : (x : Bool) → false ≡ ((x && false) || false)
    none true = refl
    none false = refl
any_split p q n ns (o ∷ range) =
    list_any-append p (filter (q o) (n ∷ ns)) (flat_map (λ k. filter (q k) (n ∷ ns)) range)
    ∙ ap (λ b. list_any p (filter (q o) (n ∷ ns)) || b) (any_split p q n ns range)
    ∙ ap (λ b. b || ((p n && list_any (λ k. q k n) range) || list_any p (flat_map (λ k. filter (q k) ns) range))) (front (q o n))
    ∙ by_both (q o n) (p n) (list_any (λ k. q k n) range) (list_any p (filter (q o) ns)) (list_any p (flat_map (λ k. filter (q k) ns) range))
    ∙ ap (λ b. (p n && (q o n || list_any (λ k. q k n) range)) || b) (sym (list_any-append p (filter (q o) ns) (flat_map (λ k. filter (q k) ns) range)))
  where
    front : (b : Bool) → list_any p (cond b (n ∷ filter (q o) ns) (filter (q o) ns)) ≡ cond b (p n || list_any p (filter (q o) ns)) (list_any p (filter (q o) ns))
    front true = refl
    front false = refl

-- no network shares more than 32 bits
AreShort : List Network → Type 0
AreShort [] = Unit {0}
AreShort (n ∷ ns) = (n.bits ≤ 32) × AreShort ns

in_range : (bits a k : ℕ) → bits ≤ 32 → a ≤ 32 - bits → 32 - bits < a + k → list_any (λ o. bits == 32 - o) (range_with_len a k) ≡ true
in_range bits a zero short low high = absurd (omega arith)
in_range bits a (suc k) short low high = at (bits == 32 - a) refl (λ further. in_range bits (a + 1) k short further (omega arith))
  where
    at : (b : Bool) → (bits == 32 - a) ≡ b → (a + 1 ≤ 32 - bits → list_any (λ o. bits == 32 - o) (range_with_len (a + 1) k) ≡ true) → (b || list_any (λ o. bits == 32 - o) (range_with_len (a + 1) k)) ≡ true
    at true e rest = refl
    at false e rest = let apart : bits ≢ 32 - a = grind (arith, nat_tests) in rest (omega (arith, apart, short, low))

on_longest : (p : Network → Bool) (ns : List Network) → AreShort ns → list_any p (longest_first ns) ≡ list_any p ns
unfolding AreShort
on_longest p [] short = none (range_with_len 0 33)
  where
    none : (range : List ℕ) → list_any p (flat_map (λ o. filter (λ (n : Network). n.bits == 32 - o) []) range) ≡ false
    none [] = refl
    none (o ∷ range) = none range
on_longest p (n ∷ ns) short =
    any_split p (λ o m. m.bits == 32 - o) n ns (range_with_len 0 33)
    ∙ ap (λ b. (p n && b) || list_any p (longest_first ns)) (in_range n.bits 0 33 short.0 (omega arith) (omega arith))
    ∙ ap (λ b. (p n && true) || b) (on_longest p ns short.1)
    ∙ at (p n)
  where
    at : (x : Bool) → ((x && true) || list_any p ns) ≡ (x || list_any p ns)
    at true = refl
    at false = refl

found_below : (p : ℕ → Bool) (a k b : ℕ) → find p (range_with_len a k) ≡ Some b → b < a + k
found_below p a zero b e = absurd cc
found_below p a (suc k) b e = at (p a) e (found_below p (a + 1) k b)
  where
    at : (t : Bool) → cond t (Some a) (find p (range_with_len (a + 1) k)) ≡ Some b → (find p (range_with_len (a + 1) k) ≡ Some b → b < a + 1 + k) → b < a + suc k
    at true f rest = let same : a ≡ b = cc in omega (arith, same)
    at false f rest = omega (arith, rest f)

mask_short : (word : List ℕ) (b : ℕ) → read_mask word ≡ Some b → b ≤ 32
mask_short word b e = at (read_address word) e
  where
    at : (o : Option ℕ) → option_and_then mask_bits o ≡ Some b → b ≤ 32
    at None f = absurd cc
    at (Some mask) f = omega (arith, found_below (λ bits. mask_of bits == mask) 0 33 b f)

first_short : (words : List (List ℕ)) (b : ℕ) → first_of (filter_map read_mask words) ≡ Some b → b ≤ 32
first_short [] b e = absurd cc
first_short (word ∷ words) b e = at (read_mask word) refl e (first_short words b)
  where
    at : (o : Option ℕ) → read_mask word ≡ o → first_of (cons_option o (filter_map read_mask words)) ≡ Some b → (first_of (filter_map read_mask words) ≡ Some b → b ≤ 32) → b ≤ 32
    at None f g rest = rest g
    at (Some m) f g rest = mask_short word b (f ∙ g)

class_short : (ip : ℕ) → class_bits ip ≤ 32
class_short ip = grind (arith, nat_tests)

bits_short : (ip : ℕ) (tuple : List (List NdbPair)) → bits_of ip tuple ≤ 32
bits_short ip tuple = at (first_of (filter_map read_mask (values_in (codes "ipmask") tuple))) refl
  where
    at : (o : Option ℕ) → first_of (filter_map read_mask (values_in (codes "ipmask") tuple)) ≡ o → unwrap_or o (class_bits ip) ≤ 32
    at None e = class_short ip
    at (Some b) e = first_short (values_in (codes "ipmask") tuple) b e

network_short : (tuple : List (List NdbPair)) (ns : List Network) → AreShort ns → AreShort (cons_option (network_of tuple) ns)
unfolding AreShort
network_short tuple ns short = at (tuple_names (codes "ipnet") tuple) (first_of (filter_map read_address (values_in (codes "ip") tuple)))
  where
    at : (b : Bool) (o : Option ℕ) → AreShort (cons_option (cond b (option_map (λ ip. record { ip = ip; bits = bits_of ip tuple; tuple = tuple }) o) None) ns)
    at true None = short
    at true (Some ip) = (bits_short ip tuple, short)
    at false o = short

all_short : (db : List (List (List NdbPair))) → AreShort (filter_map network_of db)
unfolding AreShort
all_short [] = tt
all_short (tuple ∷ db) = network_short tuple (filter_map network_of db) (all_short db)

kept_short : (p : Network → Bool) (ns : List Network) → AreShort ns → AreShort (filter p ns)
unfolding AreShort
kept_short p [] short = tt
kept_short p (n ∷ ns) short = at (p n) (kept_short p ns short.1)
  where
    at : (b : Bool) → AreShort (filter p ns) → AreShort (cond b (n ∷ filter p ns) (filter p ns))
    at true rest = (short.0, rest)
    at false rest = rest

-- an address is on a system's own networks in whatever order
pub own_on : (me : List ℕ) (db : List (List (List NdbPair))) (ip : ℕ) → is_on (longest_first (own_networks me db)) ip ≡ is_on (own_networks me db) ip
own_on me db ip = on_longest (λ network. contains_address network ip) (own_networks me db)
    (kept_short (λ network. list_any (contains_address network) (addresses_of me db)) (filter_map network_of db) (all_short db))

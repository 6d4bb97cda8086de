-- The prefixes that an address has, found by their lengths.
use Rattle.std.proofs.Common.{◌≡◌, ℕ, ◌+◌, ◌<◌, ◌==◌, ◌||◌, ◌&&◌, nat_eq, Bool, true, false, cond, List, [], ◌∷◌, ◌++◌, length, get_or, take, map, refl, sym, ap, ◌∙◌, arith, rules}
use Rattle.std.specs.List.{list_any}
use Rattle.std.proofs.lemmas.List.Folds.{list_any-append, Any-from_list_any, list_any_at}
use Rattle.std.proofs.lemmas.List.{map-append, take_more}
use Rattle.std.proofs.lemmas.Bool.Decides.{nat_tests}
use Rattle.std.proofs.lemmas.Bool.{and_parts, and_from, or_right, eqb-true}
use Rattle.net_base.specs.Networks.{Network, contains_address, is_on}
use Rattle.ndb_search.specs.declared.network.Network.{Network as Kept}
use Rattle.ndb_search.specs.declared.prefixes.Prefix.{Prefix}
use Rattle.ndb_search.specs.Prefixes.{network_seen, first_bits, prefix_of, same_prefix, is_prefix, is_on_prefix, covers, HasLengths}
use Rattle.net_base.proofs.Shared.{number_itself, or_none}

pub same_truth : (a b : Bool) → (a ≡ true → b ≡ true) → (b ≡ true → a ≡ true) → a ≡ b
same_truth true b f g = sym (f refl)
same_truth false true f g = g refl
same_truth false false f g = refl

pub same_any : {X : Type 0} (p q : X → Bool) (xs : List X) → ((x : X) → p x ≡ q x) → list_any p xs ≡ list_any q xs
same_any p q [] agree = refl
same_any p q (x ∷ xs) agree = ap (λ b. b || list_any p xs) (agree x) ∙ ap (λ b. q x || b) (same_any p q xs agree)

-- some element passes a test where some element passes a narrower one
pub any_wider : {X : Type 0} (p q : X → Bool) (xs : List X) → ((x : X) → q x ≡ true → p x ≡ true) → list_any q xs ≡ true → list_any p xs ≡ true
any_wider p q [] wider e = e
any_wider {X} p q (x ∷ xs) wider e = at (q x) refl e (any_wider p q xs wider)
  where
    at : (b : Bool) → q x ≡ b → (b || list_any q xs) ≡ true → (list_any q xs ≡ true → list_any p xs ≡ true) → (p x || list_any p xs) ≡ true
    at true h f rest = ap (λ b. b || list_any p xs) (wider x h)
    at false h f rest = or_right (p x) (list_any p xs) (rest f)

-- what follows from each element that passes follows where some element does
pub any_gives : {X : Type 0} (p : X → Bool) (b : Bool) (xs : List X) → ((x : X) → p x ≡ true → b ≡ true) → list_any p xs ≡ true → b ≡ true
any_gives p b [] gives e = absurd cc
any_gives {X} p b (x ∷ xs) gives e = at (p x) refl e (any_gives p b xs gives)
  where
    at : (v : Bool) → p x ≡ v → (v || list_any p xs) ≡ true → (list_any p xs ≡ true → b ≡ true) → b ≡ true
    at true h f rest = gives x h
    at false h f rest = rest f

-- one more key for a test, also where the key was there
pub any_inserted : {X : Type 0} (eq : X → X → Bool) (p : X → Bool) (keys : List X) (x : X) → ((y : X) → eq x y ≡ true → x ≡ y) → list_any p (cond (list_any (eq x) keys) keys (keys ++ x ∷ [])) ≡ (list_any p keys || p x)
any_inserted {X} eq p keys x same = at (list_any (eq x) keys) refl
  where
    known : (b : Bool) → p x ≡ b → list_any (eq x) keys ≡ true → list_any p keys ≡ (list_any p keys || b)
    known true h e =
        let some : list_any p keys ≡ true = any_wider p (eq x) keys (λ y k. ap p (sym (same y k)) ∙ h) e in
        some ∙ sym (or_right (list_any p keys) true refl)
    known false h e = sym (or_none (list_any p keys))

    at : (b : Bool) → list_any (eq x) keys ≡ b → list_any p (cond b keys (keys ++ x ∷ [])) ≡ (list_any p keys || p x)
    at true e = known (p x) refl e
    at false e = list_any-append p keys (x ∷ []) ∙ ap (λ b. list_any p keys || b) (or_none (p x))

-- equal prefixes are the same
pub one_prefix : (a b : Prefix) → same_prefix a b ≡ true → a ≡ b
one_prefix a b e = search rules

-- a prefix of an address is found by its length
pub covers_is : (lengths : List ℕ) (prefixes : List Prefix) → HasLengths lengths prefixes → (ip : ℕ) → list_any (λ bits. list_any (is_prefix bits ip) prefixes) lengths ≡ covers prefixes ip
unfolding covers
covers_is lengths prefixes by_length ip = same_truth _ _ found kept
  where
    narrow : (bits : ℕ) (prefix : Prefix) → is_prefix bits ip prefix ≡ true → is_on_prefix ip prefix ≡ true
    narrow bits prefix e =
        let parts = and_parts (bits == prefix.bits) (first_bits bits ip == prefix.first) e in
        let same : bits ≡ prefix.bits = eqb-true bits prefix.bits parts.0 in
        and_from _ _ (number_itself prefix.bits) (ap (λ n. first_bits n ip == prefix.first) (sym same) ∙ parts.1)

    found : list_any (λ bits. list_any (is_prefix bits ip) prefixes) lengths ≡ true → list_any (is_on_prefix ip) prefixes ≡ true
    found = any_gives (λ bits. list_any (is_prefix bits ip) prefixes) (list_any (is_on_prefix ip) prefixes) lengths
        (λ bits. any_wider (is_on_prefix ip) (is_prefix bits ip) prefixes (narrow bits))

    kept : list_any (is_on_prefix ip) prefixes ≡ true → list_any (λ bits. list_any (is_prefix bits ip) prefixes) lengths ≡ true
    kept e =
        let on = Any-from_list_any (is_on_prefix ip) prefixes e in
        let bits = on.1.bits in
        let has : list_any (nat_eq bits) lengths ≡ true =
        by_length bits (list_any_at (λ prefix. prefix.bits == bits) prefixes on.0 on.1 on.2 (ap (λ (prefix : Prefix). prefix.bits == bits) on.3 ∙ number_itself bits)) in
        any_wider (λ n. list_any (is_prefix n ip) prefixes) (nat_eq bits) lengths
        (λ n k. ap (λ m. list_any (is_prefix m ip) prefixes) (sym (eqb-true bits n k))
        ∙ list_any_at (is_prefix bits ip) prefixes on.0 on.1 on.2 (ap (is_prefix bits ip) on.3 ∙ on.4)) has

-- the lengths with one more, for the same prefixes and for one more
pub lengths_more : (lengths after : List ℕ) (prefixes : List Prefix) (length : ℕ) → HasLengths lengths prefixes → ((bits : ℕ) → list_any (nat_eq bits) after ≡ cond (length == bits) true (list_any (nat_eq bits) lengths)) → HasLengths after prefixes
lengths_more lengths after prefixes length has more bits e = more bits ∙ at (length == bits) (has bits e)
  where
    at : (b : Bool) → list_any (nat_eq bits) lengths ≡ true → cond b true (list_any (nat_eq bits) lengths) ≡ true
    at true f = refl
    at false f = f

pub prefixes_more : (lengths after : List ℕ) (prefixes keys : List Prefix) (prefix : Prefix) → HasLengths lengths prefixes → ((bits : ℕ) → list_any (nat_eq bits) after ≡ cond (prefix.bits == bits) true (list_any (nat_eq bits) lengths)) → keys ≡ cond (list_any (same_prefix prefix) prefixes) prefixes (prefixes ++ prefix ∷ []) → HasLengths after keys
prefixes_more lengths after prefixes keys prefix has more put bits e =
    more bits ∙ at (prefix.bits == bits)
    (sym (any_inserted same_prefix (λ p. p.bits == bits) prefixes prefix (one_prefix prefix)) ∙ (ap (list_any (λ (p : Prefix). p.bits == bits)) (sym put) ∙ e))
  where
    at : (b : Bool) → (list_any (λ p. p.bits == bits) prefixes || b) ≡ true → cond b true (list_any (nat_eq bits) lengths) ≡ true
    at true f = refl
    at false f = has bits (sym (or_none (list_any (λ p. p.bits == bits) prefixes)) ∙ f)

-- one more prefix for an address
pub covers_more : (prefixes keys : List Prefix) (prefix : Prefix) (ip : ℕ) → keys ≡ cond (list_any (same_prefix prefix) prefixes) prefixes (prefixes ++ prefix ∷ []) → covers keys ip ≡ (covers prefixes ip || is_on_prefix ip prefix)
unfolding covers
covers_more prefixes keys prefix ip put =
    ap (list_any (is_on_prefix ip)) put ∙ any_inserted same_prefix (is_on_prefix ip) prefixes prefix (one_prefix prefix)

pub covers_none : (prefixes : List Prefix) (ip : ℕ) → prefixes ≡ [] → covers prefixes ip ≡ false
unfolding covers
covers_none prefixes ip none = ap (list_any (is_on_prefix ip)) none

-- one more network for a test
pub on_more : (networks : List Kept) (i : ℕ) (network : Kept) (ip : ℕ) → i < length networks → network ≡ get_or networks i network → is_on (map network_seen (take (i + 1) networks)) ip ≡ (is_on (map network_seen (take i networks)) ip || contains_address (network_seen network) ip)
on_more networks i network ip within here =
    ap (λ (all : List Kept). is_on (map network_seen all) ip) (take_more networks i network within)
    ∙ ap (λ (all : List Network). is_on all ip) (map-append network_seen (take i networks) (get_or networks i network ∷ []))
    ∙ list_any-append (λ n. contains_address n ip) (map network_seen (take i networks)) (network_seen (get_or networks i network) ∷ [])
    ∙ ap (λ b. is_on (map network_seen (take i networks)) ip || b) (or_none (contains_address (network_seen (get_or networks i network)) ip))
    ∙ ap (λ (n : Kept). is_on (map network_seen (take i networks)) ip || contains_address (network_seen n) ip) (sym here)

-- an address is on a network where it has the network's prefix
pub on_network : (network : Network) (ip : ℕ) → is_on_prefix ip (prefix_of network.bits network.ip) ≡ contains_address network ip
on_network network ip =
    ap (λ b. b && (first_bits network.bits ip == first_bits network.bits network.ip)) (number_itself network.bits)
    ∙ turned (first_bits network.bits network.ip) (first_bits network.bits ip) (first_bits network.bits network.ip == first_bits network.bits ip) refl
  where
    turned : (x n : ℕ) (b : Bool) → (x == n) ≡ b → (n == x) ≡ b
    turned x n true e = grind (arith, nat_tests)
    turned x n false e = grind (arith, nat_tests)

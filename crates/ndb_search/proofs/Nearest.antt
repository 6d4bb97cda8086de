-- The first of a system's tuples that has values, and the first of its networks.
use Rattle.std.proofs.Common.{◌≡◌, ℕ, ◌+◌, ◌<◌, Bool, true, false, cond, List, [], ◌∷◌, length, get_or, take, map, refl, sym, ap, ◌∙◌, Option, Some, None, zero, suc, subst, arith}
use Rattle.std.specs.Prelude.{filter, codes}
use Rattle.std.proofs.lemmas.List.Elements.{filter-append}
use Rattle.std.proofs.lemmas.List.{map-append}
use Rattle.net_base.specs.Ndb.{NdbPair}
use Rattle.net_base.specs.Search.{tuple_has, tuples_with, values_in}
use Rattle.net_base.specs.Networks.{is_filled}
use Rattle.ndb_search.specs.Closest.{first_filled}
use Rattle.ndb_search.specs.Prefixes.{network_seen}
use Rattle.ndb_search.specs.declared.network.Network.{Network}
use Rattle.net_base.proofs.Shared.{own-default}
use Rattle.ndb_search.proofs.Lists.{Joins}
use Rattle.ndb_search.proofs.NonEmpty.{first_here, first_past, one_filled, none_filled}

system_joins : (me : List ℕ) → Joins (tuples_with (codes "sys") me)
system_joins me = record { none = refl; both = filter-append (tuple_has (codes "sys") me) }

with_at : List ℕ → List (List NdbPair) → Bool → Option (List (List ℕ))
with_at attr tuple holds = first_filled attr (cond holds (tuple ∷ []) [])

-- among a system's tuples: one that has values, one that has none, and a tuple of another system
pub of_first : (attr me : List ℕ) (db : List (List (List NdbPair))) (i : ℕ) (tuple : List (List NdbPair)) → i < length db → tuple ≡ get_or db i tuple → first_filled attr (tuples_with (codes "sys") me (take i db)) ≡ None → tuple_has (codes "sys") me tuple ≡ true → 0 < length (filter is_filled (values_in attr tuple)) → first_filled attr (tuples_with (codes "sys") me db) ≡ Some (filter is_filled (values_in attr tuple))
unfolding with_at
of_first attr me db i tuple within here none named some =
    first_here attr (tuples_with (codes "sys") me) (system_joins me) db i tuple (filter is_filled (values_in attr tuple)) within here none
    (ap (with_at attr tuple) named ∙ one_filled attr tuple some)

pub of_less : (attr me : List ℕ) (db : List (List (List NdbPair))) (i : ℕ) (tuple : List (List NdbPair)) → i < length db → tuple ≡ get_or db i tuple → first_filled attr (tuples_with (codes "sys") me (take i db)) ≡ None → tuple_has (codes "sys") me tuple ≡ true → length (filter is_filled (values_in attr tuple)) ≡ 0 → first_filled attr (tuples_with (codes "sys") me (take (i + 1) db)) ≡ None
unfolding with_at
of_less attr me db i tuple within here none named empty =
    first_past attr (tuples_with (codes "sys") me) (system_joins me) db i tuple within here none
    (ap (with_at attr tuple) named ∙ none_filled attr tuple empty)

pub of_other : (attr me : List ℕ) (db : List (List (List NdbPair))) (i : ℕ) (tuple : List (List NdbPair)) → i < length db → tuple ≡ get_or db i tuple → first_filled attr (tuples_with (codes "sys") me (take i db)) ≡ None → tuple_has (codes "sys") me tuple ≡ false → first_filled attr (tuples_with (codes "sys") me (take (i + 1) db)) ≡ None
unfolding with_at
of_other attr me db i tuple within here none named =
    first_past attr (tuples_with (codes "sys") me) (system_joins me) db i tuple within here none (ap (with_at attr tuple) named)

tuples_of : List Network → List (List (List NdbPair))
tuples_of networks = map (λ network. network.tuple) (map network_seen networks)

tuples_joins : Joins tuples_of
unfolding tuples_of
tuples_joins = record {
  none = refl;
  both = λ xs ys. ap (map (λ network. network.tuple)) (map-append network_seen xs ys) ∙ map-append (λ network. network.tuple) (map network_seen xs) (map network_seen ys);
}

-- among networks: one whose tuple has values, and one whose tuple has none
pub among_first : (attr : List ℕ) (networks : List Network) (i : ℕ) (network : Network) → i < length networks → network ≡ get_or networks i network → first_filled attr (map (λ network. network.tuple) (map network_seen (take i networks))) ≡ None → 0 < length (filter is_filled (values_in attr network.tuple)) → first_filled attr (map (λ network. network.tuple) (map network_seen networks)) ≡ Some (filter is_filled (values_in attr network.tuple))
unfolding tuples_of
among_first attr networks i network within here none some =
    first_here attr tuples_of tuples_joins networks i network (filter is_filled (values_in attr network.tuple)) within here none (one_filled attr network.tuple some)

pub among_less : (attr : List ℕ) (networks : List Network) (i : ℕ) (network : Network) → i < length networks → network ≡ get_or networks i network → first_filled attr (map (λ network. network.tuple) (map network_seen (take i networks))) ≡ None → length (filter is_filled (values_in attr network.tuple)) ≡ 0 → first_filled attr (map (λ network. network.tuple) (map network_seen (take (i + 1) networks))) ≡ None
unfolding tuples_of
among_less attr networks i network within here none empty =
    first_past attr tuples_of tuples_joins networks i network within here none (none_filled attr network.tuple empty)

-- What was read of the networks.

some-values : (n : ℕ) → (n ≡ 0 → ⊥) → 0 < n
some-values zero some = absurd (some refl)
some-values (suc n) some = omega arith

pub of_here : (attr me : List ℕ) (db : List (List (List NdbPair))) (i : ℕ) (tuple : List (List NdbPair)) (values : List (List ℕ)) → i < length db → tuple ≡ get_or db i [] → first_filled attr (tuples_with (codes "sys") me (take i db)) ≡ None
    → tuple_has (codes "sys") me tuple ≡ true → values ≡ filter is_filled (values_in attr tuple) → (length values ≡ 0 → ⊥) → Some values ≡ first_filled attr (tuples_with (codes "sys") me db)
of_here attr me db i tuple values within here none named is some =
    ap Some is
    ∙ sym (of_first attr me db i tuple within (own-default db i tuple [] within here) none named (subst (λ (vs : List (List ℕ)). 0 < length vs) is (some-values (length values) some)))

pub of_empty : (attr me : List ℕ) (db : List (List (List NdbPair))) (i : ℕ) (tuple : List (List NdbPair)) (values : List (List ℕ)) → i < length db → tuple ≡ get_or db i [] → first_filled attr (tuples_with (codes "sys") me (take i db)) ≡ None
    → tuple_has (codes "sys") me tuple ≡ true → values ≡ filter is_filled (values_in attr tuple) → length values ≡ 0 → first_filled attr (tuples_with (codes "sys") me (take (i + 1) db)) ≡ None
of_empty attr me db i tuple values within here none named is empty =
    of_less attr me db i tuple within (own-default db i tuple [] within here) none named (ap (λ (vs : List (List ℕ)). length vs) (sym is) ∙ empty)

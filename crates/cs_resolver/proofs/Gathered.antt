-- Addresses that are gathered: what stands again may be left out.
use Rattle.std.proofs.Common.{◌≡◌, ℕ, ◌+◌, ◌<◌, ◌≤◌, ◌==◌, ◌||◌, nat_eq, Bool, true, false, not, cond, List, [], ◌∷◌, ◌++◌, length, get_or, take, refl, sym, ap, ◌∙◌, subst, arith, append-nil, append_assoc, bytes_eq, rules}
use Rattle.std.specs.Prelude.{codes, flat_map, option_to_list}
use Rattle.std.specs.Borrow.{Bor}
use Rattle.std.specs.List.{list_any, sum_by}
use Rattle.std.specs.Cmp.Lexicographic.{bytes_decides}
use Rattle.std.proofs.lemmas.List.Folds.{list_any-append}
use Rattle.std.proofs.lemmas.List.Sums.{sum_by_push, sum_by-take-le}
use Rattle.std.proofs.lemmas.List.Concat.{flat_map-append}
use Rattle.std.proofs.lemmas.List.{map-append, take_more, take-map}
use Rattle.std.proofs.lemmas.Bool.{eqb-true}
use Rattle.net_base.specs.Ndb.{NdbPair}
use Rattle.net_base.specs.Addresses.{read_address}
use Rattle.net_base.specs.Cs.{once_each, is_numeric, name_attr, word_addresses}
use Rattle.net_base.specs.Search.{has_attr}
use Rattle.ndb_search.specs.declared.tuple_numbers.Kind.TheVariants.{Address}
use Rattle.ndb_search.specs.Numbers.{numbers_on, numbers_in, numbers_near, numbers_found}
use Rattle.ndb_search.proofs.Shared.{near_on, near_in, turned}
use Rattle.net_base.specs.declared.ndb.spot.Spot.{Spot}
use Rattle.net_base.specs.Spots.{same_spot}
use Rattle.ndb_index.specs.Kept.{spots_with}
use Rattle.ndb_index.specs.Index.{found}
use Rattle.ndb_index.proofs.Shared.{spots_count}
use Rattle.cs_resolver.specs.Gathering.{Gathers, AreAmong, TuplesRead, SpotsRead, words_seen}
use Rattle.cs_resolver.specs.Probes.{numbers_at, word_found}
use Rattle.cs_resolver.proofs.AtSpots.{at_spot_is, spots_numbers}
use Rattle.ndb_search.proofs.Shared.{among, others, among_others, once_push}
use Rattle.net_base.proofs.Shared.{number_itself}

abbrev pub Db : Type 0
Db = List (List (List NdbPair))

has : ℕ → List ℕ → Bool
has n ns = list_any (nat_eq n) ns

-- the numbers behind those that stand already, each that is new
onto : List ℕ → List ℕ → List ℕ
onto keys [] = keys
onto keys (n ∷ ns) = onto (cond (among n keys) keys (keys ++ n ∷ [])) ns

once_onto : (xs ys : List ℕ) → once_each (xs ++ ys) ≡ onto (once_each xs) ys
unfolding onto
once_onto xs [] = ap once_each (append-nil xs)
once_onto xs (y ∷ ys) =
    ap once_each (sym (append_assoc xs (y ∷ []) ys))
    ∙ once_onto (xs ++ y ∷ []) ys
    ∙ ap (λ (keys : List ℕ). onto keys ys) (once_push xs y)

-- equal lists, each number once, are so with more behind them
pub once_behind : (xs ys more : List ℕ) → once_each xs ≡ once_each ys → once_each (xs ++ more) ≡ once_each (ys ++ more)
once_behind xs ys more same = once_onto xs more ∙ ap (λ (keys : List ℕ). onto keys more) same ∙ sym (once_onto ys more)

among_is : (n : ℕ) (ns : List ℕ) → has n ns ≡ among n ns
unfolding has
among_is n [] = refl
among_is n (m ∷ ns) = ap (λ b. b || list_any (nat_eq n) ns) (sym (turned n m (nat_eq n m) refl)) ∙ ap (λ b. (m == n) || b) (among_is n ns)

among_once : (n : ℕ) (ns : List ℕ) → among n (once_each ns) ≡ among n ns
among_once n [] = refl
among_once n (m ∷ ns) = at (m == n) refl (among_once n ns)
  where
    at : (b : Bool) → (m == n) ≡ b → among n (once_each ns) ≡ among n ns → (b || among n (others m (once_each ns))) ≡ (b || among n ns)
    at true e rest = refl
    at false e rest = among_others m n (once_each ns) (turned m n false e) ∙ rest

has_once : (n : ℕ) (ns : List ℕ) → has n (once_each ns) ≡ has n ns
has_once n ns = among_is n (once_each ns) ∙ among_once n ns ∙ sym (among_is n ns)

onto_known : (keys ns : List ℕ) → ((n : ℕ) → among n ns ≡ true → among n keys ≡ true) → onto keys ns ≡ keys
unfolding onto
onto_known keys [] known = refl
onto_known keys (n ∷ ns) known =
    ap (λ b. onto (cond b keys (keys ++ n ∷ [])) ns) (known n (ap (λ b. b || among n ns) (number_itself n)))
    ∙ onto_known keys ns (λ m e. known m (right (n == m) (among m ns) e))
  where
    right : (a b : Bool) → b ≡ true → (a || b) ≡ true
    right true b e = refl
    right false b e = e

-- numbers that stand already are left out
pub known_again : (xs ys : List ℕ) → AreAmong ys xs → once_each (xs ++ ys) ≡ once_each xs
unfolding has
known_again xs ys known =
    once_onto xs ys
    ∙ onto_known (once_each xs) ys (λ n e. among_once n xs ∙ sym (among_is n xs) ∙ known n (among_is n ys ∙ e))

pub gathers_known : (more old : List ℕ) → AreAmong more old → Gathers more old old
gathers_known more old known = sym (known_again old more known)

pub gathers_both : (a b x y z : List ℕ) → Gathers a x y → Gathers b y z → Gathers (a ++ b) x z
gathers_both a b x y z first second = second ∙ once_behind y (x ++ a) b first ∙ ap once_each (append_assoc x a b)

has_new : (more old new : List ℕ) → Gathers more old new → (n : ℕ) → has n new ≡ (has n old || has n more)
unfolding has
has_new more old new gathers n =
    sym (has_once n new) ∙ ap (list_any (nat_eq n)) gathers ∙ has_once n (old ++ more) ∙ list_any-append (nat_eq n) old more

-- what stood there stands there, and so does what was added
pub still_among : (more old new xs : List ℕ) → Gathers more old new → AreAmong xs old → AreAmong xs new
unfolding has
still_among more old new xs gathers known n e = has_new more old new gathers n ∙ ap (λ b. b || list_any (nat_eq n) more) (known n e)

pub more_among : (more old new : List ℕ) → Gathers more old new → AreAmong more new
unfolding has
more_among more old new gathers n e = has_new more old new gathers n ∙ right (list_any (nat_eq n) old) (list_any (nat_eq n) more) e
  where
    right : (a b : Bool) → b ≡ true → (a || b) ≡ true
    right true b f = refl
    right false b f = f

-- Tuples and spots that were read.

pub tuples_stay : (db : Db) (tuples more old new : List ℕ) → Gathers more old new → TuplesRead db tuples old → TuplesRead db tuples new
tuples_stay db tuples more old new gathers read place e = still_among more old new (numbers_in Address (get_or db place [])) gathers (read place e)

pub tuples_more : (db : Db) (tuples after : List ℕ) (at : ℕ) (old new : List ℕ) → ((place : ℕ) → list_any (nat_eq place) after ≡ cond (nat_eq at place) true (list_any (nat_eq place) tuples)) → Gathers (numbers_in Address (get_or db at [])) old new → TuplesRead db tuples old → TuplesRead db after new
tuples_more db tuples after at old new put gathers read place e = by (nat_eq at place) refl (sym (put place) ∙ e)
  where
    by : (b : Bool) → nat_eq at place ≡ b → cond b true (list_any (nat_eq place) tuples) ≡ true → AreAmong (numbers_in Address (get_or db place [])) new
    by true same f = subst (λ (p : ℕ). AreAmong (numbers_in Address (get_or db p [])) new) (eqb-true at place same) (more_among (numbers_in Address (get_or db at [])) old new gathers)
    by false same f = tuples_stay db tuples (numbers_in Address (get_or db at [])) old new gathers read place f

pub spots_stay : (db : Db) (spots : List Spot) (more old new : List ℕ) → Gathers more old new → SpotsRead db spots old → SpotsRead db spots new
spots_stay db spots more old new gathers read spot e = still_among more old new (numbers_at db Address spot) gathers (read spot e)

one_spot : (a b : Spot) → same_spot a b ≡ true → a ≡ b
one_spot a b e = search rules

pub spots_more : (db : Db) (spots after : List Spot) (at : Spot) (old new : List ℕ) → ((spot : Spot) → list_any (same_spot spot) after ≡ cond (same_spot at spot) true (list_any (same_spot spot) spots)) → Gathers (numbers_at db Address at) old new → SpotsRead db spots old → SpotsRead db after new
spots_more db spots after at old new put gathers read spot e = by (same_spot at spot) refl (sym (put spot) ∙ e)
  where
    by : (b : Bool) → same_spot at spot ≡ b → cond b true (list_any (same_spot spot) spots) ≡ true → AreAmong (numbers_at db Address spot) new
    by true same f = subst (λ (s : Spot). AreAmong (numbers_at db Address s) new) (one_spot at spot same) (more_among (numbers_at db Address at) old new gathers)
    by false same f = spots_stay db spots (numbers_at db Address at) old new gathers read spot f

-- Words, each once.

abbrev pub has_word : List ℕ → List (Bor (List ℕ)) → Bool
has_word word words = list_any (λ w. bytes_eq word w.now) words

-- what a word gives is among what words with it give
word_among : (f : List ℕ → List ℕ) (word : List ℕ) (words : List (Bor (List ℕ))) → has_word word words ≡ true → AreAmong (f word) (flat_map f (words_seen words))
word_among f word [] e = absurd cc
word_among f word (w ∷ words) e = at (bytes_eq word w.now) refl e (word_among f word words)
  where
    here : (n : ℕ) → list_any (nat_eq n) (f w.now ++ flat_map f (words_seen words)) ≡ (list_any (nat_eq n) (f w.now) || list_any (nat_eq n) (flat_map f (words_seen words)))
    here n = list_any-append (nat_eq n) (f w.now) (flat_map f (words_seen words))

    right : (a b : Bool) → b ≡ true → (a || b) ≡ true
    right true b g = refl
    right false b g = g

    at : (b : Bool) → bytes_eq word w.now ≡ b → (b || has_word word words) ≡ true → (has_word word words ≡ true → AreAmong (f word) (flat_map f (words_seen words))) → AreAmong (f word) (f w.now ++ flat_map f (words_seen words))
    at true same g rest n k =
        here n ∙ ap (λ b. b || list_any (nat_eq n) (flat_map f (words_seen words))) (ap (λ v. list_any (nat_eq n) (f v)) (sym ((bytes_decides word w.now).0 same)) ∙ k)
    at false same g rest n k = here n ∙ right (list_any (nat_eq n) (f w.now)) (list_any (nat_eq n) (flat_map f (words_seen words))) (rest g n k)

-- one more word
pub words_more : (f : List ℕ → List ℕ) (words : List (List ℕ)) (i : ℕ) (word : Bor (List ℕ)) (keys after : List (Bor (List ℕ))) → i < length words → word.now ≡ get_or words i [] → after ≡ cond (has_word word.now keys) keys (keys ++ word ∷ []) → once_each (flat_map f (words_seen keys)) ≡ once_each (flat_map f (take i words)) → once_each (flat_map f (words_seen after)) ≡ once_each (flat_map f (take (i + 1) words))
words_more f words i word keys after within here put so_far =
    ap (λ (ks : List (Bor (List ℕ))). once_each (flat_map f (words_seen ks))) put
    ∙ at (has_word word.now keys) refl
    ∙ once_behind (flat_map f (words_seen keys)) (flat_map f (take i words)) (f word.now) so_far
    ∙ ap (λ w. once_each (flat_map f (take i words) ++ f w)) here
    ∙ sym (ap (λ ws. once_each (flat_map f ws)) (take_more words i [] within)
    ∙ ap once_each (flat_map-append f (take i words) (get_or words i [] ∷ []) ∙ ap (λ back. flat_map f (take i words) ++ back) (append-nil (f (get_or words i [])))))
  where
    at : (b : Bool) → has_word word.now keys ≡ b → once_each (flat_map f (words_seen (cond b keys (keys ++ word ∷ [])))) ≡ once_each (flat_map f (words_seen keys) ++ f word.now)
    at true e = sym (known_again (flat_map f (words_seen keys)) (f word.now) (word_among f word.now keys e))
    at false e =
        ap (λ ws. once_each (flat_map f ws)) (map-append (λ (w : Bor (List ℕ)). w.now) keys (word ∷ []))
        ∙ ap once_each (flat_map-append f (words_seen keys) (word.now ∷ []) ∙ ap (λ back. flat_map f (words_seen keys) ++ back) (append-nil (f word.now)))

pub count_more : (g : List ℕ → ℕ) (words : List (List ℕ)) (i : ℕ) (word : Bor (List ℕ)) (keys after : List (Bor (List ℕ))) → i < length words → word.now ≡ get_or words i [] → after ≡ cond (has_word word.now keys) keys (keys ++ word ∷ []) → sum_by g (words_seen keys) ≤ sum_by g (take i words) → sum_by g (words_seen after) ≤ sum_by g (take (i + 1) words)
count_more g words i word keys after within here put so_far =
    let all : sum_by g (take (i + 1) words) ≡ sum_by g (take i words) + g word.now =
    ap (sum_by g) (take_more words i [] within) ∙ sum_by_push g (take i words) (get_or words i []) ∙ ap (λ w. sum_by g (take i words) + g w) (sym here) in
    omega (arith, all, so_far, at (has_word word.now keys), ap (λ (ks : List (Bor (List ℕ))). sum_by g (words_seen ks)) put)
  where
    at : (b : Bool) → sum_by g (words_seen (cond b keys (keys ++ word ∷ []))) ≤ sum_by g (words_seen keys) + g word.now
    at true = omega arith
    at false = omega (arith, ap (sum_by g) (map-append (λ (w : Bor (List ℕ)). w.now) keys (word ∷ [])), sum_by_push g (words_seen keys) word.now)

-- A spot whose line has addresses, one whose line has none, and one whose tuple was read.

at_is : (db : Db) (spot : Spot) (tuple : List (List NdbPair)) (line : List NdbPair) → tuple ≡ get_or db spot.place [] → line ≡ get_or tuple spot.line [] → numbers_at db Address spot ≡ numbers_near Address line tuple
at_is = at_spot_is Address

pub gather_line : (db : Db) (spot : Spot) (tuple : List (List NdbPair)) (line : List NdbPair) (old new : List ℕ) → tuple ≡ get_or db spot.place [] → line ≡ get_or tuple spot.line [] → list_any (has_attr (codes "ip")) line ≡ true → new ≡ old ++ numbers_on Address line → Gathers (numbers_at db Address spot) old new
gather_line db spot tuple line old new tuple_is line_is named put =
    ap once_each (put ∙ ap (λ more. old ++ more) (sym (at_is db spot tuple line tuple_is line_is ∙ near_on Address line tuple named)))

pub gather_tuple : (db : Db) (spot : Spot) (tuple : List (List NdbPair)) (line : List NdbPair) (old new : List ℕ) → tuple ≡ get_or db spot.place [] → line ≡ get_or tuple spot.line [] → list_any (has_attr (codes "ip")) line ≡ false → new ≡ old ++ numbers_in Address tuple → Gathers (numbers_at db Address spot) old new
gather_tuple db spot tuple line old new tuple_is line_is named put =
    ap once_each (put ∙ ap (λ more. old ++ more) (sym (at_is db spot tuple line tuple_is line_is ∙ near_in Address line tuple named)))

pub gather_again : (db : Db) (spot : Spot) (tuple : List (List NdbPair)) (line : List NdbPair) (old : List ℕ) → tuple ≡ get_or db spot.place [] → line ≡ get_or tuple spot.line [] → list_any (has_attr (codes "ip")) line ≡ false → AreAmong (numbers_in Address (get_or db spot.place [])) old → Gathers (numbers_at db Address spot) old old
gather_again db spot tuple line old tuple_is line_is named known =
    gathers_known (numbers_at db Address spot) old
    (subst (λ (more : List ℕ). AreAmong more old) (ap (numbers_in Address) (sym tuple_is) ∙ sym (at_is db spot tuple line tuple_is line_is ∙ near_in Address line tuple named)) known)

-- a key that was put in was there, or it wasn't
pub was_there : (b : Bool) (added : Bool) → added ≡ not b → added ≡ false → b ≡ true
was_there true added e f = refl
was_there false added e f = absurd (apart (sym e ∙ f))
  where
    apart : true ≡ false → ⊥
    apart g = cc

-- the tuples with one more that was among them
pub tuples_again : (db : Db) (tuples after : List ℕ) (at : ℕ) (ips : List ℕ) → ((place : ℕ) → list_any (nat_eq place) after ≡ cond (nat_eq at place) true (list_any (nat_eq place) tuples)) → list_any (nat_eq at) tuples ≡ true → TuplesRead db tuples ips → TuplesRead db after ips
tuples_again db tuples after at ips put there read =
    tuples_more db tuples after at ips ips put (gathers_known (numbers_in Address (get_or db at [])) ips (read at there)) read

pub spots_again : (db : Db) (spots after : List Spot) (at : Spot) (ips : List ℕ) → ((spot : Spot) → list_any (same_spot spot) after ≡ cond (same_spot at spot) true (list_any (same_spot spot) spots)) → list_any (same_spot at) spots ≡ true → SpotsRead db spots ips → SpotsRead db after ips
spots_again db spots after at ips put there read =
    spots_more db spots after at ips ips put (gathers_known (numbers_at db Address at) ips (read at there)) read

-- the numbers of a tuple behind the others
pub gather_behind : (more old new : List ℕ) → new ≡ old ++ more → Gathers more old new
gather_behind more old new put = ap once_each put

pub gathers_none : (ips : List ℕ) → Gathers [] ips ips
gathers_none ips = ap once_each (sym (append-nil ips))

-- one more piece of a list of pieces
pub gathers_more : {X : Type 0} (f : X → List ℕ) (xs : List X) (i : ℕ) (d : X) (initial now after : List ℕ) → i < length xs → Gathers (flat_map f (take i xs)) initial now → Gathers (f (get_or xs i d)) now after → Gathers (flat_map f (take (i + 1) xs)) initial after
gathers_more f xs i d initial now after within so_far one =
    gathers_both (flat_map f (take i xs)) (f (get_or xs i d)) initial now after so_far one
    ∙ ap (λ more. once_each (initial ++ more))
    (ap (λ back. flat_map f (take i xs) ++ back) (sym (append-nil (f (get_or xs i d))))
    ∙ sym (ap (flat_map f) (take_more xs i d within) ∙ flat_map-append f (take i xs) (get_or xs i d ∷ [])))

-- A word's addresses, by the way in which it is read.

word_spots : (db : Db) (word : List ℕ) → is_numeric word ≡ false → flat_map (numbers_at db Address) (spots_with (name_attr word) word db) ≡ word_addresses db word
word_spots db word e =
    spots_numbers (name_attr word) word Address db
    ∙ sym (ap (λ b. cond b (option_to_list (read_address word)) (numbers_found (name_attr word) word Address db)) e)

word_cost : (db : Db) (word : List ℕ) → is_numeric word ≡ false → word_found db word ≡ found (name_attr word) word db
word_cost db word e = ap (λ b. cond b 0 (found (name_attr word) word db)) e

-- the spots by which a word's addresses are gathered, and how many they are
pub word_gathered : (db : Db) (word attr : List ℕ) (spots : List Spot) → is_numeric word ≡ false → attr ≡ name_attr word → spots ≡ spots_with attr word db → flat_map (numbers_at db Address) spots ≡ word_addresses db word
word_gathered db word attr spots e attr_is spots_are =
    ap (λ (those : List Spot). flat_map (numbers_at db Address) those) spots_are
    ∙ ap (λ (a : List ℕ). flat_map (numbers_at db Address) (spots_with a word db)) attr_is
    ∙ word_spots db word e

pub word_count : (db : Db) (word attr : List ℕ) (spots : List Spot) → is_numeric word ≡ false → attr ≡ name_attr word → spots ≡ spots_with attr word db → length spots ≡ word_found db word
word_count db word attr spots e attr_is spots_are =
    ap (λ (those : List Spot). length those) spots_are
    ∙ spots_count attr word db
    ∙ ap (λ (a : List ℕ). found a word db) attr_is
    ∙ sym (word_cost db word e)

-- one more word of those that stand once
pub seen_more : (f : List ℕ → List ℕ) (words : List (Bor (List ℕ))) (i : ℕ) (d : Bor (List ℕ)) (now after : List ℕ) → i < length words → once_each now ≡ once_each (flat_map f (words_seen (take i words))) → Gathers (f (get_or words i d).now) now after → once_each after ≡ once_each (flat_map f (words_seen (take (i + 1) words)))
seen_more f words i d now after within so_far one =
    let word = get_or words i d in
    one
    ∙ once_behind now (flat_map f (words_seen (take i words))) (f word.now) so_far
    ∙ sym (ap once_each
    (ap (λ (ws : List (Bor (List ℕ))). flat_map f (words_seen ws)) (take_more words i d within)
    ∙ ap (flat_map f) (map-append (λ (w : Bor (List ℕ)). w.now) (take i words) (word ∷ []))
    ∙ flat_map-append f (words_seen (take i words)) (word.now ∷ [])
    ∙ ap (λ back. flat_map f (words_seen (take i words)) ++ back) (append-nil (f word.now))))

seen_count : (g : List ℕ → ℕ) (words : List (Bor (List ℕ))) (i : ℕ) (d : Bor (List ℕ)) → i < length words → sum_by g (words_seen (take (i + 1) words)) ≡ sum_by g (words_seen (take i words)) + g (get_or words i d).now
seen_count g words i d within =
    ap (λ (ws : List (Bor (List ℕ))). sum_by g (words_seen ws)) (take_more words i d within)
    ∙ ap (sum_by g) (map-append (λ (w : Bor (List ℕ)). w.now) (take i words) (get_or words i d ∷ []))
    ∙ sum_by_push g (words_seen (take i words)) (get_or words i d).now

-- the cost with one more word
pub seen_cost : (g : List ℕ → ℕ) (words : List (Bor (List ℕ))) (i : ℕ) (d : Bor (List ℕ)) (initial now after : ℕ) → i < length words → now ≤ initial + sum_by g (words_seen (take i words)) → after ≤ now + g (get_or words i d).now → after ≤ initial + sum_by g (words_seen (take (i + 1) words))
seen_cost g words i d initial now after within so_far one = omega (arith, so_far, one, seen_count g words i d within)

-- and within the cost of all
pub seen_within : (g : List ℕ → ℕ) (words : List (Bor (List ℕ))) (i : ℕ) (d : Bor (List ℕ)) (initial now after : ℕ) → i < length words → now ≤ initial + sum_by g (words_seen (take i words)) → after ≤ now + g (get_or words i d).now → after ≤ initial + sum_by g (words_seen words)
seen_within g words i d initial now after within so_far one =
    omega (arith, seen_cost g words i d initial now after within so_far one, sum_by-take-le g (words_seen words) (i + 1), ap (sum_by g) (take-map (λ (w : Bor (List ℕ)). w.now) (i + 1) words))

-- A database as it is written, a pair, a line and a tuple at a time.
use Rattle.std.proofs.Common.{◌≡◌, ℕ, ◌+◌, ◌<◌, ◌≤◌, List, [], ◌∷◌, ◌++◌, length, take, get_or, refl, sym, ap, ◌∙◌, arith, append-nil, append_assoc}
use Rattle.std.specs.Prelude.{codes, drop}
use Rattle.std.proofs.lemmas.List.{take_more, at_drop_more, at_drop_all}
use Rattle.net_base.specs.Ndb.{NdbPair}
use Rattle.ndb_reader.specs.Written.{one_pair_text, more_pairs, pairs_text, more_lines, tuple_text, db_text}

more-push : (pairs : List NdbPair) (pair : NdbPair) → more_pairs (pairs ++ pair ∷ []) ≡ more_pairs pairs ++ (codes " " ++ one_pair_text pair)
more-push [] pair = ap (λ (text : List ℕ). codes " " ++ text) (append-nil (one_pair_text pair))
more-push (p ∷ pairs) pair =
    ap (λ (text : List ℕ). codes " " ++ (one_pair_text p ++ text)) (more-push pairs pair)
    ∙ ap (λ (text : List ℕ). codes " " ++ text) (sym (append_assoc (one_pair_text p) (more_pairs pairs) (codes " " ++ one_pair_text pair)))

pub next-more : (out blank new : List ℕ) (pairs : List NdbPair) (pair : NdbPair) → out ≡ pairs_text pairs → (length out ≡ 0 → ⊥) → blank ≡ out ++ codes " " → new ≡ blank ++ one_pair_text pair → new ≡ pairs_text (pairs ++ pair ∷ [])
next-more out blank new [] pair is some eb en = absurd (some (ap (λ (text : List ℕ). length text) is))
next-more out blank new (p ∷ pairs) pair is some eb en =
    en
    ∙ ap (λ (text : List ℕ). text ++ one_pair_text pair) (eb ∙ ap (λ (text : List ℕ). text ++ codes " ") is)
    ∙ append_assoc (pairs_text (p ∷ pairs)) (codes " ") (one_pair_text pair)
    ∙ append_assoc (one_pair_text p) (more_pairs pairs) (codes " " ++ one_pair_text pair)
    ∙ ap (λ (text : List ℕ). one_pair_text p ++ text) (sym (more-push pairs pair))

-- the pairs of a line so far stand behind others
abbrev pub Put : List ℕ → List NdbPair → ℕ → List ℕ → Type 0
Put first line n out = (pairs : List NdbPair) → first ≡ pairs_text pairs → out ≡ pairs_text (pairs ++ take n line)

pub put-next : (first : List ℕ) (line : List NdbPair) (n : ℕ) (pair : NdbPair) (out new : List ℕ) → n < length line → pair ≡ get_or line n pair
    → ((pairs : List NdbPair) → out ≡ pairs_text pairs → new ≡ pairs_text (pairs ++ pair ∷ [])) → Put first line n out → Put first line (n + 1) new
put-next first line n pair out new h here step put pairs is =
    step (pairs ++ take n line) (put pairs is)
    ∙ ap pairs_text (append_assoc pairs (take n line) (pair ∷ []) ∙ ap (λ (p : NdbPair). pairs ++ (take n line ++ p ∷ [])) here ∙ ap (λ (ps : List NdbPair). pairs ++ ps) (sym (take_more line n pair h)))

-- The lines of a file.

pub some-one : {X : Type 0} (xs : List X) (n : ℕ) → n ≡ length xs → (n ≡ 0 → ⊥) → 0 < length xs
some-one [] n is some = absurd (some is)
some-one (x ∷ xs) n is some = omega arith

pub no-one : {X : Type 0} (xs : List X) (n : ℕ) → n ≡ length xs → n ≡ 0 → xs ≡ []
no-one [] n is none = refl
no-one (x ∷ xs) n is none = absurd (omega (arith, is, none))

-- nothing is added where there is nothing
pub nothing-more : {X : Type 0} (text : List X → List ℕ) (xs : List X) (out : List ℕ) → text [] ≡ [] → xs ≡ [] → out ≡ out ++ text xs
nothing-more text xs out empty none = sym (append-nil out) ∙ ap (λ (t : List ℕ). out ++ t) (sym (ap text none ∙ empty))

-- one more pair behind the first one
pub pair-next : (first out blank new : List ℕ) (line : List NdbPair) (n : ℕ) (pair : NdbPair) → n < length line → pair ≡ get_or line n pair
    → blank ≡ out ++ codes " " → new ≡ blank ++ one_pair_text pair
    → first ++ more_pairs (drop 1 line) ≡ out ++ more_pairs (drop n line) → first ++ more_pairs (drop 1 line) ≡ new ++ more_pairs (drop (n + 1) line)
pair-next first out blank new line n pair h here eb en so_far =
    let rest : List ℕ = more_pairs (drop (n + 1) line) in
    so_far
    ∙ ap (λ (t : List ℕ). out ++ t) (at_drop_more more_pairs line n pair h)
    ∙ ap (λ (p : NdbPair). out ++ (codes " " ++ (one_pair_text p ++ rest))) (sym here)
    ∙ sym (append_assoc out (codes " ") (one_pair_text pair ++ rest))
    ∙ sym (append_assoc (out ++ codes " ") (one_pair_text pair) rest)
    ∙ ap (λ (t : List ℕ). (t ++ one_pair_text pair) ++ rest) (sym eb)
    ∙ ap (λ (t : List ℕ). t ++ rest) (sym en)

pub pairs-end : (first out : List ℕ) (line : List NdbPair) (n : ℕ) → length line ≤ n → first ++ more_pairs (drop 1 line) ≡ out ++ more_pairs (drop n line) → out ≡ first ++ more_pairs (drop 1 line)
pairs-end first out line n all so_far = sym (so_far ∙ ap (λ (t : List ℕ). out ++ t) (at_drop_all more_pairs line n all) ∙ append-nil out)

-- a line is its first pair and the others
pub line-whole : (out one new : List ℕ) (line : List NdbPair) (pair : NdbPair) → 0 < length line → pair ≡ get_or line 0 pair → one ≡ out ++ one_pair_text pair → new ≡ one ++ more_pairs (drop 1 line) → new ≡ out ++ pairs_text line
line-whole out one new [] pair some here e1 en = absurd (omega (arith, some))
line-whole out one new (p ∷ line) pair some here e1 en =
    en
    ∙ ap (λ (t : List ℕ). t ++ more_pairs line) (e1 ∙ ap (λ (q : NdbPair). out ++ one_pair_text q) here)
    ∙ append_assoc out (one_pair_text p) (more_pairs line)

-- one more line of a tuple behind the first one
pub row-next : (first out tab put new : List ℕ) (tuple : List (List NdbPair)) (n : ℕ) (line : List NdbPair) → n < length tuple → line ≡ get_or tuple n []
    → tab ≡ out ++ codes "\t" → put ≡ tab ++ pairs_text line → new ≡ put ++ codes "\n"
    → first ++ more_lines (drop 1 tuple) ≡ out ++ more_lines (drop n tuple) → first ++ more_lines (drop 1 tuple) ≡ new ++ more_lines (drop (n + 1) tuple)
row-next first out tab put new tuple n line h here et ep en so_far =
    let rest : List ℕ = more_lines (drop (n + 1) tuple) in
    so_far
    ∙ ap (λ (t : List ℕ). out ++ t) (at_drop_more more_lines tuple n [] h)
    ∙ ap (λ (l : List NdbPair). out ++ (codes "\t" ++ (pairs_text l ++ (codes "\n" ++ rest)))) (sym here)
    ∙ sym (append_assoc out (codes "\t") (pairs_text line ++ (codes "\n" ++ rest)))
    ∙ sym (append_assoc (out ++ codes "\t") (pairs_text line) (codes "\n" ++ rest))
    ∙ ap (λ (t : List ℕ). (t ++ pairs_text line) ++ (codes "\n" ++ rest)) (sym et)
    ∙ ap (λ (t : List ℕ). t ++ (codes "\n" ++ rest)) (sym ep)
    ∙ sym (append_assoc put (codes "\n") rest)
    ∙ ap (λ (t : List ℕ). t ++ rest) (sym en)

pub rows-end : (first out : List ℕ) (tuple : List (List NdbPair)) (n : ℕ) → length tuple ≤ n → first ++ more_lines (drop 1 tuple) ≡ out ++ more_lines (drop n tuple) → out ≡ first ++ more_lines (drop 1 tuple)
rows-end first out tuple n all so_far = sym (so_far ∙ ap (λ (t : List ℕ). out ++ t) (at_drop_all more_lines tuple n all) ∙ append-nil out)

-- a tuple is its first line and the others
pub tuple-whole : (out one ended new : List ℕ) (tuple : List (List NdbPair)) (line : List NdbPair) → 0 < length tuple → line ≡ get_or tuple 0 [] → one ≡ out ++ pairs_text line → ended ≡ one ++ codes "\n" → new ≡ ended ++ more_lines (drop 1 tuple) → new ≡ out ++ tuple_text tuple
tuple-whole out one ended new [] line some here e1 ee en = absurd (omega (arith, some))
tuple-whole out one ended new (l ∷ tuple) line some here e1 ee en =
    en
    ∙ ap (λ (t : List ℕ). t ++ more_lines tuple) (ee ∙ ap (λ (t : List ℕ). t ++ codes "\n") (e1 ∙ ap (λ (q : List NdbPair). out ++ pairs_text q) here))
    ∙ append_assoc (out ++ pairs_text l) (codes "\n") (more_lines tuple)
    ∙ append_assoc out (pairs_text l) (codes "\n" ++ more_lines tuple)

-- one more tuple
pub tuple-next : (out new : List ℕ) (db : List (List (List NdbPair))) (n : ℕ) (tuple : List (List NdbPair)) → n < length db → tuple ≡ get_or db n [] → new ≡ out ++ tuple_text tuple → db_text db ≡ out ++ db_text (drop n db) → db_text db ≡ new ++ db_text (drop (n + 1) db)
tuple-next out new db n tuple h here en so_far =
    so_far
    ∙ ap (λ (t : List ℕ). out ++ t) (at_drop_more db_text db n [] h)
    ∙ ap (λ (x : List (List NdbPair)). out ++ (tuple_text x ++ db_text (drop (n + 1) db))) (sym here)
    ∙ sym (append_assoc out (tuple_text tuple) (db_text (drop (n + 1) db)))
    ∙ ap (λ (t : List ℕ). t ++ db_text (drop (n + 1) db)) (sym en)

pub tuples-end : (out : List ℕ) (db : List (List (List NdbPair))) (n : ℕ) → length db ≤ n → db_text db ≡ out ++ db_text (drop n db) → out ≡ db_text db
tuples-end out db n all so_far = sym (so_far ∙ ap (λ (t : List ℕ). out ++ t) (at_drop_all db_text db n all) ∙ append-nil out)

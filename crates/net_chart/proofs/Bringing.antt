-- The columns of conversations stay, and copies end in those to which they are brought.
use Rattle.std.proofs.Common.{◌≡◌, ℕ, suc, ◌+◌, ◌<◌, ◌≤◌, ◌==◌, ◌&&◌, Bool, true, false, not, cond, List, [], ◌∷◌, ◌++◌, length, Option, Some, None, refl, ap, sym, subst, ◌∙◌, arith}
use Rattle.std.specs.Prelude.{nat_eq, nat_lt, option_map}
use Rattle.std.specs.List.{position_or_len}
use Rattle.std.specs.Map.{lookup}
use Rattle.std.specs.Option.{option_and_then}
use Rattle.std.proofs.lemmas.Bool.{and_from, eqb-true, false≢true, lt-ltb, ltb-true, true≢false}
use Rattle.indexmap.specs.IndexMap.{insert_entry}
use Rattle.net_base.specs.declared.actor.ActorName.{ActorName}
use Rattle.net_base.specs.declared.actor.ActorName.TheVariants as name
use Rattle.net_base.specs.declared.history.Entry.{Entry}
use Rattle.net_base.specs.Stamped.{same_actor, same_proto}
use Rattle.net_chart.specs.Frames.{owner_of}
use Rattle.net_chart.specs.TalkLaws.{EndsThere, brought_from, is_taken_at}
use Rattle.net_chart.specs.Talks.{Talks, cited_by, column_number, column_of, columns_by, columns_with, end_at, talk_ends_at, entered, is_talk, no_talks, talks_started, talks_by, talks_from, talks_with}
use Rattle.net_base.proofs.Shared.{number_itself, same_proto_itself}

-- Names.

itself : (a : ActorName) → is_talk a ≡ true → same_actor a a ≡ true
itself (name.Conv h p n) is = and_from ((h == h) && same_proto p p) (n == n) (and_from (h == h) (same_proto p p) (number_itself h) (same_proto_itself p)) (number_itself n)
itself (name.Desk h) is = absurd (true≢false (sym is))
itself (name.Dir h p) is = absurd (true≢false (sym is))
itself (name.Medium m) is = absurd (true≢false (sym is))
itself name.Clock is = absurd (true≢false (sym is))

-- Columns.

abbrev place_of : List ActorName → ActorName → ℕ
place_of cs a = position_or_len (same_actor a) cs

abbrev Stands : List ActorName → ActorName → Type 0
Stands cs a = place_of cs a < length cs

-- what stands in a list stands there in a longer one
stay : (p : ActorName → Bool) (cs ds : List ActorName) → position_or_len p cs < length cs → position_or_len p (cs ++ ds) ≡ position_or_len p cs
stay p [] ds lt = absurd (omega (arith, lt))
stay p (c ∷ cs) ds lt = by (p c) lt (stay p cs ds)
  where
    by : (b : Bool) → cond (not b) (1 + position_or_len p cs) 0 < suc (length cs)
        → (position_or_len p cs < length cs → position_or_len p (cs ++ ds) ≡ position_or_len p cs)
        → cond (not b) (1 + position_or_len p (cs ++ ds)) 0 ≡ cond (not b) (1 + position_or_len p cs) 0
    by true less rest = refl
    by false less rest = ap (λ (n : ℕ). 1 + n) (rest (omega (arith, less)))

longer : (cs ds : List ActorName) → length cs ≤ length (cs ++ ds)
longer [] ds = omega arith
longer (c ∷ cs) ds = omega (arith, longer cs ds)

-- the last one stands in a list
last : (p : ActorName → Bool) (a : ActorName) → p a ≡ true → (cs : List ActorName) → position_or_len p (cs ++ a ∷ []) < length (cs ++ a ∷ [])
last p a is [] = subst (λ (b : Bool). cond (not b) 1 0 < 1) (sym is) (omega arith)
last p a is (c ∷ cs) = by (p c) (last p a is cs)
  where
    by : (b : Bool) → position_or_len p (cs ++ a ∷ []) < length (cs ++ a ∷ [])
        → cond (not b) (1 + position_or_len p (cs ++ a ∷ [])) 0 < suc (length (cs ++ a ∷ []))
    by true less = omega arith
    by false less = omega (arith, less)

some_column : (cs : List ActorName) (a : ActorName) → Stands cs a → column_of cs a ≡ Some (column_number (place_of cs a))
some_column cs a lt = ap (λ (b : Bool). option_map column_number (cond b (Some (place_of cs a)) None)) (lt-ltb (place_of cs a) (length cs) lt)

has_column : (cs : List ActorName) (a : ActorName) → same_actor a a ≡ true → Stands (columns_with cs a) a
has_column cs a is = by (nat_lt (place_of cs a) (length cs)) refl
  where
    by : (b : Bool) → nat_lt (place_of cs a) (length cs) ≡ b
        → Stands (columns_by cs a (option_map column_number (cond b (Some (place_of cs a)) None))) a
    by true lt = ltb-true (place_of cs a) (length cs) lt
    by false lt = last (same_actor a) a is cs

-- a conversation more: the others keep their columns
kept : (cs : List ActorName) (a b : ActorName) → Stands cs b → Stands (columns_with cs a) b × (column_of (columns_with cs a) b ≡ column_of cs b)
kept cs a b lt = by (column_of cs a)
  where
    same : place_of (cs ++ a ∷ []) b ≡ place_of cs b
    same = stay (same_actor b) cs (a ∷ []) lt

    later : Stands (cs ++ a ∷ []) b
    later = let more = longer cs (a ∷ []) in omega (arith, same, more, lt)

    by : (o : Option ℕ) → Stands (columns_by cs a o) b × (column_of (columns_by cs a o) b ≡ column_of cs b)
    by (Some c) = (lt, refl)
    by None = (later, some_column (cs ++ a ∷ []) b later ∙ ap (λ (i : ℕ). Some (column_number i)) same ∙ sym (some_column cs b lt))

-- Ends by stamps.

at_more : (es : List (ℕ × ℕ)) (k q c : ℕ) → end_at (insert_entry nat_eq es k c) q ≡ cond (nat_eq q k) (Some c) (end_at es q)
at_more [] k q c = refl
at_more (e ∷ es) k q c = by (nat_eq k e.0) refl (at_more es k q c)
  where
    -- the stamp stands here
    here : (b : Bool) → cond b (Some c) (end_at es q) ≡ cond b (Some c) (cond b (Some e.1) (end_at es q))
    here true = refl
    here false = refl

    -- another stamp stands here
    other : (b : Bool) → nat_eq q k ≡ b → nat_eq k e.0 ≡ false → nat_eq q e.0 ≡ true → Some e.1 ≡ cond b (Some c) (Some e.1)
    other true same apart is = absurd (false≢true (sym apart ∙ subst (λ (n : ℕ). nat_eq n e.0 ≡ true) (eqb-true q k same) is))
    other false same apart is = refl

    later : (b : Bool) → nat_eq q e.0 ≡ b → nat_eq k e.0 ≡ false → end_at (insert_entry nat_eq es k c) q ≡ cond (nat_eq q k) (Some c) (end_at es q)
        → cond b (Some e.1) (end_at (insert_entry nat_eq es k c) q) ≡ cond (nat_eq q k) (Some c) (cond b (Some e.1) (end_at es q))
    later true is apart rest = other (nat_eq q k) refl apart is
    later false is apart rest = rest

    by : (b : Bool) → nat_eq k e.0 ≡ b → end_at (insert_entry nat_eq es k c) q ≡ cond (nat_eq q k) (Some c) (end_at es q)
        → lookup (nat_eq q) (cond b ((e.0, c) ∷ es) (e ∷ insert_entry nat_eq es k c)) ≡ cond (nat_eq q k) (Some c) (end_at (e ∷ es) q)
    by true is rest = here (nat_eq q e.0) ∙ ap (λ (n : ℕ). cond (nat_eq q n) (Some c) (end_at (e ∷ es) q)) (sym (eqb-true k e.0 is))
    by false is rest = later (nat_eq q e.0) refl is rest

-- Entries.

-- the copy of this stamp was brought there so far
abbrev Ends : Talks → ℕ → Option ActorName → Type 0
Ends t stamp None = end_at t.ends stamp ≡ None
Ends t stamp (Some b) = Stands t.columns b × (end_at t.ends stamp ≡ column_of t.columns b)

ends_started : (t : Talks) (stamp : ℕ) (y : Option Entry) (x : Entry) (o : Option ActorName) → Ends t stamp o → Ends (talks_started t y x) stamp o
ends_started t stamp y x None ends = ends
ends_started t stamp y x (Some b) ends = ends

-- a column more
ends_still : (t : Talks) (stamp : ℕ) (a : ActorName) (o : Option ActorName) → Ends t stamp o
    → Ends (record t { columns = columns_with t.columns a }) stamp o
ends_still t stamp a None ends = ends
ends_still t stamp a (Some b) ends = let same = kept t.columns a b ends.0 in (same.0, ends.1 ∙ sym same.1)

-- another copy is brought
ends_beside : (t : Talks) (stamp k n : ℕ) (a : ActorName) (o : Option ActorName) → nat_eq stamp k ≡ false → Ends t stamp o
    → Ends (record t { columns = columns_with t.columns a; ends = insert_entry nat_eq t.ends k n }) stamp o
ends_beside t stamp k n a o apart ends = by o ends
  where
    same : end_at (insert_entry nat_eq t.ends k n) stamp ≡ end_at t.ends stamp
    same = at_more t.ends k stamp n ∙ ap (λ (b : Bool). cond b (Some n) (end_at t.ends stamp)) apart

    by : (p : Option ActorName) → Ends t stamp p
        → Ends (record t { columns = columns_with t.columns a; ends = insert_entry nat_eq t.ends k n }) stamp p
    by None there = same ∙ there
    by (Some b) there = let column = kept t.columns a b there.0 in (column.0, same ∙ there.1 ∙ sym column.1)

abbrev own_column : Talks → ActorName → ℕ
own_column t a = column_number (place_of (columns_with t.columns a) a)

ends_entered : (t : Talks) (stamp : ℕ) (a : ActorName) (o : Option ActorName) (taken : Option ℕ) → same_actor a a ≡ true → Ends t stamp o
    → Ends (entered t taken a) stamp (cond (is_taken_at stamp taken) (Some a) o)
ends_entered t stamp a o None is ends = ends_still t stamp a o ends
ends_entered t stamp a o (Some k) is ends =
    subst (λ (c : Option ℕ). Ends (record t { columns = columns_with t.columns a; ends = talk_ends_at t.ends (Some k) c }) stamp (cond (nat_eq stamp k) (Some a) o))
    (sym column) (by (nat_eq stamp k) refl)
  where
    stands : Stands (columns_with t.columns a) a
    stands = has_column t.columns a is

    column : column_of (columns_with t.columns a) a ≡ Some (own_column t a)
    column = some_column (columns_with t.columns a) a stands

    by : (b : Bool) → nat_eq stamp k ≡ b
        → Ends (record t { columns = columns_with t.columns a; ends = insert_entry nat_eq t.ends k (own_column t a) }) stamp (cond b (Some a) o)
    by true here =
        (stands, at_more t.ends k stamp (own_column t a) ∙ ap (λ (b : Bool). cond b (Some (own_column t a)) (end_at t.ends stamp)) here ∙ sym column)
    by false apart = ends_beside t stamp k (own_column t a) a o apart ends

ends_by : (t : Talks) (stamp : ℕ) (y : Option Entry) (x : Entry) (o : Option ActorName) → Ends t stamp o
    → Ends (talks_by t y x) stamp (cond (is_talk x.actor && is_taken_at stamp (cited_by y)) (Some x.actor) o)
ends_by t stamp y x o ends = by (is_talk x.actor) refl
  where
    by : (b : Bool) → is_talk x.actor ≡ b
        → Ends (cond b (entered (talks_started t y x) (cited_by y) x.actor) (talks_started t y x)) stamp (cond (b && is_taken_at stamp (cited_by y)) (Some x.actor) o)
    by true is = ends_entered (talks_started t y x) stamp x.actor o (cited_by y) (itself x.actor is) (ends_started t stamp y x o ends)
    by false is = ends_started t stamp y x o ends

all_ends : (h : List Entry) (t : Talks) (stamp : ℕ) (o : Option ActorName) (xs : List Entry) → Ends t stamp o
    → Ends (talks_from h t xs) stamp (brought_from h stamp o xs)
all_ends h t stamp o [] ends = ends
all_ends h t stamp o (x ∷ xs) ends =
    all_ends h (talks_with h t x) stamp (cond (is_talk x.actor && is_taken_at stamp (cited_by (owner_of h x.cites))) (Some x.actor) o) xs
    (ends_by t stamp (owner_of h x.cites) x o ends)

told : (t : Talks) (stamp : ℕ) (o : Option ActorName) → Ends t stamp o → end_at t.ends stamp ≡ option_and_then (column_of t.columns) o
told t stamp None ends = ends
told t stamp (Some b) ends = ends.1

pub ends_there : (h : List Entry) (stamp : ℕ) → EndsThere h stamp
ends_there h stamp = told (talks_from h no_talks h) stamp (brought_from h stamp None h) (all_ends h no_talks stamp None h refl)

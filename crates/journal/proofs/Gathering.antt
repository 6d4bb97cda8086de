-- The history from the books.
use Rattle.std.proofs.Common.{◌≡◌, ℕ, zero, suc, ◌+◌, ◌⊎◌, inl, inr, ⊎_elim, Bool, true, false, List, [], ◌∷◌, ◌++◌, length, map, set, take, Option, Some, None, ◌≤◌, ◌<◌, if◌then◌else◌, refl, ap, sym, subst, ◌∙◌, arith}
use Rattle.std.specs.Prelude.{IfSome, slice_index_or}
use Rattle.std.specs.Option.{option_to_list}
use mathlib.Core.Option.{some, some-injective, some-ne-none}
use lib.ListN.{get_elem?}
use Rattle.atomic_table.proofs.Lists.{at_map}
use Rattle.net_base.specs.declared.actor.ActorName.{ActorName}
use Rattle.net_base.specs.declared.history.Entry.{Entry}
use Rattle.net_base.specs.declared.noted.Noted.{Noted}
use Rattle.net_base.specs.declared.noted.Number.{Number}
use Rattle.net_base.specs.declared.noted.Number.TheVariants as number
use Rattle.net_base.specs.Stamped.{same_actor, matches, entries_from, at, at_from, In}
use Rattle.journal.specs.declared.law.Roster.{Roster}
use Rattle.journal.specs.declared.law.View.{View}
use Rattle.journal.specs.declared.tokens.Sight.{Sight}
use Rattle.journal.specs.declared.tokens.Volume.{Volume}
use Rattle.journal.specs.declared.tokens.Stamped.{Stamped}
use Rattle.journal.specs.Rule.{Held, Lawful, Knows, Looks}
use Rattle.journal.specs.Tokens.{stamped, sight, Agrees, HoldsAll}
use Rattle.std.proofs.lemmas.List.{length-map}
use Rattle.journal.proofs.After.{all_seen}
use Rattle.journal.specs.Closing.{plain, TakenIn, Gathered, IsWhole, IsCover, IsLeft, AreOf, AreAllOf, AreAt}
use Rattle.journal.proofs.Lists.{prefix_self, prefix_trans}
use Rattle.net_base.proofs.Shared.{in_front, in_back, in_parts, same_itself}

in-map : (l : List (ℕ × Noted)) (y : ℕ × Noted) → In y l → In (stamped y) (map stamped l)
in-map [] y i = absurd i
in-map (x ∷ l) y (inl e) = inl (ap stamped e)
in-map (x ∷ l) y (inr i) = inr (in-map l y i)

of-map : (l : List (ℕ × Noted)) (e : Stamped) → In e (map stamped l) → (y : ℕ × Noted) × In y l × (e ≡ stamped y)
of-map [] e i = absurd i
of-map (x ∷ l) e (inl s) = (x, inl refl, s)
of-map (x ∷ l) e (inr i) = let t = of-map l e i in (t.0, inr t.1, t.2)

pub gathered_none : (v : View) → Gathered v [] v []
gathered_none v = record { kept = λ k es i. i; before = prefix_self v.seen; taken = λ b i. absurd i; all = λ b y i j. absurd i; sound = λ e i. absurd i }

pub gathered_more : (v w w' : View) (done : List Volume) (b : Volume) (es : List Stamped) → Gathered v done w es → TakenIn w b w' → Gathered v (b ∷ done) w' (es ++ map stamped b.list)
gathered_more v w w' done b es g t = record {
  kept = λ k l i. t.kept k l (g.kept k l i);
  before = prefix_trans v.seen w.seen w'.seen g.before t.before;
  taken = λ c i. ⊎_elim
      (λ e. subst (λ (z : Volume). In (number.Actor z.actor, z.list) w'.held) (sym e) t.taken)
      (λ j. t.kept (number.Actor c.actor) c.list (g.taken c j)) i;
  all = λ c y i j. ⊎_elim
      (λ e. in_back (stamped y) es (map stamped b.list) (in-map b.list y (subst (λ (z : Volume). In y z.list) e j)))
      (λ k. in_front (stamped y) es (map stamped b.list) (g.all c y k j)) i;
  sound = λ e i. ⊎_elim
      (λ j. let q = g.sound e j in (q.0, inr q.1, q.2, q.3, q.4))
      (λ j. let q = of-map b.list e j in (b, inl refl, q.0, q.1, q.2))
      (in_parts e es (map stamped b.list) i);
}

at_get : (k : Number) (m : ℕ) (log : List Noted) (y : ℕ × Noted) → In y (at_from k m log) → (i : ℕ) × (y.0 ≡ m + i) × (get_elem? log i ≡ some y.1)
at_get k m [] y i = absurd i
at_get k m (x ∷ xs) y i = next (at_get k (m + 1) xs y) (matches k x) i
  where
    next : (In y (at_from k (m + 1) xs) → (i : ℕ) × (y.0 ≡ m + 1 + i) × (get_elem? xs i ≡ some y.1)) → (b : Bool)
        → In y (if b then (m, x) ∷ at_from k (m + 1) xs else at_from k (m + 1) xs) → (i : ℕ) × (y.0 ≡ m + i) × (get_elem? (x ∷ xs) i ≡ some y.1)
    next f true (inl e) = (0, ap (λ (z : ℕ × Noted). z.0) e ∙ omega arith, sym (ap (λ (z : ℕ × Noted). some z.1) e))
    next f true (inr j) = let t = f j in (suc t.0, t.1 ∙ omega arith, t.2)
    next f false j = let t = f j in (suc t.0, t.1 ∙ omega arith, t.2)

at_has : (k : Number) (m : ℕ) (log : List Noted) (i : ℕ) (z : Noted) → get_elem? log i ≡ some z → matches k z ≡ true → In (m + i, z) (at_from k m log)
at_has k m [] i z e h = absurd (some-ne-none z (sym e))
at_has k m (x ∷ xs) zero z e h =
    let same : x ≡ z = some-injective x z e in
    let there : In (m, z) (if true then (m, x) ∷ at_from k (m + 1) xs else at_from k (m + 1) xs) = inl (ap (λ (q : Noted). (m, q)) (sym same)) in
    let test : true ≡ matches k x = sym h ∙ ap (matches k) (sym same) in
    subst (λ (n : ℕ). In (n, z) (at_from k m (x ∷ xs))) (omega arith) (subst (λ (b : Bool). In (m, z) (if b then (m, x) ∷ at_from k (m + 1) xs else at_from k (m + 1) xs)) test there)
at_has k m (x ∷ xs) (suc i) z e h = next (subst (λ (n : ℕ). In (n, z) (at_from k (m + 1) xs)) (omega arith) (at_has k (m + 1) xs i z e h)) (matches k x)
  where
    next : In (m + suc i, z) (at_from k (m + 1) xs) → (b : Bool) → In (m + suc i, z) (if b then (m, x) ∷ at_from k (m + 1) xs else at_from k (m + 1) xs)
    next f true = inr f
    next f false = f

get_split : (log : List Noted) (i : ℕ) (z : Noted) → get_elem? log i ≡ some z → (p : List Noted) × (q : List Noted) × (log ≡ p ++ z ∷ q)
get_split [] i z e = absurd (some-ne-none z (sym e))
get_split (x ∷ xs) zero z e = ([], xs, ap (λ (q : Noted). q ∷ xs) (some-injective x z e))
get_split (x ∷ xs) (suc i) z e = let t = get_split xs i z e in (x ∷ t.0, t.1, ap (λ (l : List Noted). x ∷ l) t.2)

of-entries : (log : List Noted) (i : ℕ) (x : Entry) → get_elem? (map (λ (z : Noted). z.entry) log) i ≡ some x → (z : Noted) × (get_elem? log i ≡ some z) × (z.entry ≡ x)
of-entries [] i x e = absurd (some-ne-none x (sym e))
of-entries (y ∷ log) zero x e = (y, refl, some-injective y.entry x e)
of-entries (y ∷ log) (suc i) x e = of-entries log i x e

of-actors : (books : List Volume) (a : ActorName) → In a (map (λ (b : Volume). b.actor) books) → (b : Volume) × In b books × (a ≡ b.actor)
of-actors [] a i = absurd i
of-actors (b ∷ books) a (inl e) = (b, inl refl, e)
of-actors (b ∷ books) a (inr i) = let t = of-actors books a i in (t.0, inr t.1, t.2)

-- the gathered entries are those of the history
pub covers : (r : Roster) (log : List Noted) (v0 v : View) (books : List Volume) (es : List Stamped) → Gathered v0 books v es
    → ((k : Number) (l : List (ℕ × Noted)) → In (k, l) v.held → l ≡ at k log) → Lawful r log → map (λ (b : Volume). b.actor) books ≡ r.actors
    → IsCover (map (λ (z : Noted). z.entry) log) es
covers r log v0 v books es g lists lawful actors = record {
  sound = λ e i.
      let t = g.sound e i in
      let b = t.0 in
      let y = t.2 in
      let here : In y (at (number.Actor b.actor) log) = subst (λ (l : List (ℕ × Noted)). In y l) (lists (number.Actor b.actor) b.list (g.taken b t.1)) t.3 in
      let q = at_get (number.Actor b.actor) 0 log y here in
      let place : q.0 ≡ e.stamp = let q1 = q.1 in sym (ap (λ (z : Stamped). z.stamp) t.4 ∙ q1 ∙ omega arith) in
      subst (λ (n : ℕ). get_elem? (map (λ (z : Noted). z.entry) log) n ≡ some e.entry) place
      (at_map (λ (z : Noted). z.entry) log q.0 y.1 q.2 ∙ sym (ap (λ (z : Stamped). some z.entry) t.4));
  all = λ n x h.
      let z = of-entries log n x h in
      let s = get_split log n z.0 z.1 in
      let known = (lawful s.0 z.0 s.1 s.2).actor in
      let b = of-actors books z.0.entry.actor (subst (λ (l : List ActorName). In z.0.entry.actor l) (sym actors) known) in
      let test : matches (number.Actor b.0.actor) z.0 ≡ true = ap (λ (a : ActorName). same_actor a b.0.actor) b.2 ∙ same_itself b.0.actor in
      let here = subst (λ (m : ℕ). In (m, z.0) (at (number.Actor b.0.actor) log)) (omega arith) (at_has (number.Actor b.0.actor) 0 log n z.0 z.1 test) in
      let mine : In (n, z.0) b.0.list = subst (λ (l : List (ℕ × Noted)). In (n, z.0) l) (sym (lists (number.Actor b.0.actor) b.0.list (g.taken b.0 b.1))) here in
      let whole = g.all b.0 (n, z.0) b.1 mine in
      subst (λ (q : Entry). In record { stamp = n; entry = q } es) z.2 whole;
}

-- Lists of entries.

pub of_none : AreAllOf [] []
of_none = record { only = λ e i. absurd i; all = λ e i. absurd i }

pub left_append : (e : Stamped) (ls : List (List Stamped)) (l : List Stamped) → IsLeft e (ls ++ l ∷ []) → IsLeft e ls ⊎ In e l
left_append e [] l (inl i) = inr i
left_append e [] l (inr i) = absurd i
left_append e (k ∷ ls) l (inl i) = inl (inl i)
left_append e (k ∷ ls) l (inr i) = ⊎_elim (λ j. inl (inr j)) (λ j. inr j) (left_append e ls l i)

left_of : (e : Stamped) (ls : List (List Stamped)) (l : List Stamped) → IsLeft e ls → IsLeft e (ls ++ l ∷ [])
left_of e [] l i = absurd i
left_of e (k ∷ ls) l (inl i) = inl i
left_of e (k ∷ ls) l (inr i) = inr (left_of e ls l i)

left_last : (e : Stamped) (ls : List (List Stamped)) (l : List Stamped) → In e l → IsLeft e (ls ++ l ∷ [])
left_last e [] l i = inl i
left_last e (k ∷ ls) l i = inr (left_last e ls l i)

pub of_more : (es fs : List Stamped) (ls : List (List Stamped)) → AreAllOf es ls → AreAllOf (es ++ fs) (ls ++ fs ∷ [])
of_more es fs ls are = record {
  only = λ e i. ⊎_elim (λ j. in_front e es fs (are.only e j)) (λ j. in_back e es fs j) (left_append e ls fs i);
  all = λ e i. ⊎_elim (λ j. left_of e ls fs (are.all e j)) (λ j. left_last e ls fs j) (in_parts e es fs i);
}

module _ {A : Type 0} (f : A → List Stamped) where
  -- a list of which the first entries are gone
  pub kept_left : (hs : List A) (k : ℕ) (d a : A) (xs : List Stamped) → f (slice_index_or hs k d) ≡ xs ++ f a → k < length hs → (e : Stamped) → IsLeft e (map f (set hs k a)) → IsLeft e (map f hs)
  kept_left [] k d a xs is lt e i = absurd (omega arith)
  kept_left (h ∷ hs) zero d a xs is lt e (inl i) = inl (subst (λ (l : List Stamped). In e l) (sym is) (in_back e xs (f a) i))
  kept_left (h ∷ hs) zero d a xs is lt e (inr i) = inr i
  kept_left (h ∷ hs) (suc k) d a xs is lt e (inl i) = inl i
  kept_left (h ∷ hs) (suc k) d a xs is lt e (inr i) = inr (kept_left hs k d a xs is (omega arith) e i)

  -- the first entry of a list is in it
  pub first_left : (hs : List A) (k : ℕ) (d : A) (e : Stamped) (ys : List Stamped) → f (slice_index_or hs k d) ≡ e ∷ ys → k < length hs → IsLeft e (map f hs)
  first_left [] k d e ys is lt = absurd (omega arith)
  first_left (h ∷ hs) zero d e ys is lt = inl (subst (λ (l : List Stamped). In e l) (sym is) (inl refl))
  first_left (h ∷ hs) (suc k) d e ys is lt = inr (first_left hs k d e ys is (omega arith))

  pub found_left : (hs : List A) (k : ℕ) (d : A) (o : Option Stamped) (ys : List Stamped) → f (slice_index_or hs k d) ≡ option_to_list o ++ ys → k < length hs → IfSome o (λ (e : Stamped). IsLeft e (map f hs))
  found_left hs k d None ys is lt = tt
  found_left hs k d (Some e) ys is lt = first_left hs k d e ys is lt

-- one entry more of the history
pub taken_more : (log h : List Entry) (x : Entry) → h ≡ take (length h) log → get_elem? log (length h) ≡ some x → h ++ x ∷ [] ≡ take (length (h ++ x ∷ [])) log
taken_more [] [] x is at = absurd (some-ne-none x (sym at))
taken_more (y ∷ log) [] x is at = ap (λ (z : Entry). z ∷ []) (sym (some-injective y x at))
taken_more [] (z ∷ h) x is at = absurd (omega (arith, ap length is))
taken_more (y ∷ log) (z ∷ h) x is at =
    let head : z ≡ y = cc is in
    let tail : h ≡ take (length h) log = cc is in
    let rest = taken_more log h x tail at in
    λ i. head i ∷ rest i

-- a beginning of that length is all
pub taken_all : (log h : List Entry) → h ≡ take (length h) log → length log ≤ length h → h ≡ log
taken_all [] [] is le = refl
taken_all (y ∷ log) [] is le = absurd (omega arith)
taken_all [] (z ∷ h) is le = absurd (omega (arith, ap length is))
taken_all (y ∷ log) (z ∷ h) is le =
    let head : z ≡ y = cc is in
    let tail : h ≡ take (length h) log = cc is in
    let rest = taken_all log h tail (omega arith) in
    λ i. head i ∷ rest i

-- an empty history is a beginning of each
pub begins : (log h : List Entry) → h ≡ [] → h ≡ take (length h) log
begins log h none = subst (λ (l : List Entry). l ≡ take (length l) log) (sym none) refl

-- the next entry of a merge, where it has the stamp that comes next
pub merged_more : (log h h' : List Entry) (ls ks : List (List Stamped)) (e : Stamped) (n : ℕ) (x : Entry) → h ≡ take (length h) log → AreAt log ls → ((f : Stamped) → IsLeft f ks → IsLeft f ls) → IsLeft e ls
    → e ≡ record { stamp = n; entry = x } → n ≡ length h → h' ≡ h ++ x ∷ [] → (h' ≡ take (length h') log) × AreAt log ks
merged_more log h h' ls ks e n x is at rest there own next pushed =
    let here : get_elem? log n ≡ some x = subst (λ (f : Stamped). get_elem? log f.stamp ≡ some f.entry) own (at e there) in (
      subst (λ (l : List Entry). l ≡ take (length l) log) (sym pushed) (taken_more log h x is (subst (λ (m : ℕ). get_elem? log m ≡ some x) next here)),
      λ f i. at f (rest f i),
    )

pub at_stamps : (log : List Entry) (es : List Stamped) (ls : List (List Stamped)) → IsCover log es → AreOf es ls → AreAt log ls
at_stamps log es ls c are e i = c.sound e (are e i)

-- the entries of a number, with and without their works
plain_from : (k : Number) (n : ℕ) (log : List Noted) → entries_from k n (map (λ (x : Noted). x.entry) log) ≡ map plain (at_from k n log)
plain_from k n [] = refl
plain_from k n (x ∷ log) = next (matches k x) (plain_from k (n + 1) log)
  where
    next : (b : Bool) → entries_from k (n + 1) (map (λ (y : Noted). y.entry) log) ≡ map plain (at_from k (n + 1) log)
        → (if b then (n, x.entry) ∷ entries_from k (n + 1) (map (λ (y : Noted). y.entry) log) else entries_from k (n + 1) (map (λ (y : Noted). y.entry) log))
        ≡ map plain (if b then (n, x) ∷ at_from k (n + 1) log else at_from k (n + 1) log)
    next true e = ap (λ (l : List (ℕ × Entry)). (n, x.entry) ∷ l) e
    next false e = e

-- at the end the history is what the pass has seen, and the lists have its entries
pub closes : (r : Roster) (v w0 w : View) (n : ℕ) (books : List Volume) (es : List Stamped) (log : List Noted) (ls : List (List Stamped)) → Agrees v → Looks r v n w0 → Gathered w0 books w es
    → Knows r log w → Lawful r log → HoldsAll r (sight v) → map (λ (b : Volume). b.actor) books ≡ r.actors → AreAllOf es ls
    → (log ≡ v.seen) × (length (map (λ (z : Noted). z.entry) log) ≡ n) × AreAt (map (λ (z : Noted). z.entry) log) ls
    × ((m : ℕ) (x : Entry) → get_elem? (map (λ (z : Noted). z.entry) log) m ≡ some x → IsLeft record { stamp = m; entry = x } ls)
closes r v w0 w n books es log ls agrees d g known lawful holds actors are =
    let lists : (k : Number) (l : List (ℕ × Noted)) → In (k, l) w.held → l ≡ at k log = λ k l i. (known.lists k l i).1.0 in
    let stays : (k : Number) (l : List (ℕ × Noted)) → In (k, l) v.held → In (k, l) w0.held = λ k l i. subst (λ (hs : List Held). In (k, l) hs) (sym d.held) i in
    let there : log ≡ v.seen = all_seen r v log agrees lawful (prefix_trans v.seen w0.seen log d.before (prefix_trans w0.seen w.seen log g.before known.seen)) (λ k l i. sym (lists k l (g.kept k l (stays k l i)))) holds in
    let before : w0.seen ≡ v.seen = all_seen r v w0.seen agrees d.lawful d.before (λ k l i. d.lists k l (stays k l i)) holds in
    let cover = covers r log w0 w books es g lists lawful actors in
    let long : length (map (λ (z : Noted). z.entry) log) ≡ n = length-map log (λ (z : Noted). z.entry) ∙ (ap length (there ∙ sym before) ∙ d.front) in
    (there, long, at_stamps (map (λ (z : Noted). z.entry) log) es ls cover are.only, λ m x h. are.all record { stamp = m; entry = x } (cover.all m x h))

-- put together at the answer
pub whole : (r : Roster) (p : Sight) (books : List Volume) (h : List Entry) (log : List Noted) → log ≡ p.seen → h ≡ map (λ (z : Noted). z.entry) log
    → ((k : Number) (es : List (ℕ × Noted)) → In (k, es) p.held → es ≡ at k log) → ((b : Volume) → In b books → b.list ≡ at (number.Actor b.actor) log) → Lawful r log
    → IsWhole r p books h
whole r p books h log same e callers actors lawful =
    let entries : h ≡ map (λ (z : Noted). z.entry) p.seen = e ∙ ap (map (λ (z : Noted). z.entry)) same in
    let of : (k : Number) → entries_from k 0 h ≡ map plain (at k log) = λ k. ap (entries_from k 0) e ∙ plain_from k 0 log in record {
      entries = entries;
      actors = λ b i. of (number.Actor b.actor) ∙ ap (map plain) (sym (actors b i));
      callers = λ c es i. of (number.Caller c) ∙ ap (map plain) (sym (callers (number.Caller c) es i));
      books_at = λ b i. actors b i ∙ ap (at (number.Actor b.actor)) same;
      lists_at = λ k es i. callers k es i ∙ ap (at k) same;
      lawful = subst (Lawful r) same lawful;
    }

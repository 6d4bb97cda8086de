-- The last entries of each step, as a history grows, and the results that they have.
use Rattle.std.proofs.Common.{◌≡◌, ℕ, zero, suc, ◌+◌, ◌-◌, ◌<◌, ◌≤◌, ◌==◌, ◌&&◌, Bool, true, false, cond, List, [], ◌∷◌, ◌++◌, drop, get_or, length, Option, Some, None, nat_lt, refl, sym, ap, subst, ◌∙◌, append-nil, append_assoc, arith, eq-eqb, slice_get}
use Rattle.std.specs.Prelude.{filter, flat_map, is_none, map, replicate, unwrap_or}
use Rattle.std.specs.List.{enumerate_from, range_with_len, slice_set}
use Rattle.std.proofs.lemmas.Bool.{eqb-true, eqb-false, ne_eqb, false≢true}
use Rattle.std.proofs.lemmas.List.{map-append}
use Rattle.std.proofs.lemmas.List.Elements.{filter-append}
use Rattle.std.proofs.lemmas.Option.{none-some, same_Some, slice_get-get_or, slice_get_past, slice_get_within}
use Rattle.net_base.specs.declared.history.Entry.{Entry}
use Rattle.net_base.specs.declared.reply.Reply.{Reply}
use Rattle.net_base.specs.declared.reply.Reply.TheVariants as reply
use Rattle.net_base.specs.declared.world.Script.{Script}
use Rattle.net_base.specs.declared.world.World.{World}
use Rattle.net_base.specs.Next.{by, finished_by, own_entries, own_replies, zone_of}
use Rattle.net_base.specs.Steps.{is_accepted}
use Rattle.net_base.specs.Transcript.{as_lines, dash, reply_words}
use Rattle.net_base.specs.Versions.{Tuples}
use Rattle.net_base.proofs.Shared.{get_set, get_set_other, length_map, past_all}
use Rattle.turn_orders.specs.Results.{outcome_of, result_from, result_text, result_words, results, script_results, step_result, telling}
use Rattle.order_search.specs.declared.marks.Latest.{Latest}
use Rattle.order_search.specs.Marks.{AreMarks, HasLatest, IsLast, IsLastOf, IsLatest, IsRow, blank_row, joined, last_in, last_result, latest_of, latest_result, line_of, noted, or_refusal, refusal_at, refusal_in, replies_from, replies_of, reply_if, result_at, result_if, results_text, row_noted, row_of, rows_noted, rows_with, script_lines}
use Rattle.order_search.proofs.StepReplies.{results_are}

-- ---- places that are set

pub set_past : {A : Type 0} (xs : List A) (i : ℕ) (y : A) → length xs ≤ i → slice_set xs i y ≡ xs
set_past [] i y le = refl
set_past (x ∷ xs) zero y le = absurd (omega (arith, le))
set_past {A} (x ∷ xs) (suc i) y le = ap (λ (zs : List A). x ∷ zs) (set_past xs i y (omega (arith, le)))

length_set : {A : Type 0} (xs : List A) (i : ℕ) (y : A) → length (slice_set xs i y) ≡ length xs
length_set [] i y = refl
length_set (x ∷ xs) zero y = refl
length_set (x ∷ xs) (suc i) y = ap (λ (n : ℕ). suc n) (length_set xs i y)

pub row_more : (row new : List (Option Latest)) (n stamp : ℕ) (d : Option Latest) (before : Option ℕ) → n < length row → before ≡ last_in (get_or row n d)
    → new ≡ slice_set row n (Some (record { last = stamp; before = before })) → new ≡ row_noted row n stamp
row_more row new n stamp d before lt is set =
    set ∙ ap (λ (b : Option ℕ). slice_set row n (Some (record { last = stamp; before = b }))) (is ∙ ap last_in (sym there))
  where
    there : latest_of row n ≡ get_or row n d
    there = ap joined (slice_get-get_or row n d lt)

pub rows_more : (rows new : List (List (Option Latest))) (c n stamp : ℕ) (d row : List (Option Latest)) → c < length rows → row ≡ row_noted (get_or rows c d) n stamp
    → new ≡ slice_set rows c row → new ≡ rows_noted rows c n stamp
rows_more rows new c n stamp d row lt is set =
    set ∙ ap (λ (r : List (Option Latest)). slice_set rows c r) (is ∙ ap (λ (r : List (Option Latest)). row_noted r n stamp) (sym there))
  where
    there : row_of rows c ≡ get_or rows c d
    there = ap (λ (o : Option (List (Option Latest))). unwrap_or o []) (slice_get-get_or rows c d lt)

-- ---- the last replies of a longer history

get_front : (h more : List Entry) (k : ℕ) (x : Entry) → slice_get h k ≡ Some x → slice_get (h ++ more) k ≡ Some x
get_front [] more k x is = absurd (none-some x is)
get_front (y ∷ h) more zero x is = is
get_front (y ∷ h) more (suc k) x is = get_front h more k x is

get_last : (h : List Entry) (x : Entry) → slice_get (h ++ x ∷ []) (length h) ≡ Some x
get_last [] x = refl
get_last (y ∷ h) x = get_last h x

last_longer : (h more : List Entry) (k : ℕ) (rs : List Reply) → IsLast h k rs → IsLast (h ++ more) k rs
last_longer h more k rs is = record { front = is.front; entry = is.entry; there = get_front h more k is.entry is.there; replies_are = is.replies_are }

last_of_longer : (h more : List Entry) (o : Option ℕ) (rs : List Reply) → IsLastOf h o rs → IsLastOf (h ++ more) o rs
last_of_longer h more None rs is = is
last_of_longer h more (Some k) rs is = last_longer h more k rs is

latest_longer : (h more : List Entry) (o : Option Latest) (rs : List Reply) → IsLatest h o rs → IsLatest (h ++ more) o rs
latest_longer h more None rs is = is
latest_longer h more (Some l) rs is = record {
  last_is = record { front = is.last_is.front; entry = is.last_is.entry; there = get_front h more l.last is.last_is.entry is.last_is.there; replies_are = is.last_is.replies_are };
  before_is = last_of_longer h more l.before is.last_is.front is.before_is;
}

-- a reply more
latest_more : (h : List Entry) (x : Entry) (o : Option Latest) (rs : List Reply) → IsLatest h o rs
    → IsLatest (h ++ x ∷ []) (Some (noted (length h) o)) (rs ++ x.reply ∷ [])
latest_more h x None rs is = record {
  last_is = record { front = rs; entry = x; there = get_last h x; replies_are = refl };
  before_is = is;
}
latest_more h x (Some l) rs is = record {
  last_is = record { front = rs; entry = x; there = get_last h x; replies_are = refl };
  before_is = last_longer h (x ∷ []) l.last rs is.last_is;
}

-- ---- the replies of a step

from_more : (f : List Reply → ℕ) (n : ℕ) (before rs : List Reply) (r : Reply)
    → replies_from f n before (rs ++ r ∷ []) ≡ replies_from f n before rs ++ reply_if (f (before ++ rs) == n) r []
from_more f n before [] r = ap (λ (b : List Reply). reply_if (f b == n) r []) (sym (append-nil before))
from_more f n before (q ∷ rs) r =
    ap (reply_if (f before == n) q)
    (from_more f n (before ++ q ∷ []) rs r ∙ ap (λ (b : List Reply). replies_from f n (before ++ q ∷ []) rs ++ reply_if (f b == n) r []) (append_assoc before (q ∷ []) rs))
    ∙ by (f before == n)
  where
    by : (b : Bool) → reply_if b q (replies_from f n (before ++ q ∷ []) rs ++ reply_if (f (before ++ q ∷ rs) == n) r [])
        ≡ reply_if b q (replies_from f n (before ++ q ∷ []) rs) ++ reply_if (f (before ++ q ∷ rs) == n) r []
    by true = refl
    by false = refl

-- ---- the marks of a script

module _ (zone : Tuples) (s : Script) (h : List Entry) (x : Entry) (rs : List Reply) (row : List (Option Latest)) (is : IsRow zone s h rs row) where
  -- an entry of another caller, or a follow-up event
  row_stays : IsRow zone s (h ++ x ∷ []) rs row
  row_stays = record { count = is.count; each = λ n lt. latest_longer h (x ∷ []) (latest_of row n) (replies_of zone s n rs) (is.each n lt) }

  -- one of them
  row_grows : (n : ℕ) → n ≡ finished_by zone rs s → IsRow zone s (h ++ x ∷ []) (rs ++ x.reply ∷ []) (row_noted row n (length h))
  row_grows n at = record {
    count = length_set row n (Some (noted (length h) (latest_of row n))) ∙ is.count;
    each = λ m lt. by m lt (m == n) refl;
  }
    where
      by : (m : ℕ) → m < length s.steps → (b : Bool) → (m == n) ≡ b → IsLatest (h ++ x ∷ []) (latest_of (row_noted row n (length h)) m) (replies_of zone s m (rs ++ x.reply ∷ []))
      by m lt true same =
          let m_is : m ≡ n = eqb-true m n same in
          let now : latest_of (row_noted row n (length h)) m ≡ Some (noted (length h) (latest_of row m)) =
          subst (λ (k : ℕ). latest_of (row_noted row k (length h)) m ≡ Some (noted (length h) (latest_of row m))) m_is
          (ap joined (get_set row m (Some (noted (length h) (latest_of row m))) (omega (arith, lt, is.count)))) in
          let told : replies_of zone s m (rs ++ x.reply ∷ []) ≡ replies_of zone s m rs ++ x.reply ∷ [] =
          from_more (λ (before : List Reply). finished_by zone before s) m [] rs x.reply
          ∙ ap (λ (b : Bool). replies_of zone s m rs ++ reply_if b x.reply []) (eq-eqb (finished_by zone rs s) m (sym at ∙ sym m_is)) in
          subst (λ (o : Option Latest). IsLatest (h ++ x ∷ []) o (replies_of zone s m (rs ++ x.reply ∷ []))) (sym now)
          (subst (IsLatest (h ++ x ∷ []) (Some (noted (length h) (latest_of row m)))) (sym told) (latest_more h x (latest_of row m) (replies_of zone s m rs) (is.each m lt)))
      by m lt false apart =
          let other : n ≡ m → ⊥ = λ e. eqb-false m n apart (sym e) in
          let now : latest_of (row_noted row n (length h)) m ≡ latest_of row m =
          ap joined (get_set_other row n m (Some (noted (length h) (latest_of row n))) other) in
          let told : replies_of zone s m (rs ++ x.reply ∷ []) ≡ replies_of zone s m rs =
          from_more (λ (before : List Reply). finished_by zone before s) m [] rs x.reply
          ∙ ap (λ (b : Bool). replies_of zone s m rs ++ reply_if b x.reply []) (ne_eqb (finished_by zone rs s) m (λ e. other (at ∙ e)))
          ∙ append-nil (replies_of zone s m rs) in
          subst (λ (o : Option Latest). IsLatest (h ++ x ∷ []) o (replies_of zone s m (rs ++ x.reply ∷ []))) (sym now)
          (subst (IsLatest (h ++ x ∷ []) (latest_of row m)) (sym told) (latest_longer h (x ∷ []) (latest_of row m) (replies_of zone s m rs) (is.each m lt)))

-- ---- the marks of a world

-- the replies with an entry more
own_more : (h : List Entry) (x : Entry) (c : ℕ) → own_replies (h ++ x ∷ []) c ≡ own_replies h c ++ map (λ (y : Entry). y.reply) (filter (λ (y : Entry). is_none y.cites) (filter (λ (y : Entry). y.caller == c) (x ∷ [])))
own_more h x c =
    ap (λ (xs : List Entry). map (λ (y : Entry). y.reply) (filter (λ (y : Entry). is_none y.cites) xs)) (filter-append (λ (y : Entry). y.caller == c) h (x ∷ []))
    ∙ (ap (map (λ (y : Entry). y.reply)) (filter-append (λ (y : Entry). is_none y.cites) (by h c) (by (x ∷ []) c))
    ∙ map-append (λ (y : Entry). y.reply) (own_entries h c) (own_entries (x ∷ []) c))

own_one : (x : Entry) (c : ℕ) (b d : Bool) → (x.caller == c) ≡ b → is_none x.cites ≡ d
    → map (λ (y : Entry). y.reply) (filter (λ (y : Entry). is_none y.cites) (filter (λ (y : Entry). y.caller == c) (x ∷ []))) ≡ cond (b && d) (x.reply ∷ []) []
own_one x c b d e f =
    ap (λ (v : Bool). map (λ (y : Entry). y.reply) (filter (λ (y : Entry). is_none y.cites) (cond v (x ∷ []) []))) e ∙ at b
  where
    at : (v : Bool) → map (λ (y : Entry). y.reply) (filter (λ (y : Entry). is_none y.cites) (cond v (x ∷ []) [])) ≡ cond (v && d) (x.reply ∷ []) []
    at true = ap (λ (u : Bool). map (λ (y : Entry). y.reply) (cond u (x ∷ []) [])) f ∙ on d
      where
        on : (u : Bool) → map (λ (y : Entry). y.reply) (cond u (x ∷ []) []) ≡ cond u (x.reply ∷ []) []
        on true = refl
        on false = refl
    at false = refl

pub marks_grow : (w : World) (h : List Entry) (rows : List (List (Option Latest))) (x : Entry) (c n stamp : ℕ) → AreMarks w h rows → x.caller ≡ c → stamp ≡ length h
    → ((s : Script) → slice_get w.scripts c ≡ Some s → n ≡ finished_by (zone_of w) (own_replies h c) s) → AreMarks w (h ++ x ∷ []) (rows_with rows x.cites c n stamp)
marks_grow w h rows x c n stamp are caller stamp_is at = by x.cites refl
  where
    -- the own replies of script d stay
    stays : (d : ℕ) (b e : Bool) → (x.caller == d) ≡ b → is_none x.cites ≡ e → (b && e) ≡ false → own_replies (h ++ x ∷ []) d ≡ own_replies h d
    stays d b e is free none =
        own_more h x d ∙ (ap (λ (rs : List Reply). own_replies h d ++ rs) (own_one x d b e is free ∙ ap (λ (v : Bool). cond v (x.reply ∷ []) []) none) ∙ append-nil (own_replies h d))

    kept : (d : ℕ) (s : Script) → slice_get w.scripts d ≡ Some s → own_replies (h ++ x ∷ []) d ≡ own_replies h d
        → IsRow (zone_of w) s (h ++ x ∷ []) (own_replies (h ++ x ∷ []) d) (row_of rows d)
    kept d s there same =
        subst (λ (rs : List Reply). IsRow (zone_of w) s (h ++ x ∷ []) rs (row_of rows d)) (sym same)
        (row_stays (zone_of w) s h x (own_replies h d) (row_of rows d) (are.each d s there))

    and_false : (b : Bool) → (b && false) ≡ false
    and_false true = refl
    and_false false = refl

    by : (o : Option ℕ) → x.cites ≡ o → AreMarks w (h ++ x ∷ []) (rows_with rows o c n stamp)
    by (Some k) cited = record {
      count = are.count;
      each = λ d s there. kept d s there (stays d (x.caller == d) false refl (ap is_none cited) (and_false (x.caller == d)));
    }
    by None free = record {
      count = length_set rows c (row_noted (row_of rows c) n stamp) ∙ are.count;
      each = λ d s there. one d s there (d == c) refl;
    }
      where
        one : (d : ℕ) (s : Script) → slice_get w.scripts d ≡ Some s → (b : Bool) → (d == c) ≡ b
            → IsRow (zone_of w) s (h ++ x ∷ []) (own_replies (h ++ x ∷ []) d) (row_of (rows_noted rows c n stamp) d)
        one d s there true same =
            let d_is : d ≡ c = eqb-true d c same in
            let here : row_of (rows_noted rows c n stamp) d ≡ row_noted (row_of rows d) n (length h) =
            subst (λ (k : ℕ). row_of (rows_noted rows k n stamp) d ≡ row_noted (row_of rows d) n (length h)) d_is
            (ap (λ (o : Option (List (Option Latest))). unwrap_or o [])
            (get_set rows d (row_noted (row_of rows d) n stamp) (omega (arith, slice_get_within w.scripts d s there, are.count)))
            ∙ ap (row_noted (row_of rows d) n) stamp_is) in
            let told : own_replies (h ++ x ∷ []) d ≡ own_replies h d ++ x.reply ∷ [] =
            own_more h x d ∙ ap (λ (rs : List Reply). own_replies h d ++ rs) (own_one x d true true (eq-eqb x.caller d (caller ∙ sym d_is)) (ap is_none free)) in
            subst (λ (rs : List Reply). IsRow (zone_of w) s (h ++ x ∷ []) rs (row_of (rows_noted rows c n stamp) d)) (sym told)
            (subst (IsRow (zone_of w) s (h ++ x ∷ []) (own_replies h d ++ x.reply ∷ [])) (sym here)
            (row_grows (zone_of w) s h x (own_replies h d) (row_of rows d) (are.each d s there) n
            (subst (λ (k : ℕ). n ≡ finished_by (zone_of w) (own_replies h k) s) (sym d_is)
            (at s (subst (λ (k : ℕ). slice_get w.scripts k ≡ Some s) d_is there)))))
        one d s there false apart =
            let other : c ≡ d → ⊥ = λ e. eqb-false d c apart (sym e) in
            let here : row_of (rows_noted rows c n stamp) d ≡ row_of rows d =
            ap (λ (o : Option (List (Option Latest))). unwrap_or o []) (get_set_other rows c d (row_noted (row_of rows c) n stamp) other) in
            subst (IsRow (zone_of w) s (h ++ x ∷ []) (own_replies (h ++ x ∷ []) d)) (sym here)
            (kept d s there (stays d false (is_none x.cites) (ne_eqb x.caller d (λ e. other (sym caller ∙ e))) refl refl))

-- before the first entry

blank_none : (k n : ℕ) → latest_of (replicate k None) n ≡ None
blank_none zero n = refl
blank_none (suc k) zero = refl
blank_none (suc k) (suc n) = blank_none k n

length_blank : (k : ℕ) → length (replicate {A = Option Latest} k None) ≡ k
length_blank zero = refl
length_blank (suc k) = ap (λ (n : ℕ). suc n) (length_blank k)

get_map : (ss : List Script) (c : ℕ) (s : Script) → slice_get ss c ≡ Some s → row_of (map blank_row ss) c ≡ blank_row s
get_map [] c s is = absurd (none-some s is)
get_map (t ∷ ss) zero s is = ap blank_row (same_Some t s is)
get_map (t ∷ ss) (suc c) s is = get_map ss c s is

pub marks_none : (w : World) → AreMarks w [] (map blank_row w.scripts)
marks_none w = record {
  count = length_map blank_row w.scripts;
  each = λ c s there.
      subst (IsRow (zone_of w) s [] []) (sym (get_map w.scripts c s there)) (record {
        count = length_blank (length s.steps);
        each = λ n lt. subst (λ (o : Option Latest). IsLatest [] o []) (sym (blank_none (length s.steps) n)) refl;
      });
}

-- ---- results

result_last : (b : Option Reply) (l : Reply) (rs : List Reply) (q r : Reply) → result_from b l (rs ++ q ∷ r ∷ []) ≡ telling (Some q) r
result_last b l [] q r = refl
result_last b l (p ∷ rs) q r = result_last (Some l) p rs q r

two_last : (front : List Reply) (q r : Reply) → step_result ((front ++ q ∷ []) ++ r ∷ []) ≡ Some (telling (Some q) r)
two_last [] q r = refl
two_last (p ∷ front) q r = ap Some (ap (result_from None p) (append_assoc front (q ∷ []) (r ∷ [])) ∙ result_last None p front q r)

-- the result by the last entries is that of the replies
pub result_is : (h : List Entry) (o : Option Latest) (rs : List Reply) → IsLatest h o rs → latest_result h o ≡ step_result rs
result_is h None rs is = ap step_result (sym is)
result_is h (Some l) rs is =
    ap (last_result h l.before) is.last_is.there ∙ (by l.before is.last_is.front is.before_is ∙ ap step_result (sym is.last_is.replies_are))
  where
    r : Reply
    r = is.last_is.entry.reply

    one : (front : List Reply) → front ≡ [] → Some r ≡ step_result (front ++ r ∷ [])
    one front none = ap (λ (f : List Reply). step_result (f ++ r ∷ [])) (sym none)

    refusal : (y : Entry) → or_refusal (refusal_in (Some y)) r ≡ telling (Some y.reply) r
    refusal y = on (is_accepted y.reply) refl (is_accepted r) refl
      where
        on : (b : Bool) → is_accepted y.reply ≡ b → (d : Bool) → is_accepted r ≡ d → or_refusal (refusal_in (Some y)) r ≡ telling (Some y.reply) r
        on true e true f = rw (e, f) refl
        on true e false f = rw (e, f) refl
        on false e true f = rw (e, f) refl
        on false e false f = rw (e, f) refl

    by : (o : Option ℕ) (front : List Reply) → IsLastOf h o front → Some (or_refusal (refusal_at h o) r) ≡ step_result (front ++ r ∷ [])
    by None front none = one front none
    by (Some k) front before =
        ap (λ (e : Option Entry). Some (or_refusal (refusal_in e) r)) before.there
        ∙ (ap Some (refusal before.entry)
        ∙ (sym (two_last before.front before.entry.reply r) ∙ ap (λ (f : List Reply). step_result (f ++ r ∷ [])) (sym before.replies_are)))

-- ---- lines

-- a number more
pub range_more : (f : ℕ → List ℕ) (n end : ℕ) (out new all : List ℕ) → n < end → new ≡ out ++ f n
    → out ++ flat_map f (range_with_len n (end - n)) ≡ all → new ++ flat_map f (range_with_len (n + 1) (end - (n + 1))) ≡ all
range_more f n end out new all lt is whole =
    let left : end - n ≡ suc (end - (n + 1)) = omega (arith, lt) in
    let first : out ++ (f n ++ flat_map f (range_with_len (n + 1) (end - (n + 1)))) ≡ all =
    subst (λ (k : ℕ). out ++ flat_map f (range_with_len n k) ≡ all) left whole in
    ap (λ (xs : List ℕ). xs ++ flat_map f (range_with_len (n + 1) (end - (n + 1)))) is
    ∙ append_assoc out (f n) (flat_map f (range_with_len (n + 1) (end - (n + 1))))
    ∙ first

-- the line of a step of a script
abbrev pub step_line : Tuples → Script → List Reply → ℕ → List ℕ
step_line zone s rs n = result_text (result_at zone s rs n) ++ 10 ∷ []

lines_of_range : (zone : Tuples) (s : Script) (rs : List Reply) (ns : List ℕ) → as_lines (map result_text (map (result_at zone s rs) ns)) ≡ flat_map (step_line zone s rs) ns
lines_of_range zone s rs [] = refl
lines_of_range zone s rs (n ∷ ns) = ap (λ (xs : List ℕ). step_line zone s rs n ++ xs) (lines_of_range zone s rs ns)

pub script_lines_are : (w : World) (h : List Entry) (c : ℕ) (s : Script)
    → script_lines w h (c, s) ≡ flat_map (step_line (zone_of w) s (own_replies h c)) (range_with_len 0 (length s.steps))
script_lines_are w h c s =
    ap (λ (os : List (Option Reply)). as_lines (map result_text os)) (results_are (zone_of w) s (own_replies h c))
    ∙ lines_of_range (zone_of w) s (own_replies h c) (range_with_len 0 (length s.steps))

pub results_text_are : (w : World) (h : List Entry) → results_text (outcome_of w h) ≡ flat_map (script_lines w h) (enumerate_from 0 w.scripts)
results_text_are w h = by (enumerate_from 0 w.scripts)
  where
    by : (cs : List (ℕ × Script)) → flat_map as_lines (map (map result_text) (map (script_results w h) cs)) ≡ flat_map (script_lines w h) cs
    by [] = refl
    by (c ∷ cs) = ap (λ (xs : List ℕ). script_lines w h c ++ xs) (by cs)

-- a step's line more
pub line_is : (h : List Entry) (o : Option Latest) (finished : Bool) (out mid new : List ℕ) → mid ≡ out ++ result_text (result_if finished (latest_result h o)) → new ≡ mid ++ 10 ∷ []
    → (rs : List Reply) → IsLatest h o rs → new ≡ out ++ line_of finished rs
line_is h o finished out mid new first then_ rs is =
    then_
    ∙ (ap (λ (t : List ℕ). t ++ 10 ∷ []) (first ∙ ap (λ (r : Option Reply). out ++ result_text (result_if finished r)) (result_is h o rs is))
    ∙ append_assoc out (result_text (result_if finished (step_result rs))) (10 ∷ []))

-- the words of a reply without numbers of a conversation
pub other_words : (r : Reply) → ((n g : ℕ) → r ≡ reply.Slot n g → ⊥) → ((n g : ℕ) → r ≡ reply.Call n g → ⊥) → ((g : ℕ) → r ≡ reply.Opened g → ⊥) → result_words r ≡ reply_words r
other_words (reply.Slot n g) slot call opened = absurd (slot n g refl)
other_words (reply.Call n g) slot call opened = absurd (call n g refl)
other_words (reply.Opened g) slot call opened = absurd (opened g refl)
other_words _ slot call opened = refl

-- the loops begin and end
pub lines_begin : (w : World) (h : List Entry) (c : ℕ) (s : Script) (end : ℕ) (out : List ℕ) → end ≡ length s.steps
    → out ++ flat_map (step_line (zone_of w) s (own_replies h c)) (range_with_len 0 (end - 0)) ≡ out ++ script_lines w h (c, s)
lines_begin w h c s end out is =
    let count : end - 0 ≡ length s.steps = omega (arith, is) in
    ap (λ (n : ℕ). out ++ flat_map (step_line (zone_of w) s (own_replies h c)) (range_with_len 0 n)) count ∙ ap (λ (xs : List ℕ). out ++ xs) (sym (script_lines_are w h c s))

pub lines_end : (w : World) (h : List Entry) (ss : List Script) (n : ℕ) (out : List ℕ) → ss ≡ w.scripts → length ss ≤ n
    → out ++ flat_map (script_lines w h) (enumerate_from n (drop n ss)) ≡ flat_map (script_lines w h) (enumerate_from 0 ss) → out ≡ results_text (outcome_of w h)
lines_end w h ss n out same le all =
    sym (append-nil out)
    ∙ (ap (λ (ts : List Script). out ++ flat_map (script_lines w h) (enumerate_from n ts)) (sym (past_all ss n le))
    ∙ (all ∙ (ap (λ (ts : List Script). flat_map (script_lines w h) (enumerate_from 0 ts)) same ∙ sym (results_text_are w h))))

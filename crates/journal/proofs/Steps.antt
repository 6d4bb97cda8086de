-- Each kind of step keeps the rule.
use Rattle.std.proofs.Common.{filter, ◌≡◌, ◌≢◌, ℕ, zero, suc, ◌+◌, ◌%◌, ◌^◌, ◌<◌, ◌≤◌, ◌==◌, ◌⊎◌, inl, inr, ⊎_elim, Bool, true, false, not, List, [], ◌∷◌, ◌++◌, length, map, set, slice_index, if◌then◌else◌, refl, ap, sym, subst, ◌∙◌, arith, length-append}
use Rattle.std.proofs.lemmas.Bool.Decides.{nat_tests}
use mathlib.Core.Option.{some, some-injective, some-ne-none}
use mathlib.Core.List.{IsPrefix}
use mathlib.Core.Logic.{dite}
use native.Mathlib.Decide.{ℕ_discrete}
use lib.ListN.{get_elem?}
use Rattle.atomic_table.specs.Table.{Me, Allows, Splits, Joins, keeps}
use Rattle.atomic_table.proofs.Lists.{at_set}
use Rattle.net_base.specs.declared.actor.ActorName.{ActorName}
use Rattle.net_base.specs.declared.noted.Noted.{Noted}
use Rattle.net_base.specs.declared.noted.Number.{Number}
use Rattle.net_base.specs.declared.noted.Number.TheVariants as number
use Rattle.net_base.specs.Stamped.{same_actor, matches, at, clock, latest, In}
use Rattle.journal.specs.declared.law.Roster.{Roster}
use Rattle.journal.specs.declared.law.View.{View}
use Rattle.journal.specs.Rule.{Held, Fits, Lawful, IsAll, KnownNumber, has_caller, is_caller, Knows, Apart, Has, KeptBySeat, newcomer, caller_numbers, actor_numbers, same_number, handed_over, only, longer_history, clock_of, both_seen, spent, Looks, gain, Adds, MayAdd, rule_words}
use Rattle.journal.proofs.Lists.{prefix_self, prefix_trans, prefix_shorter, prefix_snoc, at-snoc, between, last_split, in-gained, in-gain, snoc_get, longer_is, longer_left, longer_right}
use Rattle.journal.proofs.Seats.{someone_here, someone_set, someone_split, someone_join}
use Rattle.journal.proofs.Bounds.{lawful-short}
use Rattle.net_base.proofs.Shared.{in_front, in_back, in_parts, same_actor_is}

-- the views after a step of the seat id
views_set : (r : Roster) (log : List Noted) (views : List View) (id : ℕ) (w : View) → Knows r log w
    → ((j : ℕ) (u : View) → j ≢ id → get_elem? views j ≡ some u → Knows r log u) → (j : ℕ) (u : View) → get_elem? (set views id w) j ≡ some u → Knows r log u
views_set r log views id w own others j u e = ⊎_elim (λ t. subst (Knows r log) t.1 own) (λ t. others j u t.0 t.1) (at_set views id j w u e)

-- a seat that holds no more numbers than before
apart_set : (views : List View) (id : ℕ) (v w : View) → get_elem? views id ≡ some v → ((k : Number) (es : List (ℕ × Noted)) → In (k, es) w.held → (fs : List (ℕ × Noted)) × In (k, fs) v.held)
    → Apart views → Apart (set views id w)
apart_set views id v w here fewer apart i j a b k es fs ea eb ia ib =
    ⊎_elim
    (λ s. ⊎_elim
    (λ t. s.0 ∙ sym t.0)
    (λ t. let f = fewer k es (subst (λ (z : View). In (k, es) z.held) (sym s.1) ia) in s.0 ∙ apart id j v b k f.0 fs here t.1 f.1 ib)
    (at_set views id j w b eb))
    (λ s. ⊎_elim
    (λ t. let f = fewer k fs (subst (λ (z : View). In (k, fs) z.held) (sym t.1) ib) in apart i id a v k es f.0 s.1 here ia f.1 ∙ sym t.0)
    (λ t. apart i j a b k es fs s.1 t.1 ia ib)
    (at_set views id j w b eb))
    (at_set views id i w a ea)

-- a look
pub looks : (r : Roster) (slots id : ℕ) (me : Me (Unit {0}) View) → Allows (KeptBySeat r) slots id me 8 (λ n. n) (λ found after. (after.1 ≡ me.1) × Looks r me.0 found after.0)
looks r slots id me s kept wide here small =
    let v = me.0 in
    let log = kept.log in
    let own = kept.views id v here in
    let w : View = record { seen = log; olds = []; held = v.held; clock = v.clock; clocks = [] } in
    let found : slice_index s.words 8 ≡ length log = ap (λ (l : List ℕ). slice_index l 8) kept.word in
    let known : Knows r log w = record {
      seen = prefix_self log;
      olds = λ old i. absurd i;
      lists = λ k es i. let t = own.lists k es i in (t.0, (t.1.0, sym t.1.0));
      clock_is = λ h. let t = own.clock_is h in (t.0, sym t.0);
      clocks = λ es h i. absurd i;
    } in (
      w,
      keeps,
      tt,
      record {
        log = log;
        few = kept.few;
        word = rw (found, kept.word) refl;
        views = views_set r log s.views id w known (λ j u _ e. kept.views j u e);
        front = someone_here (λ z. z.seen ≡ log) s.views id v w here refl;
        apart = apart_set s.views id v w here (λ k es i. (es, i)) kept.apart;
        all = λ k there. someone_set (Has k) s.views id v w here (λ t. t) (kept.all k there);
        lawful = kept.lawful;
      },
      (
        refl,
        record {
          front = sym found;
          before = own.seen;
          olds = own.olds;
          held = refl;
          clock_is = refl;
          lists = λ k es i. sym (own.lists k es i).1.0;
          moment_is = λ h. sym (own.clock_is h).0;
          clocks = λ es h i. sym (own.clocks es h i).0;
          lawful = kept.lawful;
        },
      ),
    )

-- a step that adds x to the history, by a seat that holds the numbers of x
module _ (r : Roster) (id : ℕ) (v : View) (x : Noted) (cs as' : List (ℕ × Noted)) (caller : In (number.Caller x.entry.caller, cs) v.held) (actor : In (number.Actor x.entry.actor, as') v.held) where
  own_number : (views : List View) → Apart views → get_elem? views id ≡ some v → (j : ℕ) (u : View) → j ≢ id → get_elem? views j ≡ some u
      → (k : Number) (es : List (ℕ × Noted)) → In (k, es) u.held → matches k x ≡ false
  own_number views apart here j u other there (number.Caller c) es i = next (x.entry.caller == c) refl
    where
      next : (b : Bool) → (x.entry.caller == c) ≡ b → b ≡ false
      next false e = refl
      next true e =
          let same : x.entry.caller ≡ c = grind (arith, nat_tests) in
          absurd (other (apart j id u v (number.Caller c) es cs there here i (subst (λ (d : ℕ). In (number.Caller d, cs) v.held) same caller)))
  own_number views apart here j u other there (number.Actor a) es i = next (same_actor x.entry.actor a) refl
    where
      next : (b : Bool) → same_actor x.entry.actor a ≡ b → b ≡ false
      next false e = refl
      next true e =
          absurd (other (apart j id u v (number.Actor a) es as' there here i (subst (λ (d : ActorName). In (number.Actor d, as') v.held) (same_actor_is x.entry.actor a e) actor)))

has_caller_in : (hs : List Held) → has_caller hs ≡ true → (c : ℕ) × (es : List (ℕ × Noted)) × In (number.Caller c, es) hs
has_caller_in [] e = absurd cc
has_caller_in ((number.Caller c, es) ∷ hs) e = (c, es, inl refl)
has_caller_in ((number.Actor a, es) ∷ hs) e = let t = has_caller_in hs e in (t.0, t.1, inr t.2)

pub in_has_caller : (hs : List Held) (c : ℕ) (es : List (ℕ × Noted)) → In (number.Caller c, es) hs → has_caller hs ≡ true
in_has_caller [] c es i = absurd i
in_has_caller ((number.Caller d, fs) ∷ hs) c es i = refl
in_has_caller ((number.Actor a, fs) ∷ hs) c es (inl e) = let apart : number.Caller c ≡ number.Actor a = ap (λ (h : Held). h.0) e in absurd (cc apart)
in_has_caller ((number.Actor a, fs) ∷ hs) c es (inr i) = in_has_caller hs c es i

lawful-snoc : (r : Roster) (log : List Noted) (x : Noted) → Lawful r log → Fits r log x → Lawful r (log ++ x ∷ [])
lawful-snoc r log x l f p y q e =
    ⊎_elim
    (λ t. subst (λ (z : Noted). Fits r p z) t.1 (subst (λ (z : List Noted). Fits r z x) t.0 f))
    (λ t. l p y t.0 t.1)
    (last_split log p q x y e)

pub gained : (log : List Noted) (x : Noted) (k : Number) (fs : List (ℕ × Noted)) → fs ≡ at k log → (gain (length log) x (k, fs)).1 ≡ at k (log ++ x ∷ [])
gained log x k fs e = ap (λ (l : List (ℕ × Noted)). if matches k x then l ++ (length log, x) ∷ [] else l) e ∙ sym (at-snoc k log x)

unmoved : (log : List Noted) (x : Noted) (k : Number) → matches k x ≡ false → at k log ≡ at k (log ++ x ∷ [])
unmoved log x k e = sym (at-snoc k log x ∙ ap (λ (b : Bool). if b then at k log ++ (length log, x) ∷ [] else at k log) e)

-- a record
pub adds : (r : Roster) (slots id : ℕ) (me : Me (Unit {0}) View) (x : Noted) → MayAdd r me.0 x
    → Allows (KeptBySeat r) slots id me 8 (λ n. (n + 1) % 2 ^ 64) (λ found after. (after.1 ≡ me.1) × Adds r x me.0 found after.0)
adds r slots id me x may s kept wide here small =
    let v = me.0 in
    let cs = may.of_caller in
    let as' = may.of_actor in
    let caller = may.caller in
    let actor = may.actor in
    let now = may.moment_is in
    let room = may.room in
    let event = may.event_is in
    let timely = may.timely in
    let log = kept.log in
    let n : ℕ = length log in
    let own = kept.views id v here in
    let holds : has_caller v.held ≡ true = in_has_caller v.held x.entry.caller cs caller in
    let next : List Noted = log ++ x ∷ [] in
    let w : View = record { seen = next; olds = []; held = map (gain n x) v.held; clock = (gain n x (clock, v.clock)).1; clocks = [] } in
    let found : slice_index s.words 8 ≡ n = ap (λ (l : List ℕ). slice_index l 8) kept.word in
    let c_is = own.lists (number.Caller x.entry.caller) cs caller in
    let a_is = own.lists (number.Actor x.entry.actor) as' actor in
    let t_is = own.clock_is holds in
    let fits : Fits r log x = record {
      caller = c_is.0;
      actor = a_is.0;
      moment_is = now ∙ ap (latest 0) t_is.0;
      room = subst (λ (l : List (ℕ × Noted)). length l < 131072) c_is.1.0 room;
      event_is = event;
    } in
    let short = lawful-short r log kept.few kept.lawful in
    let up : (n + 1) % 2 ^ 64 ≡ length next = omega (arith, length-append log (x ∷ [])) in
    let known : Knows r next w = record {
      seen = prefix_self next;
      olds = λ old i. absurd i;
      lists = λ k es i. let t = in-gained n x v.held k es i in let o = own.lists k t.0 t.1 in let e = t.2 ∙ gained log x k t.0 o.1.0 in (o.0, (e, sym e));
      clock_is = λ h. let e = gained log x clock v.clock t_is.0 in (e, sym e);
      clocks = λ es h i. absurd i;
    } in
    -- another seat that has a caller's number keeps all of the clock
    let still_clock : (j : ℕ) (u : View) → j ≢ id → get_elem? s.views j ≡ some u → has_caller u.held ≡ true → (es : List (ℕ × Noted)) → IsAll log u.seen clock es → IsAll next u.seen clock es =
    λ j u other there h es t. ⊎_elim
    (λ (m : matches clock x ≡ false). (t.0 ∙ unmoved log x clock m, t.1))
    (λ all. let held = has_caller_in u.held h in let mine = all held.0 ((kept.views j u there).lists (number.Caller held.0) held.1 held.2).0 in
    absurd (other (kept.apart j id u v (number.Caller held.0) held.1 mine.0 there here held.2 mine.1)))
    timely in
    let others : (j : ℕ) (u : View) → j ≢ id → get_elem? s.views j ≡ some u → Knows r next u = λ j u other there. let k' = kept.views j u there in record {
      seen = prefix_trans u.seen log next k'.seen (prefix_snoc log x);
      olds = λ old i. prefix_trans old log next (k'.olds old i) (prefix_snoc log x);
      lists = λ k es i. let t = k'.lists k es i in
          let e = unmoved log x k (own_number r id v x cs as' caller actor s.views kept.apart here j u other there k es i) in
          (t.0, (t.1.0 ∙ e, t.1.1));
      clock_is = λ h. still_clock j u other there h u.clock (k'.clock_is h);
      clocks = λ es h i. still_clock j u other there h es (k'.clocks es h i);
    } in (
      w,
      keeps,
      tt,
      record {
        log = next;
        few = kept.few;
        word = rw (found, kept.word) (ap rule_words up);
        views = views_set r next s.views id w known others;
        front = someone_here (λ z. z.seen ≡ next) s.views id v w here refl;
        apart = apart_set s.views id v w here (λ k es i. let t = in-gained n x v.held k es i in (t.0, t.1)) kept.apart;
        all = λ k there. someone_set (Has k) s.views id v w here (λ t. ((gain n x (k, t.0)).1, in-gain n x v.held k t.0 t.1)) (kept.all k there);
        lawful = lawful-snoc r log x kept.lawful fits;
      },
      (
        refl,
        record {
          past = log;
          stamp = sym found;
          seen = refl;
          before = own.seen;
          olds = own.olds;
          held = ap (λ (m : ℕ). map (gain m x) v.held) (sym found);
          clock_is = ap (λ (m : ℕ). (gain m x (clock, v.clock)).1) (sym found);
          lists = λ k es i. sym (own.lists k es i).1.0;
          moment_is = λ h. sym t_is.0;
          lawful = lawful-snoc r log x kept.lawful fits;
          short = lawful-short r next kept.few (lawful-snoc r log x kept.lawful fits);
        },
      ),
    )

pub in-filter : (p : Held → Bool) (hs : List Held) (h : Held) → In h (filter p hs) → In h hs × (p h ≡ true)
in-filter p [] h i = absurd i
in-filter p (y ∷ hs) h i = next (in-filter p hs h) (p y) refl i
  where
    next : (In h (filter p hs) → In h hs × (p h ≡ true)) → (b : Bool) → p y ≡ b
        → In h (if b then y ∷ filter p hs else filter p hs) → In h (y ∷ hs) × (p h ≡ true)
    next f true e (inl s) = (inl s, ap p s ∙ e)
    next f true e (inr i) = let t = f i in (inr t.0, t.1)
    next f false e i = let t = f i in (inr t.0, t.1)

pub filter_has_caller : (p : Held → Bool) (hs : List Held) → has_caller (filter p hs) ≡ true → has_caller hs ≡ true
filter_has_caller p hs e = let t = has_caller_in (filter p hs) e in in_has_caller hs t.0 t.1 (in-filter p hs (number.Caller t.0, t.1) t.2).0

pub not_both : (b : Bool) → b ≡ true → not b ≡ true → ⊥
not_both true e f = absurd (cc f)
not_both false e f = absurd (cc e)

part_known : (r : Roster) (log : List Noted) (v : View) (p : Held → Bool) → Knows r log v → Knows r log record { seen = v.seen; olds = v.olds; held = filter p v.held; clock = v.clock; clocks = v.clocks }
part_known r log v p k = record {
  seen = k.seen;
  olds = k.olds;
  lists = λ j es i. k.lists j es (in-filter p v.held (j, es) i).0;
  clock_is = λ h. k.clock_is (filter_has_caller p v.held h);
  clocks = λ es h i. k.clocks es (filter_has_caller p v.held h) i;
}

pub in-kept : (p : Held → Bool) (hs : List Held) (h : Held) → In h hs → p h ≡ true → In h (filter p hs)
in-kept p [] h i e = absurd i
in-kept p (y ∷ hs) h (inl s) e = next (p y) (ap p (sym s) ∙ e)
  where
    next : (b : Bool) → b ≡ true → In h (if b then y ∷ filter p hs else filter p hs)
    next true f = inl s
    next false f = absurd (cc f)
in-kept p (y ∷ hs) h (inr i) e = next (p y) (in-kept p hs h i e)
  where
    next : (b : Bool) → In h (filter p hs) → In h (if b then y ∷ filter p hs else filter p hs)
    next true j = inr j
    next false j = j

-- a number is in one of two parts
parted : (k : Number) (v : View) (j : Number) → Has j v → Has j (handed_over k v) ⊎ Has j (only k v)
parted k v j (es, i) = next (same_number j k) refl
  where
    next : (b : Bool) → same_number j k ≡ b → Has j (handed_over k v) ⊎ Has j (only k v)
    next true e = inr (es, in-kept (λ (h : Held). same_number h.0 k) v.held (j, es) i e)
    next false e = inl (es, in-kept (λ (h : Held). not (same_number h.0 k)) v.held (j, es) i (ap not e))

-- a seat hands a number over
pub splits : (r : Roster) (id : ℕ) (v : View) (k : Number) → Splits (KeptBySeat r) id v (handed_over k v) (only k v)
splits r id v k s kept here =
    let log = kept.log in
    let own = kept.views id v here in
    let l : View = handed_over k v in
    let m : View = only k v in
    let before : Apart (set s.views id l) = apart_set s.views id v l here (λ j es i. (es, (in-filter (λ (h : Held). not (same_number h.0 k)) v.held (j, es) i).0)) kept.apart in
    let left : Knows r log l = part_known r log v (λ (h : Held). not (same_number h.0 k)) own in
    let right : Knows r log m = part_known r log v (λ (h : Held). same_number h.0 k) own in
    let views : (j : ℕ) (u : View) → get_elem? (set s.views id l) j ≡ some u → Knows r log u = views_set r log s.views id l left (λ j u _ e. kept.views j u e) in
    -- who holds a number of the new seat beside it
    let nobody : (i : ℕ) (a : View) (j : Number) (es fs : List (ℕ × Noted)) → get_elem? (set s.views id l) i ≡ some a → In (j, es) a.held → In (j, fs) m.held → ⊥ =
    λ i a j es fs e ia im.
    let t = in-filter (λ (h : Held). same_number h.0 k) v.held (j, fs) im in
    ⊎_elim
    (λ q. let u = in-filter (λ (h : Held). not (same_number h.0 k)) v.held (j, es) (subst (λ (z : View). In (j, es) z.held) (sym q.1) ia) in
    absurd (not_both (same_number j k) t.1 u.1))
    (λ q. q.0 (kept.apart i id a v j es fs q.1 here ia t.0))
    (at_set s.views id i l a e) in
    record {
      log = log;
      few = kept.few;
      word = kept.word;
      views = λ j u e. ⊎_elim (λ t. views j u t) (λ t. subst (Knows r log) t.1 right) (snoc_get (set s.views id l) m u j e);
      front = someone_split (λ z. z.seen ≡ log) s.views id v l m here (λ e. inl e) kept.front;
      all = λ j there. someone_split (Has j) s.views id v l m here (λ t. parted k v j t) (kept.all j there);
      apart = λ i j a b q es fs ea eb ia ib.
          ⊎_elim
          (λ ta. ⊎_elim
          (λ tb. before i j a b q es fs ta tb ia ib)
          (λ tb. absurd (nobody i a q es fs ta ia (subst (λ (z : View). In (q, fs) z.held) (sym tb.1) ib)))
          (snoc_get (set s.views id l) m b j eb))
          (λ ta. ⊎_elim
          (λ tb. absurd (nobody j b q fs es tb ib (subst (λ (z : View). In (q, es) z.held) (sym ta.1) ia)))
          (λ tb. ta.0 ∙ sym tb.0)
          (snoc_get (set s.views id l) m b j eb))
          (snoc_get (set s.views id l) m a i ea);
      lawful = kept.lawful;
    }

has_caller-append : (xs ys : List Held) → has_caller (xs ++ ys) ≡ true → (has_caller xs ≡ true) ⊎ ((has_caller xs ≡ false) × (has_caller ys ≡ true))
has_caller-append [] ys e = inr (refl, e)
has_caller-append (x ∷ xs) ys e = next (has_caller-append xs ys) (is_caller x) e
  where
    next : (has_caller (xs ++ ys) ≡ true → (has_caller xs ≡ true) ⊎ ((has_caller xs ≡ false) × (has_caller ys ≡ true))) → (b : Bool)
        → (if b then true else has_caller (xs ++ ys)) ≡ true → ((if b then true else has_caller xs) ≡ true) ⊎ (((if b then true else has_caller xs) ≡ false) × (has_caller ys ≡ true))
    next f true e = inl refl
    next f false e = f e

-- what is all of a number in a beginning is all of it in the longer of two
all_left : (log xs ys : List Noted) (k : Number) (es : List (ℕ × Noted)) → IsPrefix xs log → IsPrefix ys log → IsAll log xs k es → IsAll log (longer_history xs ys) k es
all_left log xs ys k es p q a =
    ⊎_elim
    (λ t. rw t.0 a)
    (λ t. rw t.0 (a.0, between k xs ys log (prefix_shorter xs ys log p q t.1) q (a.1 ∙ a.0) ∙ sym a.0))
    (longer_is xs ys)

all_right : (log xs ys : List Noted) (k : Number) (es : List (ℕ × Noted)) → IsPrefix xs log → IsPrefix ys log → IsAll log ys k es → IsAll log (longer_history xs ys) k es
all_right log xs ys k es p q a =
    ⊎_elim
    (λ t. rw t.0 (a.0, between k ys xs log (prefix_shorter ys xs log q p t.1) p (a.1 ∙ a.0) ∙ sym a.0))
    (λ t. rw t.0 a)
    (longer_is xs ys)

clock_in : (v : View) (es : List (ℕ × Noted)) → In es (clock_of v) → (has_caller v.held ≡ true) × (es ≡ v.clock)
clock_in v es i = next (has_caller v.held) refl i
  where
    next : (b : Bool) → has_caller v.held ≡ b → In es (if b then v.clock ∷ [] else []) → (has_caller v.held ≡ true) × (es ≡ v.clock)
    next true e (inl s) = (e, s)
    next true e (inr t) = absurd t
    next false e t = absurd t

both_known : (r : Roster) (log : List Noted) (v w : View) → Knows r log v → Knows r log w → Knows r log (both_seen v w)
both_known r log v w a b = record {
  seen = ⊎_elim (λ t. rw t.0 a.seen) (λ t. rw t.0 b.seen) (longer_is v.seen w.seen);
  olds = λ old i. olds_of old i;
  lists = λ k es i. ⊎_elim
      (λ t. let x = a.lists k es t in (x.0, all_left log v.seen w.seen k es a.seen b.seen x.1))
      (λ t. let x = b.lists k es t in (x.0, all_right log v.seen w.seen k es a.seen b.seen x.1))
      (in_parts (k, es) v.held w.held i);
  clock_is = λ h. ⊎_elim
      (λ t. rw t (all_left log v.seen w.seen clock v.clock a.seen b.seen (a.clock_is t)))
      (λ t. rw t.0 (all_right log v.seen w.seen clock w.clock a.seen b.seen (b.clock_is t.1)))
      (has_caller-append v.held w.held h);
  clocks = λ es h i. ⊎_elim
      (λ t. let q = clock_in v es t in subst (λ (l : List (ℕ × Noted)). IsAll log (longer_history v.seen w.seen) clock l) (sym q.1) (all_left log v.seen w.seen clock v.clock a.seen b.seen (a.clock_is q.0)))
      (λ t. let q = clock_in w es t in subst (λ (l : List (ℕ × Noted)). IsAll log (longer_history v.seen w.seen) clock l) (sym q.1) (all_right log v.seen w.seen clock w.clock a.seen b.seen (b.clock_is q.0)))
      (in_parts es (clock_of v) (clock_of w) i);
}
  where
    olds_of : (old : List Noted) → In old (v.seen ∷ w.seen ∷ []) → IsPrefix old log
    olds_of old (inl e) = subst (λ (z : List Noted). IsPrefix z log) (sym e) a.seen
    olds_of old (inr (inl e)) = subst (λ (z : List Noted). IsPrefix z log) (sym e) b.seen
    olds_of old (inr (inr i)) = absurd i

spent_known : (r : Roster) (log : List Noted) → Knows r log spent
spent_known r log = record { seen = (log, refl); olds = λ old i. absurd i; lists = λ k es i. absurd i; clock_is = λ h. absurd (cc h); clocks = λ es h i. absurd i }

-- a seat takes another in
pub joins : (r : Roster) (id : ℕ) (v : View) (other : ℕ) (w : View) → Joins (KeptBySeat r) id v other w (both_seen v w) spent
joins r id v other w s kept here apart_from there =
    let log = kept.log in
    let b : View = both_seen v w in
    let there' : get_elem? s.views other ≡ some w = ⊎_elim (λ t. absurd (apart_from t.0)) (λ t. t.1) (at_set s.views id other b w there) in
    let known : Knows r log b = both_known r log v w (kept.views id v here) (kept.views other w there') in
    let first : (j : ℕ) (u : View) → get_elem? (set s.views id b) j ≡ some u → Knows r log u = views_set r log s.views id b known (λ j u _ e. kept.views j u e) in
    -- who else holds a number of both
    let alone : (j : ℕ) (u : View) (k : Number) (es fs : List (ℕ × Noted)) → j ≢ id → j ≢ other → get_elem? s.views j ≡ some u → In (k, es) u.held → In (k, fs) b.held → ⊥ =
    λ j u k es fs ni no e iu ib. ⊎_elim
    (λ t. ni (kept.apart j id u v k es fs e here iu t))
    (λ t. no (kept.apart j other u w k es fs e there' iu t))
    (in_parts (k, fs) v.held w.held ib) in
    record {
      log = log;
      few = kept.few;
      word = kept.word;
      views = views_set r log (set s.views id b) other spent (spent_known r log) (λ j u _ e. first j u e);
      front = someone_join (λ z. z.seen ≡ log) s.views id other v w b here there' apart_from
          (λ e. longer_left log v.seen w.seen e (kept.views other w there').seen) (λ e. longer_right log v.seen w.seen e (kept.views id v here).seen) kept.front;
      all = λ k known. someone_join (Has k) s.views id other v w b here there' apart_from
          (λ t. (t.0, in_front (k, t.0) v.held w.held t.1)) (λ t. (t.0, in_back (k, t.0) v.held w.held t.1)) (kept.all k known);
      apart = λ i j x y k es fs ex ey ix iy.
          ⊎_elim
          (λ t. absurd (subst (λ (z : View). In (k, es) z.held) (sym t.1) ix))
          (λ t. ⊎_elim
          (λ q. absurd (subst (λ (z : View). In (k, fs) z.held) (sym q.1) iy))
          (λ q. ⊎_elim
          (λ m. ⊎_elim
          (λ n. m.0 ∙ sym n.0)
          (λ n. absurd (alone j y k fs es n.0 q.0 n.1 iy (subst (λ (z : View). In (k, es) z.held) (sym m.1) ix)))
          (at_set s.views id j b y q.1))
          (λ m. ⊎_elim
          (λ n. absurd (alone i x k es fs m.0 t.0 m.1 ix (subst (λ (z : View). In (k, fs) z.held) (sym n.1) iy)))
          (λ n. kept.apart i j x y k es fs m.1 n.1 ix iy)
          (at_set s.views id j b y q.1))
          (at_set s.views id i b x t.1))
          (at_set (set s.views id b) other j spent y ey))
          (at_set (set s.views id b) other i spent x ex);
      lawful = kept.lawful;
    }

callers_known : (r : Roster) (n : ℕ) → n ≤ r.callers → (k : Number) (es : List (ℕ × Noted)) → In (k, es) (caller_numbers n) → KnownNumber r k × (es ≡ [])
callers_known r zero le k es i = absurd i
callers_known r (suc n) le k es (inl e) = let same : number.Caller n ≡ k = sym (ap (λ (h : Held). h.0) e) in (subst (KnownNumber r) same (omega arith), ap (λ (h : Held). h.1) e)
callers_known r (suc n) le k es (inr i) = callers_known r n (omega arith) k es i

actors_known : (r : Roster) (as' bs : List ActorName) → ((a : ActorName) → In a as' → In a bs) → bs ≡ r.actors → (k : Number) (es : List (ℕ × Noted)) → In (k, es) (actor_numbers as') → KnownNumber r k × (es ≡ [])
actors_known r [] bs sub is k es i = absurd i
actors_known r (a ∷ as') bs sub is k es (inl e) = let same : number.Actor a ≡ k = sym (ap (λ (h : Held). h.0) e) in (subst (KnownNumber r) same (subst (In a) is (sub a (inl refl))), ap (λ (h : Held). h.1) e)
actors_known r (a ∷ as') bs sub is k es (inr i) = actors_known r as' bs (λ b j. sub b (inr j)) is k es i

pub in-callers : (n c : ℕ) → c < n → In (number.Caller c, []) (caller_numbers n)
in-callers zero c lt = absurd (omega arith)
in-callers (suc n) c lt = dite (ℕ_discrete c n)
    (λ (e : c ≡ n). inl (ap (λ (d : ℕ). (number.Caller d, [])) e))
    (λ (o : c ≢ n). inr (in-callers n c (omega arith)))

in-actors : (as' : List ActorName) (a : ActorName) → In a as' → In (number.Actor a, []) (actor_numbers as')
in-actors [] a i = absurd i
in-actors (b ∷ as') a (inl e) = inl (ap (λ (d : ActorName). (number.Actor d, [])) e)
in-actors (b ∷ as') a (inr i) = inr (in-actors as' a i)

-- the first seat
pub opens : (r : Roster) → r.callers ≤ 37 → KeptBySeat r record { words = rule_words 0; homes = []; views = newcomer r ∷ [] }
opens r few = record {
  log = [];
  few = few;
  word = refl;
  views = λ j u e. only_one j u e;
  front = (0, newcomer r, refl, refl);
  all = λ k known. (0, newcomer r, refl, has_all k known);
  apart = λ i j a b k es fs ea eb ia ib. sym (alone i a ea) ∙ alone j b eb;
  lawful = λ p x q e. absurd (empty_split p q x e);
}
  where
    empty_split : (p q : List Noted) (x : Noted) → [] ≡ p ++ x ∷ q → ⊥
    empty_split p q x e = absurd (omega (arith, ap length e, length-append p (x ∷ q)))

    alone : (j : ℕ) (u : View) → get_elem? (newcomer r ∷ []) j ≡ some u → 0 ≡ j
    alone zero u e = refl
    alone (suc j) u e = absurd (some-ne-none u (sym e))

    first : Knows r [] (newcomer r)
    first = record {
      seen = ([], refl);
      olds = λ old i. absurd i;
      lists = λ k es i. ⊎_elim
          (λ t. let x = callers_known r r.callers (omega arith) k es t in (x.0, (x.1, sym x.1)))
          (λ t. let x = actors_known r r.actors r.actors (λ a j. j) refl k es t in (x.0, (x.1, sym x.1)))
          (in_parts (k, es) (caller_numbers r.callers) (actor_numbers r.actors) i);
      clock_is = λ h. (refl, refl);
      clocks = λ es h i. absurd i;
    }

    has_all : (k : Number) → KnownNumber r k → Has k (newcomer r)
    has_all (number.Caller c) lt = ([], in_front (number.Caller c, []) (caller_numbers r.callers) (actor_numbers r.actors) (in-callers r.callers c lt))
    has_all (number.Actor a) i = ([], in_back (number.Actor a, []) (caller_numbers r.callers) (actor_numbers r.actors) (in-actors r.actors a i))

    only_one : (j : ℕ) (u : View) → get_elem? (newcomer r ∷ []) j ≡ some u → Knows r [] u
    only_one zero u e = subst (Knows r []) (some-injective (newcomer r) u e) first
    only_one (suc j) u e = absurd (some-ne-none u (sym e))

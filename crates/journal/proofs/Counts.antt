-- The counts of callers' entries go along with their lists.
use Rattle.std.proofs.Common.{filter, ◌≡◌, ◌≢◌, ℕ, ◌+◌, ◌<◌, ◌≤◌, ◌==◌, max, inl, inr, ⊎_elim, Bool, true, false, not, List, [], ◌∷◌, ◌++◌, length, map, set, slice_index, if◌then◌else◌, refl, ap, sym, subst, ◌∙◌, arith, length-append, length-set, get_or-set_same, get_or-set_other}
use Rattle.std.proofs.lemmas.Bool.Decides.{nat_tests}
use mathlib.Core.Logic.{dite}
use native.Mathlib.Decide.{ℕ_discrete, dec_lt}
use Rattle.std.proofs.lemmas.List.{get_or_past}
use Rattle.net_base.specs.declared.noted.Noted.{Noted}
use Rattle.net_base.specs.declared.noted.Number.{Number}
use Rattle.net_base.specs.declared.noted.Number.TheVariants as number
use Rattle.net_base.specs.Stamped.{In}
use Rattle.journal.specs.Rule.{Held, gain, same_number}
use Rattle.journal.specs.Tokens.{Counted}
use Rattle.journal.proofs.Lists.{in-gained, in-gain}
use Rattle.journal.proofs.Steps.{in-filter, not_both, in-kept}
use Rattle.net_base.proofs.Shared.{in_front, in_back, in_parts}

-- what stands in the lists before stands in them, gained, after
pub counts_gain : (counts : List ℕ) (hs : List Held) (n : ℕ) (x : Noted) (cs : List (ℕ × Noted)) → Counted counts hs → In (number.Caller x.entry.caller, cs) hs → length cs < 131072
    → (m : ℕ) → m ≡ slice_index counts x.entry.caller + 1 → Counted (set counts x.entry.caller m) (map (gain n x) hs)
counts_gain counts hs n x cs k held room m is =
    let c = x.entry.caller in
    let mine = k.each c cs held in
    let long = k.long in
    let here : slice_index (set counts c m) c ≡ m = get_or-set_same counts c m 0 (omega arith) in
    record {
      long = length-set counts c m ∙ long;
      each = λ d es i.
          let t = in-gained n x hs (number.Caller d) es i in
          let o = k.each d t.0 t.1 in
          next d es t.0 o t.2 (c == d) refl here;
      none = λ d. ⊎_elim
          (λ z. dite (ℕ_discrete c d)
          (λ e. inr (subst (λ (q : ℕ). (es : List (ℕ × Noted)) × In (number.Caller q, es) (map (gain n x) hs)) e ((gain n x (number.Caller c, cs)).1, in-gain n x hs (number.Caller c) cs held)))
          (λ ne. inl (get_or-set_other counts c d m 0 (λ e. ne (sym e)) ∙ z)))
          (λ z. inr ((gain n x (number.Caller d, z.0)).1, in-gain n x hs (number.Caller d) z.0 z.1))
          (k.none d);
    }
  where
    next : (d : ℕ) (es fs : List (ℕ × Noted)) → (d < 37) × (slice_index counts d ≡ length fs) × (length fs ≤ 131072) → es ≡ (gain n x (number.Caller d, fs)).1 → (b : Bool) → (x.entry.caller == d) ≡ b
        → slice_index (set counts x.entry.caller m) x.entry.caller ≡ m
        → (d < 37) × (slice_index (set counts x.entry.caller m) d ≡ length es) × (length es ≤ 131072)
    next d es fs o e true b here =
        let same : x.entry.caller ≡ d = grind (arith, nat_tests) in
        let mine = k.each x.entry.caller cs held in
        let long : length es ≡ length fs + 1 = ap length (e ∙ ap (λ (q : Bool). if q then fs ++ (n, x) ∷ [] else fs) b) ∙ length-append fs ((n, x) ∷ []) in
        let o1 = subst (λ (q : ℕ). slice_index counts q ≡ length fs) (sym same) o.1 in
        let there : slice_index (set counts x.entry.caller m) d ≡ m = subst (λ (q : ℕ). slice_index (set counts x.entry.caller m) q ≡ m) same here in
        (o.0, there ∙ omega arith, omega arith)
    next d es fs o e false b here =
        let other : x.entry.caller ≢ d = grind (arith, nat_tests) in
        let same : es ≡ fs = e ∙ ap (λ (q : Bool). if q then fs ++ (n, x) ∷ [] else fs) b in
        (o.0, get_or-set_other counts x.entry.caller d m 0 (λ q. other (sym q)) ∙ (o.1 ∙ sym (ap length same)), subst (λ (q : List (ℕ × Noted)). length q ≤ 131072) (sym same) o.2)

-- the counts of a caller that was handed over
pub counts_kept : (counts : List ℕ) (hs : List Held) (c : ℕ) → c < 37 → Counted counts hs → Counted (set counts c 0) (filter (λ (h : Held). not (same_number h.0 (number.Caller c))) hs)
counts_kept counts hs c lt k =
    let long = k.long in
    record {
      long = length-set counts c 0 ∙ long;
      each = λ d es i.
          let t = in-filter (λ (h : Held). not (same_number h.0 (number.Caller c))) hs (number.Caller d, es) i in
          let o = k.each d es t.0 in
          let ne : d ≢ c = λ e. not_both (d == c) (grind (arith, nat_tests, e)) t.1 in
          (o.0, get_or-set_other counts c d 0 0 ne ∙ o.1, o.2);
      none = λ d. dite (ℕ_discrete d c)
          (λ e. inl (subst (λ (q : ℕ). slice_index (set counts c 0) q ≡ 0) (sym e) (get_or-set_same counts c 0 0 (omega arith))))
          (λ ne. ⊎_elim
          (λ z. inl (get_or-set_other counts c d 0 0 ne ∙ z))
          (λ z. let no : (d == c) ≡ false = grind (arith, nat_tests, ne) in
          inr (z.0, in-kept (λ (h : Held). not (same_number h.0 (number.Caller c))) hs (number.Caller d, z.0) z.1 (ap not no)))
          (k.none d));
    }

pub counts_given : (counts zeros : List ℕ) (hs : List Held) (c m : ℕ) → c < 37 → length zeros ≡ 37 → ((d : ℕ) → slice_index zeros d ≡ 0) → m ≡ slice_index counts c → Counted counts hs
    → Counted (set zeros c m) (filter (λ (h : Held). same_number h.0 (number.Caller c)) hs)
counts_given counts zeros hs c m lt len zero_at is k = record {
  long = length-set zeros c m ∙ len;
  each = λ d es i.
      let t = in-filter (λ (h : Held). same_number h.0 (number.Caller c)) hs (number.Caller d, es) i in
      let o = k.each d es t.0 in
      let same_test : (d == c) ≡ true = t.1 in
      let e : d ≡ c = grind (arith, nat_tests) in
      (o.0, ap (slice_index (set zeros c m)) e ∙ (get_or-set_same zeros c m 0 (omega arith) ∙ (is ∙ (ap (slice_index counts) (sym e) ∙ o.1))), o.2);
  none = λ d. dite (ℕ_discrete d c)
      (λ e. ⊎_elim
      (λ z. inl (ap (slice_index (set zeros c m)) e ∙ (get_or-set_same zeros c m 0 (omega arith) ∙ (is ∙ (ap (slice_index counts) (sym e) ∙ z)))))
      (λ z. let yes_test : (d == c) ≡ true = grind (arith, nat_tests, e) in
      inr (z.0, in-kept (λ (h : Held). same_number h.0 (number.Caller c)) hs (number.Caller d, z.0) z.1 yes_test))
      (k.none d))
      (λ ne. inl (get_or-set_other zeros c d m 0 ne ∙ zero_at d));
}

-- the counts of two passes that have met, where each list is all of its number
pub counts_met : (as' bs cs : List ℕ) (hs ks : List Held) (all : Number → List (ℕ × Noted)) → length cs ≡ 37 → ((i : ℕ) → i < 37 → slice_index cs i ≡ max (slice_index as' i) (slice_index bs i))
    → ((k : Number) (es : List (ℕ × Noted)) → In (k, es) (hs ++ ks) → all k ≡ es) → Counted as' hs → Counted bs ks → Counted cs (hs ++ ks)
counts_met as' bs cs hs ks all long each agree a b = record {
  long = long;
  each = λ c es i. ⊎_elim
      (λ t. let o = a.each c es t in let m = each c o.0 in let o1 = o.1 in ⊎_elim
      (λ z. (o.0, m ∙ omega arith, o.2))
      (λ z. let q = b.each c z.0 z.1 in let q1 = q.1 in
      let same = sym (agree (number.Caller c) es i) ∙ agree (number.Caller c) z.0 (in_back (number.Caller c, z.0) hs ks z.1) in
      let lens : length es ≡ length z.0 = ap length same in
      (o.0, m ∙ omega arith, o.2))
      (b.none c))
      (λ t. let o = b.each c es t in let m = each c o.0 in let o1 = o.1 in ⊎_elim
      (λ z. (o.0, m ∙ omega arith, o.2))
      (λ z. let q = a.each c z.0 z.1 in let q1 = q.1 in
      let same = sym (agree (number.Caller c) es i) ∙ agree (number.Caller c) z.0 (in_front (number.Caller c, z.0) hs ks z.1) in
      let lens : length es ≡ length z.0 = ap length same in
      (o.0, m ∙ omega arith, o.2))
      (a.none c))
      (in_parts (number.Caller c, es) hs ks i);
  none = λ c. dite (dec_lt c 37)
      (λ lt. let m = each c lt in ⊎_elim
      (λ z. ⊎_elim
      (λ y. inl (m ∙ omega arith))
      (λ y. inr (y.0, in_back (number.Caller c, y.0) hs ks y.1))
      (b.none c))
      (λ z. inr (z.0, in_front (number.Caller c, z.0) hs ks z.1))
      (a.none c))
      (λ ge. inl (get_or_past cs c 0 (omega arith)));
}

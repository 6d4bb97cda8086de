-- How the first seat is dealt out to the books.
use Rattle.std.proofs.Common.{filter, replicate, ◌≡◌, ◌≢◌, ℕ, zero, suc, ◌+◌, ◌<◌, ◌≤◌, inl, inr, Bool, true, false, not, List, [], ◌∷◌, ◌++◌, length, take, drop, if◌then◌else◌, refl, ap, sym, subst, ◌∙◌, arith}
use Rattle.std.specs.Prelude.{slice_index_or}
use Rattle.std.proofs.lemmas.List.{append-nil}
use mathlib.Core.Option.{some, some-injective, some-ne-none}
use lib.ListN.{get_elem?}
use Rattle.atomic_table.specs.Seated.{TableId}
use Rattle.atomic_table.specs.declared.shared.Seat.{Seat}
use Rattle.atomic_table.proofs.Lists.{at_index, drop_at}
use Rattle.net_base.specs.declared.actor.ActorName.{ActorName}
use Rattle.net_base.specs.declared.noted.Noted.{Noted}
use Rattle.net_base.specs.declared.noted.Number.{Number}
use Rattle.net_base.specs.declared.noted.Number.TheVariants as number
use Rattle.net_base.specs.Stamped.{same_actor, at, clock, In}
use Rattle.journal.specs.declared.law.View.{View}
use Rattle.journal.specs.declared.tokens.Volume.{Volume}
use Rattle.journal.specs.Rule.{Held, IsSeat, IsCallerNumber, caller_numbers, actor_numbers, same_number, handed_over, only}
use Rattle.journal.specs.Tokens.{IsPass, Distinct, IsBlank, AreBlank, Dealt}
use Rattle.journal.proofs.After.{zeros_at}
use Rattle.net_base.proofs.Shared.{same_actor_is, same_itself}

abbrev keep : ActorName → Held → Bool
keep a h = not (same_number h.0 (number.Actor a))

abbrev give : ActorName → Held → Bool
give a h = same_number h.0 (number.Actor a)

kept_callers : (a : ActorName) (n : ℕ) (ys : List Held) → filter (keep a) (caller_numbers n ++ ys) ≡ caller_numbers n ++ filter (keep a) ys
kept_callers a zero ys = refl
kept_callers a (suc n) ys = let r = kept_callers a n ys in ap (λ (t : List Held). (number.Caller n, []) ∷ t) r

given_callers : (a : ActorName) (n : ℕ) (ys : List Held) → filter (give a) (caller_numbers n ++ ys) ≡ filter (give a) ys
given_callers a zero ys = refl
given_callers a (suc n) ys = given_callers a n ys

others : (a b : ActorName) → b ≢ a → same_actor b a ≡ false
others a b ne = next (same_actor b a) refl
  where
    next : (t : Bool) → same_actor b a ≡ t → t ≡ false
    next false e = refl
    next true e = absurd (ne (same_actor_is b a e))

kept_actors : (a : ActorName) (as' : List ActorName) → (In a as' → ⊥) → filter (keep a) (actor_numbers as') ≡ actor_numbers as'
kept_actors a [] not_in = refl
kept_actors a (b ∷ as') not_in =
    let r = kept_actors a as' (λ i. not_in (inr i)) in
    rw (others a b (λ e. not_in (inl (sym e)))) (ap (λ (t : List Held). (number.Actor b, []) ∷ t) r)

given_actors : (a : ActorName) (as' : List ActorName) → (In a as' → ⊥) → filter (give a) (actor_numbers as') ≡ []
given_actors a [] not_in = refl
given_actors a (b ∷ as') not_in = rw (others a b (λ e. not_in (inl (sym e)))) (given_actors a as' (λ i. not_in (inr i)))

take_at : (l : List ActorName) (i : ℕ) (a : ActorName) → get_elem? l i ≡ some a → take (suc i) l ≡ take i l ++ a ∷ []
take_at [] i a e = absurd (some-ne-none a (sym e))
take_at (x ∷ xs) zero a e = ap (λ (z : ActorName). z ∷ []) (some-injective x a e)
take_at (x ∷ xs) (suc i) a e = let r = take_at xs i a e in ap (λ (t : List ActorName). x ∷ t) r

take_length : (l : List ActorName) (i : ℕ) → i ≤ length l → length (take i l) ≡ i
take_length l zero le = refl
take_length [] (suc i) le = absurd (omega arith)
take_length (x ∷ xs) (suc i) le = let r = take_length xs i (omega arith) in ap suc r

drop_all : (l : List ActorName) (i : ℕ) → length l ≤ i → drop i l ≡ []
drop_all [] zero le = refl
drop_all [] (suc i) le = refl
drop_all (x ∷ xs) zero le = absurd (omega arith)
drop_all (x ∷ xs) (suc i) le = drop_all xs i (omega arith)

distinct_drop : (l : List ActorName) (i : ℕ) → Distinct l → Distinct (drop i l)
distinct_drop l zero d = d
distinct_drop [] (suc i) d = tt
distinct_drop (x ∷ xs) (suc i) d = distinct_drop xs i d.1

blank-snoc : (n m : ℕ) (as' : List ActorName) (bs : List Volume) (a : ActorName) (b : Volume) → AreBlank n as' bs → m ≡ n + length as' → IsBlank m a b → AreBlank n (as' ++ a ∷ []) (bs ++ b ∷ [])
blank-snoc n m [] [] a b r e k = (subst (λ (q : ℕ). IsBlank q a b) (e ∙ omega arith) k, tt)
blank-snoc n m (x ∷ as') (y ∷ bs) a b r e k = (r.0, blank-snoc (n + 1) m as' bs a b r.1 (e ∙ omega arith) k)
blank-snoc n m [] (y ∷ bs) a b r e k = absurd r
blank-snoc n m (x ∷ as') [] a b r e k = absurd r

module _ (callers : ℕ) (actors : List ActorName) (i : ℕ) (v : View) (books : List Volume) (d : Dealt callers actors i v books) (lt : i < length actors) (a : ActorName) (is : a ≡ slice_index_or actors i a) (distinct : Distinct actors) where
  elem : get_elem? actors i ≡ some a
  elem = at_index actors i a lt is

  cut : drop i actors ≡ a ∷ drop (suc i) actors
  cut = drop_at actors i a elem

  apart : In a (drop (suc i) actors) → ⊥
  apart = (subst Distinct cut (distinct_drop actors i distinct)).0

  held_is : v.held ≡ caller_numbers callers ++ (number.Actor a, []) ∷ actor_numbers (drop (suc i) actors)
  held_is = d.held ∙ ap (λ (l : List ActorName). caller_numbers callers ++ actor_numbers l) cut

  pub dealt_given : (only (number.Actor a) v).held ≡ (number.Actor a, []) ∷ []
  dealt_given =
      let own = same_itself a in
      ap (filter (give a)) held_is ∙ given_callers a callers ((number.Actor a, []) ∷ actor_numbers (drop (suc i) actors))
      ∙ (ap (λ (b : Bool). if b then (number.Actor a, []) ∷ filter (give a) (actor_numbers (drop (suc i) actors)) else filter (give a) (actor_numbers (drop (suc i) actors))) own
      ∙ ap (λ (t : List Held). (number.Actor a, []) ∷ t) (given_actors a (drop (suc i) actors) apart))

  dealt_kept : (handed_over (number.Actor a) v).held ≡ caller_numbers callers ++ actor_numbers (drop (suc i) actors)
  dealt_kept =
      let own = same_itself a in
      ap (filter (keep a)) held_is ∙ kept_callers a callers ((number.Actor a, []) ∷ actor_numbers (drop (suc i) actors))
      ∙ ap (λ (t : List Held). caller_numbers callers ++ t)
      (ap (λ (b : Bool). if not b then (number.Actor a, []) ∷ filter (keep a) (actor_numbers (drop (suc i) actors)) else filter (keep a) (actor_numbers (drop (suc i) actors))) own ∙ kept_actors a (drop (suc i) actors) apart)

  pub dealt_next : (w : View) (b : Volume) → w ≡ handed_over (number.Actor a) v → IsBlank i a b → Dealt callers actors (i + 1) w (books ++ b ∷ [])
  dealt_next w b e k =
      let up : suc i ≡ i + 1 = omega arith in
      let whole : Dealt callers actors (i + 1) (handed_over (number.Actor a) v) (books ++ b ∷ []) = record {
        within = omega arith;
        seen = d.seen;
        clock_is = d.clock_is;
        held = dealt_kept ∙ ap (λ (q : ℕ). caller_numbers callers ++ actor_numbers (drop q actors)) up;
        books_are = subst (λ (l : List ActorName). AreBlank 0 l (books ++ b ∷ [])) (sym (take_at actors i a elem) ∙ ap (λ (q : ℕ). take q actors) up)
            (blank-snoc 0 i (take i actors) books a b d.books_are (sym (take_length actors i d.within) ∙ omega arith) k);
      } in
      subst (λ (z : View). Dealt callers actors (i + 1) z (books ++ b ∷ [])) (sym e) whole

-- the numbers of the callers, all without entries
callers_only : (n m : ℕ) → n ≤ m → (k : Number) (es : List (ℕ × Noted)) → In (k, es) (caller_numbers n) → (es ≡ []) × IsCallerNumber k
callers_only zero m le k es i = absurd i
callers_only (suc n) m le k es (inl e) = (ap (λ (h : Held). h.1) e, subst IsCallerNumber (sym (ap (λ (h : Held). h.0) e)) tt)
callers_only (suc n) m le k es (inr i) = callers_only n m (omega arith) k es i

caller_below : (n m : ℕ) → n ≤ m → (c : ℕ) (es : List (ℕ × Noted)) → In (number.Caller c, es) (caller_numbers n) → c < m
caller_below zero m le c es i = absurd i
caller_below (suc n) m le c es (inl e) = let s : number.Caller c ≡ number.Caller n = ap (λ (h : Held). h.0) e in let q : c ≡ n = cc s in omega arith
caller_below (suc n) m le c es (inr i) = caller_below n m (omega arith) c es i

pub all_dealt : (callers : ℕ) (actors : List ActorName) (i : ℕ) (v : View) (books : List Volume) → Dealt callers actors i v books → length actors ≤ i → v.held ≡ caller_numbers callers
all_dealt callers actors i v books d le = d.held ∙ ap (λ (l : List ActorName). caller_numbers callers ++ actor_numbers l) (drop_all actors i le) ∙ append-nil (caller_numbers callers)

pub first_pass : (table : TableId) (s : Seat (Unit {0}) View) (callers : ℕ) (actors : List ActorName) (i : ℕ) (books : List Volume) → IsSeat table s → Dealt callers actors i s.me.0 books → length actors ≤ i → callers ≤ 37
    → IsPass table s (replicate 37 0)
first_pass table s callers actors i books seat d le few =
    let held = all_dealt callers actors i s.me.0 books d le in record {
      seat = seat;
      agrees = record {
        lists = λ k es j. let t = callers_only callers callers (omega arith) k es (subst (λ (hs : List Held). In (k, es) hs) held j) in ap (at k) d.seen ∙ sym t.0;
        clock_is = λ h. ap (at clock) d.seen ∙ sym d.clock_is;
      };
      callers = λ k es j. (callers_only callers callers (omega arith) k es (subst (λ (hs : List Held). In (k, es) hs) held j)).1;
      counted = record {
        long = refl;
        each = λ c es j.
            let k = subst (λ (hs : List Held). In (number.Caller c, es) hs) held j in
            let t = callers_only callers callers (omega arith) (number.Caller c) es k in
            (caller_below callers 37 few c es k, zeros_at 37 c ∙ ap length (sym t.0), subst (λ (l : List (ℕ × Noted)). length l ≤ 131072) (sym t.0) (omega arith));
        none = λ c. inl (zeros_at 37 c);
      };
    }

-- The results of a script's steps, by the replies at which a number of steps are finished.
use Rattle.std.proofs.Common.{◌≡◌, ℕ, zero, suc, ◌+◌, ◌-◌, ◌<◌, ◌≤◌, ◌==◌, Bool, true, false, cond, List, [], ◌∷◌, ◌++◌, length, Option, Some, None, nat_lt, refl, sym, ap, subst, ◌∙◌, append-nil, append_assoc, arith, eq-eqb}
use Rattle.std.specs.Prelude.{map}
use Rattle.std.specs.List.{range_with_len}
use Rattle.std.proofs.lemmas.Bool.{eqb-true, eqb-false, ne_eqb, false≢true}
use Rattle.std.proofs.lemmas.Bool.Decides.{nat_tests}
use Rattle.net_base.specs.declared.reply.Reply.{Reply}
use Rattle.net_base.specs.declared.world.Script.{Script}
use Rattle.net_base.specs.declared.world.Step.{Step}
use Rattle.net_base.specs.Next.{finished_by}
use Rattle.net_base.specs.Scripts.{Kept, at_first, heard_replies, kept_after, position, step_play}
use Rattle.net_base.specs.Steps.{Ask, Asking, Asks, Ends, Finished, Names, Play, Position, Stand, position_by, stands}
use Rattle.net_base.specs.Versions.{Tuples}
use Rattle.turn_orders.specs.Results.{results_by, step_result, step_results}
use Rattle.order_search.specs.Marks.{replies_from, reply_if, result_at}

-- ---- replies at which a number of steps are finished

same_suc : (a b : ℕ) → (suc a == suc b) ≡ (a == b)
same_suc a b = at (a == b) refl
  where
    at : (v : Bool) → (a == b) ≡ v → (suc a == suc b) ≡ (a == b)
    at true e = eq-eqb (suc a) (suc b) (ap suc (eqb-true a b e)) ∙ sym e
    at false e = ne_eqb (suc a) (suc b) (λ is. eqb-false a b e (omega (arith, is))) ∙ sym e

-- after the replies that were said, one step more is finished than g says
module _ (f g : List Reply → ℕ) (said : List Reply) (more : (x : List Reply) → f (said ++ x) ≡ suc (g x)) where
  later_none : (pre rs : List Reply) → replies_from f 0 (said ++ pre) rs ≡ []
  later_none pre [] = refl
  later_none pre (r ∷ rs) =
      ap (λ (b : Bool). reply_if b r (replies_from f 0 ((said ++ pre) ++ r ∷ []) rs)) (ne_eqb (f (said ++ pre)) 0 (λ is. omega (arith, is, more pre)))
      ∙ (ap (λ (b : List Reply). replies_from f 0 b rs) (append_assoc said pre (r ∷ [])) ∙ later_none (pre ++ r ∷ []) rs)

  later_one : (n : ℕ) (pre rs : List Reply) → replies_from f (suc n) (said ++ pre) rs ≡ replies_from g n pre rs
  later_one n pre [] = refl
  later_one n pre (r ∷ rs) =
      ap (λ (b : Bool). reply_if b r (replies_from f (suc n) ((said ++ pre) ++ r ∷ []) rs)) (ap (λ (m : ℕ). m == suc n) (more pre) ∙ same_suc (g pre) n)
      ∙ ap (reply_if (g pre == n) r) (ap (λ (b : List Reply). replies_from f (suc n) b rs) (append_assoc said pre (r ∷ [])) ∙ later_one n (pre ++ r ∷ []) rs)

-- ---- the replies of a play

-- how many steps are finished, by the place in the first one
abbrev by_stand : (Names → List Reply → List Reply → ℕ) → Stand → List Reply → ℕ
by_stand inner (Asking ask) heard = 0
by_stand inner (Finished names later) heard = suc (inner names heard later)

record Splits (f : List Reply → ℕ) (inner : Names → List Reply → List Reply → ℕ) (said : List Reply) (q : Play) (names : Names) (rs later : List Reply) : Type 0 where
  pub first : replies_from f 0 said rs ≡ heard_replies q rs
  pub others : (n : ℕ) → replies_from f (suc n) said rs ≡ replies_from (inner names (said ++ heard_replies q rs)) n [] later

splits : (f : List Reply → ℕ) (inner : Names → List Reply → List Reply → ℕ) (said : List Reply) (q : Play)
    → ((x : List Reply) → f (said ++ x) ≡ by_stand inner (stands q x) (said ++ heard_replies q x))
    → (names : Names) (rs later : List Reply) → stands q rs ≡ Finished names later → Splits f inner said q names rs later
splits f inner said (Ends bound) follows names rs later is =
    subst (λ (o : Names × List Reply). Splits f inner said (Ends bound) o.0 rs o.1) (parts_of is) (record {
      first = ap (λ (b : List Reply). replies_from f 0 b rs) (sym (append-nil said)) ∙ later_none f (inner bound (said ++ [])) said follows [] rs;
      others = λ n.
          ap (λ (b : List Reply). replies_from f (suc n) b rs) (sym (append-nil said))
          ∙ later_one f (inner bound (said ++ [])) said follows n [] rs;
    })
  where
    of_stand : Stand → Names × List Reply
    of_stand (Asking ask) = (bound, [])
    of_stand (Finished n l) = (n, l)

    parts_of : Finished bound rs ≡ Finished names later → ◌≡◌ {A = Names × List Reply} (bound, rs) (names, later)
    parts_of e = ap of_stand e
splits f inner said (Asks a e next) follows names [] later is = absurd (false≢true (sym (ap is_asking is)))
  where
    is_asking : Stand → Bool
    is_asking (Asking ask) = true
    is_asking (Finished n l) = false
splits f inner said (Asks a e next) follows names (r ∷ rs) later is =
    let rest = splits f inner (said ++ r ∷ []) (next r) onward names rs later is in record {
      first =
          ap (λ (b : Bool). reply_if b r (replies_from f 0 (said ++ r ∷ []) rs)) (eq-eqb (f said) 0 none)
          ∙ ap (λ (xs : List Reply). r ∷ xs) rest.first;
      others = λ n.
          ap (λ (b : Bool). reply_if b r (replies_from f (suc n) (said ++ r ∷ []) rs)) (ne_eqb (f said) (suc n) (λ is. omega (arith, is, none)))
          ∙ (rest.others n
          ∙ ap (λ (h : List Reply). replies_from (inner names h) n [] later) (append_assoc said (r ∷ []) (heard_replies (next r) rs)));
    }
  where
    none : f said ≡ 0
    none = ap f (sym (append-nil said)) ∙ follows []

    onward : (x : List Reply) → f ((said ++ r ∷ []) ++ x) ≡ by_stand inner (stands (next r) x) ((said ++ r ∷ []) ++ heard_replies (next r) x)
    onward x =
        ap f (append_assoc said (r ∷ []) x)
        ∙ (follows (r ∷ x) ∙ ap (by_stand inner (stands (next r) x)) (sym (append_assoc said (r ∷ []) (heard_replies (next r) x))))

-- ---- the steps of a script

-- how many of these steps are finished
abbrev finished_in : ℕ → List Step → Kept → List Reply → ℕ
finished_in h ss k rs = length ss - length (position h ss k rs).left

left_within : (h : ℕ) (ss : List Step) (k : Kept) (rs : List Reply) → length (position h ss k rs).left ≤ length ss
left_within h [] k rs = omega arith
left_within h (s ∷ ss) k rs = at (λ (names : Names) (later : List Reply). left_within h ss (kept_after k s names (heard_replies (step_play h k s) rs)) later) (stands (step_play h k s) rs)
  where
    at : ((names : Names) (later : List Reply) → length (position h ss (kept_after k s names (heard_replies (step_play h k s) rs)) later).left ≤ length ss) → (t : Stand)
        → length (position_by t (s ∷ ss) (λ (names : Names) (later : List Reply). position h ss (kept_after k s names (heard_replies (step_play h k s) rs)) later)).left ≤ suc (length ss)
    at within (Asking ask) = omega arith
    at within (Finished names later) = omega (arith, within names later)

-- that many, by the place in the first one
finished_by_stand : (h : ℕ) (s : Step) (ss : List Step) (k : Kept) (rs : List Reply)
    → finished_in h (s ∷ ss) k rs
    ≡ by_stand (λ (names : Names) (heard later : List Reply). finished_in h ss (kept_after k s names heard) later) (stands (step_play h k s) rs) (heard_replies (step_play h k s) rs)
finished_by_stand h s ss k rs = at (stands (step_play h k s) rs)
  where
    at : (t : Stand)
        → length (s ∷ ss) - length (position_by t (s ∷ ss) (λ (names : Names) (later : List Reply). position h ss (kept_after k s names (heard_replies (step_play h k s) rs)) later)).left
        ≡ by_stand (λ (names : Names) (heard later : List Reply). finished_in h ss (kept_after k s names heard) later) t (heard_replies (step_play h k s) rs)
    at (Asking ask) = omega arith
    at (Finished names later) = omega (arith, left_within h ss (kept_after k s names (heard_replies (step_play h k s) rs)) later)

abbrev result_in : ℕ → List Step → Kept → List Reply → ℕ → Option Reply
result_in h ss k rs n = cond (nat_lt n (finished_in h ss k rs)) (step_result (replies_from (finished_in h ss k) n [] rs)) None

map_next : {A : Type 0} (f : ℕ → A) (a n : ℕ) → map f (range_with_len (a + 1) n) ≡ map (λ (m : ℕ). f (suc m)) (range_with_len a n)
map_next f a zero = refl
map_next {A} f a (suc n) = let e : a + 1 ≡ suc a = omega arith in
    ap (λ (m : ℕ). f m ∷ map f (range_with_len (a + 1 + 1) n)) e ∙ ap (λ (xs : List A). f (suc a) ∷ xs) (map_next f (a + 1) n)

map_same : {A : Type 0} (f g : ℕ → A) (a n : ℕ) → ((m : ℕ) → f m ≡ g m) → map f (range_with_len a n) ≡ map g (range_with_len a n)
map_same f g a zero same = refl
map_same {A} f g a (suc n) same = ap (λ (x : A). x ∷ map f (range_with_len (a + 1) n)) (same a) ∙ ap (λ (xs : List A). g a ∷ xs) (map_same f g (a + 1) n same)

none_for : (f : ℕ → Option Reply) (a : ℕ) (ss : List Step) → ((m : ℕ) → f m ≡ None) → map (λ (s : Step). None) ss ≡ map f (range_with_len a (length ss))
none_for f a [] none = refl
none_for f a (s ∷ ss) none =
    ap (λ (xs : List (Option Reply)). None ∷ xs) (none_for f (a + 1) ss none) ∙ ap (λ (o : Option Reply). o ∷ map f (range_with_len (a + 1) (length ss))) (sym (none a))

pub results_in : (h : ℕ) (ss : List Step) (k : Kept) (rs : List Reply) → step_results h ss k rs ≡ map (result_in h ss k rs) (range_with_len 0 (length ss))
results_in h [] k rs = refl
results_in h (s ∷ ss) k rs = at (λ (j : Kept) (later : List Reply). results_in h ss j later) (stands (step_play h k s) rs) refl
  where
    at : ((j : Kept) (later : List Reply) → step_results h ss j later ≡ map (result_in h ss j later) (range_with_len 0 (length ss))) → (t : Stand) → stands (step_play h k s) rs ≡ t
        → results_by t (heard_replies (step_play h k s) rs) (s ∷ ss)
        (λ (names : Names) (later : List Reply). step_results h ss (kept_after k s names (heard_replies (step_play h k s) rs)) later)
        ≡ map (result_in h (s ∷ ss) k rs) (range_with_len 0 (length (s ∷ ss)))
    at rest (Asking ask) is = none_for (result_in h (s ∷ ss) k rs) 0 (s ∷ ss) none
      where
        none : (n : ℕ) → result_in h (s ∷ ss) k rs n ≡ None
        none n =
            let zero_is : finished_in h (s ∷ ss) k rs ≡ 0 =
            finished_by_stand h s ss k rs
            ∙ ap (λ (t : Stand). by_stand (λ (names : Names) (heard later : List Reply). finished_in h ss (kept_after k s names heard) later) t (heard_replies (step_play h k s) rs)) is in
            let no_ : nat_lt n (finished_in h (s ∷ ss) k rs) ≡ false = grind (arith, nat_tests, zero_is) in
            ap (λ (b : Bool). cond b (step_result (replies_from (finished_in h (s ∷ ss) k) n [] rs)) None) no_
    at rest (Finished names later) is =
        ap (λ (o : Option Reply). o ∷ step_results h ss kept later) (sym first)
        ∙ ap (λ (xs : List (Option Reply)). result_in h (s ∷ ss) k rs 0 ∷ xs)
        (rest kept later ∙ (map_same (result_in h ss kept later) (λ (m : ℕ). result_in h (s ∷ ss) k rs (suc m)) 0 (length ss) (λ n. sym (others n))
        ∙ sym (map_next (result_in h (s ∷ ss) k rs) 0 (length ss))))
      where
        kept : Kept
        kept = kept_after k s names (heard_replies (step_play h k s) rs)

        count : finished_in h (s ∷ ss) k rs ≡ suc (finished_in h ss (kept_after k s names (heard_replies (step_play h k s) rs)) later)
        count =
            finished_by_stand h s ss k rs
            ∙ ap (λ (t : Stand). by_stand (λ (names : Names) (heard later : List Reply). finished_in h ss (kept_after k s names heard) later) t (heard_replies (step_play h k s) rs)) is

        split : Splits (finished_in h (s ∷ ss) k) (λ (names : Names) (heard later : List Reply). finished_in h ss (kept_after k s names heard) later) [] (step_play h k s) names rs later
        split = splits (finished_in h (s ∷ ss) k) (λ (names : Names) (heard later : List Reply). finished_in h ss (kept_after k s names heard) later) [] (step_play h k s)
            (λ x. finished_by_stand h s ss k x) names rs later is

        first : result_in h (s ∷ ss) k rs 0 ≡ step_result (heard_replies (step_play h k s) rs)
        first =
            let yes_ : nat_lt 0 (finished_in h (s ∷ ss) k rs) ≡ true = grind (arith, nat_tests, count) in
            ap (λ (b : Bool). cond b (step_result (replies_from (finished_in h (s ∷ ss) k) 0 [] rs)) None) yes_ ∙ ap step_result split.first

        others : (n : ℕ) → result_in h (s ∷ ss) k rs (suc n) ≡ result_in h ss (kept_after k s names (heard_replies (step_play h k s) rs)) later n
        others n =
            let same : nat_lt (suc n) (finished_in h (s ∷ ss) k rs) ≡ nat_lt n (finished_in h ss (kept_after k s names (heard_replies (step_play h k s) rs)) later) =
            grind (arith, nat_tests, count) in
            ap (λ (b : Bool). cond b (step_result (replies_from (finished_in h (s ∷ ss) k) (suc n) [] rs)) None) same
            ∙ ap (λ (xs : List Reply). cond (nat_lt n (finished_in h ss (kept_after k s names (heard_replies (step_play h k s) rs)) later)) (step_result xs) None) (split.others n)

-- the results of a whole script
pub results_are : (zone : Tuples) (s : Script) (rs : List Reply)
    → step_results s.host s.steps (at_first zone) rs ≡ map (result_at zone s rs) (range_with_len 0 (length s.steps))
results_are zone s rs = results_in s.host s.steps (at_first zone) rs

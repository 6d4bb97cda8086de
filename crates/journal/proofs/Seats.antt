-- Some seat's view is so, before and after a step.
use Rattle.std.proofs.Common.{◌≡◌, ◌≢◌, ℕ, zero, suc, ◌⊎◌, ⊎_elim, List, [], ◌∷◌, ◌++◌, length, set, refl, ap, sym, subst, ◌∙◌}
use mathlib.Core.Option.{some, some-injective, some-ne-none}
use mathlib.Core.Logic.{dite}
use native.Mathlib.Decide.{ℕ_discrete}
use lib.ListN.{get_elem?}
use Rattle.atomic_table.proofs.Lists.{set_here, set_else}
use Rattle.journal.specs.declared.law.View.{View}
use Rattle.journal.specs.Rule.{Someone, spent}
use Rattle.journal.proofs.Lists.{get_within}

get_left : (l : List View) (a b : View) (j : ℕ) → get_elem? l j ≡ some b → get_elem? (l ++ a ∷ []) j ≡ some b
get_left [] a b j e = absurd (some-ne-none b (sym e))
get_left (x ∷ l) a b zero e = e
get_left (x ∷ l) a b (suc j) e = get_left l a b j e

get_last : (l : List View) (a : View) → get_elem? (l ++ a ∷ []) (length l) ≡ some a
get_last [] a = refl
get_last (x ∷ l) a = get_last l a

same_view : (views : List View) (i j : ℕ) (v u : View) → get_elem? views i ≡ some v → get_elem? views j ≡ some u → j ≡ i → u ≡ v
same_view views i j v u e f s = some-injective u v (sym f ∙ (ap (get_elem? views) s ∙ e))

module _ (P : View → Type 0) (views : List View) where
  pub someone_here : (id : ℕ) (v w : View) → get_elem? views id ≡ some v → P w → Someone P (set views id w)
  someone_here id v w here p = (id, w, set_here views id w (get_within views v id here), p)

  pub someone_set : (id : ℕ) (v w : View) → get_elem? views id ≡ some v → (P v → P w) → Someone P views → Someone P (set views id w)
  someone_set id v w here f (i, u, e, p) =
      dite (ℕ_discrete i id)
      (λ (s : i ≡ id). someone_here id v w here (f (subst P (same_view views id i v u here e s) p)))
      (λ (o : i ≢ id). (i, u, set_else views id i w o ∙ e, p))

  pub someone_split : (id : ℕ) (v l m : View) → get_elem? views id ≡ some v → (P v → P l ⊎ P m) → Someone P views → Someone P (set views id l ++ m ∷ [])
  someone_split id v l m here f (i, u, e, p) =
      dite (ℕ_discrete i id)
      (λ (s : i ≡ id). ⊎_elim
      (λ (q : P l). (id, l, get_left (set views id l) m l id (set_here views id l (get_within views v id here)), q))
      (λ (q : P m). (length (set views id l), m, get_last (set views id l) m, q))
      (f (subst P (same_view views id i v u here e s) p)))
      (λ (o : i ≢ id). (i, u, get_left (set views id l) m u i (set_else views id i l o ∙ e), p))

  pub someone_join : (id other : ℕ) (v w b : View) → get_elem? views id ≡ some v → get_elem? views other ≡ some w → other ≢ id → (P v → P b) → (P w → P b) → Someone P views → Someone P (set (set views id b) other spent)
  someone_join id other v w b here there apart f g (i, u, e, p) =
      let mine : P b → Someone P (set (set views id b) other spent) = λ q. (id, b, set_else (set views id b) other id spent (λ s. apart (sym s)) ∙ set_here views id b (get_within views v id here), q) in
      dite (ℕ_discrete i id)
      (λ (s : i ≡ id). mine (f (subst P (same_view views id i v u here e s) p)))
      (λ (o : i ≢ id). dite (ℕ_discrete i other)
      (λ (s : i ≡ other). mine (g (subst P (same_view views other i w u there e s) p)))
      (λ (n : i ≢ other). (i, u, set_else (set views id b) other i spent n ∙ (set_else views id i b o ∙ e), p)))

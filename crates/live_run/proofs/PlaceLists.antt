-- Which scripts can get more steps.
use Rattle.std.proofs.Common.{◌≡◌, ℕ, zero, suc, ◌+◌, ◌<◌, ◌==◌, ◌⊎◌, Bool, true, false, List, [], ◌∷◌, ◌++◌, length, Some, None, slice_get, inl, inr, refl, sym, ap, subst, ◌∙◌, arith}
use Rattle.std.specs.Prelude.{get_or, slice_set}
use Rattle.std.proofs.lemmas.Bool.{eqb-true, false≢true}
use Rattle.std.proofs.lemmas.List.{length-append}
use Rattle.std.proofs.lemmas.Option.{none-some, same_Some, slice_get_read}
use Rattle.net_base.specs.declared.history.Entry.{Entry}
use Rattle.net_base.specs.declared.world.Script.{Script}
use Rattle.net_base.specs.declared.world.Step.{Step}
use Rattle.net_base.specs.declared.world.World.{World}
use Rattle.net_base.specs.StepWords.{is_step}
use Rattle.net_base.specs.World.{IsWorld}
use Rattle.std.specs.List.{list_all}
use Rattle.grown_laws.specs.Grown.{HasNextAtMoves, grown, grown_scripts, longer}
use Rattle.plain_runner.specs.Resting.{Rests}
use Rattle.plain_runner.specs.declared.resting.Resting.{Resting}
use Rattle.live_run.specs.LiveWorlds.{ArePlaces, Begins, GrownFrom, HadNext, IsPlace, More, Narrows}

-- One more.

last_or_before : (xs : List Bool) (b : Bool) (k : ℕ) → slice_get (xs ++ b ∷ []) k ≡ Some true → (slice_get xs k ≡ Some true) ⊎ ((k ≡ length xs) × (b ≡ true))
last_or_before [] b zero is = inr (refl, same_Some b true is)
last_or_before [] b (suc k) is = absurd (none-some true is)
last_or_before (x ∷ xs) b zero is = inl is
last_or_before (x ∷ xs) b (suc k) is =
    elim (last_or_before xs b k is) [
      | inl before ↦ inl before
      | inr last ↦ inr (ap suc last.0, last.1)
    ]

empty_is : (ss : List Step) → (length ss == 0) ≡ true → ss ≡ []
empty_is [] is = refl
empty_is (s ∷ ss) is = absurd (omega (arith, eqb-true (length (s ∷ ss)) 0 is))

places_on : (w : World) (grows : List Bool) (s : Script) (b : Bool) → slice_get w.scripts (length grows) ≡ Some s → b ≡ (length s.steps == 0)
    → ArePlaces w grows → ArePlaces w (grows ++ b ∷ [])
places_on w grows s b there empty are c is =
    elim (last_or_before grows b c is) [
      | inl before ↦ are c before
      | inr last ↦ record {
        script = s;
        is = ap (slice_get w.scripts) last.0 ∙ there;
        empty = empty_is s.steps (sym empty ∙ last.1);
      }
    ]

-- the first n scripts and one more
pub place_pushed : (w : World) (n : ℕ) (grows : List Bool) (s : Script) (b : Bool) → length grows ≡ n → slice_get w.scripts n ≡ Some s → b ≡ (length s.steps == 0)
    → ArePlaces w grows → (length (grows ++ b ∷ []) ≡ n + 1) × ArePlaces w (grows ++ b ∷ [])
place_pushed w n grows s b count there empty are =
    (length-append grows (b ∷ []) ∙ ap (λ (k : ℕ). k + 1) count, places_on w grows s b (ap (slice_get w.scripts) count ∙ there) empty are)

-- the element at an index
pub got : {A : Type 0} (xs : List A) (i : ℕ) (x : A) → i < length xs → x ≡ get_or xs i x → slice_get xs i ≡ Some x
got xs i x lt is = slice_get_read xs (length xs) i x refl lt is

pub no_place : (w : World) → ArePlaces w []
no_place w c is = absurd (none-some true is)

-- One less.

pub lowered : (xs : List Bool) (i : ℕ) → Narrows xs (slice_set xs i false)
lowered [] i c is = is
lowered (x ∷ xs) zero zero is = absurd (false≢true (same_Some false true is))
lowered (x ∷ xs) zero (suc c) is = is
lowered (x ∷ xs) (suc i) zero is = is
lowered (x ∷ xs) (suc i) (suc c) is = lowered xs i c is

pub narrows_on : (a b c : List Bool) → Narrows a b → Narrows b c → Narrows a c
narrows_on a b c first then_ k is = first k (then_ k is)

-- A step begins.

module _ (worlds : (w : World) (c : ℕ) (more : List Step) → IsWorld w → list_all is_step more ≡ true → IsWorld (grown w c more))
    (stay : (w : World) (c d : ℕ) (more : List Step) (h : List Entry) → HasNextAtMoves w c h → HasNextAtMoves (grown w d more) c h)
    (runs : (w : World) (c : ℕ) (more : List Step) (r : Resting) → Rests w r → IsWorld (grown w c more) → HasNextAtMoves w c r.history.entries → Rests (grown w c more) r) where
  all_one : (s : Step) → is_step s ≡ true → list_all is_step (s ∷ []) ≡ true
  all_one s is = rw is refl

  pub rests_grown : (w : World) (c : ℕ) (s : Step) (r : Resting) (grows : List Bool) → Rests w r → HadNext w r.history.entries grows → slice_get grows c ≡ Some true
      → is_step s ≡ true → Rests (grown w c (s ∷ [])) r
  rests_grown w c s r grows rests had can is =
      runs w c (s ∷ []) r rests (worlds w c (s ∷ []) rests.history.world (all_one s is)) (had c can)

  pub next_grown : (w : World) (c : ℕ) (s : Step) (h : List Entry) (old new : List Bool) → HadNext w h old → Narrows old new → HadNext (grown w c (s ∷ [])) h new
  next_grown w c s h old new had narrows d is = stay w d c (s ∷ []) h (had d (narrows d is))

pub begun_grown : (w : World) (c : ℕ) (s : Step) (grows : List Bool) → slice_get grows c ≡ Some true → is_step s ≡ true → Begins w grows (grown w c (s ∷ []))
begun_grown w c s grows can is first from places = More w c s from (places c can) is

-- The scripts of a grown world.

pub scripts_set : (ss : List Script) (c : ℕ) (s : Script) (more : List Step) → slice_get ss c ≡ Some s → slice_set ss c (longer s more) ≡ grown_scripts ss c more
scripts_set [] c s more is = absurd (none-some s is)
scripts_set (x ∷ ss) zero s more is = ap (λ (y : Script). longer y more ∷ ss) (sym (same_Some x s is))
scripts_set (x ∷ ss) (suc c) s more is = ap (λ (ys : List Script). x ∷ ys) (scripts_set ss c s more is)

pub scripts_stay : (ss : List Script) (c : ℕ) (more : List Step) → slice_get ss c ≡ None → grown_scripts ss c more ≡ ss
scripts_stay [] c more is = refl
scripts_stay (x ∷ ss) zero more is = absurd (none-some x (sym is))
scripts_stay (x ∷ ss) (suc c) more is = ap (λ (ys : List Script). x ∷ ys) (scripts_stay ss c more is)

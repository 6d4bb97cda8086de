-- Scripts with more steps at their end, and the callers of a world with such a script.
use Rattle.std.proofs.Common.{◌≡◌, ℕ, zero, suc, ◌+◌, nat_lt, true, List, [], ◌∷◌, ◌++◌, length, Option, Some, None, slice_get, refl, sym, ap, subst, ◌∙◌, arith}
use Rattle.std.specs.Prelude.{IsSome}
use Rattle.std.proofs.lemmas.Bool.{false≢true, lt-ltb}
use Rattle.std.proofs.lemmas.Option.{none-some, same_Some}
use Rattle.net_base.specs.declared.history.Entry.{Entry}
use Rattle.net_base.specs.declared.reply.Reply.{Reply}
use Rattle.net_base.specs.declared.world.Script.{Script}
use Rattle.net_base.specs.declared.world.Step.{Step}
use Rattle.net_base.specs.declared.world.World.{World}
use Rattle.net_base.specs.Callers.{Caller, IsScript, IsCourier, IsClock, IsNobody, caller_of, caller_count}
use Rattle.net_base.specs.Next.{is_left, next_by, next_of_by, own_replies, place_next, zone_of}
use Rattle.net_base.specs.Scripts.{Kept, at_first, heard_replies, kept_after, position, step_play}
use Rattle.net_base.specs.Steps.{Ask, Asking, Finished, Names, Stand, position_by, stands}
use Rattle.net_base.specs.Tasks.{Asking as Task, Tasks}
use Rattle.net_base.specs.Versions.{Tuples}
use Rattle.net_base.proofs.Shared.{script_is}
use Rattle.grown_laws.specs.Grown.{grown, grown_scripts, longer}

-- One script.

module _ (h : ℕ) (more : List Step) where
  -- a next event stays the next event if more steps follow
  next_stays : (ss : List Step) (k : Kept) (rs : List Reply) (a : Ask) → (position h ss k rs).next ≡ Some a → (position h (ss ++ more) k rs).next ≡ Some a
  next_stays [] k rs a is = absurd (none-some a is)
  next_stays (s ∷ ss) k rs a is = by_stand (stands (step_play h k s) rs) is (λ kept later there. next_stays ss kept later a there)
    where
      by_stand : (t : Stand)
          → (position_by t (s ∷ ss) (λ (names : Names) (later : List Reply). position h ss (kept_after k s names (heard_replies (step_play h k s) rs)) later)).next ≡ Some a
          → ((kept : Kept) (later : List Reply) → (position h ss kept later).next ≡ Some a → (position h (ss ++ more) kept later).next ≡ Some a)
          → (position_by t (s ∷ ss ++ more) (λ (names : Names) (later : List Reply). position h (ss ++ more) (kept_after k s names (heard_replies (step_play h k s) rs)) later)).next ≡ Some a
      by_stand (Asking b) is on = is
      by_stand (Finished names later) is on = on (kept_after k s names (heard_replies (step_play h k s) rs)) later is

  -- if there is a next event, a step is unfinished
  pub left_there : (ss : List Step) (k : Kept) (rs : List Reply) (a : Ask) → (position h ss k rs).next ≡ Some a → nat_lt 0 (length (position h ss k rs).left) ≡ true
  left_there [] k rs a is = absurd (none-some a is)
  left_there (s ∷ ss) k rs a is = by_stand (stands (step_play h k s) rs) is (λ kept later there. left_there ss kept later a there)
    where
      by_stand : (t : Stand)
          → (position_by t (s ∷ ss) (λ (names : Names) (later : List Reply). position h ss (kept_after k s names (heard_replies (step_play h k s) rs)) later)).next ≡ Some a
          → ((kept : Kept) (later : List Reply) → (position h ss kept later).next ≡ Some a → nat_lt 0 (length (position h ss kept later).left) ≡ true)
          → nat_lt 0 (length (position_by t (s ∷ ss) (λ (names : Names) (later : List Reply). position h ss (kept_after k s names (heard_replies (step_play h k s) rs)) later)).left) ≡ true
      by_stand (Asking b) is on = lt-ltb 0 (length (s ∷ ss)) (omega arith)
      by_stand (Finished names later) is on = on (kept_after k s names (heard_replies (step_play h k s) rs)) later is

-- The next event and the unfinished steps of one script.

module _ (zone : Tuples) (s : Script) (more : List Step) where
  pub placed : (o : Option Task) (rs : List Reply) (a : Ask) → place_next o zone s rs ≡ Some a → place_next o zone (longer s more) rs ≡ Some a
  placed None rs a is = next_stays s.host more s.steps (at_first zone) rs a is
  placed (Some asks) rs a is = is

  -- both scripts have the same next event
  pub placed_same : (o : Option Task) (rs : List Reply) → IsSome (place_next o zone s rs) → place_next o zone (longer s more) rs ≡ place_next o zone s rs
  placed_same o rs there = by_next (place_next o zone s rs) refl there
    where
      by_next : (n : Option Ask) → place_next o zone s rs ≡ n → IsSome n → place_next o zone (longer s more) rs ≡ place_next o zone s rs
      by_next None is there = absurd (false≢true there)
      by_next (Some a) is there = placed o rs a is ∙ sym is

  -- both scripts have an unfinished step
  pub left_same : (o : Option Task) (rs : List Reply) → IsSome (place_next o zone s rs) → is_left o zone (longer s more) rs ≡ is_left o zone s rs
  left_same (Some asks) rs there = refl
  left_same None rs there = by_next (place_next None zone s rs) refl there
    where
      by_next : (n : Option Ask) → place_next None zone s rs ≡ n → IsSome n → is_left None zone (longer s more) rs ≡ is_left None zone s rs
      by_next None is there = absurd (false≢true there)
      by_next (Some a) is there =
          left_there s.host more (s.steps ++ more) (at_first zone) rs a (placed None rs a is) ∙ sym (left_there s.host more s.steps (at_first zone) rs a is)

-- The scripts of a world.

-- script d of the grown world: the same script as before, or the same script with more steps
pub data Stays (ss : List Script) (c : ℕ) (more : List Step) (i : ℕ) : Type 0 where
  Same : slice_get (grown_scripts ss c more) i ≡ slice_get ss i → Stays ss c more i
  Longer : (s : Script) → i ≡ c → slice_get ss i ≡ Some s → slice_get (grown_scripts ss c more) i ≡ Some (longer s more) → Stays ss c more i

pub stays : (ss : List Script) (c : ℕ) (more : List Step) (i : ℕ) → Stays ss c more i
stays [] c more i = Same refl
stays (s ∷ ss) zero more zero = Longer s refl refl refl
stays (s ∷ ss) zero more (suc i) = Same refl
stays (s ∷ ss) (suc c) more zero = Same refl
stays (s ∷ ss) (suc c) more (suc i) =
    elim (stays ss c more i) [ Same e ↦ Same e | Longer t is here there ↦ Longer t (ap suc is) here there ]

pub grew_at : (ss : List Script) (c : ℕ) (more : List Step) (s : Script) → slice_get ss c ≡ Some s → slice_get (grown_scripts ss c more) c ≡ Some (longer s more)
grew_at [] c more s is = absurd (none-some s is)
grew_at (t ∷ ss) zero more s is = ap (λ (u : Script). Some (longer u more)) (same_Some t s is)
grew_at (t ∷ ss) (suc c) more s is = grew_at ss c more s is

pub as_many : (ss : List Script) (c : ℕ) (more : List Step) → length (grown_scripts ss c more) ≡ length ss
as_many [] c more = refl
as_many (s ∷ ss) zero more = refl
as_many (s ∷ ss) (suc c) more = ap suc (as_many ss c more)

module _ (ts : Tasks) (w : World) (c : ℕ) (more : List Step) where
  abbrev big : World
  big = grown w c more

  pub same_caller : (i : ℕ) → slice_get big.scripts i ≡ slice_get w.scripts i → caller_of big i ≡ caller_of w i
  same_caller i is = rw (is, as_many w.scripts c more) refl

  pub next_alike : (k : Caller) (past : List Entry) (i : ℕ) → next_of_by ts big k past i ≡ next_of_by ts w k past i
  next_alike (IsScript s) past i = refl
  next_alike (IsCourier m) past i = refl
  next_alike IsClock past i = refl
  next_alike IsNobody past i = refl

  pub same_count : caller_count big ≡ caller_count w
  same_count = ap (λ (n : ℕ). n + length w.media + 1) (as_many w.scripts c more)

  -- the next event of the grown script, by its steps
  pub own_next : (past : List Entry) (s : Script) → slice_get w.scripts c ≡ Some s → next_by ts w past c ≡ place_next (ts c) (zone_of w) s (own_replies past c)
  own_next past s here = ap (λ (k : Caller). next_of_by ts w k past c) (script_is w c s here)

  -- if script c has a next event, each caller has the same next event in both worlds
  pub next_same : (past : List Entry) → IsSome (next_by ts w past c) → (i : ℕ) → next_by ts big past i ≡ next_by ts w past i
  next_same past there i = by_script (stays w.scripts c more i)
    where
      by_script : Stays w.scripts c more i → next_by ts big past i ≡ next_by ts w past i
      by_script (Same is) = ap (λ (k : Caller). next_of_by ts big k past i) (same_caller i is) ∙ next_alike (caller_of w i) past i
      by_script (Longer s at here grew) =
          let old : next_by ts w past i ≡ place_next (ts i) (zone_of w) s (own_replies past i) = ap (λ (k : Caller). next_of_by ts w k past i) (script_is w i s here) in
          let some : IsSome (next_by ts w past i) = subst (λ (j : ℕ). IsSome (next_by ts w past j)) (sym at) there in
          ap (λ (k : Caller). next_of_by ts big k past i) (script_is big i (longer s more) grew)
          ∙ placed_same (zone_of w) s more (ts i) (own_replies past i) (subst (λ (n : Option Ask). IsSome n) old some)
          ∙ sym old

  -- a caller that has a next event still has one
  pub next_stays_there : (past : List Entry) (i : ℕ) → IsSome (next_by ts w past i) → IsSome (next_by ts big past i)
  next_stays_there past i there = by_script (stays w.scripts c more i)
    where
      by_script : Stays w.scripts c more i → IsSome (next_by ts big past i)
      by_script (Same is) =
          subst (λ (n : Option Ask). IsSome n) (sym (ap (λ (k : Caller). next_of_by ts big k past i) (same_caller i is) ∙ next_alike (caller_of w i) past i)) there
      by_script (Longer s at here grew) =
          let old : next_by ts w past i ≡ place_next (ts i) (zone_of w) s (own_replies past i) = ap (λ (k : Caller). next_of_by ts w k past i) (script_is w i s here) in
          let some : IsSome (place_next (ts i) (zone_of w) s (own_replies past i)) = subst (λ (n : Option Ask). IsSome n) old there in
          subst (λ (n : Option Ask). IsSome n)
          (sym (ap (λ (k : Caller). next_of_by ts big k past i) (script_is big i (longer s more) grew) ∙ placed_same (zone_of w) s more (ts i) (own_replies past i) some)) some

  -- a caller with another number has the same next event
  pub others_next : (past : List Entry) (i : ℕ) → (i ≡ c → ⊥) → next_by ts big past i ≡ next_by ts w past i
  others_next past i other = by_script (stays w.scripts c more i)
    where
      by_script : Stays w.scripts c more i → next_by ts big past i ≡ next_by ts w past i
      by_script (Same is) = ap (λ (k : Caller). next_of_by ts big k past i) (same_caller i is) ∙ next_alike (caller_of w i) past i
      by_script (Longer s at here grew) = absurd (other at)

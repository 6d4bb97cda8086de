-- `until` replaces a step with a deadline.
use Rattle.std.proofs.Common.{◌≡◌, ℕ, zero, suc, ◌<◌, ◌&&◌, ◌⊎◌, nat_lt, Bool, true, List, [], ◌∷◌, ◌++◌, length, take, Option, Some, None, slice_get, inl, inr, refl, sym, ap, subst, ◌∙◌, arith}
use Rattle.std.specs.Prelude.{IsSome, nat_le, slice_set}
use Rattle.std.specs.List.{list_all}
use Rattle.std.specs.Option.{option_map_or}
use Rattle.std.proofs.lemmas.Bool.{and_from, and_parts}
use Rattle.std.proofs.lemmas.List.Folds.{list_all-append}
use Rattle.std.proofs.lemmas.Option.{none-some, same_Some}
use Rattle.net_base.specs.declared.event.Event.{Event}
use Rattle.net_base.specs.declared.event.Event.TheVariants as event
use Rattle.net_base.specs.declared.history.Entry.{Entry}
use Rattle.net_base.specs.declared.world.Script.{Script}
use Rattle.net_base.specs.declared.world.Step.{Step}
use Rattle.net_base.specs.declared.world.World.{World}
use Rattle.net_base.specs.Callers.{Caller, IsClock, IsCourier, IsNobody, IsScript, caller_of}
use Rattle.net_base.specs.Legal.{IsLegal}
use Rattle.net_base.specs.Net.{after}
use Rattle.net_base.specs.Next.{next_of, next_recorded}
use Rattle.net_base.specs.StepWords.{is_step}
use Rattle.net_base.specs.Steps.{Ask}
use Rattle.net_base.specs.World.{IsWorld, is_script}
use Rattle.grown_laws.specs.Grown.{HasNextAt, HasNextAtMoves, IsWithinSteps, grown, grown_scripts, longer}
use Rattle.live_run.specs.Deadlines.{AreNone, AreWaiting, Waits}
use Rattle.live_run.specs.LiveWorlds.{HadNext}
use Rattle.live_run.proofs.Waits.{Base, as_many, grown_other, waits_begin, waits_grow, waits_replaced}

-- Numbers and lists.

pub same_or_other : (a b : ℕ) → (a ≡ b) ⊎ (a ≡ b → ⊥)
same_or_other zero zero = inl refl
same_or_other zero (suc b) = inr (λ is. omega (arith, is))
same_or_other (suc a) zero = inr (λ is. omega (arith, is))
same_or_other (suc a) (suc b) =
    elim (same_or_other a b) [
      | inl same ↦ inl (ap suc same)
      | inr other ↦ inr (λ is. other (omega (arith, is)))
    ]

pub set_other : {A : Type 0} (xs : List A) (c d : ℕ) (x : A) → (d ≡ c → ⊥) → slice_get (slice_set xs c x) d ≡ slice_get xs d
set_other [] c d x other = refl
set_other (y ∷ xs) zero zero x other = absurd (other refl)
set_other (y ∷ xs) zero (suc d) x other = refl
set_other (y ∷ xs) (suc c) zero x other = refl
set_other (y ∷ xs) (suc c) (suc d) x other = set_other xs c d x (λ is. other (ap suc is))

set_same : {A : Type 0} (xs : List A) (c : ℕ) (x y : A) → slice_get (slice_set xs c x) c ≡ Some y → x ≡ y
set_same [] c x y is = absurd (none-some y is)
set_same (z ∷ xs) zero x y is = same_Some x y is
set_same (z ∷ xs) (suc c) x y is = set_same xs c x y is

-- a script whose deadline was cleared has none
pub cleared_other : (xs : List (Option ℕ)) (c d last : ℕ) → slice_get (slice_set xs c None) d ≡ Some (Some last) → d ≡ c → ⊥
cleared_other xs c d last is same =
    none-some last (set_same xs c None (Some last) (subst (λ (e : ℕ). slice_get (slice_set xs c None) e ≡ Some (Some last)) same is))

pub cleared_before : (xs : List (Option ℕ)) (c d last : ℕ) → slice_get (slice_set xs c None) d ≡ Some (Some last) → slice_get xs d ≡ Some (Some last)
cleared_before xs c d last is = sym (set_other xs c d None (cleared_other xs c d last is)) ∙ is

-- none, and one more
pub none_more : (xs : List (Option ℕ)) → AreNone xs → AreNone (xs ++ None ∷ [])
none_more [] none zero last is = none-some last (same_Some None (Some last) is)
none_more [] none (suc c) last is = none-some (Some last) is
none_more (x ∷ xs) none zero last is = none zero last is
none_more (x ∷ xs) none (suc c) last is = none_more xs (λ d m there. none (suc d) m there) c last is

pub none_first : AreNone []
none_first c last is = none-some (Some last) is

-- Another script gets other steps.

module _ (w : World) (c d : ℕ) (more : List Step) (other : c ≡ d → ⊥) where
  same_caller : caller_of (grown w d more) c ≡ caller_of w c
  same_caller = rw (grown_other w.scripts c d more other, as_many w.scripts d more) refl

  next_alike : (k : Caller) (h : List Entry) → next_of (grown w d more) k h c ≡ next_of w k h c
  next_alike (IsScript s) h = refl
  next_alike (IsCourier m) h = refl
  next_alike IsClock h = refl
  next_alike IsNobody h = refl

  pub others_next : (h : List Entry) → next_recorded (grown w d more) h c ≡ next_recorded w h c
  others_next h = ap (λ (k : Caller). next_of (grown w d more) k h c) same_caller ∙ next_alike (caller_of w c) h

others_had : (w : World) (c d : ℕ) (more others : List Step) (h : List Entry) → (c ≡ d → ⊥) → HasNextAtMoves (grown w d more) c h → HasNextAtMoves (grown w d others) c h
others_had w c d more others h other had k x is = had_at (take k h) x.event (had k x is)
  where
    had_at : (past : List Entry) (e : Event) → HasNextAt (grown w d more) c past e → HasNextAt (grown w d others) c past e
    had_at past (event.Move m) some =
        subst (λ (o : Option Ask). IsSome o) (others_next w c d more other past ∙ sym (others_next w c d others other past)) some
    had_at past e some = tt

module _ (unbegun : (w : World) (c : ℕ) (s : Step) (more : List Step) (h : List Entry) → c < length w.scripts → IsWithinSteps w c h → HasNextAtMoves (grown w c (s ∷ more)) c h) where
  pub next_replaced : (w : World) (c : ℕ) (s t : Step) (h : List Entry) (grows : List Bool) → c < length w.scripts → IsWithinSteps w c h
      → HadNext (grown w c (s ∷ [])) h grows → HadNext (grown w c (t ∷ [])) h grows
  next_replaced w c s t h grows known within had d is =
      elim (same_or_other d c) [
        | inl same ↦ subst (λ (e : ℕ). HasNextAtMoves (grown w c (t ∷ [])) e h) (sym same) (unbegun w c t [] h known within)
        | inr other ↦ others_had w d c (s ∷ []) (t ∷ []) h other (had d is)
      ]

-- A world file can describe the world with another step.

module _ (hosts : ℕ) (more others : List Step) (steps : list_all is_step others ≡ true) where
  longer_is : (s : Script) → is_script hosts (longer s more) ≡ true → is_script hosts (longer s others) ≡ true
  longer_is s is =
      let parts = and_parts (nat_lt s.host hosts) (list_all is_step (s.steps ++ more)) is in
      let first = and_parts (list_all is_step s.steps) (list_all is_step more) (sym (list_all-append is_step s.steps more) ∙ parts.1) in
      and_from _ _ parts.0 (list_all-append is_step s.steps others ∙ and_from _ _ first.0 steps)

  scripts_are : (ss : List Script) (c : ℕ) → list_all (is_script hosts) (grown_scripts ss c more) ≡ true → list_all (is_script hosts) (grown_scripts ss c others) ≡ true
  scripts_are [] c is = refl
  scripts_are (s ∷ ss) zero is =
      let parts = and_parts (is_script hosts (longer s more)) (list_all (is_script hosts) ss) is in
      and_from _ _ (longer_is s parts.0) parts.1
  scripts_are (s ∷ ss) (suc c) is =
      let parts = and_parts (is_script hosts s) (list_all (is_script hosts) (grown_scripts ss c more)) is in
      and_from _ _ parts.0 (scripts_are ss c parts.1)

pub world_replaced : (w : World) (c : ℕ) (more others : List Step) → IsWorld (grown w c more) → list_all is_step others ≡ true → IsWorld (grown w c others)
world_replaced w c more others world steps =
    record {
      end = world.end;
      seed = world.seed;
      some_media = world.some_media;
      media = world.media;
      media_named = world.media_named;
      some_hosts = world.some_hosts;
      hosts = world.hosts;
      hosts_named = world.hosts_named;
      hosts_addressed = world.hosts_addressed;
      few_scripts = ap (λ (n : ℕ). nat_le n 32) (as_many w.scripts c others ∙ sym (as_many w.scripts c more)) ∙ world.few_scripts;
      scripts = scripts_are (length w.hosts) more others steps w.scripts c world.scripts;
      versions_timed = world.versions_timed;
      versions = world.versions;
    }

-- Who waits then.

module _ (nets : (w : World) (c : ℕ) (more : List Step) (h : List Entry) → after (grown w c more) h ≡ after w h) where
  pub waiting_replaced : (w : World) (h : List Entry) (c : ℕ) (more others : List Step) (deadlines : List (Option ℕ)) → AreWaiting (grown w c more) h deadlines
      → AreWaiting (grown w c others) h (slice_set deadlines c None)
  waiting_replaced w h c more others deadlines waits d last is =
      waits_replaced nets w h d last c more others (cleared_other deadlines c d last is) (waits d last (cleared_before deadlines c d last is))

  module _ (stay : (w : World) (c : ℕ) (h : List Entry) → IsLegal w h → IsWithinSteps w c h) where
    -- a step begins, with a deadline or without one
    pub waiting_begun : (w : World) (h : List Entry) (c : ℕ) (s : Step) (deadlines : List (Option ℕ)) (deadline : Option ℕ) → c < length w.scripts → IsLegal w h
        → HasNextAtMoves w c h → next_recorded w h c ≡ None → AreWaiting w h deadlines → AreWaiting (grown w c (s ∷ [])) h (slice_set deadlines c deadline)
    waiting_begun w h c s deadlines deadline known legal had none waits d last is =
        elim (same_or_other d c) [
          | inl same ↦ subst (λ (e : ℕ). Waits (grown w c (s ∷ [])) h e last) (sym same) (waits_begin stay w h c last s known legal had none)
          | inr other ↦ waits_grow nets w h d last c (s ∷ []) other (waits d last (sym (set_other deadlines c d deadline other) ∙ is))
        ]

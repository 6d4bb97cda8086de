-- Steps that wait for a deadline.
use Rattle.std.proofs.Common.{◌≡◌, ℕ, zero, suc, ◌+◌, ◌<◌, ◌≤◌, ◌==◌, Bool, true, false, List, [], ◌∷◌, ◌++◌, length, map, take, filter, Option, Some, None, is_none, slice_get, inl, inr, refl, sym, ap, subst, ◌∙◌, arith}
use Rattle.std.specs.Prelude.{IsSome, slice_set}
use Rattle.std.proofs.lemmas.List.{append-nil, take-append-le}
use Rattle.std.proofs.Math.Seq.{take-append_seam}
use Rattle.std.proofs.lemmas.Option.{none-some, same_Some}
use Rattle.std.proofs.lemmas.Bool.{false≢true}
use Rattle.net_base.specs.declared.event.Event.{Event}
use Rattle.net_base.specs.declared.event.Event.TheVariants as event
use Rattle.net_base.specs.declared.history.Entry.{Entry}
use Rattle.net_base.specs.declared.reply.Reply.{Reply}
use Rattle.net_base.specs.declared.world.Script.{Script}
use Rattle.net_base.specs.declared.world.Step.{Step}
use Rattle.net_base.specs.declared.world.Step.TheVariants as step
use Rattle.net_base.specs.declared.world.World.{World}
use Rattle.net_base.specs.Callers.{Caller, caller_of}
use Rattle.net_base.specs.Calm.{awaited_moment}
use Rattle.net_base.specs.Legal.{IsInTime, IsLegal, IsTimed}
use Rattle.net_base.specs.Net.{Net, after}
use Rattle.net_base.specs.Next.{by, next_of, next_recorded, own_entries, own_replies, zone_of}
use Rattle.net_base.specs.Scripts.{at_first}
use Rattle.net_base.specs.Steps.{Ask}
use Rattle.net_base.proofs.Shared.{script_is, there_at}
use Rattle.history_laws.proofs.Shared.{in_pushed, own_push}
use Rattle.grown_laws.specs.Grown.{HasNextAt, HasNextAtMoves, IsTimedTill, IsWithinSteps, StaysBefore, StaysBeforeMoves, behind, grown, grown_scripts, longer}
use Rattle.net_base.specs.World.{IsWorld}
use Rattle.live_run.specs.Deadlines.{AllowsOne, AreWaiting, MovesTo, StaysIn, Waits, next_in}

-- Lists of scripts.

pub grown_other : (ss : List Script) (c d : ℕ) (more : List Step) → (c ≡ d → ⊥) → slice_get (grown_scripts ss d more) c ≡ slice_get ss c
grown_other [] c d more other = refl
grown_other (s ∷ ss) zero zero more other = absurd (other refl)
grown_other (s ∷ ss) zero (suc d) more other = refl
grown_other (s ∷ ss) (suc c) zero more other = refl
grown_other (s ∷ ss) (suc c) (suc d) more other = grown_other ss c d more (λ is. other (ap suc is))

pub grown_here : (ss : List Script) (c : ℕ) (s : Script) (more : List Step) → slice_get ss c ≡ Some s → slice_get (grown_scripts ss c more) c ≡ Some (longer s more)
grown_here [] c s more is = absurd (none-some s is)
grown_here (x ∷ ss) zero s more is = ap (λ (y : Script). Some (longer y more)) (same_Some x s is)
grown_here (x ∷ ss) (suc c) s more is = grown_here ss c s more is

pub as_many : (ss : List Script) (c : ℕ) (more : List Step) → length (grown_scripts ss c more) ≡ length ss
as_many [] c more = refl
as_many (s ∷ ss) zero more = refl
as_many (s ∷ ss) (suc c) more = ap suc (as_many ss c more)

-- the shorter script set and grown again
set_grown : (ss : List Script) (c : ℕ) (s : Script) (more : List Step) → slice_get ss c ≡ Some (longer s more) → ss ≡ grown_scripts (slice_set ss c s) c more
set_grown [] c s more is = refl
set_grown (x ∷ ss) zero s more is = ap (λ (y : Script). y ∷ ss) (same_Some x (longer s more) is)
set_grown (x ∷ ss) (suc c) s more is = ap (λ (ys : List Script). x ∷ ys) (set_grown ss c s more is)

set_here : (ss : List Script) (c : ℕ) (x s : Script) → slice_get ss c ≡ Some x → slice_get (slice_set ss c s) c ≡ Some s
set_here [] c x s is = absurd (none-some x is)
set_here (y ∷ ss) zero x s is = refl
set_here (y ∷ ss) (suc c) x s is = set_here ss c x s is

pub some_below : {A : Type 0} (xs : List A) (c : ℕ) (x : A) → slice_get xs c ≡ Some x → c < length xs
some_below [] c x is = absurd (none-some x is)
some_below (y ∷ xs) zero x is = omega arith
some_below (y ∷ xs) (suc c) x is = let below : c < length xs = some_below xs c x is in omega (arith, below)

-- The next event of a script.

pub next_is : (w : World) (h : List Entry) (c : ℕ) (s : Script) → slice_get w.scripts c ≡ Some s → next_recorded w h c ≡ next_in w h c s
next_is w h c s is = ap (λ (k : Caller). next_of w k h c) (script_is w c s is)

-- Another script changes.

module _ (w : World) (ss : List Script) (h : List Entry) (c last : ℕ) (same : slice_get ss c ≡ slice_get w.scripts c)
    (nets : (past : List Entry) → after (record w { scripts = ss }) past ≡ after w past) (s : Waits w h c last) where
  stays_alike : (past : List Entry) (e : Event) → StaysIn w c s.script s.step last past e → StaysIn (record w { scripts = ss }) c s.script s.step last past e
  stays_alike past (event.Move m) stays = λ none. let old = stays none in (subst (λ (n : Net). n.moment < last) (sym (nets past)) old.0, old.1, old.2)
  stays_alike past e stays = tt

  waits_alike : Waits (record w { scripts = ss }) h c last
  waits_alike =
      record {
        script = s.script;
        step = s.step;
        is = same ∙ s.is;
        within = s.within;
        finished = s.finished;
        stays = λ k x is. stays_alike (take k h) x.event (s.stays k x is);
      }

module _ (nets : (w : World) (c : ℕ) (more : List Step) (h : List Entry) → after (grown w c more) h ≡ after w h) where
  -- another script gets steps
  pub waits_grow : (w : World) (h : List Entry) (c last d : ℕ) (more : List Step) → (c ≡ d → ⊥) → Waits w h c last → Waits (grown w d more) h c last
  waits_grow w h c last d more other s = waits_alike w (grown_scripts w.scripts d more) h c last (grown_other w.scripts c d more other) (nets w d more) s

  -- another script gets other steps
  pub waits_replaced : (w : World) (h : List Entry) (c last d : ℕ) (more others : List Step) → (c ≡ d → ⊥) → Waits (grown w d more) h c last → Waits (grown w d others) h c last
  waits_replaced w h c last d more others other s =
      waits_alike (grown w d more) (grown_scripts w.scripts d others) h c last
      (grown_other w.scripts c d others other ∙ sym (grown_other w.scripts c d more other))
      (λ past. nets w d others past ∙ sym (nets w d more past)) s

-- A step begins to wait.

module _ (stay : (w : World) (c : ℕ) (h : List Entry) → IsLegal w h → IsWithinSteps w c h) where
  pub waits_begin : (w : World) (h : List Entry) (c last : ℕ) (s : Step) → c < length w.scripts → IsLegal w h → HasNextAtMoves w c h → next_recorded w h c ≡ None
      → Waits (grown w c (s ∷ [])) h c last
  waits_begin w h c last s known legal had none =
      record {
        script = there.0;
        step = s;
        is = grown_here w.scripts c there.0 (s ∷ []) there.1;
        within = stay w c h legal there.0 there.1;
        finished = sym (next_is w h c there.0 there.1) ∙ none;
        stays = λ k x is. stays_by (take k h) x.event (had k x is);
      }
    where
      there : (x : Script) × (slice_get w.scripts c ≡ Some x)
      there = there_at w.scripts c known

      some_none : (o : Option Ask) → IsSome o → o ≡ None → ⊥
      some_none None some is = false≢true some
      some_none (Some a) some is = none-some a (sym is)

      stays_by : (past : List Entry) (e : Event) → HasNextAt w c past e → StaysIn (grown w c (s ∷ [])) c there.0 s last past e
      stays_by past (event.Move m) some = λ is. absurd (some_none (next_recorded w past c) some (next_is w past c there.0 there.1 ∙ is))
      stays_by past e some = tt

-- Another caller records.

pub own_other : (h : List Entry) (c : ℕ) (x : Entry) → (x.caller == c) ≡ false → own_replies (h ++ x ∷ []) c ≡ own_replies h c
own_other h c x other =
    let none : by (x ∷ []) c ≡ [] = rw other refl in
    ap (map (λ (y : Entry). y.reply)) (own_push h c x ∙ (ap (λ (ys : List Entry). own_entries h c ++ filter (λ (y : Entry). is_none y.cites) ys) none ∙ append-nil (own_entries h c)))

waits_pushed : (w : World) (h : List Entry) (c last : ℕ) (x : Entry) → (s : Waits w h c last) → (x.caller == c) ≡ false
    → StaysIn w c s.script s.step last h x.event → Waits w (h ++ x ∷ []) c last
waits_pushed w h c last x s other at =
    let same : own_replies (h ++ x ∷ []) c ≡ own_replies h c = own_other h c x other in
    record {
      script = s.script;
      step = s.step;
      is = s.is;
      within = rw same s.within;
      finished = rw same s.finished;
      stays = stays_on;
    }
  where
    stays_on : (k : ℕ) (y : Entry) → slice_get (h ++ x ∷ []) k ≡ Some y → StaysIn w c s.script s.step last (take k (h ++ x ∷ [])) y.event
    stays_on k y is =
        elim (in_pushed h x k y is) [
          | inl before ↦ subst (λ (p : List Entry). StaysIn w c s.script s.step last p y.event) (sym (take-append-le k h (x ∷ []) (omega (arith, before.0)))) (s.stays k y before.1)
          | inr here ↦ subst (λ (z : Entry). StaysIn w c s.script s.step last (take k (h ++ x ∷ [])) z.event) here.1
              (subst (λ (n : ℕ). StaysIn w c s.script s.step last (take n (h ++ x ∷ [])) x.event) (sym here.0)
              (subst (λ (p : List Entry). StaysIn w c s.script s.step last p x.event) (sym (take-append_seam h (x ∷ []))) at))
        ]

-- whatever an event is, if it is a move it is allowed
abbrev pub AllowsEvent : World → List Entry → ℕ → ℕ → Event → Type 0
AllowsEvent w h c last (event.Move m) = AllowsOne w h c last (after w h).moment m
AllowsEvent w h c last _ = Unit {0}

allowed_stays : (w : World) (h : List Entry) (c last : ℕ) (e : Event) → (s : Waits w h c last) → AllowsEvent w h c last e → StaysIn w c s.script s.step last h e
allowed_stays w h c last (event.Move m) s allows = λ none.
    (allows.0, omega (arith, allows.1), λ n is. allows.2 n (ap awaited_moment (next_is w h c (longer s.script (s.step ∷ [])) s.is) ∙ is))
allowed_stays w h c last e s allows = tt

pub waits_on : (w : World) (h : List Entry) (c last : ℕ) (x : Entry) → Waits w h c last → (x.caller == c) ≡ false → AllowsEvent w h c last x.event
    → Waits w (h ++ x ∷ []) c last
waits_on w h c last x s other allows = waits_pushed w h c last x s other (allowed_stays w h c last x.event s allows)

-- The deadline comes.

-- a world whose script c waits is one that grew
pub record Base (w : World) (h : List Entry) (c last : ℕ) : Type 0 where
  pub base : World
  pub step : Step
  pub is : w ≡ grown base c (step ∷ [])
  pub known : c < length base.scripts
  pub within : IsWithinSteps base c h
  pub finished : next_recorded base h c ≡ None
  pub stays : StaysBeforeMoves base c (step ∷ []) last h

module _ (nets : (w : World) (c : ℕ) (more : List Step) (h : List Entry) → after (grown w c more) h ≡ after w h) where
  pub base_is : (w : World) (h : List Entry) (c last : ℕ) → Waits w h c last → Base w h c last
  base_is w h c last s =
      record {
        base = base;
        step = s.step;
        is = grew;
        known = some_below base.scripts c s.script here;
        within = λ t is. subst (λ (u : Script). IsWithin u) (same_Some s.script t (sym here ∙ is)) s.within;
        finished = next_is base h c s.script here ∙ s.finished;
        stays = λ k x is. stays_by (take k h) x.event (s.stays k x is);
      }
    where
      base : World
      base = record w { scripts = slice_set w.scripts c s.script }

      here : slice_get base.scripts c ≡ Some s.script
      here = set_here w.scripts c (longer s.script (s.step ∷ [])) s.script s.is

      grew : w ≡ grown base c (s.step ∷ [])
      grew = ap (λ (ss : List Script). record w { scripts = ss }) (set_grown w.scripts c s.script (s.step ∷ []) s.is)

      IsWithin : Script → Type 0
      IsWithin u = behind u.host u.steps (at_first (zone_of w)) (own_replies h c) ≡ []

      stays_by : (past : List Entry) (e : Event) → StaysIn w c s.script s.step last past e → StaysBefore base c (s.step ∷ []) last past e
      stays_by past (event.Move m) stays = λ none.
          let old = stays (sym (next_is base past c s.script here) ∙ none) in
          let net : after w past ≡ after base past = ap (λ (v : World). after v past) grew ∙ nets base c (s.step ∷ []) past in
          let next : next_in w past c (longer s.script (s.step ∷ [])) ≡ next_recorded (grown base c (s.step ∷ [])) past c =
          sym (next_is w past c (longer s.script (s.step ∷ [])) s.is) ∙ ap (λ (v : World). next_recorded v past c) grew in
          (subst (λ (n : Net). n.moment < last) net old.0, old.1, λ n is. old.2 n (ap awaited_moment next ∙ is))
      stays_by past e stays = tt

module _ (waiting : (w : World) (c : ℕ) (more : List Step) (last : ℕ) (h : List Entry) → c < length w.scripts → IsTimed (grown w c more) h → StaysBeforeMoves w c more last h → IsTimedTill w c more last h)
    (deadlines : (w : World) (c : ℕ) (more : List Step) (last : ℕ) (h : List Entry) → c < length w.scripts → IsWithinSteps w c h → IsTimedTill w c more last h → IsTimed (grown w c (step.Until last ∷ [])) h) where
  pub late_is_timed : (w : World) (h : List Entry) (c last : ℕ) → (b : Base w h c last) → IsTimed w h → IsTimed (grown b.base c (step.Until last ∷ [])) h
  late_is_timed w h c last b timed =
      deadlines b.base c (b.step ∷ []) last h b.known b.within
      (waiting b.base c (b.step ∷ []) last h b.known (subst (λ (v : World). IsTimed v h) b.is timed) b.stays)

-- An earlier deadline, which no clock move passed.

abbrev pub Rising : Type 0
Rising = (w : World) (h : List Entry) (k m : ℕ) (x : Entry) → IsWorld w → IsLegal w h → IsTimed w h → slice_get h k ≡ Some x → x.event ≡ event.Move m → x.moment < m

module _ (rising : Rising) (w : World) (h : List Entry) (world : IsWorld w) (legal : IsLegal w h) (timed : IsTimed w h) where
  pub waits_sooner : (c last moved sooner : ℕ) → MovesTo h moved → moved ≤ sooner → sooner ≤ last → Waits w h c last → Waits w h c sooner
  waits_sooner c last moved sooner moves above below s =
      record {
        script = s.script;
        step = s.step;
        is = s.is;
        within = s.within;
        finished = s.finished;
        stays = λ k x is. stays_by k x is x.event refl (s.stays k x is);
      }
    where
      stays_by : (k : ℕ) (x : Entry) → slice_get h k ≡ Some x → (e : Event) → x.event ≡ e → StaysIn w c s.script s.step last (take k h) e
          → StaysIn w c s.script s.step sooner (take k h) e
      stays_by k x is (event.Move m) move stays = λ none.
          let old = stays none in
          let le : m ≤ moved = moves k m x is move in
          let rose : x.moment < m = rising w h k m x world legal timed is move in
          let at : x.moment ≡ (after w (take k h)).moment = (legal k x is).at_moment in
          (omega (arith, rose, at, le, above), omega (arith, le, above), λ n there. let later : last ≤ n = old.2 n there in omega (arith, later, below))
      stays_by k x is e move stays = tt

  -- Without a clock move a history is timed for each world.

  module _ (v : World) (still : MovesTo h 0) where
    no_move : (k m : ℕ) (x : Entry) → slice_get h k ≡ Some x → x.event ≡ event.Move m → ⊥
    no_move k m x is move =
        let le : m ≤ 0 = still k m x is move in
        let rose : x.moment < m = rising w h k m x world legal timed is move in
        omega (arith, le, rose)

    timed_at : (k : ℕ) (x : Entry) → slice_get h k ≡ Some x → (e : Event) → x.event ≡ e → IsInTime (after v (take k h)) v e
    timed_at k x is (event.Move m) move = absurd (no_move k m x is move)
    timed_at k x is e move = tt

    pub still_timed : IsTimed v h
    still_timed k x is = timed_at k x is x.event refl

    next_at : (c k : ℕ) (x : Entry) → slice_get h k ≡ Some x → (e : Event) → x.event ≡ e → HasNextAt v c (take k h) e
    next_at c k x is (event.Move m) move = absurd (no_move k m x is move)
    next_at c k x is e move = tt

    pub still_next : (c : ℕ) → HasNextAtMoves v c h
    still_next c k x is = next_at c k x is x.event refl

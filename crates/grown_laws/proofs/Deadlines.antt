-- An `until` at the end of a script, in place of steps of which the history has no event.
use Rattle.std.proofs.Common.{◌≡◌, ℕ, zero, suc, ◌+◌, ◌<◌, ◌≤◌, ◌==◌, nat_lt, not, Bool, true, false, List, [], ◌∷◌, ◌++◌, length, min, take, Option, Some, None, is_some, slice_get, ◌⊎◌, inl, inr, refl, sym, ap, subst, ◌∙◌, arith}
use Rattle.std.specs.Prelude.{IsSome, filter_map, nat_le}
use Rattle.std.specs.List.{cons_option, enumerate_from, list_all, list_any, range_with_len}
use Rattle.std.specs.Option.{option_and_then}
use Rattle.std.proofs.lemmas.Bool.{and_from, and_parts, eqb-true, eqb-false, true≢false, lt-leb, or_right}
use Rattle.std.proofs.lemmas.Option.{none-some, same_Some, slice_get_within}
use Rattle.net_base.specs.declared.actor.ActorName.{ActorName}
use Rattle.net_base.specs.declared.actor.ActorName.TheVariants as name
use Rattle.net_base.specs.declared.event.Event.{Event}
use Rattle.net_base.specs.declared.event.Event.TheVariants as event
use Rattle.net_base.specs.declared.history.Entry.{Entry}
use Rattle.net_base.specs.declared.history.With.TheVariants as given
use Rattle.net_base.specs.declared.world.HostSpec.{HostSpec}
use Rattle.net_base.specs.declared.world.Script.{Script}
use Rattle.net_base.specs.declared.world.Step.{Step}
use Rattle.net_base.specs.declared.world.Step.TheVariants as step
use Rattle.net_base.specs.declared.world.World.{World}
use Rattle.net_base.specs.ActorStep.{Step as ActorStep, when}
use Rattle.net_base.specs.Actors.{Actor, IsConv, IsDesk, IsDir, IsMedium, IsPlain, actor_step, has_actor, step_as}
use Rattle.net_base.specs.Callers.{Caller, caller_count}
use Rattle.net_base.specs.Calm.{awaited_moment, callers, calm_by, can_go_on_by, is_ready, least, movable_by, nothing_owed, nothing_pending, owes, scripts_wait_by, target_by, unfinished_by}
use Rattle.net_base.specs.Desk.{Desk, desk_step}
use Rattle.net_base.specs.Duties.{conversations, due_of}
use Rattle.net_base.specs.Legal.{IsInTimeBy, IsTimed}
use Rattle.net_base.specs.Net.{Net, after, opening_net}
use Rattle.net_base.specs.Next.{is_unfinished_by, next_by, next_of_by, own_replies, zone_of}
use Rattle.net_base.specs.Scripts.{at_first, position}
use Rattle.net_base.specs.Steps.{Ask}
use Rattle.net_base.specs.Tasks.{nobody}
use Rattle.net_base.proofs.Shared.{all_range, fails_range, least_min, script_is, there_at}
use Rattle.history_laws.proofs.Shared.{past_after}
use Rattle.grown_laws.specs.Grown.{IsInTimeTill, IsTimedTill, IsWithinSteps, StaysBefore, StaysBeforeMoves, WaitsTill, grown, grown_scripts, longer}
use Rattle.grown_laws.proofs.Nets.{same_after, same_step}
use Rattle.grown_laws.proofs.Scripts.{as_many, grew_at, left_there, others_next, own_next, same_count}
use Rattle.grown_laws.proofs.Timed.{in_time, movable_alike, target_alike}
use Rattle.grown_laws.proofs.Unbegun.{until_next, within_take}

-- The smallest of the moments.

least_front : (last : ℕ) (xs ys : List ℕ) → least last (xs ++ ys) ≡ least (least last ys) xs
least_front last [] ys = refl
least_front last (x ∷ xs) ys = ap (min x) (least_front last xs ys)

module _ (f g : ℕ → Option ℕ) (c m : ℕ) (alike : (i : ℕ) → (i ≡ c → ⊥) → g i ≡ f i) (old : f c ≡ None) (new : g c ≡ Some m) where
  rest_alike : (a n : ℕ) → c < a → filter_map g (range_with_len a n) ≡ filter_map f (range_with_len a n)
  rest_alike a zero lt = refl
  rest_alike a (suc n) lt =
      ap (λ (o : Option ℕ). cons_option o (filter_map g (range_with_len (a + 1) n))) (alike a (λ same. absurd (omega (arith, same, lt))))
      ∙ ap (cons_option (f a)) (rest_alike (a + 1) n (omega (arith, lt)))

  -- the smallest with one more moment
  one_more : (last a n : ℕ) → a ≤ c → c < a + n → least last (filter_map g (range_with_len a n)) ≡ min m (least last (filter_map f (range_with_len a n)))
  one_more last a zero le lt = absurd (omega (arith, le, lt))
  one_more last a (suc n) le lt = by_first (a == c) refl (λ apart. one_more last (a + 1) n (omega (arith, le, apart)) (omega (arith, lt)))
    where
      with_first : (o : Option ℕ) (xs ys : List ℕ) → least last xs ≡ min m (least last ys) → least last (cons_option o xs) ≡ min m (least last (cons_option o ys))
      with_first None xs ys rest = rest
      with_first (Some x) xs ys rest = omega (arith, rest)

      by_first : (b : Bool) → (a == c) ≡ b
          → ((a ≡ c → ⊥) → least last (filter_map g (range_with_len (a + 1) n)) ≡ min m (least last (filter_map f (range_with_len (a + 1) n))))
          → least last (filter_map g (range_with_len a (suc n))) ≡ min m (least last (filter_map f (range_with_len a (suc n))))
      by_first true is rest =
          let same : a ≡ c = eqb-true a c is in
          let here : f a ≡ None = ap f same ∙ old in
          let there : g a ≡ Some m = ap g same ∙ new in
          rw (here, there) (ap (λ (ms : List ℕ). min m (least last ms)) (rest_alike (a + 1) n (omega (arith, same))))
      by_first false is rest =
          let apart : a ≡ c → ⊥ = eqb-false a c is in
          rw (alike a apart) (with_first (f a) (filter_map g (range_with_len (a + 1) n)) (filter_map f (range_with_len (a + 1) n)) (rest apart))

-- The target if the script has no next event.

module _ (w : World) (c : ℕ) (more : List Step) (net : Net) (through : next_by nobody w net.past c ≡ None) where
  dues : List ℕ
  dues = filter_map (λ (a : ActorName). due_of (net.actors a)) (conversations w)

  f : ℕ → Option ℕ
  f i = awaited_moment (next_by nobody w net.past i)

  g : ℕ → Option ℕ
  g i = awaited_moment (next_by nobody (grown w c more) net.past i)

  same_callers : callers (grown w c more) ≡ callers w
  same_callers = ap (range_with_len 0) (same_count nobody w c more)

  alike : (i : ℕ) → (i ≡ c → ⊥) → g i ≡ f i
  unfolding f g
  alike i apart = ap awaited_moment (others_next nobody w c more net.past i apart)

  old : f c ≡ None
  unfolding f
  old = ap awaited_moment through

  pub target_none : awaited_moment (next_by nobody (grown w c more) net.past c) ≡ None → target_by nobody (grown w c more) net ≡ target_by nobody w net
  unfolding dues f g
  target_none none =
      ap (λ (cs : List ℕ). least w.end (dues ++ filter_map g cs)) same_callers
      ∙ ap (λ (e : ℕ → Option ℕ). least w.end (dues ++ filter_map e (callers w))) (λ j i. each i (i == c) refl j)
    where
      each : (i : ℕ) (b : Bool) → (i == c) ≡ b → g i ≡ f i
      each i false is = alike i (eqb-false i c is)
      each i true is = subst (λ (j : ℕ). g j ≡ f j) (sym (eqb-true i c is)) (none ∙ sym old)

  pub target_some : (m : ℕ) → c < length w.scripts → awaited_moment (next_by nobody (grown w c more) net.past c) ≡ Some m
      → target_by nobody (grown w c more) net ≡ min m (target_by nobody w net)
  unfolding dues f g
  target_some m lt some =
      ap (λ (cs : List ℕ). least w.end (dues ++ filter_map g cs)) same_callers
      ∙ (least_front w.end dues (filter_map g (callers w))
      ∙ (ap (λ (n : ℕ). least n dues) (one_more f g c m alike old some w.end 0 (caller_count w) (omega arith) (omega (arith, lt)))
      ∙ (least_min (least w.end (filter_map f (callers w))) m dues
      ∙ ap (min m) (sym (least_front w.end dues (filter_map f (callers w)))))))

-- a script that satisfies a test is in the list
passes_at : (test : ℕ → Script → Bool) (ss : List Script) (c n k : ℕ) (s : Script) → k ≡ n + c → slice_get ss c ≡ Some s → test k s ≡ true
    → list_any (λ (p : ℕ × Script). test p.0 p.1) (enumerate_from n ss) ≡ true
passes_at test [] c n k s at here is = absurd (none-some s here)
passes_at test (t ∷ ss) zero n k s at here is =
    let same : k ≡ n = omega (arith, at) in
    rw (subst (λ (j : ℕ). test j t ≡ true) same (subst (λ (u : Script). test k u ≡ true) (sym (same_Some t s here)) is)) refl
passes_at test (t ∷ ss) (suc c) n k s at here is =
    or_right (test n t) _ (passes_at test ss c (n + 1) k s (omega (arith, at)) here is)

-- an `until` is not ready before its moment
not_yet : (w : World) (h : ℕ) (a : Actor) (now last : ℕ) → now < last
    → is_some (actor_step w (name.Desk h) a now (record { event = event.Until last; with = given.Nothing })) ≡ false
not_yet w h a now last lt = by_actor a
  where
    early : nat_le last now ≡ false
    early = lt-leb last now lt

    nothing : (b : Bool) → is_some (when b (let o : Option (ActorStep Actor) = None in o)) ≡ false
    nothing true = refl
    nothing false = refl

    by_host : (o : Option HostSpec) (d : Desk)
        → option_and_then (λ (host : HostSpec). step_as (λ (e : Desk). IsDesk e) (desk_step w.dbs host (event.Until last) now d)) o ≡ None
    by_host None d = refl
    by_host (Some host) d = rw early refl

    by_actor : (a : Actor) → is_some (actor_step w (name.Desk h) a now (record { event = event.Until last; with = given.Nothing })) ≡ false
    by_actor (IsDesk d) = rw (by_host (slice_get w.hosts h) d) (nothing (has_actor w (name.Desk h)))
    by_actor (IsDir d) = nothing (has_actor w (name.Desk h))
    by_actor (IsConv d) = nothing (has_actor w (name.Desk h))
    by_actor (IsMedium d) = nothing (has_actor w (name.Desk h))
    by_actor IsPlain = nothing (has_actor w (name.Desk h))

module _ (w : World) (c : ℕ) (more : List Step) (last : ℕ) (s : Script) (here : slice_get w.scripts c ≡ Some s) where
  abbrev till : World
  till = grown w c (step.Until last ∷ [])

  abbrev until_ask : Ask
  until_ask = record { actor = name.Desk s.host; event = event.Until last }

  module _ (net : Net) (within : IsWithinSteps w c net.past) (through : next_by nobody w net.past c ≡ None) where
    -- the `until` is the next step
    comes : (position s.host (s.steps ++ step.Until last ∷ []) (at_first (zone_of w)) (own_replies net.past c)).next ≡ Some until_ask
    comes = until_next s.host last s.steps (at_first (zone_of w)) (own_replies net.past c) (within s here) (sym (own_next nobody w c more net.past s here) ∙ through)

    now_next : next_by nobody till net.past c ≡ Some until_ask
    now_next = ap (λ (k : Caller). next_of_by nobody till k net.past c) (script_is till c (longer s (step.Until last ∷ [])) (grew_at w.scripts c (step.Until last ∷ []) s here)) ∙ comes

    target_till : target_by nobody till net ≡ min last (target_by nobody w net)
    target_till = target_some w c (step.Until last ∷ []) net through last (slice_get_within w.scripts c s here) (ap awaited_moment now_next)

    unfinished_till : unfinished_by nobody till net ≡ true
    unfinished_till =
        passes_at (λ (n : ℕ) (t : Script). is_unfinished_by nobody w net.past n t) (grown_scripts w.scripts c (step.Until last ∷ [])) c 0 c (longer s (step.Until last ∷ [])) (omega arith)
        (grew_at w.scripts c (step.Until last ∷ []) s here)
        (left_there s.host (step.Until last ∷ []) (s.steps ++ step.Until last ∷ []) (at_first (zone_of w)) (own_replies net.past c) until_ask comes)

    calm_till : net.moment < last → calm_by nobody (grown w c more) net ≡ true → calm_by nobody till net ≡ true
    calm_till before calm =
        let parts = and_parts (nothing_owed (grown w c more) net) _ calm in
        let rest = and_parts (nothing_pending w net) (scripts_wait_by nobody (grown w c more) net) parts.1 in
        and_from _ _ (owed parts.0) (and_from _ _ rest.0 (waits rest.1))
      where
        owed : nothing_owed (grown w c more) net ≡ true → nothing_owed till net ≡ true
        owed is =
            ap (λ (n : ℕ). list_all (λ (i : ℕ). not (owes net i)) (range_with_len 0 n)) (same_count nobody w c (step.Until last ∷ []) ∙ sym (same_count nobody w c more)) ∙ is

        waits : scripts_wait_by nobody (grown w c more) net ≡ true → scripts_wait_by nobody till net ≡ true
        waits is = all_range (λ (i : ℕ). not (can_go_on_by nobody till net i)) (length till.scripts) 0 one
          where
            ready_same : (o : Option Ask) → is_ready till net o ≡ is_ready (grown w c more) net o
            ready_same None = refl
            ready_same (Some a) =
                ap is_some (same_step w (grown_scripts w.scripts c (step.Until last ∷ [])) a.actor (net.actors a.actor) net.moment (record { event = a.event; with = given.Nothing })
                ∙ sym (same_step w (grown_scripts w.scripts c more) a.actor (net.actors a.actor) net.moment (record { event = a.event; with = given.Nothing })))

            goes_same : (i : ℕ) → (i ≡ c → ⊥) → can_go_on_by nobody till net i ≡ can_go_on_by nobody (grown w c more) net i
            goes_same i apart =
                ap (is_ready till net) (others_next nobody w c (step.Until last ∷ []) net.past i apart ∙ sym (others_next nobody w c more net.past i apart))
                ∙ ready_same (next_by nobody (grown w c more) net.past i)

            each : (i : ℕ) → i < length w.scripts → not (can_go_on_by nobody (grown w c more) net i) ≡ true
            each i lt = by_test (not (can_go_on_by nobody (grown w c more) net i)) refl
              where
                by_test : (b : Bool) → not (can_go_on_by nobody (grown w c more) net i) ≡ b → not (can_go_on_by nobody (grown w c more) net i) ≡ true
                by_test true passes = passes
                by_test false fails =
                    absurd (true≢false (sym is ∙ fails_range (λ (j : ℕ). not (can_go_on_by nobody (grown w c more) net j)) (length (grown w c more).scripts) 0 i (omega arith)
                    (omega (arith, lt, as_many w.scripts c more)) fails))

            one : (i : ℕ) → i < 0 + length till.scripts → not (can_go_on_by nobody till net i) ≡ true
            one i lt = by_number (i == c) refl
              where
                by_number : (b : Bool) → (i == c) ≡ b → not (can_go_on_by nobody till net i) ≡ true
                by_number false is = ap not (goes_same i (eqb-false i c is)) ∙ each i (omega (arith, lt, as_many w.scripts c (step.Until last ∷ [])))
                by_number true is =
                    ap (λ (j : ℕ). not (can_go_on_by nobody till net j)) (eqb-true i c is)
                    ∙ (ap (λ (o : Option Ask). not (is_ready till net o)) now_next
                    ∙ ap not (not_yet till s.host (net.actors (name.Desk s.host)) net.moment last before))

    movable_till : net.moment < last → movable_by nobody (grown w c more) net ≡ true → movable_by nobody till net ≡ true
    movable_till before may =
        let parts = and_parts (calm_by nobody (grown w c more) net) _ may in
        let rest = and_parts (unfinished_by nobody (grown w c more) net) (nat_lt net.moment w.end) parts.1 in
        and_from _ _ (calm_till before parts.0) (and_from _ _ unfinished_till rest.1)

  at_move : (past : List Entry) (e : Event) → IsWithinSteps w c past → IsInTimeTill w c more last past e → IsInTimeBy nobody (after w past) till e
  at_move past (event.Move m) within (inl early) = in_time w c (step.Until last ∷ []) past (event.Move m) early.0 early.1
  at_move past (event.Move m) within (inr waiting) =
      let same : (after w past).past ≡ past = past_after w (opening_net w) past in
      let inside : IsWithinSteps w c (after w past).past = subst (IsWithinSteps w c) (sym same) within in
      let through : next_by nobody w (after w past).past c ≡ None = ap (λ (p : List Entry). next_by nobody w p c) same ∙ waiting.begun in
      (movable_till (after w past) inside through waiting.before waiting.waits, waiting.goes_to ∙ sym (target_till (after w past) inside through))
  at_move past e within timed = tt

  timed_till : (h : List Entry) → IsWithinSteps w c h → IsTimedTill w c more last h → IsTimed till h
  timed_till h within timed k x is =
      subst (λ (net : Net). IsInTimeBy nobody net till x.event) (sym (same_after w (grown_scripts w.scripts c (step.Until last ∷ [])) (take k h)))
      (at_move (take k h) x.event (within_take w c h k x is within) (timed k x is))

pub deadline_timed : (w : World) (c : ℕ) (more : List Step) (last : ℕ) (h : List Entry) → c < length w.scripts → IsWithinSteps w c h
    → IsTimedTill w c more last h → IsTimed (grown w c (step.Until last ∷ [])) h
deadline_timed w c more last h lt within timed = let there = there_at w.scripts c lt in timed_till w c more last there.0 there.1 h within timed

-- The step that waits.

module _ (w : World) (c : ℕ) (more : List Step) (last : ℕ) (lt : c < length w.scripts) where
  till_now : (past : List Entry) (e : Event) → StaysBefore w c more last past e → IsInTimeBy nobody (after w past) (grown w c more) e → IsInTimeTill w c more last past e
  till_now past (event.Move m) before timed = by_next (next_by nobody w past c) refl
    where
      same : (after w past).past ≡ past
      same = past_after w (opening_net w) past

      by_next : (o : Option Ask) → next_by nobody w past c ≡ o
          → (IsSome (next_by nobody w past c) × IsInTimeBy nobody (after w past) w (event.Move m)) ⊎ WaitsTill w c more last past m
      by_next (Some a) is =
          let there : IsSome (next_by nobody w past c) = subst (λ (o : Option Ask). IsSome o) (sym is) refl in
          let now : IsSome (next_by nobody w (after w past).past c) = subst (λ (p : List Entry). IsSome (next_by nobody w p c)) (sym same) there in
          inl (there, (sym (movable_alike nobody w c more (after w past) now) ∙ timed.0, timed.1 ∙ target_alike nobody w c more (after w past) now))
      by_next None is =
          let at = before is in
          let still : next_by nobody w (after w past).past c ≡ None = ap (λ (p : List Entry). next_by nobody w p c) same ∙ is in
          inr (record { begun = is; waits = timed.0; before = at.0; goes_to = by_awaited (awaited_moment (next_by nobody (grown w c more) (after w past).past c)) refl still at.1 at.2 })
        where
          by_awaited : (o : Option ℕ) → awaited_moment (next_by nobody (grown w c more) (after w past).past c) ≡ o
              → next_by nobody w (after w past).past c ≡ None → m ≤ last
              → ((n : ℕ) → awaited_moment (next_by nobody (grown w c more) past c) ≡ Some n → last ≤ n)
              → m ≡ min last (target_by nobody w (after w past))
          by_awaited None none still le later =
              let to : m ≡ target_by nobody w (after w past) = timed.1 ∙ target_none w c more (after w past) still none in
              omega (arith, to, le)
          by_awaited (Some n) some still le later =
              let to : m ≡ min n (target_by nobody w (after w past)) = timed.1 ∙ target_some w c more (after w past) still n lt some in
              let far : last ≤ n = later n (subst (λ (p : List Entry). awaited_moment (next_by nobody (grown w c more) p c) ≡ Some n) same some) in
              omega (arith, to, le, far)
  till_now past e before timed = tt

  pub waiting_timed : (h : List Entry) → IsTimed (grown w c more) h → StaysBeforeMoves w c more last h → IsTimedTill w c more last h
  waiting_timed h timed before k x is =
      till_now (take k h) x.event (before k x is)
      (subst (λ (net : Net). IsInTimeBy nobody net (grown w c more) x.event) (same_after w (grown_scripts w.scripts c more) (take k h)) (timed k x is))

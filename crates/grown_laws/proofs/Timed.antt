-- If a script has a next event, more steps at its end do not change when the clock advances, nor its target.
use Rattle.std.proofs.Common.{◌≡◌, ℕ, zero, suc, ◌+◌, ◌&&◌, ◌||◌, nat_lt, not, Bool, List, [], ◌∷◌, ◌++◌, length, take, Option, Some, None, is_some, slice_get, refl, sym, ap, subst, ◌∙◌, arith}
use Rattle.std.specs.Prelude.{IsSome, filter_map}
use Rattle.std.specs.List.{enumerate_from, list_all, list_any, range_with_len}
use Rattle.net_base.specs.declared.actor.ActorName.{ActorName}
use Rattle.net_base.specs.declared.event.Event.{Event}
use Rattle.net_base.specs.declared.event.Event.TheVariants as event
use Rattle.net_base.specs.declared.history.Entry.{Entry}
use Rattle.net_base.specs.declared.history.With.TheVariants as given
use Rattle.net_base.specs.declared.world.Script.{Script}
use Rattle.net_base.specs.declared.world.Step.{Step}
use Rattle.net_base.specs.declared.world.World.{World}
use Rattle.net_base.specs.Calm.{awaited_moment, callers, calm_by, can_go_on_by, is_ready, least, movable_by, nothing_owed, nothing_pending, owes, scripts_wait_by, target_by, unfinished_by}
use Rattle.net_base.specs.Duties.{conversations, due_of}
use Rattle.net_base.specs.Legal.{IsInTimeBy, IsTimed}
use Rattle.net_base.specs.Net.{Net, after, opening_net}
use Rattle.net_base.specs.Next.{is_unfinished_by, next_by, own_replies, zone_of}
use Rattle.net_base.specs.Steps.{Ask}
use Rattle.net_base.specs.Tasks.{Tasks, nobody}
use Rattle.history_laws.proofs.Shared.{past_after}
use Rattle.grown_laws.specs.Grown.{HasNextAt, HasNextAtMoves, grown, grown_scripts, longer}
use Rattle.grown_laws.proofs.Nets.{same_after, same_step}
use Rattle.grown_laws.proofs.Scripts.{as_many, left_same, next_same, next_stays_there, own_next, same_count}

-- a test of the scripts that more steps do not change
some_same : (test : ℕ → Script → Bool) (ss : List Script) (c n : ℕ) (more : List Step)
    → ((k : ℕ) (s : Script) → k ≡ n + c → slice_get ss c ≡ Some s → test k (longer s more) ≡ test k s)
    → list_any (λ (p : ℕ × Script). test p.0 p.1) (enumerate_from n (grown_scripts ss c more)) ≡ list_any (λ (p : ℕ × Script). test p.0 p.1) (enumerate_from n ss)
some_same test [] c n more same = refl
some_same test (s ∷ ss) zero n more same = ap (λ (b : Bool). b || list_any (λ (p : ℕ × Script). test p.0 p.1) (enumerate_from (n + 1) ss)) (same n s (omega arith) refl)
some_same test (s ∷ ss) (suc c) n more same =
    ap (λ (b : Bool). test n s || b) (some_same test ss c (n + 1) more (λ k t at is. same k t (omega (arith, at)) is))

module _ (ts : Tasks) (w : World) (c : ℕ) (more : List Step) (net : Net) (there : IsSome (next_by ts w net.past c)) where
  abbrev big : World
  big = grown w c more

  same_callers : callers big ≡ callers w
  same_callers = ap (range_with_len 0) (same_count ts w c more)

  ready_alike : (o : Option Ask) → is_ready big net o ≡ is_ready w net o
  ready_alike None = refl
  ready_alike (Some a) =
      ap is_some (same_step w (grown_scripts w.scripts c more) a.actor (net.actors a.actor) net.moment (record { event = a.event; with = given.Nothing }))

  goes_alike : (i : ℕ) → can_go_on_by ts big net i ≡ can_go_on_by ts w net i
  goes_alike i = ap (is_ready big net) (next_same ts w c more net.past there i) ∙ ready_alike (next_by ts w net.past i)

  waits_alike : scripts_wait_by ts big net ≡ scripts_wait_by ts w net
  waits_alike =
      ap (λ (n : ℕ). list_all (λ (i : ℕ). not (can_go_on_by ts big net i)) (range_with_len 0 n)) (as_many w.scripts c more)
      ∙ ap (λ (test : ℕ → Bool). list_all test (range_with_len 0 (length w.scripts))) (λ j i. not (goes_alike i j))

  pub calm_alike : calm_by ts big net ≡ calm_by ts w net
  calm_alike =
      ap (λ (b : Bool). b && (nothing_pending w net && scripts_wait_by ts big net)) (ap (list_all (λ (i : ℕ). not (owes net i))) same_callers)
      ∙ ap (λ (b : Bool). nothing_owed w net && (nothing_pending w net && b)) waits_alike

  pub unfinished_alike : unfinished_by ts big net ≡ unfinished_by ts w net
  unfinished_alike = some_same (λ (n : ℕ) (s : Script). is_unfinished_by ts w net.past n s) w.scripts c 0 more one
    where
      one : (k : ℕ) (s : Script) → k ≡ 0 + c → slice_get w.scripts c ≡ Some s → is_unfinished_by ts w net.past k (longer s more) ≡ is_unfinished_by ts w net.past k s
      one k s at here =
          let same : k ≡ c = omega (arith, at) in
          subst (λ (j : ℕ). is_unfinished_by ts w net.past j (longer s more) ≡ is_unfinished_by ts w net.past j s) (sym same)
          (left_same (zone_of w) s more (ts c) (own_replies net.past c) (subst (λ (n : Option Ask). IsSome n) (own_next ts w c more net.past s here) there))

  pub movable_alike : movable_by ts big net ≡ movable_by ts w net
  movable_alike =
      ap (λ (b : Bool). b && (unfinished_by ts big net && nat_lt net.moment w.end)) calm_alike
      ∙ ap (λ (b : Bool). calm_by ts w net && (b && nat_lt net.moment w.end)) unfinished_alike

  pub target_alike : target_by ts big net ≡ target_by ts w net
  target_alike =
      ap (λ (ms : List ℕ). least w.end (filter_map (λ (a : ActorName). due_of (net.actors a)) (conversations w) ++ ms))
      (ap (filter_map (λ (i : ℕ). awaited_moment (next_by ts big net.past i))) same_callers
      ∙ ap (λ (f : ℕ → Option ℕ). filter_map f (callers w)) (λ j i. awaited_moment (next_same ts w c more net.past there i j)))

module _ (w : World) (c : ℕ) (more : List Step) where
  pub in_time : (past : List Entry) (e : Event) → HasNextAt w c past e → IsInTimeBy nobody (after w past) w e → IsInTimeBy nobody (after w past) (grown w c more) e
  in_time past (event.Move m) there timed =
      let now : IsSome (next_by nobody w (after w past).past c) =
      subst (λ (p : List Entry). IsSome (next_by nobody w p c)) (sym (past_after w (opening_net w) past)) there in
      (movable_alike nobody w c more (after w past) now ∙ timed.0, timed.1 ∙ sym (target_alike nobody w c more (after w past) now))
  in_time past e there timed = tt

  pub grown_timed : (h : List Entry) → IsTimed w h → HasNextAtMoves w c h → IsTimed (grown w c more) h
  grown_timed h timed there k x is =
      subst (λ (net : Net). IsInTimeBy nobody net (grown w c more) x.event) (sym (same_after w (grown_scripts w.scripts c more) (take k h)))
      (in_time (take k h) x.event (there k x is) (timed k x is))

  -- at each clock move, script c still has a next event if script d gets more steps
  pub moves_stay : (d : ℕ) (h : List Entry) → HasNextAtMoves w d h → HasNextAtMoves (grown w c more) d h
  moves_stay d h there k x is = by_event x.event (there k x is)
    where
      by_event : (e : Event) → HasNextAt w d (take k h) e → HasNextAt (grown w c more) d (take k h) e
      by_event (event.Move m) some = next_stays_there nobody w c more (take k h) d some
      by_event e some = tt

-- Where no caller could record the net is calm, and else it isn't.
use Rattle.std.proofs.Common.{◌≡◌, ℕ, zero, suc, ◌+◌, ◌-◌, ◌<◌, ◌≤◌, ◌==◌, ◌&&◌, ◌||◌, Bool, true, false, not, List, [], ◌∷◌, length, Option, Some, None, is_some, slice_get, nat_lt, refl, sym, ap, subst, ◌∙◌, arith}
use Rattle.std.specs.Option.{option_map_or}
use Rattle.std.proofs.lemmas.Bool.{false≢true, eq-eqb, eqb-true, eqb-false, lt-ltb, ltb-true, ltb-false, le-ltb, ne_eqb, or_parts, and_left, and_right}
use Rattle.std.proofs.lemmas.Option.{none-some, slice_get_past, slice_get_within}
use Rattle.net_base.specs.declared.actor.ActorName.TheVariants as name
use Rattle.net_base.specs.declared.event.Event.TheVariants as event
use Rattle.net_base.specs.declared.history.Taken.{Taken}
use Rattle.net_base.specs.declared.history.With.TheVariants as given
use Rattle.net_base.specs.declared.world.MediumSpec.{MediumSpec}
use Rattle.net_base.specs.declared.world.Script.{Script}
use Rattle.net_base.specs.declared.world.World.{World}
use Rattle.net_base.specs.ActorStep.{Step}
use Rattle.net_base.specs.Actors.{Actor, IsDesk, IsConv, IsDir, IsMedium, IsPlain, actor_step, step_as}
use Rattle.net_base.specs.Callers.{Caller, IsScript, IsCourier, IsClock, caller_of, other_caller, caller_count, clock_number, first_courier}
use Rattle.net_base.specs.Calm.{calm_by, can_go_on_by, is_quiet, is_ready, nothing_owed, nothing_pending, owes, scripts_wait_by}
use Rattle.net_base.specs.Medium.{Medium, takes}
use Rattle.net_base.specs.Net.{Net}
use Rattle.net_base.specs.Next.{next_of_by}
use Rattle.net_base.specs.Tasks.{Tasks}
use Rattle.history_laws.specs.Could.{could}
use Rattle.net_base.proofs.Shared.{all_range, fails_range}

-- Callers.

other_is : (w : World) (c : ℕ) → slice_get w.scripts c ≡ None → caller_of w c ≡ other_caller w c
other_is w c is = ap (λ (o : Option Script). option_map_or (λ (t : Script). IsScript t) o (other_caller w c)) is

pub courier_is : (w : World) (m c : ℕ) → c ≡ length w.scripts + m → m < length w.media → caller_of w c ≡ IsCourier m
courier_is w m c at lt =
    let none : slice_get w.scripts c ≡ None = slice_get_past w.scripts c (omega (arith, at)) in
    let number : c - first_courier w ≡ m = omega (arith, at) in
    other_is w c none ∙ rw (lt-ltb c (clock_number w) (omega (arith, at, lt))) (ap (λ (n : ℕ). IsCourier n) number)

pub clock_is : (w : World) → caller_of w (clock_number w) ≡ IsClock
clock_is w =
    let none : slice_get w.scripts (clock_number w) ≡ None = slice_get_past w.scripts (clock_number w) (omega arith) in
    other_is w (clock_number w) none ∙ rw (le-ltb (clock_number w) (clock_number w) (omega arith), eq-eqb (clock_number w) (clock_number w) refl) refl

pub clock_waits : (ts : Tasks) (w : World) (net : Net) → can_go_on_by ts w net (clock_number w) ≡ false
clock_waits ts w net = ap (λ (k : Caller). is_ready w net (next_of_by ts w k net.past (clock_number w))) (clock_is w)

-- so it could record only what it owes
pub clock_only_owes : (ts : Tasks) (w : World) (net : Net) → could ts w net (clock_number w) ≡ owes net (clock_number w)
clock_only_owes ts w net = rw (clock_waits ts w net) (or_none (owes net (clock_number w)))
  where
    or_none : (b : Bool) → (b || false) ≡ b
    or_none true = refl
    or_none false = refl

some_there : (xs : List Script) (i : ℕ) → i < length xs → slice_get xs i ≡ None → ⊥
some_there [] i lt none = absurd (omega (arith, lt))
some_there (x ∷ xs) zero lt none = none-some x (sym none)
some_there (x ∷ xs) (suc i) lt none = some_there xs i (omega (arith, lt)) none

-- which caller a number is of
pub data Kind (w : World) (c : ℕ) : Type 0 where
  OfScript : (s : Script) → slice_get w.scripts c ≡ Some s → Kind w c
  OfCourier : (m : ℕ) → m < length w.media → c ≡ length w.scripts + m → Kind w c
  OfClock : c ≡ clock_number w → Kind w c

pub kind_of : (w : World) (c : ℕ) → c < caller_count w → Kind w c
kind_of w c lt = by_script (slice_get w.scripts c) refl
  where
    past : slice_get w.scripts c ≡ None → length w.scripts ≤ c
    past none = at_least (nat_lt c (length w.scripts)) refl
      where
        at_least : (b : Bool) → nat_lt c (length w.scripts) ≡ b → length w.scripts ≤ c
        at_least true is = absurd (some_there w.scripts c (ltb-true c (length w.scripts) is) none)
        at_least false is = omega (arith, ltb-false c (length w.scripts) is)

    by_clock : (b : Bool) → (c == clock_number w) ≡ b → length w.scripts ≤ c → Kind w c
    by_clock true is le = OfClock (eqb-true c (clock_number w) is)
    by_clock false is le = OfCourier (c - length w.scripts) (omega (arith, le, lt, eqb-false c (clock_number w) is)) (omega (arith, le))

    by_script : (o : Option Script) → slice_get w.scripts c ≡ o → Kind w c
    by_script (Some s) is = OfScript s is
    by_script None is = by_clock (c == clock_number w) refl (past is)

-- Couriers.

unfoldable ready_take : World → Net → ℕ → Bool
ready_take w net m = is_some (actor_step w (name.Medium m) (net.actors (name.Medium m)) net.moment (record { event = event.Take; with = given.Nothing }))

courier_goes : (ts : Tasks) (w : World) (net : Net) (m c : ℕ) → c ≡ length w.scripts + m → m < length w.media → can_go_on_by ts w net c ≡ ready_take w net m
unfolding ready_take
courier_goes ts w net m c at lt = ap (λ (k : Caller). is_ready w net (next_of_by ts w k net.past c)) (courier_is w m c at lt)

medium_there : (w : World) (m : ℕ) → m < length w.media → (s : MediumSpec) × (slice_get w.media m ≡ Some s)
medium_there w m lt = at w.media m lt
  where
    at : (xs : List MediumSpec) (i : ℕ) → i < length xs → (s : MediumSpec) × (slice_get xs i ≡ Some s)
    at [] i lt = absurd (omega (arith, lt))
    at (x ∷ xs) zero lt = (x, refl)
    at (x ∷ xs) (suc i) lt = at xs i (omega (arith, lt))

as_so : (o : Option (Step Medium)) → is_some (step_as (λ (m : Medium). IsMedium m) o) ≡ is_some o
as_so None = refl
as_so (Some t) = refl

-- a copy can be taken exactly where one is queued or held
quiet_is : (w : World) (net : Net) (m : ℕ) → m < length w.media → is_quiet (net.actors (name.Medium m)) ≡ not (ready_take w net m)
unfolding ready_take
quiet_is w net m lt = by_actor (net.actors (name.Medium m))
  where
    spec : (s : MediumSpec) × (slice_get w.media m ≡ Some s)
    spec = medium_there w m lt

    takes_so : (fs hs : List Taken) (s : Medium) → ((length fs == 0) && (length hs == 0)) ≡ not (is_some (takes fs hs s))
    takes_so [] [] s = refl
    takes_so [] (f ∷ hs) s = rw (ne_eqb (length (f ∷ hs)) 0 (λ e. absurd (omega (arith, e)))) refl
    takes_so (f ∷ fs) hs s = rw (ne_eqb (length (f ∷ fs)) 0 (λ e. absurd (omega (arith, e)))) refl

    by_actor : (a : Actor) → is_quiet a ≡ not (is_some (actor_step w (name.Medium m) a net.moment (record { event = event.Take; with = given.Nothing })))
    by_actor (IsMedium s) = rw (lt-ltb m (length w.media) lt, spec.1, as_so (takes s.queue s.held s)) (takes_so s.queue s.held s)
    by_actor (IsConv c) = rw (lt-ltb m (length w.media) lt) refl
    by_actor (IsDir d) = rw (lt-ltb m (length w.media) lt) refl
    by_actor (IsDesk d) = rw (lt-ltb m (length w.media) lt) refl
    by_actor IsPlain = rw (lt-ltb m (length w.media) lt) refl

-- The calm.

pub is_calm : (ts : Tasks) (w : World) (net : Net) → ((c : ℕ) → c < caller_count w → could ts w net c ≡ false) → calm_by ts w net ≡ true
is_calm ts w net none = rw (nothing, pending, waiting) refl
  where
    nothing : nothing_owed w net ≡ true
    nothing = all_range (λ (c : ℕ). not (owes net c)) (caller_count w) 0
        (λ c lt. ap not (or_parts (owes net c) (can_go_on_by ts w net c) (none c (omega (arith, lt)))).0)

    pending : nothing_pending w net ≡ true
    pending =
        all_range (λ (m : ℕ). is_quiet (net.actors (name.Medium m))) (length w.media) 0 (λ m lt.
        let near : m < length w.media = omega (arith, lt) in
        let c : ℕ = length w.scripts + m in
        quiet_is w net m near
        ∙ ap not (sym (courier_goes ts w net m c refl near) ∙ (or_parts (owes net c) (can_go_on_by ts w net c) (none c (omega (arith, near)))).1))

    waiting : scripts_wait_by ts w net ≡ true
    waiting = all_range (λ (c : ℕ). not (can_go_on_by ts w net c)) (length w.scripts) 0
        (λ c lt. ap not (or_parts (owes net c) (can_go_on_by ts w net c) (none c (omega (arith, lt)))).1)

pub is_busy : (ts : Tasks) (w : World) (net : Net) (c : ℕ) → c < caller_count w → could ts w net c ≡ true → calm_by ts w net ≡ false
is_busy ts w net c lt is = by_owes (owes net c) refl is
  where
    goes_on : can_go_on_by ts w net c ≡ true → Kind w c → calm_by ts w net ≡ false
    goes_on goes (OfScript s at) =
        and_right (nothing_owed w net) _ (and_right (nothing_pending w net) (scripts_wait_by ts w net)
        (fails_range (λ (k : ℕ). not (can_go_on_by ts w net k)) (length w.scripts) 0 c (omega arith) (omega (arith, slice_get_within w.scripts c s at))
        (ap not goes)))
    goes_on goes (OfCourier m near at) =
        and_right (nothing_owed w net) _ (and_left (nothing_pending w net) (scripts_wait_by ts w net)
        (fails_range (λ (k : ℕ). is_quiet (net.actors (name.Medium k))) (length w.media) 0 m (omega arith) (omega (arith, near))
        (quiet_is w net m near ∙ ap not (sym (courier_goes ts w net m c at near) ∙ goes))))
    goes_on goes (OfClock at) = absurd (false≢true (sym (clock_waits ts w net) ∙ subst (λ (k : ℕ). can_go_on_by ts w net k ≡ true) at goes))

    by_owes : (b : Bool) → owes net c ≡ b → (b || can_go_on_by ts w net c) ≡ true → calm_by ts w net ≡ false
    by_owes true owing is = and_left (nothing_owed w net) _ (fails_range (λ (k : ℕ). not (owes net k)) (caller_count w) 0 c (omega arith) (omega (arith, lt))
        (ap not owing))
    by_owes false owing is = goes_on is (kind_of w c lt)

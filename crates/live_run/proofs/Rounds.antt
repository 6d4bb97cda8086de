-- An entry keeps what is known of the scripts that can get more steps.
use Rattle.std.proofs.Common.{◌≡◌, ℕ, ◌+◌, ◌<◌, ◌≤◌, ◌&&◌, ◌||◌, ◌==◌, not, nat_lt, Bool, true, false, List, [], ◌∷◌, ◌++◌, length, take, Some, is_some, slice_get, inl, inr, refl, sym, ap, subst, ◌∙◌, arith}
use Rattle.std.specs.Prelude.{IsSome, None, slice_set}
use Rattle.std.proofs.lemmas.Bool.{and_parts, false≢true, true≢false, eqb-false, ne_eqb}
use Rattle.std.proofs.Math.Seq.{take-append_seam}
use Rattle.net_base.specs.declared.event.Event.{Event}
use Rattle.net_base.specs.declared.event.Event.TheVariants as event
use Rattle.net_base.specs.declared.history.Entry.{Entry}
use Rattle.net_base.specs.declared.world.World.{World}
use Rattle.net_base.specs.Callers.{caller_count, clock_number}
use Rattle.net_base.specs.Calm.{calm, can_go_on, movable, owes, target, unfinished}
use Rattle.net_base.specs.Legal.{IsInTime, IsTimed}
use Rattle.net_base.specs.Net.{Net, after}
use Rattle.net_base.specs.Next.{next_recorded}
use Rattle.net_base.specs.Stamped.{In}
use Rattle.net_base.specs.Tasks.{Tasks, nobody}
use Rattle.history_laws.proofs.Shared.{at_push, in_pushed}
use Rattle.history_laws.specs.Could.{could}
use Rattle.net_base.specs.Calm.{calm_by}
use Rattle.grown_laws.specs.Grown.{HasNextAt, HasNextAtMoves, longer}
use Rattle.order_search.specs.Walks.{IsGoer}
use Rattle.plain_runner.specs.Tracks.{Grows, Tracks}
use Rattle.plain_runner.specs.declared.runner.Runner.{Runner}
use Rattle.turn_orders.specs.Turns.{comes, goes}
use Rattle.live_run.specs.Deadlines.{AllowsMove, AllowsOne, AreWaiting, MovesTo, Waits}
use Rattle.live_run.specs.LiveRuns.{AreHeld, IsRunning}
use Rattle.live_run.specs.LiveWorlds.{HadNext}
use Rattle.live_run.specs.declared.round.Round.{Round}
use Rattle.live_run.proofs.Late.{cleared_before, cleared_other}
use Rattle.live_run.proofs.Waits.{AllowsEvent, some_below, waits_on}

-- What the theorems say.

abbrev pub ClockAlone : Type 0
ClockAlone = (w : World) (h : List Entry) (c : ℕ) → movable w (after w h) ≡ true → In c (comes w h) → c ≡ clock_number w

abbrev pub TheseCome : Type 0
TheseCome = (w : World) (h : List Entry) (c : ℕ) → c < caller_count w → goes w (after w h) c ≡ true → In c (comes w h)

abbrev pub IsBusy : Type 0
IsBusy = (ts : Tasks) (w : World) (net : Net) (c : ℕ) → c < caller_count w → could ts w net c ≡ true → calm_by ts w net ≡ false

abbrev pub Pushed : Type 0
Pushed = (w : World) (c : ℕ) (h : List Entry) (x : Entry) → HasNextAtMoves w c h → HasNextAt w c h x.event → HasNextAtMoves w c (h ++ x ∷ [])

-- The last entry of a timed history comes in time.

last_in_time : (w : World) (h : List Entry) (x : Entry) → IsTimed w (h ++ x ∷ []) → IsInTime (after w h) w x.event
last_in_time w h x timed =
    subst (λ (past : List Entry). IsInTime (after w past) w x.event) (take-append_seam h (x ∷ [])) (timed (length h) x (at_push h x))

-- an event that comes in time while the clock cannot move is no move
no_move : (w : World) (h : List Entry) (c : ℕ) (e : Event) → (movable w (after w h) ≡ true → ⊥) → IsInTime (after w h) w e → HasNextAt w c h e
no_move w h c (event.Move m) stays time = absurd (stays time.0)
no_move w h c e stays time = tt

-- an event while a script has a next event
some_next : (w : World) (h : List Entry) (c : ℕ) (e : Event) → IsSome (next_recorded w h c) → HasNextAt w c h e
some_next w h c (event.Move m) some = some
some_next w h c e some = tt

-- Who records while the clock can move.

module _ (alone : ClockAlone) (come : TheseCome) (busy : IsBusy) where
  other_stays : (w : World) (r : Runner) (c : ℕ) → Tracks w r → IsGoer w r.history.entries (length r.callers.items) c
      → (c + 1 == length r.callers.items) ≡ false → movable w (after w r.history.entries) ≡ true → ⊥
  other_stays w r c s goer other moves =
      let known : c < caller_count w = omega (arith, goer.known, s.callers_are.count) in
      let is : c ≡ clock_number w = alone w r.history.entries c moves (come w r.history.entries c known goer.can) in
      eqb-false (c + 1) (length r.callers.items) other (omega (arith, is, s.callers_are.count))

  owing_stays : (w : World) (h : List Entry) (c : ℕ) → c < caller_count w → owes (after w h) c ≡ true → movable w (after w h) ≡ true → ⊥
  owing_stays w h c known owing moves =
      let calm_there : calm w (after w h) ≡ true = (and_parts (calm w (after w h)) (unfinished w (after w h) && nat_lt (after w h).moment w.end) moves).0 in
      let could_it : could nobody w (after w h) c ≡ true = ap (λ (b : Bool). b || can_go_on w (after w h) c) owing in
      false≢true (sym (busy nobody w (after w h) c known could_it) ∙ calm_there)

  -- a turn that is no move: it is another caller's, or a follow-up event
  pub ready_stays : (w : World) (r : Runner) (c : ℕ) → Tracks w r → IsGoer w r.history.entries (length r.callers.items) c
      → ((c + 1 == length r.callers.items) && not (owes (after w r.history.entries) c)) ≡ false → movable w (after w r.history.entries) ≡ true → ⊥
  ready_stays w r c s goer no_move = by_clock (c + 1 == length r.callers.items) (owes (after w r.history.entries) c) refl refl no_move
    where
      by_clock : (b o : Bool) → (c + 1 == length r.callers.items) ≡ b → owes (after w r.history.entries) c ≡ o → (b && not o) ≡ false
          → movable w (after w r.history.entries) ≡ true → ⊥
      by_clock true true last owing none = owing_stays w r.history.entries c (omega (arith, goer.known, s.callers_are.count)) owing
      by_clock true false last owing none = absurd (true≢false none)
      by_clock false o other owing none = other_stays w r c s goer other

-- Where the clock came.

moved_on : (h : List Entry) (x : Entry) (old new : ℕ) → MovesTo h old → old ≤ new → ((m : ℕ) → x.event ≡ event.Move m → m ≤ new) → MovesTo (h ++ x ∷ []) new
moved_on h x old new moves later at k m y is move =
    elim (in_pushed h x k y is) [
      | inl before ↦ let le : m ≤ old = moves k m y before.1 move in omega (arith, le, later)
      | inr here ↦ at m (ap (λ (z : Entry). z.event) here.1 ∙ move)
    ]

-- an event that comes in time while the clock cannot move is no move
no_move_at : (w : World) (h : List Entry) (e : Event) (new : ℕ) → (movable w (after w h) ≡ true → ⊥) → IsInTime (after w h) w e → (m : ℕ) → e ≡ event.Move m → m ≤ new
no_move_at w h e new stays time m move = absurd (stays (subst (λ (f : Event). IsInTime (after w h) w f) move time).0)

-- a move that comes in time goes to the target
move_at : (w : World) (h : List Entry) (e : Event) (to new : ℕ) → to ≡ target w (after w h) → to ≤ new → IsInTime (after w h) w e → (m : ℕ) → e ≡ event.Move m → m ≤ new
move_at w h e to new to_is later time m move =
    let is : m ≡ target w (after w h) = (subst (λ (f : Event). IsInTime (after w h) w f) move time).1 in omega (arith, is, to_is, later)

-- A turn was taken.

-- a clock move is allowed before all deadlines
no_allowed : (w : World) (h : List Entry) (c last : ℕ) (e : Event) → (movable w (after w h) ≡ true → ⊥) → IsInTime (after w h) w e → AllowsEvent w h c last e
no_allowed w h c last (event.Move m) stays time = absurd (stays time.0)
no_allowed w h c last e stays time = tt

moves_allowed : (w : World) (h : List Entry) (c last now to : ℕ) (e : Event) → now ≡ (after w h).moment → to ≡ target w (after w h) → AllowsOne w h c last now to
    → IsInTime (after w h) w e → AllowsEvent w h c last e
moves_allowed w h c last now to (event.Move m) now_is to_is allows time =
    (omega (arith, allows.0, now_is), omega (arith, allows.1, to_is, time.1), allows.2)
moves_allowed w h c last now to e now_is to_is allows time = tt

not_caller : (x : Entry) (c d : ℕ) → x.caller ≡ c → (d ≡ c → ⊥) → (x.caller == d) ≡ false
not_caller x c d is other = ne_eqb x.caller d (λ same. other (sym same ∙ is))

module _ (pushed : Pushed) where
  turned : (w : World) (old new : Round) (c : ℕ) (x : Entry) → IsRunning w old → Grows w old.runner new.runner c x
      → new.history ≡ old.history ++ x ∷ [] → new.places.grows.items ≡ old.places.grows.items
      → (IsInTime (after w old.runner.history.entries) w x.event
      → (d : ℕ) → slice_get old.places.grows.items d ≡ Some true → HasNextAt w d old.runner.history.entries x.event)
      → (IsInTime (after w old.runner.history.entries) w x.event → AreWaiting w (old.runner.history.entries ++ x ∷ []) new.places.deadlines.items)
      → (IsInTime (after w old.runner.history.entries) w x.event → MovesTo (old.runner.history.entries ++ x ∷ []) new.moved)
      → IsRunning w new
  turned w old new c x s grew history grows at waiting moves =
      let h : List Entry = old.runner.history.entries in
      let timed : IsTimed w (h ++ x ∷ []) = subst (IsTimed w) grew.history_is grew.tracks.history.timed in
      let time : IsInTime (after w h) w x.event = last_in_time w h x timed in
      let had : HadNext w (h ++ x ∷ []) old.places.grows.items = λ d is. pushed w d h x (s.next d is) (at time d is) in
      record {
        tracks = grew.tracks;
        history_is = history ∙ (ap (λ (k : List Entry). k ++ x ∷ []) s.history_is ∙ sym grew.history_is);
        next = subst (λ (k : List Entry). HadNext w k new.places.grows.items) (sym grew.history_is)
            (subst (λ (bs : List Bool). HadNext w (h ++ x ∷ []) bs) (sym grows) had);
        waits = subst (λ (k : List Entry). AreWaiting w k new.places.deadlines.items) (sym grew.history_is) (waiting time);
        moved = subst (λ (k : List Entry). MovesTo k new.moved) (sym grew.history_is) (moves time);
      }

  -- while the clock cannot move
  pub ready_turned : (w : World) (old new : Round) (c : ℕ) (x : Entry) → IsRunning w old → Grows w old.runner new.runner c x
      → new.history ≡ old.history ++ x ∷ [] → new.places.grows.items ≡ old.places.grows.items
      → new.places.deadlines.items ≡ slice_set old.places.deadlines.items c None
      → (movable w (after w old.runner.history.entries) ≡ true → ⊥) → new.moved ≡ old.moved → IsRunning w new
  ready_turned w old new c x s grew history grows cleared stays moved =
      let h : List Entry = old.runner.history.entries in
      turned w old new c x s grew history grows (λ time d is. no_move w h d x.event stays time)
      (λ time. subst (AreWaiting w (h ++ x ∷ [])) (sym cleared)
      (λ d last is. waits_on w h d last x (s.waits d last (cleared_before old.places.deadlines.items c d last is))
      (not_caller x c d grew.caller_is (cleared_other old.places.deadlines.items c d last is))
      (no_allowed w h d last x.event stays time)))
      (λ time. subst (MovesTo (h ++ x ∷ [])) (sym moved) (moved_on h x old.moved old.moved s.moved (omega arith) (no_move_at w h x.event old.moved stays time)))

  -- while each script that can get more steps has a next event, and before each deadline
  pub move_turned : (w : World) (old new : Round) (x : Entry) (clock to : ℕ) → IsRunning w old → Grows w old.runner new.runner clock x
      → new.history ≡ old.history ++ x ∷ [] → new.places.grows.items ≡ old.places.grows.items
      → new.places.deadlines.items ≡ old.places.deadlines.items
      → AreHeld w old.runner.history.entries old.places.grows.items
      → clock + 1 ≡ length old.runner.callers.items
      → to ≡ target w (after w old.runner.history.entries)
      → AllowsMove w old.runner.history.entries old.places.deadlines.items old.runner.moment to
      → old.moved ≤ new.moved → to ≤ new.moved → IsRunning w new
  move_turned w old new x clock to s grew history grows kept held last_is to_is allows before later =
      let h : List Entry = old.runner.history.entries in
      turned w old new clock x s grew history grows (λ time d is. some_next w h d x.event (held d is))
      (λ time. subst (AreWaiting w (h ++ x ∷ [])) (sym kept)
      (λ d last is.
      let waits : Waits w h d last = s.waits d last is in
      let known : d < length w.scripts = some_below w.scripts d (longer waits.script (waits.step ∷ [])) waits.is in
      let counts : length old.runner.callers.items ≡ caller_count w = s.tracks.callers_are.count in
      waits_on w h d last x waits (not_caller x clock d grew.caller_is (λ same. omega (arith, same, known, counts, last_is)))
      (moves_allowed w h d last old.runner.moment to x.event s.tracks.moment_is to_is (allows d last is) time)))
      (λ time. moved_on h x old.moved new.moved s.moved before (move_at w h x.event to new.moved to_is later time))

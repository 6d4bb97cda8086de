-- The turn of a caller that can continue.
use Rattle.std.proofs.Common.{◌≡◌, ℕ, ◌+◌, ◌^◌, ◌<◌, ◌≤◌, ◌&&◌, Bool, true, false, List, [], ◌∷◌, ◌++◌, length, Option, Some, None, is_some, nat_lt, nat_le, refl, sym, ap, subst, ◌∙◌, arith}
use Rattle.std.specs.Prelude.{IfOk, Result, Ok, Err}
use Rattle.std.proofs.lemmas.Bool.{and_parts, false≢true, leb-true, ltb-true, ltb-false}
use Rattle.net_base.specs.declared.actor.ActorName.{ActorName}
use Rattle.net_base.specs.declared.actor.ActorName.TheVariants as name
use Rattle.net_base.specs.declared.event.Event.{Event}
use Rattle.net_base.specs.declared.event.Event.TheVariants as event
use Rattle.net_base.specs.declared.history.Entry.{Entry}
use Rattle.net_base.specs.declared.world.World.{World}
use Rattle.net_base.specs.Callers.{Caller as AnyCaller, IsClock, caller_of, caller_count, clock_number}
use Rattle.net_base.specs.Calm.{most_entries, movable, target}
use Rattle.net_base.specs.Duties.{Duty}
use Rattle.net_base.specs.Legal.{IsAsked, IsInTime, IsLegal, IsMove, IsNext, MayFollow}
use Rattle.net_base.specs.Net.{Net, after, opening_net, owed}
use Rattle.net_base.specs.Next.{by, next_recorded}
use Rattle.net_base.specs.Steps.{Ask}
use Rattle.net_base.specs.Stamped.{In}
use Rattle.net_base.specs.World.{IsWorld}
use Rattle.history_laws.proofs.Shared.{clock_is, past_after}
use Rattle.plain_runner.specs.Followed.{Followed, FollowedBy, FollowsRun, GoesOnWith, IsOf, MayFollowOn}
use Rattle.plain_runner.specs.Tracks.{Grows, IsCallerReady, IsReadyRun, Tracks}
use Rattle.plain_runner.specs.Turns.{may_turn}
use Rattle.plain_runner.specs.declared.runner.Runner.{Runner}
use Rattle.turn_orders.specs.Preemptions.{cost, cost_in, last_caller}
use Rattle.turn_orders.specs.Turns.{comes, goes, has_room, next_entry}
use Rattle.order_search.specs.Walks.{IsGoer}
use Rattle.order_search.proofs.Goers.{ClockIsReady, DutiesAreReady, OwnAreReady, duty_tells, turn_is_not}

-- What the theorems say.

abbrev pub TurnsFollow : Type 0
TurnsFollow = (w : World) (h : List Entry) (c : ℕ) → IsWorld w → IsLegal w h → In c (comes w h)
    → (x : Entry) × (next_entry w (after w h) c ≡ Some x) × (x.caller ≡ c) × MayFollow w h x × IsInTime (after w h) w x.event

abbrev pub TheseCome : Type 0
TheseCome = (w : World) (h : List Entry) (c : ℕ) → c < caller_count w → goes w (after w h) c ≡ true → In c (comes w h)

-- A ready turn.

room_of : (w : World) (h : List Entry) (c : ℕ) → goes w (after w h) c ≡ true → length (by h c) < most_entries
room_of w h c can =
    subst (λ (p : List Entry). length (by p c) < most_entries) (past_after w (opening_net w) h)
    (ltb-true (length (by (after w h).past c)) most_entries (and_parts (has_room (after w h) c) (is_some (next_entry w (after w h) c)) can).0)

pub ready_run : (w : World) (r : Runner) (c : ℕ) (may : Bool) → Tracks w r → IsGoer w r.history.entries (length r.callers.items) c
    → may ≡ may_turn w r.history.entries c → may ≡ true → IsCallerReady w r c
ready_run w r c may s goer told holds = record { room = room_of w r.history.entries c goer.can; ready = sym told ∙ holds }

pub grown : {E : Type 0} (w : World) (old new : Runner) (c : ℕ) (given : Result Entry E)
    → IfOk given (λ (x : Entry). (v : World) → Tracks v old → IsCallerReady v old c → Grows v old new c x) → Tracks w old → IsCallerReady w old c
    → IfOk given (Grows w old new c)
grown w old new c (Ok x) so s ready = so w s ready
grown w old new c (Err e) so s ready = so

-- A move.

move_event : (w : World) (net : Net) (a : ActorName) (e : Event) → IsMove a e → IsInTime net w e → e ≡ event.Move (target w net)
move_event w net name.Clock (event.Move m) is time = ap (λ (n : ℕ). event.Move n) time.1
move_event w net _ _ is time = absurd is

asked_move : (k : AnyCaller) (ds : List Duty) (ask : Option Ask) (x : Entry) → k ≡ IsClock → ds ≡ [] → IsAsked ds k ask x → IsMove x.actor x.event
asked_move k ds ask x clock none asked =
    subst (λ (j : AnyCaller). IsNext j ask x) clock (subst (λ (es : List Duty). IsAsked es k ask x) none asked)

-- a turn that may not be taken and yet comes is the clock's, which has no pending follow-up event
record IsClockTurn (w : World) (h : List Entry) (c : ℕ) : Type 0 where
  pub at : c ≡ clock_number w
  pub nothing : owed w h c ≡ []

module _ (follow : TurnsFollow) (come : TheseCome) (duties : DutiesAreReady) (own : OwnAreReady) (clock : ClockIsReady) where
  clock_turn : (w : World) (h : List Entry) (c : ℕ) → c < caller_count w → goes w (after w h) c ≡ true → may_turn w h c ≡ false → IsClockTurn w h c
  clock_turn w h c known can may = by_place (nat_lt c (clock_number w)) refl
    where
      ready : is_some (next_entry w (after w h) c) ≡ true
      ready = (and_parts (has_room (after w h) c) (is_some (next_entry w (after w h) c)) can).1

      by_owed : c ≡ clock_number w → (ds : List Duty) → owed w h c ≡ ds → IsClockTurn w h c
      by_owed at [] is = record { at = at; nothing = is }
      by_owed at (d ∷ ds) is = absurd (false≢true (sym may ∙ (sym (duty_tells duties own clock w h c d ds is) ∙ ready)))

      by_place : (b : Bool) → nat_lt c (clock_number w) ≡ b → IsClockTurn w h c
      by_place true below = absurd (false≢true (sym (turn_is_not duties own clock w h c (ltb-true c (clock_number w) below) may) ∙ ready))
      by_place false above = by_owed (omega (arith, known, ltb-false c (clock_number w) above)) (owed w h c) refl

  pub moving : (w : World) (r : Runner) (c moment : ℕ) (may : Bool) → Tracks w r → IsGoer w r.history.entries (length r.callers.items) c
      → may ≡ may_turn w r.history.entries c → may ≡ false → moment ≡ target w (after w r.history.entries)
      → (x : Entry) × IsOf x c (event.Move moment) × FollowsRun w r x
  moving w r c moment may s goer told no_ to =
      let known : c < caller_count w = omega (arith, goer.known, s.callers_are.count) in
      let f = follow w r.history.entries c s.history.world s.history.legal (come w r.history.entries c known goer.can) in
      let turn = clock_turn w r.history.entries c known goer.can (sym told ∙ no_) in (
        f.0,
        record {
          caller_is = f.2;
          event_is = move_event w (after w r.history.entries) f.0.actor f.0.event
              (asked_move (caller_of w f.0.caller) (owed w r.history.entries f.0.caller) (next_recorded w r.history.entries f.0.caller) f.0
              (ap (caller_of w) (f.2 ∙ turn.at) ∙ clock_is w) (ap (owed w r.history.entries) f.2 ∙ turn.nothing) f.3.is_asked)
              f.4 ∙ ap (λ (n : ℕ). event.Move n) (sym to);
        },
        record { tracks = s; may = f.3; in_time = f.4 },
      )

  pub may_move : (w : World) (r : Runner) (c moment : ℕ) (may : Bool) → Tracks w r → IsGoer w r.history.entries (length r.callers.items) c
      → may ≡ may_turn w r.history.entries c → may ≡ false → moment ≡ target w (after w r.history.entries) → MayFollowOn r c (event.Move moment)
  may_move w r c moment may s goer told no_ to =
      let f = moving w r c moment may s goer told no_ to in
      record { world = w; entry = f.0; is = f.1; follows = f.2 }

  moved : (w : World) (old new : Runner) (c moment : ℕ) (may : Bool) (given : Entry) → Tracks w old
      → IsGoer w old.history.entries (length old.callers.items) c → may ≡ may_turn w old.history.entries c → may ≡ false
      → moment ≡ target w (after w old.history.entries) → FollowedBy old new c (event.Move moment) given → Grows w old new c given
  moved w old new c moment may given s goer told no_ to followed =
      let f = moving w old c moment may s goer told no_ to in
      let g = followed w f.0 f.1 f.2 in
      record {
        tracks = g.followed.tracks;
        history_is = g.followed.history_is ∙ ap (λ (y : Entry). old.history.entries ++ y ∷ []) (sym g.same);
        caller_is = ap (λ (y : Entry). y.caller) g.same ∙ f.1.caller_is;
      }

  pub moved_on : {E : Type 0} (w : World) (old new : Runner) (c moment : ℕ) (may : Bool) (given : Result Entry E) → Tracks w old
      → IsGoer w old.history.entries (length old.callers.items) c → may ≡ may_turn w old.history.entries c → may ≡ false
      → moment ≡ target w (after w old.history.entries) → IfOk given (FollowedBy old new c (event.Move moment)) → IfOk given (Grows w old new c)
  moved_on w old new c moment may (Ok x) s goer told no_ to so = moved w old new c moment may x s goer told no_ to so
  moved_on w old new c moment may (Err e) s goer told no_ to so = so

-- a world has few callers
pub few_callers : (w : World) (r : Runner) (c : ℕ) → Tracks w r → c < length r.callers.items → c < 2 ^ 32
few_callers w r c s known =
    omega (
      arith,
      known,
      s.callers_are.count,
      leb-true (length w.media) 4 (and_parts (nat_le 1 (length w.media)) (nat_le (length w.media) 4) s.history.world.some_media).1,
      leb-true (length w.scripts) 32 s.history.world.few_scripts,
    )

-- What a turn costs.

pub nothing_before : (w : World) (h : List Entry) (c : ℕ) (last : Option ℕ) → last_caller h ≡ last → last ≡ None → 0 ≡ cost w h c
nothing_before w h c last is none = sym (ap (λ (l : Option ℕ). cost_in w (after w h) l c) (is ∙ none))

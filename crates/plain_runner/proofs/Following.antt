-- A run that follows a history: the entry that it records is the one that may follow.
use Rattle.std.proofs.Common.{◌≡◌, ℕ, suc, ◌+◌, ◌<◌, ◌≤◌, Bool, true, List, [], ◌∷◌, ◌++◌, length, take, take_all, get_or, Option, Some, None, is_some, slice_get, refl, sym, ap, subst, ◌∙◌, arith}
use Rattle.std.specs.Prelude.{IsSome}
use Rattle.std.specs.Option.{option_map}
use Rattle.std.proofs.Math.Seq.{take-append_seam}
use Rattle.std.proofs.lemmas.Bool.{false≢true}
use Rattle.std.proofs.lemmas.Option.{same_Some}
use Rattle.net_base.specs.declared.actor.ActorName.{ActorName}
use Rattle.net_base.specs.declared.actor.ActorName.TheVariants as name
use Rattle.net_base.specs.declared.event.Event.{Event}
use Rattle.net_base.specs.declared.event.Event.TheVariants as event
use Rattle.net_base.specs.declared.history.Entry.{Entry}
use Rattle.net_base.specs.declared.history.Outcome.{Outcome}
use Rattle.net_base.specs.declared.packet.Header.{Header}
use Rattle.net_base.specs.declared.reply.Reply.{Reply}
use Rattle.net_base.specs.declared.world.World.{World}
use Rattle.net_base.specs.ActorStep.{Step}
use Rattle.net_base.specs.Actors.{Actor, actor_step}
use Rattle.net_base.specs.Callers.{Caller as AnyCaller, IsScript, IsCourier, IsClock, IsNobody, caller_of, caller_count, clock_number}
use Rattle.net_base.specs.Calm.{is_ready}
use Rattle.net_base.specs.Duties.{Duty}
use Rattle.net_base.specs.Legal.{Follows, IsAsked, IsInTime, IsLegal, IsMove, IsNext, IsTimed, MayFollow, Shown, Shows, asked_by, cites_of, shown_by}
use Rattle.net_base.specs.Net.{Net, after, outcome_in, owed, step_of, with_of, work_of}
use Rattle.net_base.specs.Next.{next_recorded, next_of}
use Rattle.net_base.specs.Steps.{Ask}
use Rattle.history_laws.proofs.Shared.{at_push, one_more, Each}
use Rattle.history_laws.proofs.Shared.{steady_after, OfKind}
use Rattle.plain_runner.specs.Followed.{Followed, FollowsRun as FollowsOn, GoesOnWith, IsOf}
use Rattle.plain_runner.specs.Recording.{IsHistory}
use Rattle.plain_runner.specs.Tracks.{Grows, IsBefore, IsCallerReady, RecordedSo, Tracks}
use Rattle.plain_runner.specs.Turns.{IsMoving, may_turn_by}
use Rattle.plain_runner.specs.declared.runner.Runner.{Runner}
use Rattle.plain_runner.specs.declared.turn.Turn.{Turn}
use Rattle.plain_runner.proofs.Advancing.{clock_before}
use Rattle.history_laws.proofs.Shared.{Kind, OfScript, OfCourier, OfClock, clock_is, courier_is, kind_of}
use Rattle.plain_runner.proofs.Could.{past_is}
use Rattle.plain_runner.proofs.Recorded.{got}
use Rattle.plain_runner.proofs.Unmoved.{IsStill, duty_still, next_still}
use Rattle.net_base.proofs.Shared.{script_is}

-- Entries that are the same.

shown_in : (o : Option Outcome) (x y : Entry) → Shows o x → Shows o y → IsSome o → shown_by x ≡ shown_by y
shown_in (Some o) x y left right is = left ∙ sym right
shown_in None x y left right is = absurd (false≢true is)

pub same_fields : (x y : Entry) → x.actor ≡ y.actor → x.caller ≡ y.caller → x.moment ≡ y.moment → x.event ≡ y.event → x.cites ≡ y.cites → shown_by x ≡ shown_by y
    → x ≡ y
same_fields x y actor caller moment e cites shown =
    let answer : x.reply ≡ y.reply = ap (λ (s : Shown). s.reply) shown in
    let emits : x.emits ≡ y.emits = ap (λ (s : Shown). s.emits) shown in
    let ended : x.ended ≡ y.ended = ap (λ (s : Shown). s.ended) shown in
    build actor caller moment e cites answer emits ended
  where
    build : {a b : ActorName} {c d : ℕ} {m n : ℕ} {e f : Event} {i j : Option ℕ} {r s : Reply} {p q : Option Header} {u v : Bool} → a ≡ b → c ≡ d → m ≡ n
        → e ≡ f → i ≡ j → r ≡ s → p ≡ q → u ≡ v
        → ◌≡◌ {A = Entry} (record { actor = a; caller = c; moment = m; event = e; cites = i; reply = r; emits = p; ended = u })
        (record { actor = b; caller = d; moment = n; event = f; cites = j; reply = s; emits = q; ended = v })
    build one two three four five six seven eight = rw (one, two, three, four, five, six, seven, eight) refl

-- two entries that may follow, with one event of one caller
same_ask : (w : World) (past : List Entry) (net : Net) (x y : Entry) → Follows w past net x → Follows w past net y → x.caller ≡ y.caller
    → asked_by x ≡ asked_by y → x ≡ y
same_ask w past net x y left right caller asked =
    same_fields x y actor caller (left.at_moment ∙ sym right.at_moment) event_is (left.cites ∙ ap (λ (c : ℕ). cites_of (net.owed c)) caller ∙ sym right.cites)
    (shown_in (outcome_in w net x) x y left.answers (subst (λ (o : Option Outcome). Shows o y) (sym outcome) right.answers) left.is_ready)
  where
    actor : x.actor ≡ y.actor
    actor = ap (λ (a : Ask). a.actor) asked

    event_is : x.event ≡ y.event
    event_is = ap (λ (a : Ask). a.event) asked

    outcome : outcome_in w net x ≡ outcome_in w net y
    outcome =
        ap (λ (a : ActorName). option_map (λ (s : Step Actor). s.outcome) (actor_step w a (net.actors a) net.moment (work_of net x))) actor
        ∙ ap (λ (e : Event). option_map (λ (s : Step Actor). s.outcome)
        (actor_step w y.actor (net.actors y.actor) net.moment (record { event = e; with = with_of (net.owed x.caller) }))) event_is
        ∙ ap (λ (c : ℕ). option_map (λ (s : Step Actor). s.outcome)
        (actor_step w y.actor (net.actors y.actor) net.moment (record { event = y.event; with = with_of (net.owed c) }))) caller

-- a caller has one event that is no move
one_ask : (k : AnyCaller) (ds : List Duty) (ask : Option Ask) (x y : Entry) → (IsMove x.actor x.event → ⊥) → IsAsked ds k ask y → IsAsked ds k ask x
    → asked_by y ≡ asked_by x
one_ask k (d ∷ ds) ask x y other left right = sym left ∙ right
one_ask (IsScript s) [] ask x y other left right = same_Some (asked_by y) (asked_by x) (sym left ∙ right)
one_ask (IsCourier m) [] ask x y other left right = same_Some (asked_by y) (asked_by x) (sym left ∙ right)
one_ask IsNobody [] ask x y other left right = same_Some (asked_by y) (asked_by x) (sym left ∙ right)
one_ask IsClock [] ask x y other left right = absurd (other right)

last_follows : (w : World) (h : List Entry) (y : Entry) → IsLegal w (h ++ y ∷ []) → MayFollow w h y
last_follows w h y legal = subst (λ (p : List Entry). MayFollow w p y) (take-append_seam h (y ∷ [])) (legal (length h) y (at_push h y))

-- what was recorded is the entry
followed_so : (w : World) (r new : Runner) (x y : Entry) → FollowsOn w r x → Tracks w new → new.history.entries ≡ r.history.entries ++ y ∷ []
    → y.caller ≡ x.caller → asked_by y ≡ asked_by x → GoesOnWith w r new x y
followed_so w r new x y f tracks history caller asked = record {
  followed = record { tracks = tracks; history_is = history ∙ ap (λ (z : Entry). r.history.entries ++ z ∷ []) same };
  same = same;
}
  where
    same : y ≡ x
    same =
        same_ask w r.history.entries (after w r.history.entries) y x
        (last_follows w r.history.entries y (subst (IsLegal w) history tracks.history.legal)) f.may caller asked

-- No move.

pub no_move : (x : Entry) → ((m : ℕ) → x.event ≡ event.Move m → ⊥) → IsMove x.actor x.event → ⊥
no_move x other = by_event x.actor x.event refl
  where
    by_event : (a : ActorName) (e : Event) → x.event ≡ e → IsMove a e → ⊥
    by_event name.Clock (event.Move m) is move = other m is
    by_event _ _ is move = move

grown_follows : (w : World) (r new : Runner) (x y : Entry) → FollowsOn w r x → ((m : ℕ) → x.event ≡ event.Move m → ⊥) → Grows w r new x.caller y
    → GoesOnWith w r new x y
grown_follows w r new x y f other g =
    followed_so w r new x y f g.tracks g.history_is g.caller_is
    (one_ask (caller_of w x.caller) (owed w r.history.entries x.caller) (next_recorded w r.history.entries x.caller) x y (no_move x other)
    (subst (λ (c : ℕ). IsAsked (owed w r.history.entries c) (caller_of w c) (next_recorded w r.history.entries c) y) g.caller_is may.is_asked) f.may.is_asked)
  where
    may : MayFollow w r.history.entries y
    may = last_follows w r.history.entries y (subst (IsLegal w) g.history_is g.tracks.history.legal)

pub some_step : (o : Option (Step Actor)) → IsSome (option_map (λ (s : Step Actor). s.outcome) o) → is_some o ≡ true
some_step (Some s) is = refl
some_step None is = absurd (false≢true is)

-- an entry that may follow and is no move is its caller's turn
turn_of : (w : World) (net : Net) (h : List Entry) (k : AnyCaller) (c : ℕ) (ds : List Duty) (x : Entry) → net.past ≡ h → caller_of w c ≡ k
    → (IsMove x.actor x.event → ⊥) → IsAsked ds k (next_of w k h c) x
    → is_some (actor_step w x.actor (net.actors x.actor) net.moment (record { event = x.event; with = with_of ds })) ≡ true → may_turn_by w net c ds ≡ true
turn_of w net h k c (d ∷ ds) x past is other asked ready =
    subst (λ (a : Ask). is_some (actor_step w a.actor (net.actors a.actor) net.moment (record { event = a.event; with = d.with })) ≡ true) (sym asked) ready
turn_of w net h k c [] x past is other asked ready =
    subst (λ (j : AnyCaller). is_ready w net (next_of w j net.past c) ≡ true) (sym is)
    (subst (λ (p : List Entry). is_ready w net (next_of w k p c) ≡ true) (sym past) (by_kind k asked))
  where
    by_kind : (j : AnyCaller) → IsNext j (next_of w j h c) x → is_ready w net (next_of w j h c) ≡ true
    by_kind IsClock asked = absurd (other asked)
    by_kind (IsScript s) asked = subst (λ (o : Option Ask). is_ready w net o ≡ true) (sym asked) ready
    by_kind (IsCourier m) asked = subst (λ (o : Option Ask). is_ready w net o ≡ true) (sym asked) ready
    by_kind IsNobody asked = subst (λ (o : Option Ask). is_ready w net o ≡ true) (sym asked) ready

ready_to_follow : (w : World) (r : Runner) (x : Entry) → FollowsOn w r x → ((m : ℕ) → x.event ≡ event.Move m → ⊥) → IsCallerReady w r x.caller
ready_to_follow w r x f other = record {
  room = f.may.has_room;
  ready = turn_of w (after w r.history.entries) r.history.entries (caller_of w x.caller) x.caller (owed w r.history.entries x.caller) x (past_is w r.history.entries) refl
      (no_move x other) f.may.is_asked
      (some_step (step_of w (after w r.history.entries) x) f.may.is_ready);
}

-- A move.

-- only the clock moves, where it owes nothing
pub record IsClockMove (w : World) (h : List Entry) (x : Entry) : Type 0 where
  pub clock : x.caller ≡ clock_number w
  pub nothing : owed w h x.caller ≡ []
  pub at_clock : x.actor ≡ name.Clock

still_not : (e : Event) (m : ℕ) → e ≡ event.Move m → IsStill e → ⊥
still_not e m is still = subst IsStill is still

move_at : (a : ActorName) (e : Event) → IsMove a e → a ≡ name.Clock
move_at name.Clock (event.Move m) is = refl
move_at _ _ is = absurd is

pub clock_moves : (w : World) (h : List Entry) (x : Entry) (m : ℕ) → IsHistory w h → x.caller < caller_count w
    → IsAsked (owed w h x.caller) (caller_of w x.caller) (next_recorded w h x.caller) x → x.event ≡ event.Move m → IsClockMove w h x
clock_moves w h x m history known asked is = by_owed (owed w h x.caller) refl asked
  where
    kinds : Each (OfKind w) (owed w h x.caller)
    kinds = (steady_after w h history.world history.legal).kinds x.caller

    not_next : (k : AnyCaller) → next_of w k h x.caller ≡ Some (asked_by x) → IsClockMove w h x
    not_next k asked = absurd (still_not x.event m is (next_still w k h x.caller (asked_by x) asked))

    by_kind : owed w h x.caller ≡ [] → Kind w x.caller → IsNext (caller_of w x.caller) (next_recorded w h x.caller) x → IsClockMove w h x
    by_kind none (OfClock at) asked = record {
      clock = at;
      nothing = none;
      at_clock = move_at x.actor x.event (subst (λ (k : AnyCaller). IsNext k (next_recorded w h x.caller) x) (ap (caller_of w) at ∙ clock_is w) asked);
    }
    by_kind none (OfScript s at) asked =
        not_next (caller_of w x.caller) (subst (λ (k : AnyCaller). IsNext k (next_recorded w h x.caller) x) (script_is w x.caller s at) asked)
    by_kind none (OfCourier n lt at) asked =
        not_next (caller_of w x.caller) (subst (λ (k : AnyCaller). IsNext k (next_recorded w h x.caller) x) (courier_is w n x.caller at lt) asked)

    by_owed : (ds : List Duty) → owed w h x.caller ≡ ds → IsAsked ds (caller_of w x.caller) (next_recorded w h x.caller) x → IsClockMove w h x
    by_owed [] none asked = by_kind none (kind_of w x.caller known) asked
    by_owed (d ∷ ds) some asked =
        let kind = (subst (Each (OfKind w)) some kinds).0 in
        absurd (still_not d.event m (ap (λ (a : Ask). a.event) asked ∙ is) (duty_still w d.actor d.event d.with kind))

is_clock_move : (w : World) (h : List Entry) (x : Entry) (m : ℕ) → IsHistory w h → MayFollow w h x → x.event ≡ event.Move m → IsClockMove w h x
is_clock_move w h x m history may is = clock_moves w h x m history may.is_known.1 may.is_asked is

move_before : (w : World) (r : Runner) (x : Entry) (m : ℕ) (t : Turn) → FollowsOn w r x → x.event ≡ event.Move m → IsMoving t m → IsBefore w r x.caller t
move_before w r x m t f is moves =
    let clock = is_clock_move w r.history.entries x m f.tracks.history f.may is in
    let time : IsInTime (after w r.history.entries) w (event.Move m) = subst (IsInTime (after w r.history.entries) w) is f.in_time in
    clock_before w r x.caller t m f.tracks clock.clock clock.nothing moves time.0 time.1 f.may.has_room

move_follows : (w : World) (r new : Runner) (x y : Entry) (m : ℕ) (t : Turn) → FollowsOn w r x → x.event ≡ event.Move m → IsMoving t m
    → RecordedSo w r new x.caller t y → GoesOnWith w r new x y
move_follows w r new x y m t f is moves rec =
    let clock = is_clock_move w r.history.entries x m f.tracks.history f.may is in
    followed_so w r new x y f rec.tracks rec.history_is rec.caller_is
    (same_asks (rec.actor_is ∙ moves.actor ∙ sym clock.at_clock) (rec.event_is ∙ moves.event ∙ sym is))
  where
    same_asks : {a b : ActorName} {d e : Event} → a ≡ b → d ≡ e → ◌≡◌ {A = Ask} (record { actor = a; event = d }) (record { actor = b; event = e })
    same_asks one two = rw (one, two) refl

-- By caller and event.

pub move_of : (w : World) (r : Runner) (x : Entry) (c m : ℕ) (e : Event) (t : Turn) → IsOf x c e → FollowsOn w r x → e ≡ event.Move m → IsMoving t m
    → IsBefore w r c t
move_of w r x c m e t of f is moves = subst (λ (k : ℕ). IsBefore w r k t) of.caller_is (move_before w r x m t f (of.event_is ∙ is) moves)

pub moved_of : (w : World) (r new : Runner) (x y : Entry) (c m : ℕ) (e : Event) (t : Turn) → IsOf x c e → FollowsOn w r x → e ≡ event.Move m
    → IsMoving t m → RecordedSo w r new c t y → GoesOnWith w r new x y
moved_of w r new x y c m e t of f is moves rec =
    move_follows w r new x y m t f (of.event_is ∙ is) moves (subst (λ (k : ℕ). RecordedSo w r new k t y) (sym of.caller_is) rec)

pub ready_of : (w : World) (r : Runner) (x : Entry) (c : ℕ) (e : Event) → IsOf x c e → FollowsOn w r x → ((m : ℕ) → e ≡ event.Move m → ⊥) → IsCallerReady w r c
ready_of w r x c e of f other = subst (λ (k : ℕ). IsCallerReady w r k) of.caller_is (ready_to_follow w r x f (λ m is. other m (sym of.event_is ∙ is)))

pub grown_of : (w : World) (r new : Runner) (x y : Entry) (c : ℕ) (e : Event) → IsOf x c e → FollowsOn w r x → ((m : ℕ) → e ≡ event.Move m → ⊥)
    → Grows w r new c y → GoesOnWith w r new x y
grown_of w r new x y c e of f other g =
    grown_follows w r new x y f (λ m is. other m (sym of.event_is ∙ is)) (subst (λ (k : ℕ). Grows w r new k y) (sym of.caller_is) g)

pub known_of : (w : World) (r : Runner) (x : Entry) (c : ℕ) (e : Event) → IsOf x c e → FollowsOn w r x → c < length r.callers.items
known_of w r x c e of f = omega (arith, of.caller_is, f.may.is_known.1, f.tracks.callers_are.count)

-- A history.

pub may_next : (w : World) (h items : List Entry) (r : Runner) (n : ℕ) (x : Entry) → IsLegal w h → IsTimed w h → items ≡ h → n < length items
    → x ≡ get_or items n x → Followed w (take n items) r → FollowsOn w r x
may_next w h items r n x legal timed same lt is f = record {
  tracks = f.tracks;
  may = subst (λ (p : List Entry). MayFollow w p x) (sym before) (legal n x at);
  in_time = subst (λ (p : List Entry). IsInTime (after w p) w x.event) (sym before) (timed n x at);
}
  where
    before : r.history.entries ≡ take n h
    before = f.history_is ∙ ap (take n) same

    at : slice_get h n ≡ Some x
    at = subst (λ (p : List Entry). slice_get p n ≡ Some x) same (got items n x lt is)

pub followed_more : (w : World) (items : List Entry) (r new : Runner) (n : ℕ) (x : Entry) → n < length items → x ≡ get_or items n x
    → r.history.entries ≡ take n items → Followed w (r.history.entries ++ x ∷ []) new → Followed w (take (n + 1) items) new
followed_more w items r new n x lt is before next_recorded = record {
  tracks = next_recorded.tracks;
  history_is = next_recorded.history_is ∙ ap (λ (p : List Entry). p ++ x ∷ []) before ∙ more;
}
  where
    there : (y : Entry) × (slice_get items n ≡ Some y) × (take (suc n) items ≡ take n items ++ y ∷ [])
    there = one_more items n lt

    more : take n items ++ x ∷ [] ≡ take (n + 1) items
    more =
        let y_is : there.0 ≡ x = same_Some there.0 x (sym there.1 ∙ got items n x lt is) in
        let e : suc n ≡ n + 1 = omega arith in
        ap (λ (y : Entry). take n items ++ y ∷ []) (sym y_is) ∙ sym there.2 ∙ ap (λ (k : ℕ). take k items) e

pub followed_all : (w : World) (h items : List Entry) (r : Runner) (n : ℕ) → items ≡ h → length items ≤ n → Followed w (take n items) r → Followed w h r
followed_all w h items r n same le f = record { tracks = f.tracks; history_is = f.history_is ∙ take_all n items le ∙ same }

-- What is concluded of the clock from how the callers stand.
use Rattle.std.proofs.Common.{◌≡◌, ℕ, ◌<◌, ◌≤◌, ◌&&◌, ◌||◌, nat_lt, Bool, true, false, List, [], ◌∷◌, length, Option, Some, None, if◌then◌else◌, refl, ap, sym, subst, ◌∙◌, arith, inl, inr}
use Rattle.std.proofs.lemmas.Bool.{eq-eqb, false≢true, lt-ltb, le-ltb, true≢false, and_parts, and_left, and_right}
use Rattle.net_base.specs.declared.actor.ActorName.{ActorName}
use Rattle.net_base.specs.declared.actor.ActorName.TheVariants as name
use Rattle.net_base.specs.declared.event.Event.{Event}
use Rattle.net_base.specs.declared.event.Event.TheVariants as event
use Rattle.net_base.specs.declared.noted.Noted.{Noted}
use Rattle.net_base.specs.declared.world.World.{World}
use Rattle.net_base.specs.ActorStep.{Step}
use Rattle.net_base.specs.Actors.{Actor, has_actor}
use Rattle.net_base.specs.Callers.{caller_count, clock_number}
use Rattle.net_base.specs.Calm.{calm_by, can_go_on_by, done_by, least, limited_by, movable_by, owes, stopped_by, target_by, unfinished_by}
use Rattle.net_base.specs.Duties.{Duty}
use Rattle.net_base.specs.Legal.{IsInTimeBy}
use Rattle.net_base.specs.Net.{Net, moment_after, opening_net}
use Rattle.net_base.specs.Stamped.{In, same_actor}
use Rattle.net_base.specs.Tasks.{Tasks}
use Rattle.history_laws.specs.Could.{could, is_full}
use Rattle.journal.specs.declared.law.Roster.{Roster}
use Rattle.journal.specs.declared.tokens.Sight.{Sight}
use Rattle.journal.specs.Rule.{Lawful}
use Rattle.net_locks.specs.Guests.{IsGuest, IsOfGuests}
use Rattle.net_locks.specs.Own.{AreTimely, AreTurns, IsTimelyIn, OwnFrom}
use Rattle.net_locks.specs.Works.{moment_by, next_noted, noted_after, noted_from, noted_net, step_by}
use Rattle.net_locks.specs.declared.clock.Busy.{Busy}
use Rattle.net_locks.specs.declared.clock.Standing.{Standing}
use Rattle.net_locks.specs.Standings.{AllStand, DoesAny, FindsBusy, IsLeastOf, standing_callers}
use Rattle.net_locks.specs.Moving.{IsLeast}
use Rattle.net_locks.proofs.Found.{in_map, in_split, map_in}
use Rattle.net_base.proofs.Shared.{within_last}

-- The history of guests.

pub of_guests : (ts : Tasks) (w : World) (r : Roster) (p : Sight) (ss : List Standing) → AllStand ts w r p ss → ((a : ActorName) → In a r.actors → has_actor w a ≡ true) → r.callers ≡ caller_count w
    → Lawful r p.seen → IsOfGuests w r p.seen
of_guests ts w r p ss stand actors callers lawful =
    record {
      actors_are = actors;
      callers_are = callers;
      lawful = lawful;
      turns = λ c lt. let s = stand.all c lt in subst (λ (k : ℕ). AreTurns w k p.seen) s.2 (stand.each s.0 s.1).guest.turns;
    }

-- The moment isn't past the end.

target_within : (ts : Tasks) (w : World) (net : Net) → target_by ts w net ≤ w.end
target_within ts w net = within_last w.end _

-- a move that comes in time goes to the target at most
after_within : (ts : Tasks) (w : World) (net : Net) (now : ℕ) (e : Event) → IsInTimeBy ts net w e → now ≤ w.end → moment_after now e ≤ w.end
after_within ts w net now (event.Move m) is le = omega (arith, is.1, target_within ts w net)
after_within ts w net now _ is le = le

by_within : (ts : Tasks) (w : World) (net : Net) (now : ℕ) (at_clock : Bool) (e : Event) → IsInTimeBy ts net w e → now ≤ w.end → (if at_clock then moment_after now e else now) ≤ w.end
by_within ts w net now true e is le = after_within ts w net now e is le
by_within ts w net now false e is le = le

step_within : (w : World) (net : Net) (x : Noted) (t : Option (Step Actor)) → moment_by net.moment x ≤ w.end → (noted_after w net x t).moment ≤ w.end
step_within w net x None le = le
step_within w net x (Some t) le = le

timely_within : (ts : Tasks) (w : World) (n : ℕ) (log : List Noted) (net : Net) → ((x : Noted) → In x log → x.entry.caller < n) → ((c : ℕ) → c < n → OwnFrom w c (IsTimelyIn ts w) net log)
    → net.moment ≤ w.end → (noted_from w net log).moment ≤ w.end
timely_within ts w n [] net known timely le = le
timely_within ts w n (x ∷ log) net known timely le =
    let mine = timely x.entry.caller (known x (inl refl)) in
    let in_time : IsInTimeBy ts net w x.entry.event = mine.0 (eq-eqb x.entry.caller x.entry.caller refl) in
    timely_within ts w n log (next_noted w net x) (λ y there. known y (inr there)) (λ c lt. (timely c lt).1)
    (step_within w net x (step_by w net x) (by_within ts w net net.moment (same_actor x.entry.actor name.Clock) x.entry.event in_time le))

pub moment_within : (ts : Tasks) (w : World) (r : Roster) (p : Sight) (ss : List Standing) → AllStand ts w r p ss → Lawful r p.seen → (noted_net w p.seen).moment ≤ w.end
moment_within ts w r p ss stand lawful =
    timely_within ts w r.callers p.seen (opening_net w)
    (λ x there. let parts = in_split p.seen x there in (lawful parts.0 x parts.1 parts.2).caller)
    (λ c lt. let s = stand.all c lt in subst (λ (k : ℕ). AreTimely ts w k p.seen) s.2 (stand.each s.0 s.1).timely)
    (omega arith)

-- Tests.

or_first : (a b : Bool) → (a || b) ≡ false → a ≡ false
or_first true b is = is
or_first false b is = refl

nothing_of : (ds : List Duty) → nat_lt 0 (length ds) ≡ false → ds ≡ []
nothing_of [] is = refl
nothing_of (d ∷ ds) is = absurd (true≢false (sym (lt-ltb 0 (length (d ∷ ds)) (omega arith)) ∙ is))

-- a caller that couldn't record owes nothing
pub free_of : (ts : Tasks) (w : World) (r : Roster) (c : ℕ) (p : Sight) (ds : List Duty) → IsGuest w r c p ds → could ts w (noted_net w p.seen) c ≡ false → ds ≡ []
free_of ts w r c p ds g none =
    nothing_of ds (sym (ap (λ (l : List Duty). nat_lt 0 (length l)) g.owed) ∙ or_first (owes (noted_net w p.seen) c) (can_go_on_by ts w (noted_net w p.seen) c) none)

-- What lower laws say.

abbrev pub AreBusy : Type 0
AreBusy = (ts : Tasks) (w : World) (net : Net) (c : ℕ) → c < caller_count w → could ts w net c ≡ true → calm_by ts w net ≡ false

abbrev pub AreCalm : Type 0
AreCalm = (ts : Tasks) (w : World) (net : Net) → ((c : ℕ) → c < caller_count w → could ts w net c ≡ false) → calm_by ts w net ≡ true

abbrev pub FullOnesLimit : Type 0
FullOnesLimit = (ts : Tasks) (w : World) (net : Net) (c : ℕ) → c < caller_count w → is_full net c ≡ true → could ts w net c ≡ true → limited_by ts w net ≡ true

abbrev pub NobodyIsLimited : Type 0
NobodyIsLimited = (ts : Tasks) (w : World) (net : Net) → ((c : ℕ) → c < caller_count w → (is_full net c && could ts w net c) ≡ false)
    → (is_full net (clock_number w) && movable_by ts w net) ≡ false → limited_by ts w net ≡ false

module _ (ts : Tasks) (w : World) (r : Roster) (p : Sight) (ss : List Standing) (stand : AllStand ts w r p ss) (callers : r.callers ≡ caller_count w) where
  abbrev net : Net
  net = noted_net w p.seen

  there : (c : ℕ) → c < caller_count w → In c (standing_callers ss)
  there c lt =
      let s = stand.all c (subst (λ (n : ℕ). c < n) (sym callers) lt) in
      subst (λ (k : ℕ). In k (standing_callers ss)) s.2 (in_map (λ (t : Standing). t.caller) ss s.0 s.1)

  known : (c : ℕ) → In c (standing_callers ss) → c < caller_count w
  known c is =
      let s = map_in (λ (t : Standing). t.caller) ss c is in
      subst (λ (k : ℕ). k < caller_count w) (sym s.2) (subst (λ (n : ℕ). s.0.caller < n) callers (stand.each s.0 s.1).guest.known)

  -- a full caller could record
  pub full_limits : FullOnesLimit → (full : Bool) → full ≡ true → DoesAny (λ (c : ℕ). is_full net c && could ts w net c) (standing_callers ss) full → limited_by ts w net ≡ true
  full_limits law true is some =
      let both = and_parts (is_full net some.0) (could ts w net some.0) some.2 in
      law ts w net some.0 (known some.0 some.1) both.0 both.1
  full_limits law false is some = absurd (false≢true is)

  none_full : (full : Bool) → full ≡ false → DoesAny (λ (c : ℕ). is_full net c && could ts w net c) (standing_callers ss) full → (c : ℕ) → c < caller_count w → (is_full net c && could ts w net c) ≡ false
  none_full true is some = absurd (true≢false is)
  none_full false is none = λ c lt. none c (there c lt)

  module _ (busy : Busy) (finds : FindsBusy (could ts w net) (is_full net) (standing_callers ss) busy) (not_full : busy.full ≡ false)
      (nobody : NobodyIsLimited) where
    unlimited : (is_full net (clock_number w) && movable_by ts w net) ≡ false → limited_by ts w net ≡ false
    unlimited still = nobody ts w net (none_full busy.full not_full finds.full_is) still

    -- not calm
    least_at : (found : Option ℕ) (c : ℕ) → found ≡ Some c → IsLeastOf (could ts w net) (standing_callers ss) found → IsLeast ts w net c
    least_at found c is least =
        let at = subst (IsLeastOf (could ts w net) (standing_callers ss)) is least in
        record { known = known c at.0; could_is = at.1; least = λ d lt goes. at.2 d (there d lt) goes }

    pub not_calm : AreBusy → (c : ℕ) → busy.least ≡ Some c → IsLeast ts w net c × (limited_by ts w net ≡ false)
    not_calm law c is =
        let least = least_at busy.least c is finds.least_is in
        let restless = law ts w net c least.known least.could_is in
        (least, unlimited (and_right (is_full net (clock_number w)) (movable_by ts w net) (and_left (calm_by ts w net) (unfinished_by ts w net && nat_lt net.moment w.end) restless)))

    -- calm
    module _ (none : busy.least ≡ None) (law : AreCalm) where
      pub nobody_could : (c : ℕ) → c < caller_count w → could ts w net c ≡ false
      nobody_could c lt = subst (IsLeastOf (could ts w net) (standing_callers ss)) none finds.least_is c (there c lt)

      is_calm : calm_by ts w net ≡ true
      is_calm = law ts w net nobody_could

      pub is_done : unfinished_by ts w net ≡ false → done_by ts w net ≡ true
      is_done through =
          let unmoved = and_right (calm_by ts w net) (unfinished_by ts w net && nat_lt net.moment w.end) (and_left (unfinished_by ts w net) (nat_lt net.moment w.end) through) in
          rw (is_calm, unlimited (and_right (is_full net (clock_number w)) (movable_by ts w net) unmoved), through) refl

      pub is_stopped : unfinished_by ts w net ≡ true → net.moment ≡ w.end → stopped_by ts w net ≡ true
      is_stopped left last =
          let late : nat_lt net.moment w.end ≡ false = le-ltb net.moment w.end (omega (arith, last)) in
          let unmoved = and_right (calm_by ts w net) (unfinished_by ts w net && nat_lt net.moment w.end) (and_right (unfinished_by ts w net) (nat_lt net.moment w.end) late) in
          rw (is_calm, unlimited (and_right (is_full net (clock_number w)) (movable_by ts w net) unmoved), left, eq-eqb net.moment w.end last) refl

      pub may_move : unfinished_by ts w net ≡ true → net.moment < w.end → movable_by ts w net ≡ true
      may_move left before = rw (is_calm, left, lt-ltb net.moment w.end before) refl

      pub has_room : is_full net (clock_number w) ≡ false → limited_by ts w net ≡ false
      has_room room = unlimited (and_left (is_full net (clock_number w)) (movable_by ts w net) room)

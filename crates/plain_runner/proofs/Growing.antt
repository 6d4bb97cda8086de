-- A history grows by the entry of a turn.
use Rattle.std.proofs.Common.{◌≡◌, ℕ, ◌+◌, ◌<◌, Bool, true, false, List, [], ◌∷◌, ◌++◌, drop, length, Option, Some, None, IsSome, is_some, Vec, refl, sym, ap, subst, ◌∙◌}
use Rattle.std.proofs.lemmas.Bool.{eq-eqb, false≢true}
use Rattle.std.proofs.lemmas.Option.{none-some}
use Rattle.std.specs.Option.{option_map}
use Rattle.ip_route.specs.Kept.{HostWays}
use Rattle.net_base.specs.declared.actor.ActorName.{ActorName}
use Rattle.net_base.specs.declared.event.Event.{Event}
use Rattle.net_base.specs.declared.history.Entry.{Entry}
use Rattle.net_base.specs.declared.history.Outcome.{Outcome}
use Rattle.net_base.specs.declared.history.With.{With}
use Rattle.net_base.specs.declared.history.Work.{Work}
use Rattle.net_base.specs.declared.world.World.{World}
use Rattle.net_base.specs.ActorStep.{Step, when}
use Rattle.net_base.specs.Actors.{Actor, actor_step, has_actor, table_step}
use Rattle.net_base.specs.Callers.{Caller as Called, caller_of, caller_count}
use Rattle.net_base.specs.Calm.{most_entries}
use Rattle.net_base.specs.Duties.{Duty, duties}
use Rattle.net_base.specs.Legal.{IsNext, IsAsked, MayFollow, Shows, shown_by, cites_of}
use Rattle.net_base.specs.Net.{Net, actors_after, after, moment, net_after, next_net, owed, owed_after, outcome_in, step_of, with_of, work_of}
use Rattle.net_base.specs.Next.{by, next_recorded}
use Rattle.net_base.specs.Steps.{Ask}
use Rattle.duties.specs.declared.due.Due.{Due}
use Rattle.duties.specs.Owing.{GivesStep, without_copy}
use Rattle.duties.specs.Queue.{Queue}
use Rattle.duties.specs.Showing.{shown_entry, shows}
use Rattle.net_actors.specs.Together.{AreActors, Numbered, StepsTogether, StepsIn}
use Rattle.script_task.specs.Fitting.{fits}
use Rattle.plain_runner.specs.declared.caller.Caller.{Caller}
use Rattle.plain_runner.specs.declared.recording.Coming.{Coming}
use Rattle.plain_runner.specs.declared.turn.Turn.{Turn}
use Rattle.plain_runner.specs.Callers.{WentOn, IsCallerKept, IsEntryOf}
use Rattle.plain_runner.specs.Recording.{ComesNext, DuesOf, OwesAll, Records}
use Rattle.plain_runner.specs.Turns.{IsReadyTurn}
use Rattle.plain_runner.proofs.Replies.{one_entry_more}

-- The actor.

-- what is ready is there
pub has_by : (b : Bool) (o : Option (Step Actor)) → is_some (when b o) ≡ true → b ≡ true
has_by true o ready = refl
has_by false o ready = absurd (false≢true ready)

pub ready_has : (w : World) (h : List Entry) (c : ℕ) (t : Turn) → IsReadyTurn w h c t → has_actor w t.actor ≡ true
ready_has w h c t ready = has_by (has_actor w t.actor) (table_step w t.actor ((after w h).actors t.actor) (moment w h) t.work) ready.ready

-- The net after the entry.

own_owed : (o : ℕ → List Duty) (c d : ℕ) (new : List Duty) → c ≡ d → owed_after o c new d ≡ drop 1 (o d) ++ new
own_owed o c d new is = rw (eq-eqb c d is) refl

abbrev pub Grows : Type 0
Grows = (w : World) (h : List Entry) (x : Entry) → after w (h ++ x ∷ []) ≡ next_net w (after w h) x

-- what comes next where nothing is cited
came_by : (k : Called) (o : Option Ask) (ds : List Duty) (x : Entry) → cites_of ds ≡ None → IsAsked ds k o x → IsNext k o x
came_by k o [] x none asked = asked
came_by k o (d ∷ ds) x none asked = absurd (none-some d.cites (sym none))

-- the step of the turn, which gave this
pub record IsStepped (w : World) (h : List Entry) (c : ℕ) (t : Turn) (o : Outcome) (s : Actor) (x : Entry) : Type 0 where
  pub step : step_of w (after w h) x ≡ Some (record { state = s; outcome = o })
  pub work : work_of (after w h) x ≡ t.work

stepped : (w : World) (h : List Entry) (coming : Coming) (t : Turn) (k : Caller) (net : Numbered) (ways : List HostWays) (o : Outcome) (s : Actor)
    (x : Entry)
    → ComesNext w h coming t k net ways → x.caller ≡ coming.caller → x.actor ≡ t.actor → x.event ≡ t.work.event
    → actor_step w t.actor ((after w h).actors t.actor) coming.now t.work ≡ Some (record { state = s; outcome = o })
    → IsStepped w h coming.caller t o s x
stepped w h coming t k net ways o s x comes caller actor event step =
    let work : work_of (after w h) x ≡ t.work =
    ap (λ (e : Event). record { event = e; with = with_of ((after w h).owed x.caller) }) event
    ∙ ap (λ (d : ℕ). record { event = t.work.event; with = with_of ((after w h).owed d) }) caller
    ∙ ap (λ (g : With). record { event = t.work.event; with = g }) (sym comes.ready.turn.given) in
    record {
      step =
          ap (λ (a : ActorName). actor_step w a ((after w h).actors a) (after w h).moment (work_of (after w h) x)) actor
          ∙ ap (λ (d : Work). actor_step w t.actor ((after w h).actors t.actor) (after w h).moment d) work
          ∙ ap (λ (m : ℕ). actor_step w t.actor ((after w h).actors t.actor) m t.work) (sym comes.now_is)
          ∙ step;
      work = work;
    }

abbrev pub HavePasts : Type 0
HavePasts = (w : World) (h : List Entry) → (after w h).past ≡ h

abbrev pub RepliesFit : Type 0
RepliesFit = (w : World) (h : List Entry) (a : ActorName) (now : ℕ) (work : Work) (t : Step Actor)
    → actor_step w a ((after w h).actors a) now work ≡ Some t → fits work.event t.outcome.reply ≡ true

module _ {Z : Type 0} (grows : Grows) (pasts : HavePasts) (replies : RepliesFit)
    (coming : Coming) (t : Turn) (old new : Caller) (net net_new : Numbered) (ways : List HostWays) (d : Option (Vec Due Z)) (o : Outcome)
    (owed_new : Queue) (x : Entry)
    (steps : StepsTogether net net_new t.actor coming.now t.work o)
    (dues : (w : World) (states : ActorName → Actor) → AreActors w net states → DuesOf w states t.actor t.work.event d)
    (owes_all : OwesAll ways t.actor coming.stamp t.work (without_copy o) d old.owed owed_new)
    (goes : WentOn (record old { owed = owed_new }) new t.cites o.reply)
    (entry_is : x ≡ shown_entry t.actor coming.caller coming.now t.cites (shows t.work.event (without_copy o)))
  where
    caller_so : x.caller ≡ coming.caller
    caller_so = ap (λ (y : Entry). y.caller) entry_is

    actor_so : x.actor ≡ t.actor
    actor_so = ap (λ (y : Entry). y.actor) entry_is

    event_so : x.event ≡ t.work.event
    event_so = ap (λ (y : Entry). y.event) entry_is

    -- the step in a world
    stepped_in : (w : World) (h : List Entry) → ComesNext w h coming t old net ways → StepsIn w (after w h).actors net_new t.actor coming.now t.work o
    stepped_in w h comes = steps w (after w h).actors comes.are (ready_has w h coming.caller t comes.ready)

    step_so : (w : World) (h : List Entry) (comes : ComesNext w h coming t old net ways) → IsStepped w h coming.caller t o (stepped_in w h comes).state x
    step_so w h comes = stepped w h coming t old net ways o (stepped_in w h comes).state x comes caller_so actor_so event_so (stepped_in w h comes).step

    after_so : (w : World) (h : List Entry) (comes : ComesNext w h coming t old net ways)
        → after w (h ++ x ∷ []) ≡ net_after w (after w h) x (Some (record { state = (stepped_in w h comes).state; outcome = o }))
    after_so w h comes = grows w h x ∙ ap (net_after w (after w h) x) (step_so w h comes).step

    outcome_so : (w : World) (h : List Entry) → ComesNext w h coming t old net ways → outcome_in w (after w h) x ≡ Some o
    outcome_so w h comes = ap (option_map (λ (s : Step Actor). s.outcome)) (step_so w h comes).step

    follows_so : (w : World) (h : List Entry) → ComesNext w h coming t old net ways → MayFollow w h x
    follows_so w h comes =
        record {
          answers = subst (λ (p : Option Outcome). Shows p x) (sym (outcome_so w h comes)) (ap shown_by entry_is);
          at_moment = ap (λ (y : Entry). y.moment) entry_is ∙ comes.now_is;
          cites = ap (λ (y : Entry). y.cites) entry_is ∙ comes.ready.turn.cited ∙ ap (λ (e : ℕ). cites_of (owed w h e)) (sym caller_so);
          is_asked = subst (λ (e : ℕ). IsAsked (owed w h e) (caller_of w e) (next_recorded w h e) x) (sym caller_so) (comes.ready.turn.asked x actor_so event_so);
          is_ready = subst (λ (p : Option Outcome). IsSome p) (sym (outcome_so w h comes)) refl;
          is_known = (
            subst (λ (a : ActorName). has_actor w a ≡ true) (sym actor_so) (ready_has w h coming.caller t comes.ready),
            subst (λ (e : ℕ). e < caller_count w) (sym caller_so) comes.ready.known,
          );
          has_room = subst (λ (e : ℕ). length (by h e) < most_entries) (sym caller_so) comes.ready.room;
        }

    is_entry : (w : World) (h : List Entry) → ComesNext w h coming t old net ways → IsEntryOf w h coming.caller t.cites o.reply x
    is_entry w h comes =
        record {
          caller_is = caller_so;
          cites_is = ap (λ (y : Entry). y.cites) entry_is;
          reply_is = ap (λ (y : Entry). y.reply) entry_is;
          fitting = ap (λ (e : Event). fits e o.reply) event_so ∙ replies w h t.actor coming.now t.work _ (stepped_in w h comes).step;
          came_next = λ none. came_by (caller_of w coming.caller) (next_recorded w h coming.caller) (owed w h coming.caller) x (sym comes.ready.turn.cited ∙ none)
              (comes.ready.turn.asked x actor_so event_so);
        }

    -- what it owes then
    new_duties : (w : World) (h : List Entry) (comes : ComesNext w h coming t old net ways)
        → duties w (after w h).actors t.actor coming.stamp t.work (record { state = (stepped_in w h comes).state; outcome = o })
        ≡ duties w (after w h).actors x.actor (length (after w h).past) (work_of (after w h) x)
        (record { state = (stepped_in w h comes).state; outcome = o })
    new_duties w h comes =
        let s : Step Actor = record { state = (stepped_in w h comes).state; outcome = o } in
        ap (λ (a : ActorName). duties w (after w h).actors a coming.stamp t.work s) (sym actor_so)
        ∙ ap (λ (n : ℕ). duties w (after w h).actors x.actor n t.work s) (comes.stamp_is ∙ ap length (sym (pasts w h)))
        ∙ ap (λ (work : Work). duties w (after w h).actors x.actor (length (after w h).past) work s) (sym (step_so w h comes).work)

    owes_so : (w : World) (h : List Entry) → ComesNext w h coming t old net ways → new.owed.list ≡ owed w (h ++ x ∷ []) coming.caller
    owes_so w h comes =
        let s : Step Actor = record { state = (stepped_in w h comes).state; outcome = o } in
        let gives : GivesStep w t.actor t.work (without_copy o) s =
        record { before = (after w h).actors t.actor; now = coming.now; gives = (stepped_in w h comes).step; outcome = refl } in
        let adds : owed_new.list ≡ old.owed.list ++ duties w (after w h).actors t.actor coming.stamp t.work s =
        owes_all w (after w h).actors s comes.ways_are (dues w (after w h).actors comes.are) gives in
        ap (λ (q : Queue). q.list) goes.owed_stays
        ∙ adds
        ∙ ap (λ (ds : List Duty). ds ++ duties w (after w h).actors t.actor coming.stamp t.work s) comes.turning.owes
        ∙ ap (λ (ds : List Duty). drop 1 (owed w h coming.caller) ++ ds) (new_duties w h comes)
        ∙ sym (own_owed (after w h).owed x.caller coming.caller (duties w (after w h).actors x.actor (length (after w h).past) (work_of (after w h) x) s) caller_so)
        ∙ sym (ap (λ (n : Net). n.owed coming.caller) (after_so w h comes))

    kept_so : (w : World) (h : List Entry) → ComesNext w h coming t old net ways → IsCallerKept w (h ++ x ∷ []) coming.caller new
    kept_so w h comes =
        let turns = comes.turning.turns in
        record {
          stands = goes.goes w h coming.caller x (record { role_is = turns.role_is; next_is = turns.next_is; own = turns.own }) (is_entry w h comes);
          owes = owes_so w h comes;
          entries_is = goes.entries_is ∙ ap (λ (n : ℕ). n + 1) comes.turning.entries_is ∙ sym (one_entry_more h x coming.caller caller_so);
        }

    are_so : (w : World) (h : List Entry) → ComesNext w h coming t old net ways → AreActors w net_new (after w (h ++ x ∷ [])).actors
    are_so w h comes =
        subst (λ (n : Net). AreActors w net_new n.actors) (sym (after_so w h comes))
        (subst (λ (a : ActorName). AreActors w net_new (actors_after (after w h).actors a (stepped_in w h comes).state)) (sym actor_so)
        (stepped_in w h comes).are)

    pub records_so : Records coming t old new net net_new ways x
    records_so = λ w h comes.
        record {
          follows = follows_so w h comes;
          caller_is = caller_so;
          actor_is = actor_so;
          event_is = event_so;
          kept = kept_so w h comes;
          are = are_so w h comes;
        }

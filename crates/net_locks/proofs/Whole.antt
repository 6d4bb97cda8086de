-- From what every caller's entries are to the whole history.
use Rattle.std.proofs.Common.{◌≡◌, ℕ, suc, ◌<◌, true, List, [], ◌∷◌, ◌++◌, length, map, take, Option, Some, slice_get, inl, inr, refl, ap, sym, subst, ◌∙◌, arith, append_assoc}
use Rattle.std.specs.Option.{option_map}
use Rattle.std.specs.Prelude.{IsSome}
use Rattle.std.proofs.lemmas.Option.{none-some}
use Rattle.std.proofs.lemmas.List.{append-nil, take-append-le, take_at}
use Rattle.net_base.specs.declared.actor.ActorName.{ActorName}
use Rattle.net_base.specs.declared.history.Entry.{Entry}
use Rattle.net_base.specs.declared.history.Work.{Work}
use Rattle.net_base.specs.declared.noted.Noted.{Noted}
use Rattle.net_base.specs.declared.noted.Number.TheVariants as number
use Rattle.net_base.specs.declared.world.Script.{Script}
use Rattle.net_base.specs.declared.world.World.{World}
use Rattle.net_base.specs.ActorStep.{Step}
use Rattle.net_base.specs.Actors.{Actor, has_actor, actor_step}
use Rattle.net_base.specs.Callers.{Caller, IsScript, IsCourier, IsClock, IsNobody, caller_count, caller_of}
use Rattle.net_base.specs.Duties.{Duty, duties}
use Rattle.net_base.specs.Legal.{IsLegalBy, IsTimedBy, IsInTimeBy, IsAsked, asked_by, MayFollowBy, FollowsBy, Shows}
use Rattle.net_base.specs.Net.{Net, actors_after, after, moment_after, net_after, next_net, outcome_in, owed_after, step_of, work_of}
use Rattle.net_base.specs.Next.{by, next_recorded, next_by, next_of, next_of_by}
use Rattle.net_base.specs.Tasks.{Tasks}
use Rattle.net_base.specs.Stamped.{In, at}
use Rattle.history_laws.proofs.Shared.{in_pushed}
use Rattle.journal.specs.declared.law.Roster.{Roster}
use Rattle.journal.specs.Rule.{Lawful, Fits}
use Rattle.net_locks.specs.Works.{step_by, noted_after, next_noted, noted_net, entries}
use Rattle.net_locks.specs.Own.{IsAskedButOfScripts, IsTurnOf, IsNextOf, IsTimelyIn, OwnFrom, EachOwn, AreTurns, AreNext, AreTimely, FollowsButScripts, IsLegalButScripts, DoScriptsGoOn}
use Rattle.net_locks.proofs.Nets.{noted_push, past_is, moment_is}
use Rattle.net_locks.proofs.Apart.{own, by_from}
use Rattle.net_locks.proofs.Moves.{moment_same}
use Rattle.net_base.proofs.Shared.{number_itself}

-- each entry is so, after those before it
abbrev Each : (List Entry → Entry → Type 0) → List Entry → Type 0
Each L h = (k : ℕ) (x : Entry) → slice_get h k ≡ Some x → L (take k h) x

each_push : (L : List Entry → Entry → Type 0) (h : List Entry) (x : Entry) → Each L h → L h x → Each L (h ++ x ∷ [])
each_push L h x each may k y is =
    elim (in_pushed h x k y is) [
      | inl there ↦ subst (λ (p : List Entry). L p y) (sym (take-append-le k h (x ∷ []) (omega (arith, there.0)))) (each k y there.1)
      | inr last ↦
          let here : take k (h ++ x ∷ []) ≡ h = rw last.0 (take_at h (x ∷ []) (length h) refl) in
          subst (λ (p : List Entry). L p y) (sym here) (subst (λ (z : Entry). L h z) last.1 may)
    ]

entries_push : (past : List Noted) (x : Noted) → entries (past ++ x ∷ []) ≡ entries past ++ x.entry ∷ []
entries_push [] x = refl
entries_push (y ∷ past) x = ap (λ (l : List Entry). y.entry ∷ l) (entries_push past x)

length_map : (f : ℕ × Noted → Entry) (xs : List (ℕ × Noted)) → length (map f xs) ≡ length xs
length_map f [] = refl
length_map f (x ∷ xs) = ap suc (length_map f xs)

count_is : (c : ℕ) (log : List Noted) → length (by (entries log) c) ≡ length (at (number.Caller c) log)
count_is c log = ap length (by_from 0 c log) ∙ length_map own (at (number.Caller c) log)

same_work : (a b : Work) → a.event ≡ b.event → a.with ≡ b.with → a ≡ b
same_work a b e g = ap (λ ev. record { event = ev; with = a.with }) e ∙ ap (λ gi. record { event = b.event; with = gi }) g

abbrev made_net : World → Net → Noted → Step Actor → Work → ℕ → Net
made_net w net x s work m = record {
  past = net.past ++ x.entry ∷ [];
  actors = actors_after net.actors x.entry.actor s.state;
  owed = owed_after net.owed x.entry.caller (duties w net.actors x.entry.actor (length net.past) work s);
  moment = m;
}

-- the entry, where its net is that of the definitions
module _ (w : World) (r : Roster) (past : List Noted) (x : Noted) (fits : Fits r past x) (turn : IsTurnOf w (noted_net w past) x) where
  here : (noted_net w past).moment ≡ x.entry.moment
  here = moment_is w past ∙ sym fits.moment_is

  work_is : work_of (noted_net w past) x.entry ≡ x.work
  work_is = same_work (work_of (noted_net w past) x.entry) x.work fits.event_is (sym turn.given)

  step_is : step_of w (noted_net w past) x.entry ≡ step_by w (noted_net w past) x
  step_is =
      ap (λ (m : ℕ). actor_step w x.entry.actor ((noted_net w past).actors x.entry.actor) m (work_of (noted_net w past) x.entry)) here
      ∙ ap (λ (k : Work). actor_step w x.entry.actor ((noted_net w past).actors x.entry.actor) x.entry.moment k) work_is

  answers : Shows (outcome_in w (noted_net w past) x.entry) x.entry
  answers = subst (λ (t : Option (Step Actor)). Shows (option_map (λ (q : Step Actor). q.outcome) t) x.entry) (sym (step_is ∙ turn.gives)) turn.shows

  ready : IsSome (outcome_in w (noted_net w past) x.entry)
  ready = subst (λ (t : Option (Step Actor)). IsSome (option_map (λ (q : Step Actor). q.outcome) t)) (sym (step_is ∙ turn.gives)) refl

  follows_but : has_actor w x.entry.actor ≡ true → r.callers ≡ caller_count w → FollowsButScripts w (entries past) (noted_net w past) x.entry
  follows_but has count = record {
    answers = answers;
    at_moment = sym here;
    cites = turn.cites;
    is_asked = subst (λ (l : List Entry). IsAskedButOfScripts ((noted_net w past).owed x.entry.caller) (caller_of w x.entry.caller)
        (next_recorded w l x.entry.caller) x.entry) (past_is w past) turn.asked;
    is_ready = ready;
    is_known = (has, subst (λ (n : ℕ). x.entry.caller < n) count fits.caller);
    has_room = subst (λ (n : ℕ). n < 131072) (sym (count_is x.entry.caller past)) fits.room;
  }

  same_next : next_noted w (noted_net w past) x ≡ next_net w (noted_net w past) x.entry
  same_next =
      let net = noted_net w past in
      let s = turn.step in
      ap (noted_after w net x) turn.gives ∙ ap (made_net w net x s x.work) (moment_same w net x s fits.event_is turn.gives)
      ∙ ap (λ (k : Work). made_net w net x s k (moment_after net.moment x.entry.event)) (sym work_is)
      ∙ ap (net_after w net x.entry) (sym (step_is ∙ turn.gives))

-- with what its caller asks it follows
follows : (ts : Tasks) (w : World) (past : List Entry) (net : Net) (x : Entry) → FollowsButScripts w past net x
    → IsAsked (net.owed x.caller) (caller_of w x.caller) (next_by ts w past x.caller) x → FollowsBy ts w past net x
follows ts w past net x f asked = record {
  answers = f.answers;
  at_moment = f.at_moment;
  cites = f.cites;
  is_asked = asked;
  is_ready = f.is_ready;
  is_known = f.is_known;
  has_room = f.has_room;
}

-- who plays a task in the place of a script is no matter to the other callers
asked_of : (ts : Tasks) (w : World) (past : List Entry) (c : ℕ) (ds : List Duty) (k : Caller) (x : Entry) → IsAskedButOfScripts ds k (next_of w k past c) x
    → ((s : Script) → k ≡ IsScript s → ds ≡ [] → next_of_by ts w k past c ≡ Some (asked_by x)) → IsAsked ds k (next_of_by ts w k past c) x
asked_of ts w past c [] (IsScript s) x is own = own s refl refl
asked_of ts w past c [] (IsCourier m) x is own = is
asked_of ts w past c [] IsClock x is own = is
asked_of ts w past c [] IsNobody x is own = is
asked_of ts w past c (d ∷ ds) k x is own = is

-- where scripts and tasks go on, all of it is legal
pub made_legal : (ts : Tasks) (w : World) (h : List Entry) → IsLegalButScripts w h → DoScriptsGoOn ts w h → IsLegalBy ts w h
made_legal ts w h but own k x is =
    let f = but k x is in
    follows ts w (take k h) (after w (take k h)) x f
    (asked_of ts w (take k h) x.caller ((after w (take k h)).owed x.caller) (caller_of w x.caller) x f.is_asked
    (λ s script none. own k x s is script none))

-- the next net of the definitions
abbrev pub Grows : Type 0
Grows = (w : World) (h : List Entry) (x : Entry) → after w (h ++ x ∷ []) ≡ next_net w (after w h) x

module _ (grows : Grows) (w : World) (r : Roster) (known : (a : ActorName) → In a r.actors → has_actor w a ≡ true) (count : r.callers ≡ caller_count w) where
  -- what is so of each entry in the net of the works is so of each in the net of the definitions
  module _ (K : Net → Noted → Type 0) (L : List Entry → Entry → Type 0)
      (leads : (past : List Noted) (x : Noted) → FollowsButScripts w (entries past) (after w (entries past)) x.entry → K (noted_net w past) x
      → (after w (entries past) ≡ noted_net w past) → L (entries past) x.entry) where
    each_from : (log past rest : List Noted) → log ≡ past ++ rest → Lawful r log → noted_net w past ≡ after w (entries past) → Each L (entries past)
        → ((c : ℕ) → c < r.callers → OwnFrom w c (IsTurnOf w) (noted_net w past) rest)
        → ((c : ℕ) → c < r.callers → OwnFrom w c K (noted_net w past) rest)
        → Each L (entries log) × (noted_net w log ≡ after w (entries log))
    each_from log past [] is lawful same each turns ks =
        subst (λ (l : List Noted). Each L (entries l) × (noted_net w l ≡ after w (entries l))) (sym (is ∙ append-nil past)) (each, same)
    each_from log past (x ∷ rest) is lawful same each turns ks =
        let net = noted_net w past in
        let fits : Fits r past x = lawful past x rest is in
        let turn : IsTurnOf w net x = (turns x.entry.caller fits.caller).0 (number_itself x.entry.caller) in
        let k : K net x = (ks x.entry.caller fits.caller).0 (number_itself x.entry.caller) in
        let f : FollowsButScripts w (entries past) (after w (entries past)) x.entry =
        subst (λ (n : Net). FollowsButScripts w (entries past) n x.entry) same (follows_but w r past x fits turn (known x.entry.actor fits.actor) count) in
        let after_it : noted_net w (past ++ x ∷ []) ≡ after w (entries (past ++ x ∷ [])) =
        noted_push w past x ∙ (same_next w r past x fits turn
        ∙ (ap (λ (n : Net). next_net w n x.entry) same ∙ (sym (grows w (entries past) x.entry) ∙ ap (after w) (sym (entries_push past x))))) in
        each_from log (past ++ x ∷ []) rest (is ∙ sym (append_assoc past (x ∷ []) rest)) lawful after_it
        (subst (λ (l : List Entry). Each L l) (sym (entries_push past x)) (each_push L (entries past) x.entry each (leads past x f k (sym same))))
        (λ c lt. subst (λ (n : Net). OwnFrom w c (IsTurnOf w) n rest) (sym (noted_push w past x)) (turns c lt).1)
        (λ c lt. subst (λ (n : Net). OwnFrom w c K n rest) (sym (noted_push w past x)) (ks c lt).1)

    each_of : (log : List Noted) → Lawful r log → ((c : ℕ) → c < r.callers → AreTurns w c log) → ((c : ℕ) → c < r.callers → EachOwn w c K log)
        → Each L (entries log) × (noted_net w log ≡ after w (entries log))
    each_of log lawful turns ks = each_from log [] log refl lawful refl (λ k x is. absurd (none-some x is)) turns ks

  module _ (log : List Noted) (lawful : Lawful r log) (turns : (c : ℕ) → c < r.callers → AreTurns w c log) where
    pub but_scripts : IsLegalButScripts w (entries log) × (noted_net w log ≡ after w (entries log))
    but_scripts = each_of (IsTurnOf w) (λ p x. FollowsButScripts w p (after w p) x) (λ past x f k same. f) log lawful turns turns

    pub legal : (ts : Tasks) → ((c : ℕ) → c < r.callers → AreNext ts w c log) → IsLegalBy ts w (entries log)
    legal ts nexts = (each_of (IsNextOf ts w) (λ p x. MayFollowBy ts w p x)
        (λ past x f k same. follows ts w (entries past) (after w (entries past)) x.entry f
        (subst (λ (l : List Entry). IsAsked ((after w (entries past)).owed x.entry.caller) (caller_of w x.entry.caller)
        (next_by ts w l x.entry.caller) x.entry) (past_is w past)
        (subst (λ (n : Net). IsAsked (n.owed x.entry.caller) (caller_of w x.entry.caller) (next_by ts w (noted_net w past).past x.entry.caller) x.entry)
        (sym same) k)))
        log lawful turns nexts).0

    pub timed : (ts : Tasks) → ((c : ℕ) → c < r.callers → AreTimely ts w c log) → IsTimedBy ts w (entries log)
    timed ts timely = (each_of (IsTimelyIn ts w) (λ p x. IsInTimeBy ts (after w p) w x.event)
        (λ past x f k same. subst (λ (n : Net). IsInTimeBy ts n w x.entry.event) (sym same) k) log lawful turns timely).0

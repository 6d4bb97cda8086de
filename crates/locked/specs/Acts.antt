-- A machine as the fold of its step, and what a call on it says.
use Rattle.std.specs.Prelude.{◌≡◌, ◌⊎◌, ℕ, false, List, [], ◌∷◌, ◌++◌, length, map, Option, Some, None, option_map}
use mathlib.Core.List.{IsPrefix}
use Rattle.net_base.specs.declared.actor.ActorName.{ActorName}
use Rattle.net_base.specs.declared.actor.ActorName.TheVariants as name
use Rattle.net_base.specs.declared.history.Outcome.{Outcome}
use Rattle.net_base.specs.declared.history.Work.{Work}
use Rattle.net_base.specs.declared.noted.Noted.{Noted}
use Rattle.net_base.specs.declared.noted.Number.{Number}
use Rattle.net_base.specs.declared.noted.Number.TheVariants as number
use Rattle.net_base.specs.ActorStep.{Step}
use Rattle.net_base.specs.Headers.{header}
use Rattle.net_base.specs.Stamped.{same_actor, at, moment_noted, In}
use Rattle.journal.specs.declared.law.Roster.{Roster}
use Rattle.journal.specs.declared.tokens.Sight.{Sight}
use Rattle.journal.specs.declared.tokens.Volume.{Volume}
use Rattle.journal.specs.Rule.{Lawful, gain}
use Rattle.journal.specs.Tokens.{HoldsAll, Looked}
use Rattle.locked.specs.declared.guarded.Answer.{Answer}
use Rattle.locked.specs.declared.guarded.Answer.TheVariants as answered

-- the state that a step leaves; where the work isn't ready it stays
abbrev pub left_by : {S : Type 0} → S → Option (Step S) → S
left_by s None = s
left_by s (Some t) = t.state

-- the outcome whose copy has gone into the entry
abbrev pub act_without_copy : Outcome → Outcome
act_without_copy o = record { reply = o.reply; copy = None; emit = o.emit; taken = o.taken; ended = o.ended }

-- the actor isn't the clock, or the pass holds every caller's number
abbrev pub IsTimely : Roster → ActorName → Sight → Type 0
IsTimely r a p = (same_actor a name.Clock ≡ false) ⊎ HoldsAll r p

-- the entry of a call, with its work
abbrev pub made : ActorName → ℕ → ℕ → Work → Option ℕ → Outcome → Noted
made a c now work cites o = record {
  entry = record {
    actor = a;
    caller = c;
    moment = now;
    event = work.event;
    cites = cites;
    reply = o.reply;
    emits = option_map header o.emit;
    ended = o.ended;
  };
  work = work;
}

module _ {S : Type 0} (begin : ActorName → S) (answer : S → ℕ → Work → Option (Step S)) where
  -- the state after these entries, each with its moment and its work
  abbrev pub state : S → List (ℕ × Noted) → S
  state s [] = s
  state s (x ∷ xs) = state (left_by s (answer s x.1.entry.moment x.1.work)) xs

  -- the state of an actor after a history
  abbrev pub state_at : ActorName → List Noted → S
  state_at a log = state (begin a) (at (number.Actor a) log)

  -- the work of the entry was ready, and the entry has what the step gives
  pub record Keeps (s : S) (x : Noted) : Type 0 where
    pub step : Step S
    pub ready : answer s x.entry.moment x.work ≡ Some step
    pub event : x.entry.event ≡ x.work.event
    pub reply : x.entry.reply ≡ step.outcome.reply
    pub emits : x.entry.emits ≡ option_map header step.outcome.emit
    pub ended : x.entry.ended ≡ step.outcome.ended

  -- each entry was ready in the state that those before it leave, and has what its step gives
  abbrev pub Replays : S → List (ℕ × Noted) → Type 0
  Replays s [] = Unit {0}
  Replays s (x ∷ xs) = Keeps s x.1 × Replays (left_by s (answer s x.1.entry.moment x.1.work)) xs

  -- the machine stands for the book's entries, each of which was ready and has what the step gives
  pub record Stands (machine : S) (book : Volume) : Type 0 where
    pub state_is : machine ≡ state (begin book.actor) book.list
    pub replays : Replays (begin book.actor) book.list

  -- one entry was recorded, at its stamp. past is the history before it
  pub record IsDone (r : Roster) (a : ActorName) (c now : ℕ) (work : Work) (cites : Option ℕ)
      (p : Sight) (stamp : ℕ) (o : Outcome) (p' : Sight) : Type 0 where
    pub past : List Noted
    pub stamp_is : length past ≡ stamp
    pub before : IsPrefix p.seen past
    pub seen : p'.seen ≡ past ++ made a c now work cites o ∷ []
    pub held : p'.held ≡ map (gain stamp (made a c now work cites o)) p.held
    pub lists : (k : Number) (es : List (ℕ × Noted)) → In (k, es) p.held → at k past ≡ es
    pub step : Step S
    pub ready : answer (state_at a past) now work ≡ Some step
    pub outcome : o ≡ act_without_copy step.outcome
    pub moment_is : moment_noted past ≡ now
    pub moment_kept : same_actor a name.Clock ≡ false → moment_noted p'.seen ≡ moment_noted p.seen
    pub whole : HoldsAll r p → past ≡ p.seen
    pub lawful : Lawful r p'.seen

  -- the work isn't ready at this front, and no list gained an entry
  pub record IsNotReady (r : Roster) (a : ActorName) (now : ℕ) (work : Work)
      (p : Sight) (front : ℕ) (p' : Sight) : Type 0 where
    pub look : Looked r p front p'
    pub unready : answer (state_at a p'.seen) now work ≡ None

  -- what a call on the actor did to the pass, by its answer
  abbrev pub Acted : Roster → ActorName → ℕ → ℕ → Work → Option ℕ → Sight → Answer → Sight → Type 0
  Acted r a c now work cites p (answered.Done stamp o) p' = IsDone r a c now work cites p stamp o p'
  Acted r a c now work cites p (answered.NotReady front) p' = IsNotReady r a now work p front p'
  Acted r a c now work cites p answered.Memory p' = p' ≡ p

-- the book gains the entry, after all that it had seen
pub record Gains (b : Volume) (x : Noted) (stamp : ℕ) (p' : Sight) (b' : Volume) : Type 0 where
  pub list : b'.list ≡ b.list ++ (stamp, x) ∷ []
  pub after : (past : List Noted) × (length past ≡ stamp) × (p'.seen ≡ past ++ x ∷ []) × IsPrefix b.seen past
  pub seen : b'.seen ≡ p'.seen

-- the book's list stays, and it has seen what the pass has
pub record StaysInBook (b : Volume) (p' : Sight) (b' : Volume) : Type 0 where
  pub list : b'.list ≡ b.list
  pub before : IsPrefix b.seen p'.seen
  pub seen : b'.seen ≡ p'.seen

-- what a call leaves of the book
abbrev pub LeavesBook : ActorName → ℕ → ℕ → Work → Option ℕ → Volume → Answer → Sight → Volume → Type 0
LeavesBook a c now work cites b (answered.Done stamp o) p' b' = Gains b (made a c now work cites o) stamp p' b'
LeavesBook a c now work cites b (answered.NotReady front) p' b' = StaysInBook b p' b'
LeavesBook a c now work cites b answered.Memory p' b' = (b'.list ≡ b.list) × (b'.seen ≡ b.seen)

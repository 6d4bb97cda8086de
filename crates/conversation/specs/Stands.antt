-- What a conversation stands for, and what its calls do to that.
use Rattle.std.specs.Prelude.{◌≡◌, ◌↔◌, ℕ, Bool, IsTrue, Option, Some, None, is_some}
use Rattle.net_base.specs.declared.history.Outcome.{Outcome}
use Rattle.net_base.specs.declared.history.Work.{Work}
use Rattle.net_base.specs.ActorStep.{Step}
use Rattle.net_base.specs.Conversation.{Conv, Core, Il, Udp, conv_step}
use Rattle.il_machine.specs.Stands as il
use Rattle.conversation.specs.Kept.{Seat}

-- what is kept stands for the conversation of the definitions: it keeps all of it
unfoldable pub StandsFor : Seat → Conv → Type 0
StandsFor kept c = kept.conv ≡ c

-- the number of its slot
unfoldable pub slot_of : Seat → ℕ
slot_of kept = kept.slot

-- it stands for a conversation of which this is so
abbrev pub StandsForSome : Seat → (Conv → Type 0) → Type 0
StandsForSome kept P = (c : Conv) × (StandsFor kept c × P c)

-- the test tells of each conversation that it stands for whether this is so
abbrev pub Decides : Seat → Bool → (Conv → Type 0) → Type 0
Decides kept told P = (c : Conv) → StandsFor kept c → IsTrue told ↔ P c

-- this is what the conversation says
abbrev pub Says : {A : Type 0} → Seat → A → (Conv → A) → Type 0
Says kept told answer = (c : Conv) → StandsFor kept c → told ≡ answer c

-- an IL end has few messages
abbrev pub IsShortCore : Core → Type 0
IsShortCore (Il e) = il.IsEndShort e
IsShortCore (Udp e) = Unit {0}

-- few messages, where it is one of IL
abbrev pub IsShort : Conv → Type 0
IsShort c = IsShortCore c.core

-- the step of a conversation in this slot for a work, if a row answers it
abbrev pub step_at : Seat → ℕ → Work → Conv → Option (Step Conv)
step_at kept now work c = conv_step (slot_of kept) work.event work.with now c

-- a row answers the work
abbrev pub IsSeatReady : Seat → ℕ → Work → Type 0
IsSeatReady kept now work = StandsForSome kept (λ c. IsTrue (is_some (step_at kept now work c)))

-- a row answered with this outcome, and what is kept stands for what it leaves
abbrev pub GivesSeat : Seat → Outcome → Option (Step Conv) → Type 0
GivesSeat new outcome (Some s) = StandsFor new s.state × (outcome ≡ s.outcome)
GivesSeat new outcome None = ⊥

-- the step of each conversation that was stood for gives this outcome
abbrev pub StepsSeat : Seat → Seat → ℕ → Work → Outcome → Type 0
StepsSeat old new now work outcome = (c : Conv) → StandsFor old c → GivesSeat new outcome (step_at old now work c)

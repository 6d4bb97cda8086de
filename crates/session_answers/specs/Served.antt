-- A session in the middle of its messages, and what serving one of them does.
use Rattle.std.specs.Prelude.{ℕ, ◌≡◌, ◌-◌, ◌++◌, Bool, true, false, List, length, take, Option, Some, None, if◌then◌else◌}
use Rattle.net_base.specs.declared.event.Event.{Event}
use Rattle.net_base.specs.declared.event.Event.TheVariants as event
use Rattle.net_base.specs.declared.history.Entry.{Entry}
use Rattle.net_base.specs.declared.reply.Reply.{Reply}
use Rattle.net_base.specs.declared.world.Step.{Step}
use Rattle.net_base.specs.declared.world.Step.TheVariants as step
use Rattle.net_base.specs.Next.{own_replies}
use Rattle.net_base.specs.Steps.{Names, play_of}
use Rattle.net_base.specs.declared.ninep.Tmsg.{Tmsg}
use Rattle.net_base.specs.declared.request.Request.{Request}
use Rattle.net_base.specs.declared.request.Request.TheVariants as request
use Rattle.session_script.specs.Seen.{seen_table}
use Rattle.net_base.specs.SessionScript.{Begins, IsStream, table_next}
use Rattle.net_base.specs.Server.{Answered, Doing, Outcome, Waits, answers_to, doing_of, outcome_by}
use Rattle.net_base.specs.Session.{State}
use Rattle.session_answers.specs.declared.session.Session.{Session}
use Rattle.session_answers.specs.Found.{found_lines}
use Rattle.session_answers.specs.Told.{session_of}

-- what a session knows, as the definitions have it
abbrev pub session_state : Session → State
session_state s = record { table = seen_table s.table; found = found_lines s.found; names = s.names.names }

-- the replies to a caller's own events, but for the last one where it owes something
abbrev pub answered_of : Bool → List Entry → ℕ → List Reply
answered_of owes h c = if owes then take (length (own_replies h c) - 1) (own_replies h c) else own_replies h c

-- how a message was served: with an answer, after which this state stands and these replies are left, or it waits
abbrev pub served : Option (List ℕ) → State → List Reply → Outcome State
served None s rs = Waits
served (Some answer) s rs = Answered answer s rs

-- what goes on with the names and the last reply of a step, where it has one
abbrev pub went : (Names → Option Reply → Doing State) → Names → Option Reply → List Reply → Outcome State
went go_on names None rs = Waits
went go_on names (Some x) rs = outcome_by (go_on names (Some x)) rs

-- the step was played as far as its last reply, after which these names are bound and these replies are left
abbrev pub Reaches : ℕ → Names → Step → List Reply → Names → Option Reply → List Reply → Type 0
Reaches h names s rs now last left =
    (go_on : Names → Option Reply → Doing State) → outcome_by (doing_of (play_of h names s) None go_on) rs ≡ went go_on now last left

-- the step is of a kind that sessions have
abbrev pub IsServed : Step → Type 0
IsServed (step.Open called path (Some m)) = Unit {0}
IsServed (step.Read called count) = Unit {0}
IsServed (step.Writex called text) = Unit {0}
IsServed (step.Close called) = Unit {0}
IsServed (step.Cs query) = Unit {0}
IsServed _ = ⊥

-- what such a step asks for
abbrev pub asked_request : Step → Request
asked_request (step.Open called path (Some m)) = request.Open called path m
asked_request (step.Read called count) = request.Read called count
asked_request (step.Writex called text) = request.Write called text
asked_request (step.Close called) = request.Close called
asked_request (step.Cs query) = request.Cs query
asked_request _ = request.Until 0

-- after which the conversation is awaited
abbrev pub is_grant : Event → Bool
is_grant (event.Grant n g remote port) = true
is_grant _ = false

-- the first message was served, and these bytes and replies are left
pub record IsServedFirst (h : ℕ) (old new : State) (bytes behind answer : List ℕ) (rs left : List Reply) : Type 0 where
  pub message : Tmsg
  pub begins : Begins old.table.msize message bytes behind
  pub heard : new.table ≡ table_next old.table message
  pub answered : outcome_by ((session_of h).serves old message) rs ≡ Answered answer new left

-- no message begins the bytes, or the first one waits
abbrev pub IsLastMessage : ℕ → State → List ℕ → List Reply → Type 0
IsLastMessage h s bytes rs = (m : Tmsg) (behind : List ℕ) → Begins s.table.msize m bytes behind → outcome_by ((session_of h).serves s m) rs ≡ Waits

-- so many answers stand before those to what is left
pub record GoesServed (h : ℕ) (all : List (List ℕ)) (answers : List (List ℕ)) (s : State) (ms : List Tmsg) (rest : List ℕ) (rs : List Reply) : Type 0 where
  pub stream : IsStream s.table ms rest
  pub same : all ≡ answers ++ answers_to (session_of h) s ms rs

-- Answering questions: the requests, the phases, and the play that they stand for.
use Rattle.std.specs.Prelude.{◌≡◌, ℕ, zero, suc, ◌-◌, ◌&&◌, Bool, true, false, nat_lt, List, [], ◌∷◌, Option, Some, None}
use Rattle.net_base.specs.declared.address.Addr.{Addr}
use Rattle.net_base.specs.declared.address.Proto.{Proto}
use Rattle.net_base.specs.declared.event.Event.TheVariants as event
use Rattle.net_base.specs.declared.reply.Reply.{Reply}
use Rattle.net_base.specs.declared.world.Step.{Step}
use Rattle.net_base.specs.DomainAnswers.{dns_answer, is_answered}
use Rattle.net_base.specs.Steps.{Names, Play, Asks, Ends, is_accepted, if_accepted, conversation_of, closes_fid, data_name, bytes_in, closes_all, leaves_call, answers_call, serves, play_of}
use Rattle.dial_lib.specs.declared.call.CallPhase.{CallPhase}
use Rattle.dial_lib.specs.declared.call.CallPhase.TheVariants as phase
use Rattle.dial_lib.specs.declared.dns.Dns.{Dns}
use Rattle.dial_lib.specs.Calls as calls
use Rattle.dial_lib.specs.Slots.{HaveSlots}
use Rattle.net_base.specs.declared.request.Request.{Request}
use Rattle.net_base.specs.declared.request.Request.TheVariants as request

abbrev pub writes_by : Option (List ℕ) → Request
writes_by None = request.Close data_name
writes_by (Some text) = request.Write data_name text

-- the answer to what was read is written, or the call is closed where there is none
abbrev pub writes_answer : List ℕ → Names → Request
writes_answer message names = writes_by (dns_answer names.zone message)

-- what is asked for where a call is read, or answered
abbrev pub own_request : CallPhase → List ℕ → Names → Option Request
own_request phase.Answer message names = Some (writes_answer message names)
own_request _ message names = Some (request.Read data_name 8192)

abbrev pub asks_by : CallPhase → List ℕ → List ℕ → Names → Option Request
asks_by ph called message names = calls.asks_by ph called (own_request ph message names) names

-- the next request under these names
abbrev pub asks : Dns → Names → Option Request
asks t names = asks_by t.phase t.name t.message names

-- what has an answer is answered
abbrev pub read_phase : List ℕ → CallPhase
read_phase message = calls.if_so (is_answered message) phase.Answer phase.LeaveData

-- a call is closed, and nothing else of it is open
abbrev pub is_last_answer : CallPhase → Bool
is_last_answer phase.LeaveCall = true
is_last_answer _ = false

-- where calls are left, the next one is taken when one is closed
abbrev pub phase_by : CallPhase → ℕ → Reply → CallPhase
phase_by ph more r = calls.if_so (is_last_answer ph && (is_accepted r && nat_lt 0 more)) phase.Fresh (calls.phase_after ph (read_phase (bytes_in r)) r)

abbrev pub phase_after : Dns → Reply → CallPhase
phase_after t r = phase_by t.phase t.more r

abbrev pub more_after : CallPhase → ℕ → ℕ
more_after phase.LeaveCall more = more - 1
more_after _ more = more

abbrev pub message_after : CallPhase → Reply → List ℕ → List ℕ
message_after phase.Read r message = bytes_in r
message_after _ r message = message

-- the task after a reply
abbrev pub after : Dns → Reply → Dns
after t r = record t { phase = phase_by t.phase t.more r; more = more_after t.phase t.more; message = message_after t.phase r t.message }

-- Plays.

-- what follows a call, where so many more are taken
abbrev pub then_more : ℕ → List ℕ → ℕ → Names → Play
then_more h called zero base = Ends base
then_more h called (suc more) base = serves h called base more

-- what follows a call that is open
abbrev pub serves_next : ℕ → List ℕ → ℕ → calls.Next
serves_next h called more base call data_file remote local =
    Asks (conversation_of h data_file) (event.Read data_file.generation 8192) (λ (r : Reply).
    if_accepted r (answers_call h call data_file (dns_answer base.zone (bytes_in r)) (Ends base) (then_more h called more base))
    (closes_all h (data_file ∷ call ∷ []) (Ends base)))

pub data Stands (h : ℕ) (called : List ℕ) : Names → CallPhase → ℕ → List ℕ → Play → Type 0 where
  IsTaking : (names : Names) (ph : CallPhase) (more : ℕ) (message : List ℕ) (remote local : Addr) (p : Play)
      → calls.TakesCall h called (serves_next h called more) names ph remote local p → Stands h called names ph more message p
  IsAnswer : (base : Names) (p : Proto) (n g k : ℕ) (more : ℕ) (message : List ℕ) → calls.AreFree base → is_answered message ≡ true
      → Stands h called (calls.open_names base p n g k) phase.Answer more message
      (answers_call h (calls.call_fid p n g) (calls.data_fid p n k) (dns_answer base.zone message) (Ends base) (then_more h called more base))
  IsLeaveData : (base : Names) (p : Proto) (n g k : ℕ) (more : ℕ) (message : List ℕ) → calls.AreFree base
      → Stands h called (calls.open_names base p n g k) phase.LeaveData more message
      (leaves_call h (calls.call_fid p n g) (calls.data_fid p n k) (Ends base) (then_more h called more base))
  IsLeaveCall : (base : Names) (p : Proto) (n g : ℕ) (more : ℕ) (message : List ℕ) → calls.AreFree base
      → Stands h called (calls.taken_names base p n g) phase.LeaveCall more message (closes_fid h (calls.call_fid p n g) (Ends base) (then_more h called more base))

abbrev pub StandsFor : ℕ → Names → Dns → Play → Type 0
StandsFor h names t p = Stands h t.name names t.phase t.more t.message p

-- what has recorded nothing yet
abbrev pub begun : List ℕ → ℕ → Dns
begun called times = record { name = called; more = times - 1; phase = phase.Fresh; message = [] }

-- on every host it stands for the step's play, where each name is bound to a file of a slot that there is
abbrev pub Begins : Dns → Step → Type 0
Begins t s = (h : ℕ) (names : Names) → HaveSlots names → StandsFor h names t (play_of h names s)

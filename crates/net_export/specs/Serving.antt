-- What an exporting step serves, as contracts see it: its requests, and what texts and replies make of it.
use Rattle.std.specs.Prelude.{◌≡◌, ◌≤◌, ℕ, true, false, List, [], ◌∷◌, drop, Option, Some, None, IfSome, option_map, unwrap_or, if◌then◌else◌}
use Rattle.net_base.specs.declared.ninep.Tmsg.{Tmsg}
use Rattle.net_base.specs.declared.reply.Reply.{Reply}
use Rattle.net_base.specs.declared.world.Step.{Step}
use Rattle.net_base.specs.Exports.{Sharing, bad_message, closes_each, dotted_fid, is_dotted, longest_exported, open_by, put_in, sharing}
use Rattle.net_base.specs.NinepMessages.{IsTmsg, longest, r_bytes}
use Rattle.net_base.specs.NinepReading.{read_t}
use Rattle.net_base.specs.Server.{Doing, Gives, doing_of}
use Rattle.net_base.specs.Session.{State, by_last}
use Rattle.net_base.specs.SessionAnswers.{Found, found_after, found_by, replied, said_at_once}
use Rattle.net_base.specs.SessionScript as script
use Rattle.net_base.specs.SessionTable.{Table, opening}
use Rattle.net_base.specs.Steps.{Names, Play}
use Rattle.net_export.specs.Rows.{dotted_request, first_number}
use Rattle.net_base.specs.declared.request.Request.{Request}
use Rattle.net_base.specs.declared.request.Request.TheVariants as request
use Rattle.script_task.specs.Fitting.{is_granted, is_opening}
use Rattle.net_base.specs.Requests.{request_play}
use Rattle.session_answers.specs.Served.{asked_request}
use Rattle.session_script.specs.Seen.{brings_fid}

-- a message that was answered, and the last reply of its step, if it had one
pub record PastMessage : Type 0 where
  pub message : Tmsg
  pub last : Option Reply

-- what the session knows, and what was found in cs
pub record KnownOfSession : Type 0 where
  pub table : Table
  pub found : Found

abbrev pub known_after_one : Option Reply → Tmsg → KnownOfSession → KnownOfSession
known_after_one None m k = record { table = script.table_next k.table m; found = found_after k.found m }
known_after_one (Some r) m k = record { table = script.table_next k.table m; found = found_by k.table k.found m r }

-- after these messages, the last one first
abbrev pub known_after : List PastMessage → KnownOfSession
known_after [] = record { table = record opening { msize = longest_exported }; found = λ (n : ℕ). [] }
known_after (x ∷ xs) = known_after_one x.last x.message (known_after xs)

pub record Serving : Type 0 where
  -- the messages that were answered, the last one first
  pub past : List PastMessage
  -- the fids for which a file is open, in ascending order
  pub opened : List ℕ
  -- the message that is served, where it has a step, and that step's next request
  pub message : Option Tmsg
  pub request : Option Request
  -- the answer, where there is no request
  pub answer : List ℕ

abbrev pub known_by : Serving → KnownOfSession
known_by s = known_after s.past

-- the message that is served has fields that hold what they should, and is about a fid that is known; and no message is too long
abbrev pub IsServable : Tmsg → Type 0
IsServable m = IsTmsg m × (brings_fid m ≡ false)

pub record IsServing (past : List PastMessage) (message : Option Tmsg) (table : Table) (found : Found) : Type 0 where
  -- the tables are those after the messages that were answered
  pub knows : table ≡ (known_after past).table
  pub finds : found ≡ (known_after past).found
  pub served : IfSome message IsServable
  pub short : table.msize ≤ longest

-- nothing was heard yet
abbrev pub fresh_serving : Serving
fresh_serving = record { past = []; opened = []; message = None; request = None; answer = [] }

-- its request, or else the write of its answer to a name
abbrev pub request_next : Serving → List ℕ → Request
request_next s called = unwrap_or s.request (request.Write called s.answer)

-- ---- texts

abbrev pub given : Serving → List ℕ → Serving
given s answer = record s { message = None; request = None; answer = answer }

abbrev pub begins : Serving → Tmsg → Step → Serving
begins s m st = record s { message = Some m; request = Some (dotted_request (asked_request st)) }

-- a message without a step is answered
abbrev pub tells : Serving → Tmsg → Serving
tells s m = given (record s { past = record { message = m; last = None } ∷ s.past }) (r_bytes (said_at_once (known_by s).table (known_by s).found m))

abbrev pub hears_step : Serving → Tmsg → Option Step → Serving
hears_step s m None = tells s m
hears_step s m (Some st) = begins s m st

abbrev pub hears_by : Serving → Option Tmsg → Serving
hears_by s None = given s bad_message
hears_by s (Some m) = hears_step s m (script.message_step (known_by s).table m)

-- a text that was read
abbrev pub hears_text : Serving → List ℕ → Serving
hears_text s text = hears_by s (read_t text)

-- ---- replies

-- where a reply opens a file, one is open for the fid
abbrev pub opened_by : ℕ → List ℕ → Reply → List ℕ
opened_by fid opened r = if is_opening r then put_in fid opened else opened

-- what the message changes, by the last reply of its step
abbrev pub keeps : Serving → Tmsg → Reply → Serving
keeps s m r = record s { past = record { message = m; last = Some r } ∷ s.past; opened = open_by s.opened m r }

abbrev pub serving_after : Serving → Option Tmsg → Reply → Serving
serving_after s None r = s
serving_after s (Some m) r = given (keeps s m r) (r_bytes (replied (known_by s).table m r))

abbrev pub finished : Serving → Reply → Serving
finished s r = serving_after s s.message r

-- after a write that is granted a pair the conversation is awaited
abbrev pub awaits_pair : Option Request → Reply → Option Request
awaits_pair (Some (request.Write called text)) r = if is_granted r then Some (request.Wait called) else None
awaits_pair q r = None

abbrev pub told_by : Serving → Option Request → Reply → Serving
told_by s None r = finished s r
told_by s (Some q) r = record s { request = Some q }

abbrev pub told_serving : Serving → Reply → Serving
told_serving s r = told_by s (awaits_pair s.request r) r

-- ---- the end

-- the file that is closed next
abbrev pub closes_served : Serving → Option Request
closes_served s = option_map (λ (n : ℕ). request.Close (dotted_fid n)) (first_number s.opened)

abbrev pub closed_one : Serving → Serving
closed_one s = record s { opened = drop 1 s.opened }

-- ---- what it stands for

-- as a state of the definitions, where these names are bound
abbrev pub serving_state : Names → Serving → State
serving_state names v = record { table = (known_by v).table; found = (known_by v).found; names = names }

abbrev pub sharing_of : Names → Serving → Sharing
sharing_of names v = record { session = serving_state names v; opened = v.opened }

-- what it opens and closes has a name of its own
abbrev pub IsDotted : Request → Type 0
IsDotted (request.Open called path m) = is_dotted called ≡ true
IsDotted (request.Close called) = is_dotted called ≡ true
IsDotted (request.Hear called count heard) = ⊥
IsDotted q = Unit {0}

-- while a request is served: what is still done of it
pub data Serves (h : ℕ) (names : Names) (v : Serving) : Doing Sharing → Type 0 where
  IsAnswered : v.request ≡ None → Serves h names v (Gives v.answer (sharing_of names v))
  IsAsking : (m : Tmsg) (q : Request) (last : Option Reply) → v.request ≡ Some q → v.message ≡ Some m → IsDotted q
      → Serves h names v (sharing v.opened m last (doing_of (request_play h names q) last (by_last (serving_state names v) m)))

-- at the end
abbrev pub ClosesSession : ℕ → Names → Serving → Play → Type 0
ClosesSession h names v p = p ≡ closes_each h v.opened names

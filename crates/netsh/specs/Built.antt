-- The answers in the forms that are built.
--     asking        what is asked of the program: which commands have an input, its bad lines, and what is found in a good one
--     IsFirstBad    the first bad line of an input, for a command
--     IsRun         what a run over a world prints, and its status
--     IsSummed      the summary of such a run alone
--     IsExported    what a run over a translated world prints, with the answers of its sessions
--     IsWorldOf     the world that a command runs
--     IsAnswer      an answer to a command and its input
use Rattle.std.specs.Prelude.{◌≡◌, ◌↔◌, ◌⊎◌, ℕ, true, List, [], ◌∷◌, ◌++◌, map, Option, Some, None, Ok, option_and_then, option_to_list, Err}
use Rattle.net_base.specs.declared.address.Proto.TheVariants.{Il, Udp}
use Rattle.net_base.specs.declared.history.Entry.{Entry}
use Rattle.net_base.specs.declared.world.World.{World}
use Rattle.net_base.specs.Calm as calm
use Rattle.net_base.specs.Legal.{IsLegal, IsTimed}
use Rattle.net_base.specs.NdbText.{lines_of}
use Rattle.net_base.specs.NdbBundle as bundle
use Rattle.net_base.specs.Ndb.{NdbPair}
use Rattle.net_base.specs.Search.{tuples_with, all_beside}
use Rattle.ndb_index.specs.Told.{tuple_as_line}
use Rattle.net_base.specs.Cs.{cs_list}
use Rattle.net_base.specs.Hexadecimal.{hex_digits, hex_text}
use Rattle.net_base.specs.DomainAnswers.{dns_answer}
use Rattle.net_base.specs.Net.{Net, after}
use Rattle.net_base.specs.Plain.{IsPlain}
use Rattle.net_base.specs.Summary.{summary}
use Rattle.net_base.specs.Transcript.{history_text}
use Rattle.net_model.specs.Headline.{Headline}
use Rattle.history_reader.specs.Wide.{IsWide}
use Rattle.world_writer.specs.Made.{made_world}
use Rattle.world_text.specs.WorldText.{world_reading}
use Rattle.world_writer.specs.Written.{world_file_text}
use Rattle.net_model.specs.Asking as calls
use Rattle.net_model.specs.Asking.{Asking}
use Rattle.net_model.specs.Answers.{Answer, bad_input, lines_answer, cs_answer, input_limit}
use Rattle.net_model.specs.Words.{Command, Cs, Query, Dns, Run, Make, Big, Check, reads_input, Export, Translate}
use Rattle.session_script.specs.declared.world.Session.{Session}
use Rattle.session_script.specs.declared.world.SessionWorld.{SessionWorld}
use Rattle.session_script.specs.Worlds.{IsTranslated}
use Rattle.world_file.specs.SessionText.{SaysSessions}
use Rattle.netcheck.specs.Input.{Handed, IsBadHanded, bad_world, parts_of}
use Rattle.net_export.specs.Answered.{AreAnswersOf}
use Rattle.netsh.specs.AnswerLines.{answer_lines}
use Rattle.netsh.specs.Checked.{IsChecked}

-- Bad lines.

-- the first bad line of a text of a world with sessions
abbrev pub IsBadTold : List ℕ → Option (ℕ × ℕ) → Type 0
IsBadTold input None = (s : SessionWorld) × SaysSessions input (Ok s)
IsBadTold input (Some bad) = SaysSessions input (Err bad)

-- the first bad line of an input within the limit, and its least cause, if a line is bad
abbrev pub IsBadLine : Command → List ℕ → Option (ℕ × ℕ) → Type 0
IsBadLine (Cs sys query) input found = found ≡ bundle.bad_line input
IsBadLine (Query attr value other) input found = found ≡ bundle.bad_line input
IsBadLine (Dns word) input found = found ≡ bundle.bad_line input
IsBadLine (Run workers) input found = found ≡ bad_world (world_reading input)
IsBadLine (Make messages) input found = found ≡ None
IsBadLine (Big messages) input found = found ≡ None
IsBadLine Check input found = IsBadHanded (parts_of input) input found
IsBadLine (Export workers) input found = IsBadTold input found
IsBadLine Translate input found = IsBadTold input found

-- an answer to an input without a bad line, or the first bad line and its least cause
abbrev pub unless_bad : Option (ℕ × ℕ) → Answer → Answer
unless_bad None answer = answer
unless_bad (Some bad) answer = bad_input bad.0 bad.1

-- Answers of cs.

-- what a host is answered to a query over the database that an input without a bad line is
abbrev pub cs_found : List ℕ → List ℕ → List ℕ → Answer
cs_found sys query input = cs_answer (cs_list (bundle.database (lines_of input)) sys (Il ∷ Udp ∷ []) query)

-- .. or the first bad line of an input within the limit
abbrev pub cs_over : List ℕ → List ℕ → List ℕ → Answer
cs_over sys query input = unless_bad (bundle.bad_line input) (cs_found sys query input)

-- Answers of query.

-- the lines of a query: the tuples with the pair, each with its pairs in order, or the values beside the pair in all of them
abbrev pub query_lines : List ℕ → List ℕ → Option (List ℕ) → List (List (List NdbPair)) → List (List ℕ)
query_lines attr value None db = map tuple_as_line (tuples_with attr value db)
query_lines attr value (Some other) db = all_beside attr value other db

-- what is found in the database that an input without a bad line is
abbrev pub found_by_query : List ℕ → List ℕ → Option (List ℕ) → List ℕ → Answer
found_by_query attr value other input = lines_answer (query_lines attr value other (bundle.database (lines_of input)))

-- .. or the first bad line of an input within the limit
abbrev pub query_over : List ℕ → List ℕ → Option (List ℕ) → List ℕ → Answer
query_over attr value other input = unless_bad (bundle.bad_line input) (found_by_query attr value other input)

-- Answers of dns.

-- the reply to a message as a line in hexadecimal, where it is answered
abbrev pub dns_lines : List ℕ → List (List (List NdbPair)) → List (List ℕ)
dns_lines word db = map hex_digits (option_to_list (option_and_then (dns_answer db) (hex_text word)))

-- .. over the database that an input without a bad line is
abbrev pub dns_found : List ℕ → List ℕ → Answer
dns_found word input = lines_answer (dns_lines word (bundle.database (lines_of input)))

-- .. or the first bad line of an input within the limit
abbrev pub dns_over : List ℕ → List ℕ → Answer
dns_over word input = unless_bad (bundle.bad_line input) (dns_found word input)

-- Answers of run.

-- the status by how the net stands at the end: every step is answered, the end moment came, or a caller has no room
pub record IsStatus (w : World) (net : Net) (status : ℕ) : Type 0 where
  pub done : (status ≡ 0) ↔ (calm.done w net ≡ true)
  pub stopped : (status ≡ 3) ↔ (calm.stopped w net ≡ true)
  pub limited : (status ≡ 4) ↔ (calm.limited w net ≡ true)
  pub ended : (status ≡ 0) ⊎ (status ≡ 3) ⊎ (status ≡ 4)

-- the text of one legal and timed history of the world with its summary, and the status by how it ends; the history has what
-- each legal one keeps
pub record IsRunAnswer (w : World) (answer : Answer) : Type 0 where
  pub history : List Entry
  pub legal : IsLegal w history
  pub timed : IsTimed w history
  pub headline : Headline w history
  pub text : answer.text ≡ history_text history ++ summary w history
  -- each number of it is within its field, so that its text can be read back
  pub wide : IsWide history
  -- and of no other plain history
  pub one : (v : World) (k : List Entry) → IsPlain k → answer.text ≡ history_text k ++ summary v k → k ≡ history
  pub status : IsStatus w (after w history) answer.status

-- Answers of big.

-- the summary of one legal and timed history of the world, and the status by how it ends; the history has what each legal
-- one keeps, and isn't written itself
pub record IsSummed (w : World) (answer : Answer) : Type 0 where
  pub history : List Entry
  pub legal : IsLegal w history
  pub timed : IsTimed w history
  pub headline : Headline w history
  pub text : answer.text ≡ summary w history
  pub status : IsStatus w (after w history) answer.status

-- the world that a command runs: the one that its input is, or the made one
abbrev pub IsWorldOf : Command → List ℕ → World → Type 0
IsWorldOf (Run workers) input w = world_reading input ≡ Ok w
IsWorldOf (Big messages) input w = w ≡ made_world messages
IsWorldOf (Export workers) input w = (s : SessionWorld) × SaysSessions input (Ok s) × IsTranslated s w
IsWorldOf _ input w = ⊥

-- Answers of make.

-- the text of the made world
unfoldable pub made : ℕ → Answer
made messages = record { status = 0; text = world_file_text (made_world messages) }

-- Answers of check.

-- the judgement of the history that the input hands in
abbrev pub IsJudged : List ℕ → Answer → Type 0
IsJudged input answer = (handed : Handed input) → IsChecked handed.world handed.history handed.told answer

-- Answers of export and translate.

-- the text of one legal and timed history of the world with its summary and the answers of its sessions, and the status by how
-- it ends; the history has what each legal one keeps
pub record IsExported (w : World) (sessions : List Session) (answer : Answer) : Type 0 where
  pub history : List Entry
  pub legal : IsLegal w history
  pub timed : IsTimed w history
  pub headline : Headline w history
  -- each session's answers, by that history
  pub answers : List (List (List ℕ))
  pub answered : AreAnswersOf w history sessions answers
  pub text : answer.text ≡ history_text history ++ summary w history ++ answer_lines sessions answers
  pub status : IsStatus w (after w history) answer.status

-- the text of a translated world
abbrev pub translation : World → Answer
translation w = record { status = 0; text = world_file_text w }

-- Answers.

-- an answer to an input without a bad line
abbrev pub IsFound : Command → List ℕ → Answer → Type 0
IsFound (Cs sys query) input answer = answer ≡ cs_found sys query input
IsFound (Query attr value other) input answer = answer ≡ found_by_query attr value other input
IsFound (Dns word) input answer = answer ≡ dns_found word input
IsFound (Run workers) input answer = (w : World) × IsWorldOf (Run workers) input w × IsRunAnswer w answer
IsFound (Make messages) input answer = answer ≡ made messages
IsFound (Big messages) input answer = (w : World) × IsWorldOf (Big messages) input w × IsSummed w answer
IsFound Check input answer = IsJudged input answer
IsFound (Export workers) input answer = (s : SessionWorld) × SaysSessions input (Ok s) × (w : World) × IsTranslated s w × IsExported w s.sessions answer
IsFound Translate input answer = (s : SessionWorld) × SaysSessions input (Ok s) × (w : World) × IsTranslated s w × (answer ≡ translation w)

-- what is asked of the program
abbrev pub asking : Asking Command
asking = record { reads = reads_input; limit = input_limit; IsBadLine = IsBadLine; IsFound = IsFound }

-- the first bad line of any input
abbrev pub IsFirstBad : Command → List ℕ → Option (ℕ × ℕ) → Type 0
IsFirstBad asked input found = calls.IsFirstBad asking asked input found

-- an answer to a command and its input
abbrev pub IsAnswer : Command → List ℕ → Answer → Type 0
IsAnswer asked input answer = calls.IsAnswer asking asked input answer

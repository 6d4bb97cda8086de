-- The text of a world with sessions: beside the lines of a world `session HOST`, and under it lines `feed HEX`.
--     row_of           which line it is
--     Follows          what comes of a line behind those before it
--     Says             what comes of a text: a world with its sessions, or the first bad line and its least cause
use Rattle.std.specs.Prelude.{◌≡◌, ◌⊎◌, ℕ, ◌+◌, ◌==◌, Bool, true, false, List, [], ◌∷◌, ◌++◌, length, drop, codes, bytes_eq, Option, Some, None, Result, Ok, Err, if◌then◌else◌}
use Rattle.std.specs.List.{last_or}
use Rattle.std.specs.Option.{option_and_then, option_map_or}
use Rattle.net_base.specs.declared.world.Script.{Script}
use Rattle.net_base.specs.declared.world.Step.{Step}
use Rattle.net_base.specs.declared.world.World.{World}
use Rattle.world_text.specs.VersionLines.{bad_version_line}
use Rattle.session_script.specs.declared.world.Session.{Session}
use Rattle.session_script.specs.declared.world.SessionWorld.{SessionWorld}
use Rattle.net_base.specs.SessionScript.{IsBadStream, IsScript}
use Rattle.world_text.specs.declared.line.LineCause.{LineCause}
use Rattle.world_text.specs.declared.line.LineCause.TheVariants as cause
use Rattle.world_text.specs.declared.line.WorldLine.{WorldLine}
use Rattle.world_text.specs.declared.line.WorldLine.TheVariants as line
use Rattle.world_text.specs.LineCauses.{cause_number_of}
use Rattle.world_text.specs.LineReading.{read_line}
use Rattle.world_text.specs.WorldLines.{Bad, Begins, Draft, Goes, Verdict, at_last, passes_over, line_verdict, opening_draft}
use Rattle.world_text.specs.WorldText.{Cut, cuts_of, missing, with_versions}
use Rattle.world_text.specs.WorldWords.{hex_text, single_word, words_in_line}

-- cause 51: the bytes of a session aren't whole messages, each no longer than was agreed before it
abbrev pub bad_stream : ℕ
bad_stream = 51

-- what the lines so far say
pub record ToldLines : Type 0 where
  pub draft : Draft
  pub sessions : List Session
  -- the number of the `session` line under which the next lines stand
  pub under : Option ℕ

abbrev pub opening_told : ToldLines
opening_told = record { draft = opening_draft; sessions = []; under = None }

-- ---- lines

pub data Row : Type 0 where
  -- an empty line or a comment
  Passes : Row
  -- `feed` with the bytes of its word, or with a wrong argument
  Feeds : Option (List ℕ) → Row
  OpensSession : Row
  Other : Row

abbrev pub row_by : List (List ℕ) → Row
row_by (word ∷ args) = if bytes_eq word (codes "feed") then Feeds (option_and_then hex_text (single_word args)) else (if bytes_eq word (codes "session") then OpensSession else Other)
row_by [] = Other

-- the first line names the timers, whatever its words
abbrev pub session_row : Draft → List ℕ → Row
session_row d text = if passes_over text then Passes else (if d.group == 0 then Other else row_by (words_in_line text))

-- `session HOST` is judged as `script HOST` is, and is a script without steps in its place
abbrev pub as_script : List ℕ → List ℕ
as_script text = codes "script" ++ drop 7 text

-- ---- verdicts

abbrev pub is_step_read : Result WorldLine LineCause → Bool
is_step_read (Ok (line.OfScript s)) = true
is_step_read read = false

-- a step doesn't stand under a session
abbrev pub under_session : Draft → List ℕ → Verdict
under_session d text = if is_step_read (read_line text) then Bad cause.OutOfOrder else line_verdict d text

-- a line that ends a session, or one where none goes on
abbrev pub other_verdict : Option ℕ → Draft → List ℕ → Verdict
other_verdict None d text = line_verdict d text
other_verdict (Some n) d text = under_session d text

-- ---- sessions

-- a session in the place of the script that comes next
abbrev pub opened_at : Draft → ℕ → Session
opened_at d host = record { place = length d.scripts; host = host; stream = [] }

-- the host of the script that a line added last
abbrev pub host_of_last : Draft → ℕ
host_of_last d = option_map_or (λ (s : Script). s.host) (last_or None d.scripts) 0

abbrev pub with_bytes : List ℕ → Session → Session
with_bytes bytes s = record s { stream = s.stream ++ bytes }

-- the last session has these bytes more
abbrev pub extended : List ℕ → ToldLines → ToldLines
extended bytes told = record told { sessions = at_last (with_bytes bytes) told.sessions }

-- the bytes of the last session
abbrev pub last_stream : List Session → List ℕ
last_stream sessions = option_map_or (λ (s : Session). s.stream) (last_or None sessions) []

abbrev pub with_sessions : List Session → Result World (ℕ × ℕ) → Result SessionWorld (ℕ × ℕ)
with_sessions sessions (Ok w) = Ok (record { world = w; sessions = sessions })
with_sessions sessions (Err bad) = Err bad

-- the bytes are whole messages
abbrev pub IsStreamOf : List ℕ → Type 0
IsStreamOf bytes = (steps : List Step) × IsScript bytes steps

-- ---- what comes of the lines

-- a session's lines end here: its bytes are whole messages, or its line is bad
abbrev pub ClosesLines : List Session → Option ℕ → Type 0 → Result SessionWorld (ℕ × ℕ) → Type 0
ClosesLines sessions None Next r = Next
ClosesLines sessions (Some n) Next r = (IsStreamOf (last_stream sessions) × Next) ⊎ (IsBadStream (last_stream sessions) × (r ≡ Err (n, bad_stream)))

-- the n-th line goes on, begins the bundle or is bad
abbrev pub Judges : List Session → ℕ → List ℕ → Verdict → (Draft → Type 0) → Result SessionWorld (ℕ × ℕ) → Type 0
Judges sessions n behind (Goes d) next r = next d
Judges sessions n behind (Begins w) next r = r ≡ with_sessions sessions (with_versions n w behind (bad_version_line behind))
Judges sessions n behind (Bad c) next r = r ≡ Err (n, cause_number_of c)

-- a line `feed` adds its bytes to the session under which it stands
abbrev pub Extends : ToldLines → ℕ → Option ℕ → Option (List ℕ) → (ToldLines → Type 0) → Result SessionWorld (ℕ × ℕ) → Type 0
Extends told n under None next r = r ≡ Err (n, cause_number_of cause.WrongArgument)
Extends told n None (Some bytes) next r = r ≡ Err (n, cause_number_of cause.OutOfOrder)
Extends told n (Some line) (Some bytes) next r = next (extended bytes told)

-- what comes of the n-th line, and of those behind it
abbrev pub FollowsLine : ToldLines → ℕ → Cut → Row → (ToldLines → Type 0) → Result SessionWorld (ℕ × ℕ) → Type 0
FollowsLine told n c Passes next r = next told
FollowsLine told n c (Feeds bytes) next r = Extends told n told.under bytes next r
FollowsLine told n c OpensSession next r =
    ClosesLines told.sessions told.under
    (Judges told.sessions n c.behind (line_verdict told.draft (as_script c.line))
    (λ (d : Draft). next (record { draft = d; sessions = told.sessions ++ opened_at told.draft (host_of_last d) ∷ []; under = Some n })) r) r
FollowsLine told n c Other next r =
    ClosesLines told.sessions told.under
    (Judges told.sessions n c.behind (other_verdict told.under told.draft c.line) (λ (d : Draft). next (record { draft = d; sessions = told.sessions; under = None })) r) r

-- what comes of lines that begin with the n-th
abbrev pub SaysFrom : ToldLines → ℕ → List Cut → Result SessionWorld (ℕ × ℕ) → Type 0
SaysFrom told n [] r = ClosesLines told.sessions told.under (r ≡ Err (n, cause_number_of (missing told.draft))) r
SaysFrom told n (c ∷ cs) r = FollowsLine told n c (session_row told.draft c.line) (λ (later : ToldLines). SaysFrom later (n + 1) cs r) r

-- what a text says: a world with its sessions, or its first bad line, counted from 1, and that line's least cause
abbrev pub SaysSessions : List ℕ → Result SessionWorld (ℕ × ℕ) → Type 0
SaysSessions text r = SaysFrom opening_told 1 (cuts_of text) r

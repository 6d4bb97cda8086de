-- What the reader of sessions makes of lines, and tells of a bad one.
use Rattle.std.specs.Prelude.{◌≡◌, ℕ, ◌+◌, Bool, true, false, List, [], Option, Some, None, Result, Ok, Err, ⊤}
use Rattle.std.specs.Borrow.{Bor}
use Rattle.world_text.specs.VersionLines.{bad_version_line}
use Rattle.session_script.specs.declared.world.Session.{Session}
use Rattle.session_script.specs.declared.world.SessionWorld.{SessionWorld}
use Rattle.net_base.specs.SessionScript.{IsBadStream}
use Rattle.world_text.specs.WorldLines.{Draft, Goes, line_verdict, world_of}
use Rattle.world_text.specs.WorldText.{Cut, with_versions}
use Rattle.world_text.specs.WorldWords.{hex_text, words_in_line}
use Rattle.world_file.specs.declared.fault.WorldError.{WorldError}
use Rattle.world_file.specs.declared.fault.WorldError.TheVariants as error
use Rattle.world_file.specs.declared.session_text.Row.{Row as CodeRow}
use Rattle.world_file.specs.declared.session_text.Row.TheVariants as code
use Rattle.world_file.specs.SessionText.{Feeds, FollowsLine, IsStreamOf, OpensSession, Other, Passes, Row, SaysSessions, SaysFrom, ToldLines, bad_stream, host_of_last, last_stream, session_row, with_sessions}

-- an error tells the bad line and its cause, or nothing where memory ran out
abbrev pub SaysBad : List ℕ → WorldError → Type 0
SaysBad text error.Memory = ⊤
SaysBad text (error.Bad line cause) = SaysSessions text (Err (line, cause))

abbrev pub word_seen : Option (Bor (List ℕ)) → Option (List ℕ)
word_seen None = None
word_seen (Some word) = hex_text word.now

-- the words of what stands behind the first one, where something does
abbrev pub args_of : Option (Bor (List ℕ)) → List (List ℕ)
args_of None = []
args_of (Some rest) = words_in_line rest.now

-- the row as the code has it
abbrev pub row_seen : CodeRow → Row
row_seen code.Passes = Passes
row_seen (code.Feeds word) = Feeds (word_seen word)
row_seen code.OpensSession = OpensSession
row_seen code.Other = Other

abbrev pub cut : List ℕ → List ℕ → Cut
cut line behind = record { line = line; behind = behind }

-- a line leads from the one world so far to the other
abbrev pub LeadsOn : Draft → Draft → Type 0
LeadsOn d e = (text : List ℕ) × (line_verdict d text ≡ Goes e)

-- what comes of the text from a line of this row on is what comes of the lines behind it
abbrev pub ComesOfLine : Row → ToldLines → ToldLines → ℕ → List ℕ → Type 0
ComesOfLine row old new n line =
    (behind : List ℕ) (cs : List Cut) (r : Result SessionWorld (ℕ × ℕ)) → SaysFrom new (n + 1) cs r
    → FollowsLine old n (cut line behind) row (λ (later : ToldLines). SaysFrom later (n + 1) cs r) r

-- .. or of the bundle; or the line is bad
abbrev pub TakenAs : Row → ToldLines → ToldLines → ℕ → List ℕ → Result Bool WorldError → Type 0
TakenAs row old new n line (Ok false) = LeadsOn old.draft new.draft × ComesOfLine row old new n line
TakenAs row old new n line (Ok true) =
    (behind : List ℕ) (cs : List Cut) (r : Result SessionWorld (ℕ × ℕ)) → r ≡ with_sessions new.sessions (with_versions n (world_of new.draft) behind (bad_version_line behind))
    → FollowsLine old n (cut line behind) row (λ (later : ToldLines). SaysFrom later (n + 1) cs r) r
TakenAs row old new n line (Err error.Memory) = ⊤
TakenAs row old new n line (Err (error.Bad l c)) =
    (behind : List ℕ) (cs : List Cut) → FollowsLine old n (cut line behind) row (λ (later : ToldLines). SaysFrom later (n + 1) cs (Err (l, c))) (Err (l, c))

-- what is taken of any line; `SaysFrom old n (cut line behind ∷ cs)` is this by its definition
abbrev pub TakenLine : ToldLines → ToldLines → ℕ → List ℕ → Result Bool WorldError → Type 0
TakenLine old new n line taken = TakenAs (session_row old.draft line) old new n line taken

-- the session that lines stand under, if they do, is of whole messages
abbrev pub IsWholeSession : List Session → Option ℕ → Type 0
IsWholeSession sessions None = ⊤
IsWholeSession sessions (Some n) = IsStreamOf (last_stream sessions)

-- what the bytes of the session at this line are told to be
abbrev pub StreamBad : ℕ → List ℕ → WorldError → Type 0
StreamBad line bytes error.Memory = ⊤
StreamBad line bytes (error.Bad l c) = (l ≡ line) × (c ≡ bad_stream) × IsBadStream bytes

-- its line is bad
abbrev pub ClosesBad : ToldLines → WorldError → Type 0
ClosesBad told error.Memory = ⊤
ClosesBad told (error.Bad l c) = (told.under ≡ Some l) × (c ≡ bad_stream) × IsBadStream (last_stream told.sessions)

-- what the bundle's error tells
abbrev pub BundleBad : ToldLines → ℕ → List ℕ → WorldError → Type 0
BundleBad told n text error.Memory = ⊤
BundleBad told n text (error.Bad l c) = with_sessions told.sessions (with_versions n (world_of told.draft) text (bad_version_line text)) ≡ Err (l, c)

-- the session that a line opens
abbrev pub session_at : ℕ → Draft → Session
session_at place d = record { place = place; host = host_of_last d; stream = [] }

-- What a printed history says, and where it is bad.
use Rattle.std.specs.Prelude.{◌≡◌, ◌≢◌, ℕ, ◌+◌, ◌<◌, List, [], ◌++◌, ◌⊎◌, length, Option, Some, None}
use Rattle.std.specs.List.{concat}
use Rattle.net_base.specs.declared.history.Entry.{Entry}
use Rattle.net_base.specs.Plain.{IsPlain, IsPlainEvent, IsPlainReply}
use Rattle.net_base.specs.Transcript.{history_text, line_of}
use Rattle.history_reader.specs.SummaryText.{AreLinesFrom, IsLineOf}
use Rattle.history_reader.specs.Wide.{IsWide, IsWideEntry}

-- What is spelled.

-- four lines, one of each form
abbrev pub IsSummary : List ℕ → Type 0
IsSummary text = (lines : List (List ℕ)) × (length lines ≡ 4) × AreLinesFrom 0 lines × (text ≡ concat lines)

-- what stands behind the entries: nothing, or a summary
abbrev pub IsBehind : Option (List ℕ) → List ℕ → Type 0
IsBehind None rest = rest ≡ []
IsBehind (Some text) rest = (rest ≡ text) × IsSummary text

-- a plain and wide history and its summary, if there is one
pub record SpellsHistory (bytes : List ℕ) (h : List Entry) (summary : Option (List ℕ)) : Type 0 where
  pub plain : IsPlain h
  pub wide : IsWide h
  pub spelled : (rest : List ℕ) × (bytes ≡ history_text h ++ rest) × IsBehind summary rest

-- The first bad line. Lines count from 1.

-- an entry that a line may spell
pub record IsGoodHistory (x : Entry) : Type 0 where
  pub event : IsPlainEvent x.event
  pub reply : IsPlainReply x.reply
  pub wide : IsWideEntry x

-- the line of an entry with a stamp
abbrev pub IsEntryLine : ℕ → List ℕ → Type 0
IsEntryLine stamp line = (x : Entry) × IsGoodHistory x × (line ≡ line_of stamp x)

-- a text begins with such a line
abbrev pub Begins : (List ℕ → Type 0) → List ℕ → Type 0
Begins IsLine text = (line : List ℕ) × (rest : List ℕ) × IsLine line × (text ≡ line ++ rest)

-- behind so many entries: no line of an entry and none that begins a summary, or an entry with another stamp
abbrev pub IsBadEntryLine : ℕ → List ℕ → ℕ → Type 0
IsBadEntryLine stamp text cause =
    ((cause ≡ 41) × ((other : ℕ) → Begins (IsEntryLine other) text → ⊥) × (Begins (IsLineOf 0) text → ⊥))
    ⊎ ((cause ≡ 42) × ((other : ℕ) × (other ≢ stamp) × Begins (IsEntryLine other) text))

-- behind so many lines of a summary: not the next one, which may be missing; behind all of them anything
abbrev pub IsBadSummary : ℕ → List ℕ → Type 0
IsBadSummary count text = ((text ≢ []) ⊎ (count < 4)) × (Begins (IsLineOf count) text → ⊥)

-- the entries before, the lines of a summary behind them, and what follows
pub record IsBadText (bytes : List ℕ) (line cause : ℕ) : Type 0 where
  pub before : List Entry
  pub lines : List (List ℕ)
  pub behind : List ℕ
  pub plain : IsPlain before
  pub wide : IsWide before
  pub summary : AreLinesFrom 0 lines
  pub spelled : bytes ≡ history_text before ++ concat lines ++ behind
  pub place : line ≡ length before + length lines + 1
  pub bad : ((lines ≡ []) × (behind ≢ []) × IsBadEntryLine (length before) behind cause) ⊎ ((lines ≢ []) × (cause ≡ 41) × IsBadSummary (length lines) behind)

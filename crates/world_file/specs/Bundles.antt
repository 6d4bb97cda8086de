-- A text of versions, cut at a line that begins one.
use Rattle.std.specs.Prelude.{◌≡◌, ℕ, true, false, List, [], ◌∷◌, ◌++◌, length}
use Rattle.std.specs.List.{list_all, list_any}
use Rattle.net_base.specs.NdbText.{lines_of}
use Rattle.world_text.specs.VersionLines.{at_causes, is_at_line, moment_of}
use Rattle.world_text.specs.WorldSpelling.{is_line, laid}
use Rattle.world_text.specs.WorldText.{cuts_of}
use Rattle.world_file.specs.declared.fault.WorldError.{WorldError}
use Rattle.world_file.specs.declared.fault.WorldError.TheVariants as error

-- so many bytes of the text are so many lines with their newlines, none of which begins a version; the line behind them does
pub record IsFront (text : List ℕ) (place lines : ℕ) : Type 0 where
  pub front : List (List ℕ)
  pub rest : List ℕ
  pub line : List ℕ
  pub behind : List ℕ
  pub text_is : text ≡ laid front ++ rest
  pub place_is : place ≡ length (laid front)
  pub count : lines ≡ length front
  pub whole : list_all is_line front ≡ true
  pub own : list_any is_at_line front ≡ false
  pub cut : cuts_of rest ≡ record { line = line; behind = behind } ∷ cuts_of behind
  pub begins : is_at_line line ≡ true

-- no line of the text begins a version
abbrev pub IsWithoutVersion : List ℕ → Type 0
IsWithoutVersion text = list_any is_at_line (lines_of text) ≡ false

-- an error tells the cause of this line, which begins a version behind one from that moment on
abbrev pub TellsMoment : ℕ → ℕ → List ℕ → WorldError → Type 0
TellsMoment number last line error.Memory = ⊥
TellsMoment number last line (error.Bad place cause) = (place ≡ number) × (at_causes last (moment_of line) ≡ cause ∷ [])

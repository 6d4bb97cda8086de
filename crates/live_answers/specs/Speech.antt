-- What a voice has written.
use Rattle.std.specs.Prelude.{◌≡◌, ℕ, ◌++◌, Bool, true, false, List, [], ◌∷◌, Option}
use Rattle.std.specs.Io.KnownBytes.{Appends}
use Rattle.outside.specs.Streams.{AppendsPart}
use Rattle.live_answers.specs.declared.voice.Voice.{Voice}
use Rattle.live_answers.specs.Lines.{Line, line_text, lines_text}

-- what the sink of a voice holds, if it reports that, whether a write has failed, and the lines so far
pub record Speech : Type 0 where
  pub held : Option (List ℕ)
  pub failed : Bool
  pub lines : List Line

abbrev pub speech : {K : Type 0} → (K → Option (List ℕ)) → Voice K → Speech
speech held v = record { held = held v.sink; failed = v.failed; lines = v.said.list }

-- what was held before grew by a text: by all of it, or only by a part of it if a write has failed
abbrev pub GrowsAs : Bool → Option (List ℕ) → Option (List ℕ) → List ℕ → Type 0
GrowsAs false before held text = Appends before held text
GrowsAs true before held text = AppendsPart before held text

-- the sink, which held this before, got the lines, in order
abbrev pub IsWritten : Option (List ℕ) → Speech → Type 0
IsWritten before s = GrowsAs s.failed before s.held (lines_text s.lines)

-- a text was written, unless a write had failed before
abbrev pub Writes : Bool → Bool → Option (List ℕ) → Option (List ℕ) → List ℕ → Type 0
Writes true failed old new text = (failed ≡ true) × (new ≡ old)
Writes false failed old new text = GrowsAs failed old new text

-- one more line was said
pub record Says (old new : Speech) (l : Line) : Type 0 where
  pub lines : new.lines ≡ old.lines ++ l ∷ []
  pub writes : Writes old.failed new.failed old.held new.held (line_text l)

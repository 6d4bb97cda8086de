-- What a call of a program takes from a source and tells to a sink.
use Rattle.std.specs.Prelude.{◌≡◌, ℕ, ◌⊎◌, List, Option, Some, None, ⊤}
use Rattle.std.specs.Io.KnownBytes.{Appends}
use Rattle.net_model.specs.Answers.{Answer}
use Rattle.outside.specs.Streams.{AppendsPart, Rose}

-- what a source had left and has left, where it tells that, and its count of faults before and after
pub record Intake : Type 0 where
  pub left : Option (List ℕ)
  pub rest : Option (List ℕ)
  pub before : ℕ
  pub after : ℕ

-- what a sink held and holds, where it tells that, and its count of faults before and after
pub record Output : Type 0 where
  pub held : Option (List ℕ)
  pub holds : Option (List ℕ)
  pub before : ℕ
  pub after : ℕ

-- the answer was written whole, or the sink failed, which is status 7, and gained a part of its text
abbrev pub Told : Answer → ℕ → Output → Type 0
Told answer status output =
    ((status ≡ answer.status) × Appends output.held output.holds answer.text × (output.after ≡ output.before))
    ⊎ ((status ≡ 7) × Rose output.before output.after × AppendsPart output.held output.holds answer.text)

-- nothing was written
abbrev pub IsUnwritten : Output → Type 0
IsUnwritten output = (output.holds ≡ output.held) × (output.after ≡ output.before)

-- the input is what the source had left, where it told that
abbrev pub IsInput : Option (List ℕ) → List ℕ → Type 0
IsInput None input = ⊤
IsInput (Some left) input = input ≡ left

-- nothing was read
abbrev pub IsUnread : Intake → Type 0
IsUnread intake = (intake.rest ≡ intake.left) × (intake.after ≡ intake.before)

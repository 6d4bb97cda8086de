-- The text of a world: lines, and behind the line `ndb` the versions of its database.
use Rattle.std.specs.Prelude.{ℕ, ◌+◌, ◌==◌, List, [], ◌∷◌, Option, Some, None, Result, Ok, Err, if◌then◌else◌}
use Rattle.net_base.specs.declared.world.World.{World}
use Rattle.net_base.specs.NdbText.{is_newline, lines_of}
use Rattle.world_text.specs.declared.line.LineCause.{LineCause}
use Rattle.world_text.specs.declared.line.LineCause.TheVariants as cause
use Rattle.world_text.specs.LineCauses.{cause_number_of}
use Rattle.world_text.specs.VersionLines.{bad_version_line, versions_in}
use Rattle.world_text.specs.WorldLines.{Draft, opening_draft, Verdict, Goes, Begins, Bad, line_verdict}

-- a line with what stands behind its newline
pub record Cut : Type 0 where
  pub line : List ℕ
  pub behind : List ℕ

abbrev pub with_first : ℕ → List Cut → List Cut
with_first b [] = record { line = b ∷ []; behind = [] } ∷ []
with_first b (c ∷ cs) = record { line = b ∷ c.line; behind = c.behind } ∷ cs

-- the lines of a text: each ends with a newline, which the last may lack
abbrev pub cuts_of : List ℕ → List Cut
cuts_of [] = []
cuts_of (b ∷ bytes) = if is_newline b then record { line = []; behind = bytes } ∷ cuts_of bytes else with_first b (cuts_of bytes)

-- the cause for which a text without `ndb` is bad: it has no first line, or a part is missing
abbrev pub missing : Draft → LineCause
missing d = if d.group == 0 then cause.FirstLine else cause.MissingPart

-- a world with the versions that stand behind its n-th line
abbrev pub with_versions : ℕ → World → List ℕ → Option (ℕ × ℕ) → Result World (ℕ × ℕ)
with_versions n w text None = Ok (record w { dbs = versions_in (lines_of text) })
with_versions n w text (Some bad) = Err (n + bad.0, bad.1)

-- what comes of the n-th line and of those behind it
abbrev pub judged : ℕ → List ℕ → Verdict → (Draft → Result World (ℕ × ℕ)) → Result World (ℕ × ℕ)
judged n behind (Goes d) next = next d
judged n behind (Begins w) next = with_versions n w behind (bad_version_line behind)
judged n behind (Bad c) next = Err (n, cause_number_of c)

-- what comes of lines that begin with the n-th, behind the lines that made this world so far
abbrev pub reading_from : Draft → ℕ → List Cut → Result World (ℕ × ℕ)
reading_from d n [] = Err (n, cause_number_of (missing d))
reading_from d n (c ∷ cs) = judged n c.behind (line_verdict d c.line) (λ (next : Draft). reading_from next (n + 1) cs)

-- the world that a text says, or its first bad line, counted from 1, and that line's least cause
abbrev pub world_reading : List ℕ → Result World (ℕ × ℕ)
world_reading text = reading_from opening_draft 1 (cuts_of text)

-- What is told of a text without notes.
use Rattle.std.specs.Prelude.{◌≡◌, ℕ, Option, Some, ⊤}
use Rattle.bundle_lint.specs.declared.fault.LintError.{LintError}
use Rattle.bundle_lint.specs.declared.fault.LintError.TheVariants as error

-- an error tells the bad line and its cause, or nothing where memory ran out
abbrev pub Tells : LintError → Option (ℕ × ℕ) → Type 0
Tells error.Memory bad = ⊤
Tells (error.Bad line cause) bad = bad ≡ Some (line, cause)

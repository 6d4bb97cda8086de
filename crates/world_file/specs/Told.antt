-- What the reader tells of a bad line.
use Rattle.std.specs.Prelude.{◌≡◌, ◌≤◌, ℕ, ◌+◌, length, map, bytes_eq, true, Bool, Option, Some, None, Result, Err, ⊤, if◌then◌else◌}
use Rattle.net_base.specs.declared.world.MediumSpec.{MediumSpec}
use Rattle.net_base.specs.declared.world.World.{World}
use Rattle.net_base.specs.World.{all_apart}
use Rattle.world_text.specs.LineCauses.{cause_number_of}
use Rattle.world_text.specs.WorldLines.{Draft, Verdict, Goes, Begins, Bad, world_of}
use Rattle.world_words.specs.declared.fault.LineFault.{LineFault}
use Rattle.world_words.specs.declared.fault.LineFault.TheVariants as fault
use Rattle.world_file.specs.declared.fault.WorldError.{WorldError}
use Rattle.world_file.specs.declared.fault.WorldError.TheVariants as error

-- a fault tells a line's cause, or nothing where memory ran out
abbrev pub TellsCause : LineFault → Verdict → Type 0
TellsCause fault.Memory verdict = ⊤
TellsCause (fault.Cause cause) verdict = verdict ≡ Bad cause

-- an error tells the bad line and its cause, or nothing where memory ran out
abbrev pub Tells : WorldError → Result World (ℕ × ℕ) → Type 0
Tells error.Memory reading = ⊤
Tells (error.Bad line cause) reading = reading ≡ Err (line, cause)

-- an error tells a bad line that stands so many lines further on, or nothing where memory ran out
abbrev pub TellsBehind : ℕ → WorldError → Option (ℕ × ℕ) → Type 0
TellsBehind number error.Memory bad = ⊤
TellsBehind number (error.Bad line cause) None = ⊥
TellsBehind number (error.Bad line cause) (Some told) = (line ≡ number + told.0) × (cause ≡ told.1)

-- a line that begins the bundle, or goes on
abbrev pub going : Bool → Draft → Verdict
going begins d = if begins then Begins (world_of d) else Goes d

-- the fault of the line with this number
abbrev pub TellsAt : LineFault → ℕ → WorldError → Type 0
TellsAt fault.Memory number e = e ≡ error.Memory
TellsAt (fault.Cause cause) number e = e ≡ error.Bad number (cause_number_of cause)

-- so few media and hosts that their numbers fit, and media with names of their own
pub record IsSmallDraft (d : Draft) : Type 0 where
  pub media : length d.media ≤ 4
  pub hosts : length d.hosts ≤ 8
  pub named : all_apart bytes_eq (map (λ (s : MediumSpec). s.name) d.media) ≡ true

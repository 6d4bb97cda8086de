-- What is told of an input. But for want of memory it is determined: an input has one first bad line, or hands in one world, one
-- history and one summary, and a history has at most one fault.
use Rattle.std.specs.Prelude.{◌≡◌, ℕ, ◌+◌, List, Option, Some, None, Result, Ok, Err, ⊤}
use Rattle.net_base.specs.declared.history.Entry.{Entry}
use Rattle.net_base.specs.declared.world.World.{World}
use Rattle.net_base.specs.Legal.{IsLegal, IsTimed}
use Rattle.net_base.specs.World.{IsWorld}
use Rattle.history_reader.specs.declared.fault.LineError.{LineError}
use Rattle.history_reader.specs.declared.fault.LineError.TheVariants as refused
use Rattle.netcheck.specs.Judged.{HasFault}
use Rattle.world_file.specs.declared.fault.WorldError.{WorldError}
use Rattle.world_file.specs.declared.fault.WorldError.TheVariants as world
use Rattle.netcheck.specs.Input.{Handed, IsBadHanded, InputParts, parts_of}
use Rattle.netcheck.specs.declared.fault.InputError.{InputError}
use Rattle.netcheck.specs.declared.fault.InputError.TheVariants as error
use Rattle.netcheck.specs.declared.input.CheckedInput.{CheckedInput}

-- the first bad line of an input, if a line is bad, and no other is
pub record IsFirstTold (input : List ℕ) (found : Option (ℕ × ℕ)) : Type 0 where
  pub is : IsBadHanded (parts_of input) input found
  pub only : (other : Option (ℕ × ℕ)) → IsBadHanded (parts_of input) input other → other ≡ found

-- no line of an input is bad, and it hands in this world, history and summary
pub record HandsIn (input : List ℕ) (w : World) (h : List Entry) (told : Option (List ℕ)) : Type 0 where
  pub good : IsFirstTold input None
  pub world : IsWorld w
  pub handed : Handed input
  -- and nothing else, which is what was handed in here
  pub only : (other : Handed input) → (other.world ≡ w) × (other.history ≡ h) × (other.told ≡ told)

-- an error tells the first bad line, or the first fault of the history that was handed in
abbrev pub RefusesInput : List ℕ → InputError → Type 0
RefusesInput input (error.Bad line cause) = IsFirstTold input (Some (line, cause))
RefusesInput input (error.Fault stamp rule) =
    (w : World) × (h : List Entry) × (told : Option (List ℕ)) × HandsIn input w h told × HasFault w h stamp rule
RefusesInput input error.Memory = ⊤

-- the error of a bad world, and that of a bad history behind so many lines
abbrev pub of_world : WorldError → InputError
of_world (world.Bad line cause) = error.Bad line cause
of_world world.Memory = error.Memory

abbrev pub of_line : ℕ → LineError → InputError
of_line before (refused.Bad line cause) = error.Bad (before + line) cause
of_line before refused.Memory = error.Memory

-- what was handed in keeps the rules, or an error says what is wrong
abbrev pub Tells : List ℕ → Result CheckedInput InputError → Type 0
Tells input (Ok read) = HandsIn input read.world read.history read.told × IsLegal read.world read.history × IsTimed read.world read.history
Tells input (Err e) = RefusesInput input e

-- Parts and what was read, on the way there.

-- so of each input with these parts
abbrev pub TellsParts : InputParts → Result CheckedInput InputError → Type 0
TellsParts parts result = (input : List ℕ) → parts_of input ≡ Some parts → Tells input result

-- what was read keeps the rules, or has this fault
abbrev pub JudgedInput : CheckedInput → Result CheckedInput InputError → Type 0
JudgedInput read (Ok kept) = (kept ≡ read) × IsLegal read.world read.history × IsTimed read.world read.history
JudgedInput read (Err (error.Bad line cause)) = ⊥
JudgedInput read (Err (error.Fault stamp rule)) = HasFault read.world read.history stamp rule
JudgedInput read (Err error.Memory) = ⊤

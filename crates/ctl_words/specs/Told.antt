-- What a reading tells.
use Rattle.std.specs.Prelude.{ℕ, Result, Ok, Err}
use Rattle.net_base.specs.declared.names.Ctl.{Ctl}
use Rattle.net_base.specs.ControlWords.{bad_word, bad_argument}
use Rattle.ctl_words.specs.declared.fault.CtlError.{CtlError}
use Rattle.ctl_words.specs.declared.fault.CtlError.TheVariants.{BadWord, BadArgument}

-- the number of a fault
abbrev pub ctl_fault_number : CtlError → ℕ
ctl_fault_number BadWord = bad_word
ctl_fault_number BadArgument = bad_argument

-- the reading with the number in the fault's place
abbrev pub told_as_number : Result Ctl CtlError → Result Ctl ℕ
told_as_number (Ok c) = Ok c
told_as_number (Err fault) = Err (ctl_fault_number fault)

-- What a reader returned is what reading gives.
use Rattle.std.specs.Prelude.{◌≡◌, Option, Some, None, Result, Ok, Err}
use Rattle.ninep_wire.specs.declared.fault.NinepError.{NinepError}
use Rattle.ninep_wire.specs.declared.fault.NinepError.TheVariants as error

-- What a function returned is what reading gives, unless memory ran out.
abbrev pub Fails : {Y : Type 0} → NinepError → Option Y → Type 0
Fails error.Memory read = Unit {0}
Fails error.Field read = read ≡ None
Fails _ read = ⊥

abbrev pub Gives : {X Y : Type 0} → (X → Y) → Result X NinepError → Option Y → Type 0
Gives view (Ok x) read = read ≡ Some (view x)
Gives view (Err e) read = Fails e read

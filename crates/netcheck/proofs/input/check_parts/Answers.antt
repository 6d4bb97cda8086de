use Rattle.std.proofs.Common.{sym, subst}
use Rattle.netcheck.specs.Input.{InputParts}
use Rattle.netcheck.specs.Told.{RefusesInput}
use Rattle.netcheck.specs.declared.fault.InputError.{InputError}
use Rattle.netcheck.proofs.Handing.{parts_told}
use Rattle.netcheck.proofs.input.check_parts.Goals as goal

pub returns-in-Err : goal.returns-in-Err
returns-in-Err c = λ input are.
    let parts : InputParts = record { world = c.args.parts.now.world.now; lines = c.args.parts.now.lines; history = c.args.parts.now.history.now } in
    subst (λ (e : InputError). RefusesInput input e) (sym c.of_world.ensures) (parts_told input parts c.in-Err.error are c.in-Err.ensures.bad)

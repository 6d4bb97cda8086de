use Rattle.std.specs.Prelude.{◌≡◌}
use Rattle.std.proofs.lemmas.Result.{IfOk-weaker}
use Rattle.net_base.specs.declared.names.FileName.TheVariants as file
use Rattle.net_base.specs.declared.world.Step.TheVariants as step
use Rattle.dial_lib.specs.declared.beside.Beside.{Beside}
use Rattle.dial_lib.specs.Beside as spec
use Rattle.dial_lib.specs.BesideLaws.{accept_fresh}
use Rattle.dial_lib.proofs.beside.Beside.accept.Goals as goal

pub returns-clause-stands : goal.returns-clause-stands
returns-clause-stands c =
    IfOk-weaker c.new.result (λ (t : Beside). t ≡ spec.begun file.Data c.args.name.now c.args.from.now)
    (λ (t : Beside). spec.Begins t (step.Accept c.args.name.now c.args.from.now))
    (λ (t : Beside) is. accept_fresh t c.args.name.now c.args.from.now is) c.new.ensures

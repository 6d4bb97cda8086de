use Rattle.std.proofs.Common.{refl}
use Rattle.std.specs.Fmt.{digits}
use Rattle.net_base.specs.Number.{number}
use Rattle.net_base.specs.Numeral.{numeral}
use Rattle.turn_orders.proofs.cases.two_steps_beside_one.Goals as goal

pub returns : goal.returns
unfolding number numeral digits
returns c = record { early = refl; never = refl; results = refl }

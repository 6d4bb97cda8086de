use Rattle.turn_orders.proofs.Coming.{clock_goes, duty_goes, own_goes}
use Rattle.turn_orders.proofs.law.turns_are_ready.Goals as goal

pub returns : goal.returns
returns c = record { duty = duty_goes; own = own_goes; clock = clock_goes }

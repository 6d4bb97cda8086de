use Rattle.net_locks.proofs.Turns.{duty_turn, script_turn, courier_turn, clock_turn}
use Rattle.net_locks.proofs.threads.turns_are_these.Goals as goal

pub returns : goal.returns
returns c = record { duty = duty_turn; script = script_turn; courier = courier_turn; clock = clock_turn }

use Rattle.net_locks.proofs.Moves.{never_moves}
use Rattle.net_locks.proofs.threads.moves_are_the_clocks.Goals as goal

pub returns : goal.returns
returns c = λ ts w net a s now work t other is. never_moves w a s now work t ts net other is

use Rattle.plain_runner.proofs.Ticks.{is_move}
use Rattle.plain_runner.proofs.recording.dues_of_move.Goals as goal

-- a move of the clock
pub returns-in_ok-dues-in-Clock-Move : goal.returns-in_ok-dues-in-Clock-Move
returns-in_ok-dues-in-Clock-Move c = λ w states are. (
  is_move c.args.turn.now.actor c.args.turn.now.work.event c.in-Clock-Move.moment-1 c.in-Clock-Move.is-0 c.in-Clock-Move.is-1,
  c.in_ok-dues-in-Clock-Move.ensures w states are,
)

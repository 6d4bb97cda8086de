use Rattle.prefix_law.proofs.Rising.{move_rises, entries_rise, moves_rise}
use Rattle.prefix_law.proofs.law.moments_rise.Goals as goal

pub returns : goal.returns
returns c = record {
  moves = λ w h k m x world legal timed is move. move_rises w h world legal timed k m x is move;
  entries = λ w h i j x y world legal timed le is_x is_y. entries_rise w h world legal timed i j x y le is_x is_y;
  strictly = λ w h i j m n x y world legal timed lt is_x is_y move_x move_y. moves_rise w h world legal timed i j m n x y lt is_x is_y move_x move_y;
}

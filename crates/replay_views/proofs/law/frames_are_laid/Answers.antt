use Rattle.replay_views.proofs.Places.{all_laid}
use Rattle.replay_views.proofs.law.frames_are_laid.Goals as goal

pub returns : goal.returns
returns c = λ w h world legal. all_laid w h world legal

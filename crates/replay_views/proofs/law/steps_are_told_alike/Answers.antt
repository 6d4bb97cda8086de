use Rattle.replay_views.proofs.Alike.{told_alike}
use Rattle.replay_views.proofs.law.steps_are_told_alike.Goals as goal

pub returns : goal.returns
returns c = λ w h cs n. told_alike w h cs n

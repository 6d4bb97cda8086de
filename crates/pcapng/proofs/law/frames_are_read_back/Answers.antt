use Rattle.pcapng.proofs.Whole.{all_read_back}
use Rattle.pcapng.proofs.law.frames_are_read_back.Goals as goal

pub returns : goal.returns
returns c = λ w h world legal timed. all_read_back w h world legal timed

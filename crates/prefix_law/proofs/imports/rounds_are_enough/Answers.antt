use Rattle.prefix_law.proofs.Rounds.{enough}
use Rattle.prefix_law.proofs.imports.rounds_are_enough.Goals as goal

pub returns : goal.returns
returns g c = λ v own n m s rs few less. enough v own n m s rs few less

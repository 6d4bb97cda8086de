use Rattle.std.proofs.Common.{refl}
use Rattle.std.proofs.lemmas.Bool.{lt-ltb}
use Rattle.history_laws.proofs.calm.moves_are_timely.Goals as goal

pub returns : goal.returns
returns c =
    record {
      may = λ ts w net calms more before. rw (calms, more, lt-ltb net.moment w.end before) refl;
      timely = λ ts w net m moves to. (moves, to);
    }

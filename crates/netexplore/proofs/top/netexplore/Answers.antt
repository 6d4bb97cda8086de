use Rattle.std.proofs.Common.{refl, sym}
use Rattle.net_model.specs.Ends.{no_row}
use Rattle.net_model.proofs.Shared.{ends_told}
use Rattle.netexplore.specs.Answers.{asking}
use Rattle.netexplore.proofs.Statuses.{causes_of, words_ended}
use Rattle.netexplore.proofs.top.netexplore.Goals as goal

pub returns-in-Some-clause-ends : goal.returns-in-Some-clause-ends
returns-in-Some-clause-ends g c =
    words_ended _ _ _ _ _ c.in-Some.ensures (ends_told _ asking _ _ _ _ _ c.read_and_answer.ensures.answered c.tell_answer.ensures)

pub returns-in-Some-clause-causes : goal.returns-in-Some-clause-causes
returns-in-Some-clause-causes g c = causes_of _ _ _ _ (returns-in-Some-clause-ends g c)

pub returns-in-None-clause-ends : goal.returns-in-None-clause-ends
returns-in-None-clause-ends g c = no_row (sym c.in-None.ensures) (refl, refl) c.tell_usage.ensures

pub returns-in-None-clause-causes : goal.returns-in-None-clause-causes
returns-in-None-clause-causes g c = causes_of _ _ _ _ (returns-in-None-clause-ends g c)

use Rattle.std.proofs.Common.{Err, ap, refl, ◌∙◌}
use Rattle.std.proofs.lemmas.Result.{err_from_is_err_and}
use Rattle.net_model.proofs.Shared.{answered_failed}
use Rattle.netexplore.specs.Answers.{asking}
use Rattle.netexplore.proofs.top.read_and_answer.Goals as goal

pub returns-in_err-input-clause-answered : goal.returns-in_err-input-clause-answered
returns-in_err-input-clause-answered g c =
    let p = err_from_is_err_and c.from_residual.result c.from_residual.ensures.1 in
    answered_failed _ asking _ _ _ _ _ refl (p.1 ∙ ap Err p.2) refl c.in_err-input.ensures.bytes c.in_err-input.ensures.failed
    c.in_err-input.ensures.same

use Rattle.plain_runner.proofs.Longer.{rests_longer}
use Rattle.plain_runner.proofs.law.resting_runs_grow.Goals as goal

pub returns : goal.returns
returns c =
    rests_longer c.nets_are_alike.ensures c.grown_is_legal.ensures c.grown_is_timed.ensures c.finished_steps_stay.ensures.finished
    c.players_fit_longer_scripts.ensures.at c.players_fit_longer_scripts.ensures.next

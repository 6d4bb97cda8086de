use Rattle.std.proofs.Common.{◌≡◌, ◌∙◌}
use Rattle.live_run.proofs.Rests.{first_rest}
use Rattle.live_run.proofs.live.first_rest.Goals as goal

pub returns-clause-rests : goal.returns-clause-rests
returns-clause-rests c =
    let w = c.args.world.now in
    first_rest w _ (c.in_ok-run.ensures.rests w c.in_ok-runner.ensures.tracks) (c.in_ok-run.ensures.history ∙ c.in_ok-runner.ensures.empty) c.new-history.ensures
    c.requires.deadlines

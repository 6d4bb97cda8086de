use Rattle.net_export.proofs.SessionAnswers.{answers_one}
use Rattle.net_export.proofs.answering.answers_to.Goals as goal

-- its own host is the script's
pub returns : goal.returns
returns g c =
    answers_one c.args.world.now (g.E.Entries.list c.args.history.now) c.args.session.now c.as_slice.result.now c.answers.result c.as_slice.ensures c.requires.played
    c.answers.ensures

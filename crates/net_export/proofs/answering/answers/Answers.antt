use Rattle.net_export.proofs.SessionAnswers.{in_history}
use Rattle.net_export.proofs.SessionReplies.{session_told}
use Rattle.net_export.proofs.answering.answers.Goals as goal

pub returns : goal.returns
returns g c =
    let h = g.E.Entries.list c.args.history.now in
    in_history c.args.world.now h c.args.bytes.now c.args.caller c.host_of.result c.in_ok-owes.owes c.answers_by.result c.in_ok-owes.ensures
    (session_told c.args.world.now h c.args.caller c.args.bytes.now c.requires.legal c.requires.session) c.host_of.ensures c.answers_by.ensures

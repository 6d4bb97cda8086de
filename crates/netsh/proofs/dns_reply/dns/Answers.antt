use Rattle.netsh.proofs.CsAnswers.{reply_over, answers_found}
use Rattle.netsh.proofs.dns_reply.dns.Goals as goal

pub returns : goal.returns
returns c =
    answers_found _ _ _
    (reply_over c.args.word.now c.args.input.now _ _ c.in-Ok.ensures.good c.in-Ok.ensures.ok c.in_ok-lines.ensures)
    c.found.ensures

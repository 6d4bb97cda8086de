use Rattle.session_answers.proofs.session.Session.keep_lines.Goals as goal

pub returns-in-Write-clause-found : goal.returns-in-Write-clause-found
returns-in-Write-clause-found c = rw c.in-Write.is (c.keep_written.ensures.ok c.in-Write.tag c.in-Write.offset c.in-Write.bytes)

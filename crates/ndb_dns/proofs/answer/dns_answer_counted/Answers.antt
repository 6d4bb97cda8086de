use Rattle.ndb_dns.proofs.answer.dns_answer_counted.Goals as goal

pub returns-in-Err-clause-answer : goal.returns-in-Err-clause-answer
returns-in-Err-clause-answer g c = c.refuse.ensures c.args.index.now

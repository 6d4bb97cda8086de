use Rattle.netsh.proofs.Given.{gives_cs, gives_dns, gives_made, gives_query}
use Rattle.netsh.proofs.law.values_are_answers.Goals as goal

pub returns : goal.returns
returns c = record { cs = gives_cs; query = gives_query; dns = gives_dns; made = gives_made }

use Rattle.net_model.proofs.CsLaws.{once}
use Rattle.net_model.proofs.cs_law.no_line_stands_twice.Goals as goal

pub returns : goal.returns
returns c = once

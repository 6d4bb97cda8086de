use Rattle.net_model.proofs.CsLaws.{own_before}
use Rattle.net_model.proofs.cs_law.own_networks_come_first.Goals as goal

pub returns : goal.returns
returns c = own_before

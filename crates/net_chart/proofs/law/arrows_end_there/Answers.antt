use Rattle.net_chart.proofs.Bringing.{ends_there}
use Rattle.net_chart.proofs.law.arrows_end_there.Goals as goal

pub returns : goal.returns
returns c = λ h stamp. ends_there h stamp

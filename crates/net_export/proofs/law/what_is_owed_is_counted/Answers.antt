use Rattle.net_export.proofs.Counting.{owed_is_counted}
use Rattle.net_export.proofs.law.what_is_owed_is_counted.Goals as goal

pub returns : goal.returns
returns c = owed_is_counted

use Rattle.net_model.proofs.VersionInForce.{is_in_force}
use Rattle.net_model.proofs.law.one_version_is_in_force.Goals as goal

pub returns : goal.returns
returns c = λ w now world. is_in_force now w.dbs world.versions_timed

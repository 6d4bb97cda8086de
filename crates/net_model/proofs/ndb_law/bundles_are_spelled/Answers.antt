use Rattle.net_model.proofs.NdbBundles.{bundle_reads, bundle_spelled}
use Rattle.net_model.proofs.ndb_law.bundles_are_spelled.Goals as goal

pub returns : goal.returns
returns c = record { reads = bundle_reads; spelled = bundle_spelled }

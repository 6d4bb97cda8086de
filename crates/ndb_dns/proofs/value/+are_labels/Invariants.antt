use Rattle.std.proofs.Common.{length}
use Rattle.net_base.specs.Addresses.{parts_at}
use Rattle.ndb_dns.proofs.value.+are_labels.Given as goal

abbrev pub decreases-are_labels : goal.decreases-are_labels
decreases-are_labels l = length (parts_at 46 l.value.now)

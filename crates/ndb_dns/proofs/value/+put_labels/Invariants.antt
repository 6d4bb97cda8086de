use Rattle.std.proofs.Common.{length}
use Rattle.net_base.specs.Addresses.{parts_at}
use Rattle.ndb_dns.proofs.value.+put_labels.Given as goal

abbrev pub decreases-put_labels : goal.decreases-put_labels
decreases-put_labels l = length (parts_at 46 l.text.now)

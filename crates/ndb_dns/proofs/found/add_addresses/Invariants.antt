use Rattle.std.proofs.Common.{map, take}
use Rattle.net_base.specs.DomainAnswers.{address_record}
use Rattle.ndb_dns.specs.Taken.{AddsTaken}
use Rattle.ndb_dns.proofs.found.add_addresses.Given as goal

abbrev pub invariant-loop-ip : goal.invariant-loop-ip
invariant-loop-ip l = AddsTaken l.initial.records (map (address_record l.owner) (take l.ip-index l.ips)) l.records

use Rattle.std.proofs.Common.{map, take}
use Rattle.ndb_reader.specs.Names.{names_seen}
use Rattle.net_base.specs.DomainAnswers.{naming_record}
use Rattle.ndb_dns.specs.Taken.{AddsTaken}
use Rattle.ndb_dns.proofs.found.add_names.Given as goal

abbrev pub invariant-loop-name : goal.invariant-loop-name
invariant-loop-name l = AddsTaken l.initial.records (map (naming_record l.kind) (names_seen (take l.name-index l.name-items))) l.records

use Rattle.std.proofs.Common.{ap, ◌∙◌}
use Rattle.std.specs.List.{list_all}
use Rattle.ndb_dns.proofs.Lowering.{is_valid, names_valid}
use Rattle.ndb_dns.proofs.beside.names_beside.Goals as goal

pub returns-clause-valid : goal.returns-clause-valid
returns-clause-valid g c = ap (list_all is_valid) c.in_ok-names.ensures ∙ names_valid c.as_slice.result.now

use Rattle.std.proofs.Common.{ℕ, List, Option, Some, OnOk, sym, ap, ◌∙◌, subst}
use Rattle.ndb_reader.specs.Names.{names_seen}
use Rattle.net_base.specs.DomainAnswers.{alias_records}
use Rattle.ndb_dns.specs.Taken.{AddsTaken}
use Rattle.ndb_dns.proofs.Parts.{first_name}
use Rattle.ndb_dns.proofs.found.add_alias.Goals as goal

pub returns-clause-took : goal.returns-clause-took
returns-clause-took g c =
    subst (λ (alias : Option (List ℕ)). OnOk c.follow.result (AddsTaken c.args.records.now (alias_records c.args.index.now alias) c.follow.new.records))
    (ap Some c.as_slice-2.ensures.value
    ∙ sym (first_name c.as_slice.result.now c.in-Some.alias.now _ c.in-Some.ensures.value (ap names_seen c.as_slice.ensures.keys ∙ c.in_ok-names.ensures.names)))
    c.follow.ensures.took

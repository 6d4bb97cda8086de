use Rattle.std.proofs.Common.{◌∷◌, [], ℕ, List, map, ap, ◌∙◌}
use Rattle.std.proofs.lemmas.Result.{on_ok_weaker}
use Rattle.net_base.specs.DomainAnswers.{address_record, alias_records, naming_record}
use Rattle.net_base.specs.DomainNames.{bytes_of_name}
use Rattle.std.specs.Prelude.{Some}
use Rattle.ndb_dns.proofs.Fitting.{adds_both}
use Rattle.ndb_dns.proofs.found.follow.Goals as goal

pub returns-clause-took : goal.returns-clause-took
returns-clause-took g c =
    on_ok_weaker c.add_addresses.result
    (λ more. adds_both c.args.records.now c.offer.new.self c.add_addresses.new.records
    (c.as_slice.result.now ∷ [])
    (map (address_record c.as_slice-2.result.now) c.deref.result.now)
    (alias_records c.args.index.now (Some c.args.alias.now))
    c.in_ok-offer.ensures more
    (ap (λ (e : List ℕ). e ∷ map (address_record c.as_slice-2.result.now) c.deref.result.now) (c.as_slice.ensures ∙ c.in_ok-entry.ensures)
    ∙ ap (λ (o : List ℕ). naming_record 5 c.args.alias.now ∷ map (address_record o) c.deref.result.now) (c.as_slice-2.ensures ∙ c.in_ok-owner.ensures)
    ∙ ap (λ (ips : List ℕ). naming_record 5 c.args.alias.now ∷ map (address_record (bytes_of_name c.args.alias.now)) ips) (c.deref.ensures.value ∙ c.in_ok-ips.ensures.ips)))
    c.add_addresses.ensures

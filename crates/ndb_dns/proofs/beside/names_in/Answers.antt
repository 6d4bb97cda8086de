use Rattle.std.proofs.Common.{ℕ, List, [], sym, ap, ◌∙◌}
use Rattle.std.specs.Prelude.{filter_map}
use Rattle.std.proofs.lemmas.List.{take_all}
use Rattle.ndb_reader.specs.Names.{names_seen, with_names}
use Rattle.ndb_reader.proofs.Shared.{name_put, once_all}
use Rattle.net_base.specs.DomainNames.{name_in}
use Rattle.ndb_dns.proofs.Parts.{name_less, name_more}
use Rattle.ndb_dns.proofs.beside.names_in.Goals as goal
use Rattle.ndb_dns.proofs.beside.names_in.Goals.{in-Some+in_ok-insert, in_default}

pub loop-value-preserved : goal.loop-value-preserved
loop-value-preserved c =
    let told = c.in_ok-name.ensures ∙ ap name_in c.as_slice.ensures in
    elim c.match-branch-2.branch [
      | in-Some+in_ok-insert w ↦ rw w.names-is
          (name_more c.args.values.now c.loop-value.value-index c.value-item.result w.in-Some.name (names_seen c.loop-value.names.keys) (names_seen w.insert.new.self.keys) c.loop-value-test.true c.value-item.is (sym w.in-Some.is ∙ told) c.loop-value.invariant
          (name_put c.loop-value.names.keys w.insert.new.self.keys w.into_vec.result w.in-Some.name w.into_vec.ensures w.in_ok-insert.ensures.keys))
      | in_default w ↦ rw w.names-is
          (name_less c.args.values.now c.loop-value.value-index c.value-item.result (names_seen c.loop-value.names.keys) c.loop-value-test.true c.value-item.is (sym w.in_default.is ∙ told) c.loop-value.invariant)
    ]

pub returns : goal.returns
returns c =
    c.loop-value.invariant
    ∙ ap (λ (values : List (List ℕ)). with_names [] (filter_map name_in values)) (take_all c.loop-value.value-index c.args.values.now c.loop-value-test.false)
    ∙ once_all (filter_map name_in c.args.values.now)

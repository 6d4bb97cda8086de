use Rattle.std.proofs.Common.{sym, ap, ◌∙◌}
use Rattle.net_base.specs.Addresses.{read_address}
use Rattle.ndb_dns.proofs.Parts.{address_less, address_more}
use Rattle.ndb_dns.proofs.beside.addresses_in.Goals as goal
use Rattle.ndb_dns.proofs.beside.addresses_in.Goals.{in-Some+in_ok-insert, in_default}

pub loop-value-preserved : goal.loop-value-preserved
loop-value-preserved c =
    let read = ap read_address (sym c.as_slice.ensures) ∙ sym c.read_address.ensures in
    elim c.match-read_address.branch [
      | in-Some+in_ok-insert w ↦ rw w.ips-is
          (address_more c.args.values.now c.loop-value.value-index c.value-item.result w.in-Some.ip c.loop-value.ips.keys w.insert.new.self.keys c.loop-value-test.true c.value-item.is (read ∙ w.in-Some.is) c.loop-value.invariant w.in_ok-insert.ensures.keys)
      | in_default w ↦ rw w.ips-is
          (address_less c.args.values.now c.loop-value.value-index c.value-item.result c.loop-value.ips.keys c.loop-value-test.true c.value-item.is (read ∙ w.in_default.is) c.loop-value.invariant)
    ]

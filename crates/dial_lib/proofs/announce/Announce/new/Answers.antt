use Rattle.dial_lib.specs.AnnounceLaws.{fresh}
use Rattle.dial_lib.proofs.announce.Announce.new.Goals as goal

pub returns-clause-stands : goal.returns-clause-stands
returns-clause-stands c h names =
    fresh h names c.args.name.now c.args.address.now c.in_ok-from_slice.field-0 c.in_ok-from_slice-2.field-0 c.new.result c.in_ok-from_slice.ensures c.in_ok-from_slice-2.ensures

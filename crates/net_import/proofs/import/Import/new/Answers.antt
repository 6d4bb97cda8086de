use Rattle.net_import.specs.ImportLaws.{fresh, made}
use Rattle.net_import.proofs.import.Import.new.Goals as goal

pub returns-clause-stands : goal.returns-clause-stands
returns-clause-stands c =
    fresh _ c.args.name.now
    (made c.new.result c.in_ok-from_slice.field-0 c.in_ok-version.field-0 c.args.name.now c.new.ensures c.in_ok-from_slice.ensures c.in_ok-version.ensures)

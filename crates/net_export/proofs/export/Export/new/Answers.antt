use Rattle.net_export.specs.ExportLaws.{fresh, made}
use Rattle.net_export.proofs.export.Export.new.Goals as goal

pub returns-clause-value : goal.returns-clause-value
returns-clause-value c = made c.args.name.now c.in_ok-from_slice.field-0 c.new.result c.in_ok-from_slice.ensures c.new.ensures

pub returns-clause-stands : goal.returns-clause-stands
returns-clause-stands c = fresh _ c.args.name.now (made c.args.name.now c.in_ok-from_slice.field-0 c.new.result c.in_ok-from_slice.ensures c.new.ensures) c.requires.plain

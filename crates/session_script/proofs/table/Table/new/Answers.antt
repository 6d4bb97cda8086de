use Rattle.session_script.specs.Seen.{fid_stands}
use Rattle.session_script.proofs.Tables.{opens_so}
use Rattle.session_script.proofs.table.Table.new.Goals as goal

pub returns : goal.returns
returns c = opens_so (fid_stands c.new.result) c.new.ensures

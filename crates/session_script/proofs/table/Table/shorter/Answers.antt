use Rattle.session_script.specs.Seen.{fid_stands}
use Rattle.session_script.proofs.Tables.{opens_shorter}
use Rattle.session_script.proofs.table.Table.shorter.Goals as goal

pub returns : goal.returns
returns c = opens_shorter c.args.msize (fid_stands c.new.result) c.new.ensures

use Rattle.std.proofs.Common.{rules}
use Rattle.history_reader.proofs.Told.{found_by, refused_by}
use Rattle.history_reader.proofs.reader.read_transcript.Goals as goal

pub returns-clause-found : goal.returns-clause-found
returns-clause-found c = found_by c.args.bytes.now c.read_lines.result c.read_lines.ensures.ok

pub returns-clause-refused : goal.returns-clause-refused
returns-clause-refused c = refused_by c.args.bytes.now c.read_lines.result (search rules) c.read_lines.ensures.bad

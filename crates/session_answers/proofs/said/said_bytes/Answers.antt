use Rattle.session_script.specs.Seen.{seen_table}
use Rattle.session_answers.specs.Found.{found_lines}
use Rattle.session_answers.proofs.Fits.{said_fits}
use Rattle.session_answers.proofs.said.said_bytes.Goals as goal

pub encode_r-requires-clause-short : goal.encode_r-requires-clause-short
encode_r-requires-clause-short c = (said_fits (seen_table c.args.table.now) (found_lines c.args.found.now) c.args.message.now c.in_ok-answer.answer c.requires.short c.requires.message c.in_ok-answer.ensures).0

pub encode_r-requires-clause-few : goal.encode_r-requires-clause-few
encode_r-requires-clause-few c = (said_fits (seen_table c.args.table.now) (found_lines c.args.found.now) c.args.message.now c.in_ok-answer.answer c.requires.short c.requires.message c.in_ok-answer.ensures).1

use Rattle.session_script.specs.Seen.{seen_table}
use Rattle.session_answers.proofs.Fits.{replied_fits}
use Rattle.session_answers.proofs.replied.replied_bytes.Goals as goal

pub encode_r-requires-clause-short : goal.encode_r-requires-clause-short
encode_r-requires-clause-short c = (replied_fits (seen_table c.args.table.now) c.args.message.now c.args.reply.now c.in_ok-answer.answer c.requires.short c.in_ok-answer.ensures.told c.in_ok-answer.ensures.short).0

pub encode_r-requires-clause-few : goal.encode_r-requires-clause-few
encode_r-requires-clause-few c = (replied_fits (seen_table c.args.table.now) c.args.message.now c.args.reply.now c.in_ok-answer.answer c.requires.short c.in_ok-answer.ensures.told c.in_ok-answer.ensures.short).1

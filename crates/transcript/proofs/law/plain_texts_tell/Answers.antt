use Rattle.transcript.proofs.Entries.{texts_told}
use Rattle.transcript.proofs.law.plain_texts_tell.Goals as goal

pub returns : goal.returns
returns c = texts_told

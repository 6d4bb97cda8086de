use Rattle.transcript.proofs.Telling.{words_told}
use Rattle.transcript.proofs.law.texts_tell_words.Goals as goal

pub returns : goal.returns
returns c = words_told 0

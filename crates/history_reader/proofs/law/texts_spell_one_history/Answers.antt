use Rattle.history_reader.proofs.Printed.{none_bad, one_history}
use Rattle.history_reader.proofs.law.texts_spell_one_history.Goals as goal

pub returns-clause-one : goal.returns-clause-one
returns-clause-one c = one_history

pub returns-clause-good : goal.returns-clause-good
returns-clause-good c = none_bad

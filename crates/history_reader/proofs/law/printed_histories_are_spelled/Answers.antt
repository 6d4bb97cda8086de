use Rattle.history_reader.proofs.Printed.{spells_alone, spells_summed}
use Rattle.history_reader.proofs.law.printed_histories_are_spelled.Goals as goal

pub returns-clause-alone : goal.returns-clause-alone
returns-clause-alone g c = spells_alone (g.E.Entries.list c.args.history.now) c.histories_are_wide.ensures

pub returns-clause-summed : goal.returns-clause-summed
returns-clause-summed g c = spells_summed (g.E.Entries.list c.args.history.now) c.histories_are_wide.ensures

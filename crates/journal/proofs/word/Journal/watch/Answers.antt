use Rattle.std.proofs.Common.{sym, ◌∙◌, arith}
use Rattle.journal.proofs.Steps.{looks}
use Rattle.journal.proofs.word.Journal.watch.Goals as goal

pub load-requires : goal.load-requires
load-requires g c =
    let j = c.args.self.now in
    (c.requires.0 ∙ sym j.table_is, omega (arith, j.words), rw j.roster_is (looks _ _ _ _))

pub returns-clause-seat : goal.returns-clause-seat
returns-clause-seat g c = (c.load.ensures.0 ∙ c.requires.0, c.load.ensures.2.0 ∙ c.requires.1)

pub returns-clause-seen : goal.returns-clause-seen
returns-clause-seen g c = c.load.ensures.2.1

use Rattle.agenda.proofs.phases.run_in_books.Goals as goal

pub returns-clause-headline : goal.returns-clause-headline
returns-clause-headline g c =
    c.legal_histories_keep_it.ensures c.args.world.now c.in_ok-run.run'.books c.requires.world c.in_ok-run.ensures.legal

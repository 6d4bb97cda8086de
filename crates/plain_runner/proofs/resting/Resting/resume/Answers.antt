use Rattle.plain_runner.proofs.resting.Resting.resume.Goals as goal

pub returns-clause-tracks : goal.returns-clause-tracks
returns-clause-tracks c =
    let rests = c.requires in
    record {
      history = rests.history;
      count_is = rests.count_is;
      callers_are = c.in_ok-callers.ensures c.args.self.history.entries rests.callers_are;
      are = rests.are;
      ways_are = rests.ways_are;
      moment_is = rests.moment_is;
    }

use Rattle.std.proofs.Common.{List, sym, subst}
use Rattle.plain_runner.specs.Resting.{AreCallersResting}
use Rattle.plain_runner.specs.declared.resting.RestingCaller.{RestingCaller}
use Rattle.plain_runner.proofs.Rested.{callers_rest}
use Rattle.plain_runner.proofs.runner.Runner.rest.Goals as goal

pub returns-clause-rests : goal.returns-clause-rests
returns-clause-rests c = λ w is.
    record {
      history = is.history;
      count_is = is.count_is;
      callers_are = subst (λ (ks : List RestingCaller). AreCallersResting w c.args.self.history.entries ks) (sym c.in_ok-callers.ensures)
          (callers_rest w c.args.self.history.entries c.args.self.callers.items is.callers_are);
      are = is.are;
      ways_are = is.ways_are;
      moment_is = is.moment_is;
    }

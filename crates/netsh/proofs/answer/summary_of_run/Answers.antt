use Rattle.net_base.specs.Net.{after}
use Rattle.netsh.proofs.RunEnds.{word_is}
use Rattle.netsh.proofs.answer.summary_of_run.Goals as goal

pub returns : goal.returns
returns c =
    let w = c.args.world.now in
    let run = c.args.run.now in
    c.summary_by.ensures.summary
    (record {
      legal = c.requires.legal;
      answered = c.requires.answered;
      end = word_is w (after w run.books) run.end c.requires.end;
    })

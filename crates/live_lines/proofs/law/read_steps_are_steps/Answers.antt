use Rattle.live_lines.proofs.Lines.{deadline-fits, line-sound, step-fits}
use Rattle.live_lines.proofs.law.read_steps_are_steps.Goals as goal

pub returns : goal.returns
returns c =
    record {
      spelled = λ text l e. (line-sound c.lines_are_spelled.ensures.sound text l e).0;
      fit = λ text l e. (line-sound c.lines_are_spelled.ensures.sound text l e).1;
      step = λ text l by s e is. step-fits l by s is (line-sound c.lines_are_spelled.ensures.sound text l e).1;
      deadline = λ text l m s e is. deadline-fits l m s is (line-sound c.lines_are_spelled.ensures.sound text l e).1;
    }

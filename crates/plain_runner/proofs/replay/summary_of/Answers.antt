use Rattle.std.proofs.Common.{List, ap, ◌∙◌}
use Rattle.net_base.specs.declared.history.Entry.{Entry}
use Rattle.net_base.specs.Net.{after}
use Rattle.net_base.specs.Summary.{answered_steps, end_word}
use Rattle.plain_runner.proofs.replay.summary_of.Goals as goal

pub returns : goal.returns
returns c =
    let w = c.args.world.now in
    let followed = c.in_ok-runner.ensures in
    c.summary_by.ensures.summary (record {
      legal = c.requires.legal;
      answered = c.answered-answered.ensures ∙ ap (answered_steps w) followed.history_is;
      end = c.end-end.ensures ∙ ap (λ (h : List Entry). end_word w (after w h)) followed.history_is;
    })

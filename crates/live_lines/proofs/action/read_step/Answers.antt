use Rattle.std.proofs.Common.{sym, ◌∙◌}
use Rattle.world_text.specs.LineReading.{step_in_line}
use Rattle.live_lines.specs.LiveLines.{words_after}
use Rattle.live_lines.proofs.Results.{step_of_line, tells_step}
use Rattle.live_lines.proofs.action.read_step.Goals as goal

pub returns : goal.returns
returns c =
    step_of_line c.step_told.result c.args.text.now c.first_word.result.0.now (words_after c.first_word.result.1) c.first_word.ensures
    (c.step_told.ensures (step_in_line c.first_word.result.0.now (words_after c.first_word.result.1))
    (tells_step c.read_line.result c.args.text.now c.first_word.result.0.now (words_after c.first_word.result.1) c.first_word.ensures
    (sym c.is_world_word.ensures ∙ c.if-is_world_word.false) c.read_line.ensures))

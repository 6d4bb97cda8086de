use Rattle.std.proofs.Common.{sym, ◌∙◌}
use Rattle.session_script.specs.Seen.{seen_table}
use Rattle.session_answers.proofs.Serving.{step_served}
use Rattle.session_answers.proofs.session.Session.serve.Goals as goal

pub play_and_answer-requires-clause-step : goal.play_and_answer-requires-clause-step
play_and_answer-requires-clause-step g c = step_served (seen_table c.args.self.now.table) c.args.message.now c.in-Some.step (sym c.in_ok-step_of.ensures ∙ c.in-Some.is)

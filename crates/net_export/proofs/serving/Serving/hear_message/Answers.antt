use Rattle.std.proofs.Common.{sym, ◌∙◌}
use Rattle.session_answers.proofs.Shared.{step_served}
use Rattle.session_script.specs.Seen.{seen_table}
use Rattle.net_export.proofs.serving.Serving.hear_message.Goals as goal

pub begin-requires-clause-step : goal.begin-requires-clause-step
begin-requires-clause-step c = step_served (seen_table c.self.inside.table) c.args.message c.in-Some.step (sym c.in_ok-step_of.ensures ∙ c.in-Some.is)

use Rattle.std.proofs.Common.{ℕ, []}
use Rattle.net_base.specs.Steps.{no_names}
use Rattle.session_answers.specs.Found.{found_lines}
use Rattle.session_script.specs.Seen.{seen_table}
use Rattle.net_base.specs.SessionTable.{opening}
use Rattle.session_answers.proofs.Serving.{same_state}
use Rattle.session_answers.proofs.session.Session.new.Goals as goal

pub returns-clause-state : goal.returns-clause-state
returns-clause-state c =
    same_state (seen_table c.new.result) opening (found_lines c.new-2.result) (λ (n : ℕ). []) _ (no_names [])
    c.new.ensures c.new-2.ensures c.in_ok-no_names.ensures

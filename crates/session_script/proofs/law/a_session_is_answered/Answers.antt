use Rattle.session_script.proofs.WorkedSession.{answered, plays, spelled, streams}
use Rattle.session_script.proofs.law.a_session_is_answered.Goals as goal

pub returns-clause-messages : goal.returns-clause-messages
returns-clause-messages c = spelled

pub returns-clause-script : goal.returns-clause-script
returns-clause-script c = plays

pub returns-clause-answers : goal.returns-clause-answers
returns-clause-answers c = answered

pub returns-clause-stream : goal.returns-clause-stream
returns-clause-stream c = streams

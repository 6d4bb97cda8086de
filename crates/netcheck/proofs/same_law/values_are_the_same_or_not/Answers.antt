use Rattle.netcheck.proofs.Codes.{decide_actor, decide_event, decide_header, decide_reply}
use Rattle.netcheck.proofs.same_law.values_are_the_same_or_not.Goals as goal

pub returns-clause-events : goal.returns-clause-events
returns-clause-events c = decide_event

pub returns-clause-replies : goal.returns-clause-replies
returns-clause-replies c = decide_reply

pub returns-clause-actors : goal.returns-clause-actors
returns-clause-actors c = decide_actor

pub returns-clause-headers : goal.returns-clause-headers
returns-clause-headers c = decide_header

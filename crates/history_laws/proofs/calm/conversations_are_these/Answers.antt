use Rattle.history_laws.proofs.Members.{conversation_there, conversation_only}
use Rattle.history_laws.proofs.calm.conversations_are_these.Goals as goal

pub returns : goal.returns
returns c = record { there = conversation_there; only = conversation_only }

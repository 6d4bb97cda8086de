-- What other crates cite of these proofs.

-- the play of a session's step: one event, or two where a grant is accepted, after which the conversation is awaited
pub use Rattle.session_answers.proofs.Plays.{same_ends}
-- a message is served: it is told an answer, or its step is played
pub use Rattle.session_answers.proofs.Serving.{step_served}

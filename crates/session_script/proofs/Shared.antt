-- What other crates cite of these proofs.

-- the message that bytes begin with, and the messages of all of them
pub use Rattle.session_script.proofs.Messages.{has_header, none_begins, one_beginning}
-- a walk, name by name
pub use Rattle.session_script.proofs.Walks.{next_name}
-- the steps of a session are steps that a world file can say
pub use Rattle.session_script.proofs.Sayable.{after_sound, length_shown, opening_sound}
-- the words of a reply: few and short ones have room in the text of an error
pub use Rattle.session_script.proofs.Words.{has_room, is_short}

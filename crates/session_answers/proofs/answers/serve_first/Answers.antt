use Rattle.std.proofs.Common.{arith}
use Rattle.session_answers.specs.Served.{session_state}
use Rattle.session_script.specs.Seen.{seen_table}
use Rattle.session_script.proofs.Shared.{has_header}
use Rattle.session_answers.proofs.Answering.{first_waits, still_sound}
use Rattle.session_answers.proofs.answers.serve_first.Goals as goal

pub returns-in-Some-clause-sound : goal.returns-in-Some-clause-sound
returns-in-Some-clause-sound g c =
    still_sound (seen_table c.args.session.now.table) (seen_table c.serve.new.self.table) c.in-Ok.message c.requires.sound (rw c.in-Some.is at c.in_ok-answer-in-Ok.ensures.heard)

pub returns-in-Some-clause-shorter : goal.returns-in-Some-clause-shorter
returns-in-Some-clause-shorter g c =
    omega (arith, has_header c.args.session.now.table.msize c.in-Ok.message c.args.bytes.now c.in-Ok.behind.now c.in-Ok.ensures.found)

-- the first message waits, and it is the only one that the bytes begin with
pub returns-in-Ok-clause-served : goal.returns-in-Ok-clause-served
returns-in-Ok-clause-served g c =
    first_waits c.args.session.now.host (session_state c.args.session.now) (session_state c.serve.new.self) c.in-Ok.message c.args.bytes.now c.in-Ok.behind.now c.args.replies.now
    c.serve.new.replies c.in_ok-answer-in-Ok.field-0 c.in-Ok.ensures.found c.in_ok-answer-in-Ok.ensures.served c.in-None.is

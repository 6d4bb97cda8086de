use Rattle.session_script.proofs.Messages.{errs, no_front, no_size}
use Rattle.session_script.proofs.stream.first_message.Goals as goal

pub returns-in_default-clause-bad : goal.returns-in_default-clause-bad
returns-in_default-clause-bad c = λ e. no_size c.args.msize c.args.bytes.now c.in_default.ensures.none

pub returns-in-Err-clause-bad : goal.returns-in-Err-clause-bad
returns-in-Err-clause-bad c = λ e.
    no_front c.args.msize c.in-Some.size c.args.bytes.now c.split_at.result.0.now c.in-Some.ensures.told.0 c.split_at.ensures.front
    (c.in-Err.ensures.bad (errs c.in-Err.error _ e))

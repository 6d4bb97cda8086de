use Rattle.std.proofs.Common.{◌≤◌, length, arith, rules}
use Rattle.replay_views.specs.Capture.{medium_of}
use Rattle.pcapng.specs.Frames.{number_in}
use Rattle.pcapng.proofs.Following.{adds_none, caller_there, key_none, key_some}
use Rattle.pcapng.proofs.capture.put_frame.Goals as goal

pub returns-in_default : goal.returns-in_default
returns-in_default c = λ w f.
    let x = c.args.entry.now in
    adds_none w c.args.copies.now.entries c.args.runner.now c.args.stamp x c.args.out.now (key_none (medium_of x.actor x.reply) (number_in x.reply) cc)

pub returns-in_default-get : goal.returns-in_default-get
returns-in_default-get c = λ w f.
    let past : length c.args.runner.now.callers.items ≤ c.args.entry.now.caller = search rules in
    absurd (omega (arith, past, caller_there w c.args.runner.now c.args.entry.now f))

pub put_given-requires-clause-on : goal.put_given-requires-clause-on
put_given-requires-clause-on c = let x = c.args.entry.now in (key_some (medium_of x.actor x.reply) (number_in x.reply) c.in-Some.key cc).0

pub put_given-requires-clause-number : goal.put_given-requires-clause-number
put_given-requires-clause-number c = let x = c.args.entry.now in (key_some (medium_of x.actor x.reply) (number_in x.reply) c.in-Some.key cc).1

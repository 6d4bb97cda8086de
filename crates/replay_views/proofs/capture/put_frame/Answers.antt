use Rattle.std.proofs.Common.{◌≡◌, ◌≤◌, false, length, sym, ap, ◌∙◌, arith, rules}
use Rattle.net_base.specs.Net.{owed, with_of}
use Rattle.replay_views.specs.Capture.{medium_of, given_packet}
use Rattle.replay_views.specs.Following.{is_medium_shown}
use Rattle.replay_views.proofs.Following.{adds_none, caller_there}
use Rattle.replay_views.proofs.Laying.{unshown}
use Rattle.replay_views.proofs.capture.put_frame.Goals as goal

pub returns-then-not-is_on : goal.returns-then-not-is_on
returns-then-not-is_on c = λ w f.
    let x = c.args.entry.now in
    let off : is_medium_shown c.args.medium (medium_of x.actor x.reply) ≡ false =
    ap (is_medium_shown c.args.medium) (sym c.medium_of.ensures) ∙ (sym c.is_on.ensures ∙ c.if-not-is_on.true) in
    adds_none w c.args.runner.now x c.args.medium c.args.out.now
    (unshown c.args.medium (medium_of x.actor x.reply) x.moment (given_packet (with_of (owed w c.args.runner.now.history.entries x.caller))) off)

pub returns-in_default : goal.returns-in_default
returns-in_default c = λ w f.
    let past : length c.args.runner.now.callers.items ≤ c.args.entry.now.caller = search rules in
    absurd (omega (arith, past, caller_there w c.args.runner.now c.args.entry.now f))

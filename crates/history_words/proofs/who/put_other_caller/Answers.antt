use Rattle.std.proofs.Common.{◌≡◌, ◌-◌, ◌<◌, length, arith}
use Rattle.history_words.proofs.Callers.{is_courier}
use Rattle.history_words.proofs.who.put_other_caller.Goals as goal

pub returns-then-place-media : goal.returns-then-place-media
returns-then-place-media c =
    let place : c.args.caller - c.len.result ≡ c.args.caller - length c.args.world.now.scripts = omega (arith, c.len.ensures) in
    let within : c.args.caller - c.len.result < length c.args.world.now.media = omega (arith, c.if-place-media.true, c.len-media.ensures) in
    rw (is_courier c.args.world.now c.args.caller (c.args.caller - c.len.result) place c.requires within) c.put_with_medium.ensures

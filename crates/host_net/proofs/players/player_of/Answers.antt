use Rattle.std.proofs.Common.{◌∙◌, arith}
use Rattle.host_net.proofs.Answered.{found_here, none_yet, some_one}
use Rattle.host_net.proofs.players.player_of.Goals as goal

pub loop-player-preserved : goal.loop-player-preserved
loop-player-preserved g c =
    none_yet c.args.caller c.args.players.now c.loop-player.player-index c.player-item.result (omega (arith, c.loop-player-test.true)) c.player-item.is
    c.loop-player.invariant (λ e. c.if-caller.false (c.caller.ensures.same ∙ e))

pub returns-then-caller-clause-there : goal.returns-then-caller-clause-there
returns-then-caller-clause-there g c =
    found_here c.args.players.now c.loop-player.player-index c.player-item.result (omega (arith, c.loop-player-test.true)) c.player-item.is

pub unreachable-requires : goal.unreachable-requires
unreachable-requires g c = some_one c.args.caller c.args.players.now c.loop-player.player-index c.loop-player-test.false c.loop-player.invariant c.requires

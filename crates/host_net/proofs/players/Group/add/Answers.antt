use Rattle.std.proofs.Common.{subst}
use Rattle.host_net.specs.Playing.{Playing}
use Rattle.host_net.proofs.Joining.{IsOther, joins_others}
use Rattle.host_net.proofs.players.Group.add.Goals as goal

pub returns-in_ok-push-in-Script : goal.returns-in_ok-push-in-Script
returns-in_ok-push-in-Script g c = record {
  ok = joins_others (record { players = c.self.inside.players.items; clock = c.self.inside.clock; memory = c.self.inside.memory }) c.args.self.now c.args.player
      c.push.new.self.items c.self.view_is (subst (λ (p : Playing g.row.T.Denot). IsOther p) c.player.view_is c.in-Script.is)
      c.in_ok-push-in-Script.ensures.items;
  err = tt;
}

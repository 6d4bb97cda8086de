use Rattle.std.proofs.Common.{◌≡◌, [], arith}
use Rattle.std.proofs.lemmas.List.{nil_from_length}
use Rattle.net_guests.proofs.Shared.{gathered, gathering, gathers_on}
use Rattle.host_net.proofs.finishing.gather.Goals as goal

pub loop-guest-init : goal.loop-guest-init
loop-guest-init g c = gathering g.J.Placing.world g.J.Naming.run.roster c.args.all.now c.args.guests.items

pub loop-guest-preserved : goal.loop-guest-preserved
loop-guest-preserved g c =
    gathers_on g.J.Placing.world g.J.Naming.run.roster c.args.all.now c.args.guests.items c.loop-guest.all c.meet.new.all c.loop-guest.guests.items
    c.pop.new.self.items c.in-Some.guest
    c.loop-guest.invariant c.in-Some.ensures.items c.meet.ensures.kept c.meet.ensures.taken

pub returns : goal.returns
returns g c =
    let none_left : c.loop-guest.guests.items ≡ [] = nil_from_length c.loop-guest.guests.items (omega (arith, c.in_default.ensures.cases.0, c.loop-guest.guests.ok.0)) in
    record {
      kept = c.loop-guest.invariant.kept;
      taken = gathered g.J.Placing.world g.J.Naming.run.roster c.args.all.now c.args.guests.items c.loop-guest.all c.loop-guest.guests.items
          c.loop-guest.invariant none_left;
    }

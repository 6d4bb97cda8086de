use Rattle.std.proofs.Common.{◌*◌, ◌≤◌}
use Rattle.host_net.proofs.Answered.{AnswersTo}
use Rattle.host_net.specs.Groups.{all_members, visits}
use Rattle.host_net.proofs.players.Players.answered.Given as goal

abbrev pub invariant-loop-script : goal.invariant-loop-script
invariant-loop-script g l =
    AnswersTo g.J.Placing.world (visits (all_members l.self.groups)) l.script l.answered × (l.answered ≤ l.script * 18446744073709551616)

use Rattle.std.proofs.Common.{sym}
use Rattle.agenda.proofs.Scripts.{plays_at_first}
use Rattle.agenda.proofs.phases.players_of.Goals as goal

pub counting-requires-clause-script : goal.counting-requires-clause-script
counting-requires-clause-script g c = c.requires.scripts c.in-Some.guest.caller

pub counting-requires-clause-plays : goal.counting-requires-clause-plays
counting-requires-clause-plays g c =
    plays_at_first g.J.Placing.world c.args.world.now c.in-Some.guest.caller c.caller.result c.task_of-task.result (sym c.requires.world) c.caller.ensures
    c.task_of-task.ensures

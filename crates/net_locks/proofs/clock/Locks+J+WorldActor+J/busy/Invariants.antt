use Rattle.std.proofs.Common.{◌≡◌, take}
use Rattle.history_laws.specs.Could.{could, is_full}
use Rattle.net_locks.specs.Works.{noted_net}
use Rattle.net_locks.specs.Standings.{FindsBusy, standing_callers}
use Rattle.net_locks.proofs.clock.Locks+J+WorldActor+J.busy.Given as goal

-- of the first callers
abbrev pub invariant-loop-standing : goal.invariant-loop-standing
invariant-loop-standing g l =
    (l.pass ≡ l.initial.pass)
    × FindsBusy (could g.J.Placing.tasks g.J.Placing.world (noted_net g.J.Placing.world l.initial.pass.seen)) (is_full (noted_net g.J.Placing.world l.initial.pass.seen))
    (standing_callers (take l.standing-index l.standings)) l.busy

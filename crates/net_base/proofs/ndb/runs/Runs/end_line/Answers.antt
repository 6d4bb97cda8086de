use Rattle.net_base.proofs.Growth.{line-sound, line-grown}
use Rattle.net_base.proofs.ndb.runs.Runs.end_line.Goals as goal

pub returns-clause-sound : goal.returns-clause-sound
returns-clause-sound c =
    let both = line-sound c.args.self.now c.push.new.self.items c.in_ok-place.place c.requires c.in_ok-place.ensures c.in_ok-push.ensures.items in
    record { bytes = c.requires.bytes; lines = both.0; tuples = both.1 }

pub returns-clause-ok : goal.returns-clause-ok
returns-clause-ok c =
    line-grown c.args.self.now c.push.new.self.items c.in_ok-place.place c.requires c.in_ok-place.ensures c.in_ok-push.ensures.items

use Rattle.net_base.proofs.Growth.{tuple-sound, tuple-grown}
use Rattle.net_base.proofs.ndb.runs.Runs.end_tuple.Goals as goal

pub returns-clause-sound : goal.returns-clause-sound
returns-clause-sound c =
    record {
      bytes = c.requires.bytes;
      lines = c.requires.lines;
      tuples = tuple-sound c.args.self.now c.push.new.self.items c.in_ok-place.place c.requires c.in_ok-place.ensures c.in_ok-push.ensures.items;
    }

pub returns-clause-ok : goal.returns-clause-ok
returns-clause-ok c =
    tuple-grown c.args.self.now c.push.new.self.items c.in_ok-place.place c.in_ok-place.ensures c.in_ok-push.ensures.items

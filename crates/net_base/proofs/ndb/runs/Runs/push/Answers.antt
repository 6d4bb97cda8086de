use Rattle.net_base.proofs.Growth.{pushed-sound, pushed-shown}
use Rattle.net_base.proofs.ndb.runs.Runs.push.Goals as goal

pub returns-in-Ok-clause-sound : goal.returns-in-Ok-clause-sound
returns-in-Ok-clause-sound c =
    pushed-sound c.args.self.now c.put.new.self c.args.attr.now c.args.value.now c.requires c.in-Ok.ensures.bytes c.in-Ok.ensures.pairs c.in-Ok.ensures.lines c.in-Ok.ensures.tuples

pub returns-in-Ok-clause-ok : goal.returns-in-Ok-clause-ok
returns-in-Ok-clause-ok c =
    pushed-shown c.args.self.now c.put.new.self c.args.attr.now c.args.value.now c.requires c.in-Ok.ensures.bytes c.in-Ok.ensures.pairs c.in-Ok.ensures.lines c.in-Ok.ensures.tuples

use Rattle.history_words.proofs.who.put_script.Goals as goal
use Rattle.net_base.proofs.Shared.{script_is}

pub returns : goal.returns
returns c = rw (script_is c.args.world.now c.args.caller c.args.script.now c.requires) c.put_numbered.ensures

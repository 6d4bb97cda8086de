use Rattle.std.proofs.Common.{◌≤◌, length, rules}
use Rattle.history_words.proofs.Callers.{is_no_script}
use Rattle.history_words.proofs.who.put_caller.Goals as goal

pub returns-in-None : goal.returns-in-None
returns-in-None c =
    let past : length c.args.world.now.scripts ≤ c.args.caller = search rules in
    rw (is_no_script c.args.world.now c.args.caller past) c.put_other_caller.ensures

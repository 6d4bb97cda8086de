use Rattle.std.proofs.Common.{[]}
use Rattle.std.proofs.lemmas.Option.{slice_get_past}
use Rattle.live_run.proofs.LastSteps.{not_there, other_last}
use Rattle.live_run.proofs.PlaceLists.{got}
use Rattle.live_run.proofs.withdrawing.drop_last_in.Goals as goal

pub returns-in-Some : goal.returns-in-Some
returns-in-Some c base last is below =
    let ss = c.args.scripts.items in
    let found = c.in-Some.found.now in
    other_last ss base c.args.script last [] found c.unset_last.new.script (got ss c.args.script found c.in-Some.ensures.item.3.0 c.in-Some.ensures.value)
    c.unset_last.ensures is

pub returns : goal.returns
returns c base last is below =
    not_there c.args.scripts.items base c.args.script last [] (slice_get_past c.args.scripts.items c.args.script c.in_default.ensures.item.3) is below

use Rattle.std.proofs.Common.{◌≡◌, Option, subst}
use Rattle.live_answers.specs.declared.current.Current.{Current}
use Rattle.live_run.specs.Currents.{TakesAt}
use Rattle.live_run.proofs.Hearing.{on_ok, reports_none, reports_taken}
use Rattle.live_run.proofs.Rests.{not_true}
use Rattle.live_run.proofs.round.report.Goals as goal

pub returns-in-None : goal.returns-in-None
returns-in-None g c =
    reports_none c.args.runner.now c.args.history.now c.args.currents.now.items c.take.new.currents.items _ c.args.caller
    (subst (TakesAt c.args.currents.now.items c.take.new.currents.items c.args.caller) c.in-None.is c.take.ensures)

pub returns-in-Some : goal.returns-in-Some
returns-in-Some g c =
    on_ok c.say_complete.result
    (reports_taken c.unfinished_scripts_ask.ensures.exactly c.args.runner.now c.args.history.now c.args.currents.now.items c.take.new.currents.items _ _ c.args.caller c.place_number.result
    c.args.runner.now.moment _ c.in-Some.step (c.is_through.ensures c.if-not-is_through.false) c.place_number.ensures
    (subst (TakesAt c.args.currents.now.items c.take.new.currents.items c.args.caller) c.in-Some.is c.take.ensures)) c.say_complete.ensures

use Rattle.std.proofs.Common.{◌≡◌, ℕ, List, sym, subst}
use Rattle.net_base.specs.declared.event.Event.TheVariants as event
use Rattle.duties.specs.declared.due.Due.{Due}
use Rattle.duties.specs.Queue.{AddsDuty}
use Rattle.duties.specs.Ticking.{ticks_of}
use Rattle.plain_runner.specs.Recording.{OwesAll}
use Rattle.plain_runner.proofs.Ticks.{move_owes, on_ok_more}
use Rattle.plain_runner.proofs.recording.owe.Goals as goal

-- a move of the clock
pub returns-in-Some-clause-owes : goal.returns-in-Some-clause-owes
returns-in-Some-clause-owes c =
    on_ok_more c.owe_ticks.result
    ((moment : ℕ) → c.args.work.event ≡ event.Move moment → AddsDuty c.args.owed.now c.owe_ticks.new.owed (ticks_of c.args.stamp moment c.deref.result.now))
    (OwesAll c.args.ways.now c.args.actor c.args.stamp c.args.work c.args.outcome c.args.dues c.args.owed.now c.owe_ticks.new.owed)
    (λ adds.
    subst (λ (o : _). OwesAll c.args.ways.now c.args.actor c.args.stamp c.args.work c.args.outcome o c.args.owed.now c.owe_ticks.new.owed)
    (sym c.in-Some.is)
    (move_owes c.a_move_owes_its_ticks.ensures c.args.ways.now c.args.actor c.args.stamp c.args.work c.args.outcome c.in-Some.dues
    c.args.owed.now c.owe_ticks.new.owed
    (λ m is. subst (λ (ds : List Due). AddsDuty c.args.owed.now c.owe_ticks.new.owed (ticks_of c.args.stamp m ds)) c.deref.ensures.value (adds m is))))
    c.owe_ticks.ensures.owes

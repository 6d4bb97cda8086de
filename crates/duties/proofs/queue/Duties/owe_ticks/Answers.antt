use Rattle.std.proofs.Common.{◌≡◌, ◌++◌, ◌∙◌, List, [], drop, ap, append-nil, arith, sym}
use Rattle.std.proofs.lemmas.List.{drop_all}
use Rattle.net_base.specs.Duties.{Duty}
use Rattle.duties.specs.declared.due.Due.{Due}
use Rattle.duties.specs.Ticking.{ticks_of}
use Rattle.duties.proofs.Ticks.{ticks_are}
use Rattle.duties.proofs.queue.Duties.owe_ticks.Goals as goal

pub returns-clause-ticks : goal.returns-clause-ticks
returns-clause-ticks c = λ w actors dues.
    let left : drop c.loop-due.due-index c.args.dues.now ≡ [] =
    drop_all c.loop-due.due-index c.args.dues.now (omega (arith, c.loop-due-test.false)) in
    sym (append-nil c.loop-due.self.list)
    ∙ (ap (λ (ds : List Due). c.loop-due.self.list ++ ticks_of c.args.stamp c.args.now ds) (sym left)
    ∙ (c.loop-due.invariant.list
    ∙ ap (λ (ds : List Duty). c.args.self.now.list ++ ds)
    (ap (λ (ds : List Due). ticks_of c.args.stamp c.args.now ds) dues ∙ ticks_are w actors c.args.stamp c.args.now)))

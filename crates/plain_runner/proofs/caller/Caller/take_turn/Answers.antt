use Rattle.std.proofs.Common.{Option, IsSome, sym, subst}
use Rattle.plain_runner.specs.declared.turn.Turn.{Turn}
use Rattle.plain_runner.proofs.CallerLaws.{some_next}
use Rattle.plain_runner.proofs.caller.Caller.take_turn.Goals as goal

-- its next event
pub returns-in-None-clause-some : goal.returns-in-None-clause-some
returns-in-None-clause-some c = λ w h number kept may.
    subst (λ (o : Option Turn). IsSome o) (sym c.take.ensures.value)
    (some_next w h number c.args.self.now (c.histories_grow.ensures.past w h) kept (sym c.in-None.ensures.value) may)

use Rattle.std.proofs.Common.{refl, subst}
use Rattle.plain_runner.specs.Callers.{Takes}
use Rattle.plain_runner.proofs.Recorded.{got, if_ok}
use Rattle.plain_runner.proofs.Taking.{grows, is_taken, some_taken, taken_before}
use Rattle.plain_runner.proofs.runner.Runner.record_next.Goals as goal

pub unwrap-turn-requires : goal.unwrap-turn-requires
unwrap-turn-requires c =
    let r = c.args.self.now in
    let k = c.index_mut.result.now in
    some_taken c.requires.ready.0 r c.args.caller k c.take_turn.result c.requires.ready.1 c.requires.ready.2
    (got r.callers.items c.args.caller k c.requires.caller c.index_mut.ensures.value) c.take_turn.ensures.some

pub record-requires-clause-ready : goal.record-requires-clause-ready
record-requires-clause-ready c =
    let r = c.args.self.now in
    let k = c.index_mut.result.now in (
      c.requires.ready.0,
      taken_before c.requires.ready.0 r _ c.args.caller k c.take_turn.new.self c.unwrap-turn.result c.requires.caller c.requires.ready.1
          c.requires.ready.2 (got r.callers.items c.args.caller k c.requires.caller c.index_mut.ensures.value)
          (subst (Takes k c.take_turn.new.self) c.unwrap-turn.ensures c.take_turn.ensures.takes)
          (is_taken r _ c.args.caller c.take_turn.new.self refl refl refl refl refl refl),
    )

pub returns : goal.returns
returns c =
    let r = c.args.self.now in
    let k = c.index_mut.result.now in
    if_ok c.record.result (λ entry recorded w s ready.
    grows w r _ c.record.new.self c.args.caller c.unwrap-turn.result entry refl
    (recorded w (taken_before w r _ c.args.caller k c.take_turn.new.self c.unwrap-turn.result c.requires.caller s ready
    (got r.callers.items c.args.caller k c.requires.caller c.index_mut.ensures.value)
    (subst (Takes k c.take_turn.new.self) c.unwrap-turn.ensures c.take_turn.ensures.takes)
    (is_taken r _ c.args.caller c.take_turn.new.self refl refl refl refl refl refl))))
    c.record.ensures

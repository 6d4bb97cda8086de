use Rattle.std.proofs.Common.{refl}
use Rattle.plain_runner.proofs.Forgotten.{rests_forgotten}
use Rattle.plain_runner.proofs.Recorded.{got}
use Rattle.plain_runner.proofs.resting.Resting.forget.Goals as goal

pub returns-clause-rests : goal.returns-clause-rests
returns-clause-rests c = λ w later others.
    let old = c.args.self.now in
    let k = c.index_mut.result.now in
    rests_forgotten c.nets_are_alike.ensures c.finished_steps_stay.ensures.finished c.players_fit_longer_scripts.ensures.at c.unfinished_scripts_ask.ensures.exactly
    c.unbegun_steps_can_go.ensures.gone c.grown_is_legal.ensures w c.args.caller later others old _ k c.forget.new.self refl refl refl refl refl
    (got old.callers.items c.args.caller k c.requires c.index_mut.ensures.value) c.forget.ensures refl

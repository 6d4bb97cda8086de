use Rattle.std.proofs.Common.{◌≡◌, ap, ◌∙◌}
use Rattle.std.proofs.lemmas.Result.{on_err_weaker}
use Rattle.net_base.specs.IlEnd.{establishes, hears}
use Rattle.net_base.specs.Timer as timer
use Rattle.net_base.specs.declared.il.IlState.TheVariants.{Established}
use Rattle.il_machine.specs.Windows.{Windows, windows_of}
use Rattle.il_machine.specs.Stands.{StandsFor}
use Rattle.il_machine.proofs.Questions.{takes_alike}
use Rattle.il_machine.proofs.end.IlEnd.complete_handshake.Goals as goal

pub returns-then-is_err-clause-memory : goal.returns-then-is_err-clause-memory
unfolding StandsFor
returns-then-is_err-clause-memory c =
    on_err_weaker c.arrive_at_established-answer.result
    (λ says e stands.
    let completed : c.establish.new.self ≡ windows_of (establishes (hears c.args.now e)) =
    c.establish.ensures
    ∙ ap (λ (w : Windows). record w { state = Established; timer = timer.stops w.timer }) (c.hear.ensures ∙ ap (λ (w : Windows). record w { timer = timer.timer_hears c.args.now w.timer }) stands) in
    says (establishes (hears c.args.now e)) completed ∙ takes_alike c.args.message.now.kind c.args.now c.args.message.now e)
    c.arrive_at_established-answer.ensures.memory

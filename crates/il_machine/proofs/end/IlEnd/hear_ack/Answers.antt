use Rattle.std.proofs.Common.{◌≡◌, Some, ap, length, sym, ◌∙◌, arith}
use Rattle.net_base.specs.Number.{number}
use Rattle.net_base.specs.IlEnd.{hears, acks}
use Rattle.net_base.specs.Timer as timer
use Rattle.il_machine.specs.Windows.{Windows, windows_of}
use Rattle.il_machine.specs.Stands.{StandsFor}
use Rattle.il_machine.proofs.Unacked.{takes_ack}
use Rattle.il_machine.proofs.end.IlEnd.hear_ack.Goals as goal

pub returns-then-k-self-clause-end : goal.returns-then-k-self-clause-end
unfolding StandsFor
returns-then-k-self-clause-end c e stands =
    let heard : c.hear.new.self ≡ windows_of (hears c.args.now e) = c.hear.ensures ∙ ap (λ (w : Windows). record w { timer = timer.timer_hears c.args.now w.timer }) stands in
    let start : c.self.inside.start ≡ e.start = ap (λ (w : Windows). w.start) (c.self.view_is ∙ heard) in
    let sent : c.self.inside.sent ≡ length e.sent = ap (λ (w : Windows). w.sent) (c.self.view_is ∙ heard) in
    let acked : c.acked.result ≡ e.acked = c.acked.ensures ∙ ap (λ (w : Windows). w.acked) heard in
    let told : number e.start c.args.message.now.ack e.acked ≡ Some c.in-Some.k = rw (← start, ← acked) (sym c.number.ensures.value ∙ c.in-Some.is) in
    c.restart_timer.ensures.end (acks c.args.now c.in-Some.k (hears c.args.now e)) (c.drop_acked.ensures.end (hears c.args.now e) heard)
    ∙ ap windows_of (takes_ack c.args.now c.in-Some.k c.args.message.now e told (omega (arith, sent, c.if-k-self.true)))

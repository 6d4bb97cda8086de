use Rattle.std.proofs.Common.{◌≡◌, ◌∙◌, ℕ, ap, sym, subst}
use Rattle.std.specs.Io.KnownBytes.{Appends}
use Rattle.live_answers.specs.Lines.{Last}
use Rattle.live_answers.specs.Speech.{Says, speech}
use Rattle.live_run.proofs.Shared.{told_last}
use Rattle.netlive.specs.Ends.{Ends, NoMemory, Unwritten, Written, final_status}
use Rattle.netlive.proofs.Writing.{on_err, on_ok}
use Rattle.netlive.proofs.top.tell_run.Goals as goal

pub returns-in_default : goal.returns-in_default
returns-in_default g c first before live told = NoMemory

pub returns-then-is_err : goal.returns-then-is_err
returns-then-is_err g c first before live told =
    Unwritten c.args.ended.now live told (on_err c.write_all.result (sym c.is_err.ensures.value ∙ c.if-is_err.true) c.write_all.ensures.failed)

pub returns-then-is_err-2 : goal.returns-then-is_err-2
returns-then-is_err-2 g c first before live told = NoMemory

pub returns : goal.returns
returns g c first before live told =
    let l = c.args.ended.now in
    let s = speech g.K.Sink.held c.args.voice.now in
    let t = speech g.K.Sink.held c.say_end.new.self in
    let says : Says s t (Last l.end.end l.end.moment) = on_ok c.say_end.result (sym c.is_err-2.ensures.value ∙ c.if-is_err-2.false) c.say_end.ensures in
    subst (Ends first _ before t) (sym (c.final_status.ensures ∙ ap (final_status l.end.end c.args.unread) c.has_failed.ensures))
    (Written l c.args.unread s.lines live
    (subst (Appends (g.O.Sink.held c.args.out.now) (g.O.Sink.held c.write_all.new.sink)) (c.as_slice.ensures ∙ c.in-Ok.ensures)
    (on_ok c.write_all.result (sym c.is_err.ensures.value ∙ c.if-is_err.false) c.write_all.ensures.ok))
    (told_last first before l.history s t l.end.end l.end.moment says told) says.lines)

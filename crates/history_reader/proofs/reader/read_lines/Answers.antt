use Rattle.std.proofs.Common.{◌≡◌, sym, subst, ap, ◌∙◌, ◌∷◌, [], arith, length, length-append, List}
use Rattle.net_base.specs.declared.history.Entry.{Entry}
use Rattle.net_base.specs.Addresses.{parts_at}
use Rattle.history_reader.specs.LineReading.{Good, entry_verdict, onto, history_reading_from}
use Rattle.history_reader.proofs.Loops.{shorter}
use Rattle.history_reader.proofs.Readings.{entry_on}
use Rattle.history_reader.proofs.reader.read_lines.Goals as goal

pub loop-line-smaller : goal.loop-line-smaller
loop-line-smaller c = shorter 10 c.loop-line.rest.now c.in-Some.line.now c.in-Some.behind.now c.in-Some.ensures.cut

pub loop-line-preserved : goal.loop-line-preserved
loop-line-preserved c =
    let less = shorter 10 c.loop-line.rest.now c.in-Some.line.now c.in-Some.behind.now c.in-Some.ensures.cut in
    let room = c.loop-line.invariant.room in
    let more = length-append c.loop-line.history (c.in-Ok.entry ∷ []) in
    let count = ap (λ (h : List Entry). length h) c.in_ok-push-in-Ok.ensures.ok in
    record {
      room = omega (arith, less, room, more, count);
      reads =
          entry_on c.args.bytes.now c.loop-line.history c.loop-line.rest.now c.in-Some.line.now c.in-Some.behind.now c.in-Ok.entry c.loop-line.invariant.reads c.in-Some.ensures.cut (sym c.is_steps.ensures ∙ c.if-is_steps.false)
          (subst (λ k. entry_verdict k c.in-Some.line.now ≡ Good c.in-Ok.entry) c.len-in-Some.ensures c.in-Ok.ensures.ok)
          ∙ ap (λ (h : List Entry). onto h (history_reading_from (length h) (parts_at 10 c.in-Some.behind.now))) (sym c.in_ok-push-in-Ok.ensures.ok);
    }

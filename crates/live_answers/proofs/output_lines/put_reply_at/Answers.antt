use Rattle.std.proofs.Common.{◌≡◌, ◌∙◌, List, ap, slice_get, sym}
use Rattle.net_base.specs.declared.history.Entry.{Entry}
use Rattle.live_answers.proofs.Lists.{got, on_ok, past, text_none, text_some}
use Rattle.live_answers.proofs.output_lines.put_reply_at.Goals as goal

pub returns-in-Some : goal.returns-in-Some
returns-in-Some c =
    let l = c.in-Some.ensures.lookup in
    let there = ap (λ (xs : List Entry). slice_get xs c.args.stamp) (sym c.as_slice.ensures) ∙ got c.as_slice.result.now c.args.stamp c.in-Some.entry.now l.3.0 l.1 in
    on_ok c.put_reply_after.result (text_some c.args.history.now c.args.stamp c.in-Some.entry.now c.args.line.now c.put_reply_after.new.out there) c.put_reply_after.ensures

pub returns-in-None : goal.returns-in-None
returns-in-None c =
    let l = c.in-None.ensures.lookup in
    let none = ap (λ (xs : List Entry). slice_get xs c.args.stamp) (sym c.as_slice.ensures) ∙ past c.as_slice.result.now c.args.stamp l.3 in
    text_none c.args.history.now c.args.stamp c.args.line.now none

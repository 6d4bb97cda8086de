use Rattle.std.proofs.Common.{◌∷◌, [], length, length-append, map, ap, ◌∙◌, arith}
use Rattle.std.specs.Vec.Iter.{into_iter_items}
use Rattle.journal.proofs.Gathering.{begins, merged_more, taken_all}
use Rattle.journal.proofs.merging.merge.Goals as goal

pub loop-history-init : goal.loop-history-init
loop-history-init c = (
  omega (arith, ap length c.requires.empty),
  λ log at. (begins log c.args.history.now.items c.requires.empty, at),
)

pub loop-history-preserved : goal.loop-history-preserved
loop-history-preserved c =
    let h = c.loop-history.history.items in
    let pushed = c.in_ok-push.ensures.items in
    let long = c.loop-history.history.ok.0 in (
      omega (arith, ap length pushed, length-append h (c.in_ok-entry_of.field-0 ∷ []), c.loop-history-test.true, c.len.ensures, long),
      λ log at.
          let inv = c.loop-history.invariant.1 log at in
          merged_more log h c.push.new.self.items (map into_iter_items c.loop-history.lists.items) (map into_iter_items c.next_of.new.lists.items)
          c.in-Some.next c.len-stamp.result c.in_ok-entry_of.field-0 inv.0 inv.1 c.next_of.ensures.rest c.in-Some.ensures.found c.in_ok-entry_of.ensures (c.len-stamp.ensures ∙ long) pushed,
    )

pub returns : goal.returns
returns c log long at =
    taken_all log c.loop-history.history.items (c.loop-history.invariant.1 log at).0 (omega (arith, long, c.loop-history-test.false, c.len.ensures, c.loop-history.history.ok.0))

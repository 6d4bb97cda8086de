use Rattle.std.proofs.Common.{refl, ◌∙◌}
use Rattle.plain_runner.proofs.Shared.{got}
use Rattle.end_rows.proofs.Changes.{end_added, has_caller, has_it, has_it_then}
use Rattle.end_rows.proofs.rows.follow_end.Goals as goal

pub due-due-requires : goal.due-due-requires
due-due-requires c = has_it c.requires.next.0 c.args.runner.now c.args.entry.now c.requires.next.1

pub follow-requires : goal.follow-requires
follow-requires c = record {
  world = c.requires.next.0;
  entry = c.args.entry.now;
  is = record { caller_is = refl; event_is = refl };
  follows = c.requires.next.1;
}

pub due-due_then-requires : goal.due-due_then-requires
due-due_then-requires c =
    has_it_then c.requires.next.0 _ c.args.runner.now c.follow.new.self c.args.entry.now c.requires.next.1
    (c.in_ok-follow.ensures c.requires.next.0 c.args.entry.now (record { caller_is = refl; event_is = refl }) c.requires.next.1).followed

pub returns : goal.returns
returns c =
    let r = c.args.runner.now in
    let x = c.args.entry.now in
    let f = c.requires.next.1 in
    let k = c.index-caller.result.now in
    end_added c.put_change.result r c.follow.new.self x c.args.name k c.args.ends.now.entries c.take_given.new.ends.entries c.args.stamp c.due-due.result c.due-due_then.result
    c.as_slice.result.now c.as_slice-2.result.now c.args.out.now c.put_change.new.out c.requires.named
    (λ w g. (c.in_ok-follow.ensures w x (record { caller_is = refl; event_is = refl }) g).followed)
    c.due-due.ensures c.due-due_then.ensures c.in_ok-take_given.ensures
    (got r.callers.items x.caller k (has_caller c.requires.next.0 r x f) c.index-caller.ensures)
    (c.as_slice.ensures ∙ c.in_ok-before.ensures) (c.as_slice-2.ensures ∙ c.in_ok-after.ensures) c.put_change.ensures

use Rattle.std.proofs.Common.{◌≡◌, Some, None, slice_get}
use Rattle.net_base.specs.Duties.{Duty}
use Rattle.end_rows.proofs.Changes.{given_first, given_none}
use Rattle.end_rows.proofs.rows.take_given.Goals as goal

pub returns-in-Some : goal.returns-in-Some
returns-in-Some c =
    let d : Duty = record { actor = c.duty.inside.actor; event = c.duty.inside.work.event; with = c.duty.inside.work.with; cites = c.duty.inside.cites } in
    let first : slice_get c.args.caller.now.owed.list 0 ≡ Some d = cc in
    given_first c.take_entry.result c.args.name c.args.entry.now c.args.caller.now d c.args.ends.now.entries c.take_entry.new.ends.entries first c.take_entry.ensures

pub returns-in-None : goal.returns-in-None
returns-in-None c =
    let none : slice_get c.args.caller.now.owed.list 0 ≡ None = cc in
    given_none c.take_entry-in-None.result c.args.name c.args.entry.now c.args.caller.now c.args.ends.now.entries c.take_entry-in-None.new.ends.entries none c.take_entry-in-None.ensures

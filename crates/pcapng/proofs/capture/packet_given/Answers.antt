use Rattle.std.proofs.Common.{◌≡◌, Some, None, slice_get}
use Rattle.net_base.specs.Duties.{Duty}
use Rattle.pcapng.proofs.Giving.{given_first, given_none}
use Rattle.pcapng.proofs.capture.packet_given.Goals as goal

pub returns-in-Some : goal.returns-in-Some
returns-in-Some c = λ w h number kept.
    let d : Duty = record { actor = c.duty.inside.actor; event = c.duty.inside.work.event; with = c.duty.inside.work.with; cites = c.duty.inside.cites } in
    let first : slice_get c.args.caller.now.owed.list 0 ≡ Some d = cc in
    given_first w h number c.args.caller.now kept d _ first c.packet_in.ensures

pub returns-in-None : goal.returns-in-None
returns-in-None c = λ w h number kept.
    let none : slice_get c.args.caller.now.owed.list 0 ≡ None = cc in
    given_none w h number c.args.caller.now kept none

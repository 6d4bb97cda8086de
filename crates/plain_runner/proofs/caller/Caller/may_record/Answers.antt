use Rattle.std.proofs.Common.{◌≡◌, Some, None, slice_get, ◌∙◌}
use Rattle.net_base.specs.Duties.{Duty}
use Rattle.net_base.specs.Net.{after}
use Rattle.plain_runner.proofs.CallerLaws.{may_duty, may_not, may_own}
use Rattle.plain_runner.proofs.caller.Caller.may_record.Goals as goal

-- it owes a duty
pub returns-in-Some : goal.returns-in-Some
returns-in-Some c = λ w h number kept are now_is.
    let d : Duty = record { actor = c.duty.inside.actor; event = c.duty.inside.work.event; with = c.duty.inside.work.with; cites = c.duty.inside.cites } in
    let first : slice_get c.args.self.now.owed.list 0 ≡ Some d = cc in
    c.ready.ensures w (after w h).actors are ∙ may_duty w h number c.args.self.now d c.args.now kept first now_is

-- it owes nothing, and its next event is known
pub returns-in-Some-next : goal.returns-in-Some-next
returns-in-Some-next c = λ w h number kept are now_is.
    let none : slice_get c.args.self.now.owed.list 0 ≡ None = cc in
    c.ready-in-Some-next.ensures w (after w h).actors are
    ∙ may_own w h number c.args.self.now c.in-Some-next.turn c.args.now (c.histories_grow.ensures.past w h) kept none c.in-Some-next.is now_is

pub returns-in-None : goal.returns-in-None
returns-in-None c = λ w h number kept are now_is.
    let none : slice_get c.args.self.now.owed.list 0 ≡ None = cc in
    may_not w h number c.args.self.now (c.histories_grow.ensures.past w h) kept none c.in-None.is

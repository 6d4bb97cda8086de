use Rattle.std.proofs.Common.{◌≤◌, List, length, ap, sym, subst, ◌∙◌}
use Rattle.net_base.specs.declared.actor.ActorName.TheVariants as name
use Rattle.net_base.specs.declared.event.Event.TheVariants as event
use Rattle.net_base.specs.declared.world.World.{World}
use Rattle.net_base.specs.Calm.{least}
use Rattle.net_base.specs.Duties.{Duty}
use Rattle.net_base.specs.Legal.{IsInTimeBy}
use Rattle.net_base.specs.Stamped.{moment_noted as moment_of}
use Rattle.journal.specs.declared.tokens.Sight.{Sight}
use Rattle.journal.specs.Tokens.{HoldsAll}
use Rattle.duties.specs.Ticking.{dues_of}
use Rattle.net_locks.specs.Guests.{IsGuest}
use Rattle.net_locks.specs.Works.{noted_net}
use Rattle.net_locks.specs.Standings.{standing_moments}
use Rattle.net_locks.specs.Knowing.{IsKnown}
use Rattle.net_locks.specs.Turns.{HasRoom, bare}
use Rattle.net_locks.proofs.Concluding.{free_of}
use Rattle.net_locks.proofs.Covered.{recorded_grows}
use Rattle.net_locks.proofs.Knowledge.{known_on}
use Rattle.net_locks.proofs.Leasts.{target_is}
use Rattle.net_locks.proofs.Moved.{moved_so, unmoved_so}
use Rattle.net_locks.proofs.Sighted.{holds_all}
use Rattle.net_locks.proofs.Turning.{on_ok}
use Rattle.net_locks.proofs.clock.Locks+J+WorldActor+J.reach.Goals as goal

pub record_move-requires-clause-guest : goal.record_move-requires-clause-guest
record_move-requires-clause-guest g c =
    subst (λ (l : List Duty). IsGuest g.J.Placing.world g.J.Naming.run.roster c.args.visitor.now.bearer.caller c.catch_up.new.pass l) (sym c.reserve.ensures.list)
    (subst (λ (q : Sight). IsGuest g.J.Placing.world g.J.Naming.run.roster c.args.visitor.now.bearer.caller q c.args.visitor.now.duties.list) (sym c.catch_up.ensures.same) c.requires.complete.guest)

pub record_move-requires-clause-free : goal.record_move-requires-clause-free
record_move-requires-clause-free g c =
    c.reserve.ensures.list ∙ free_of g.J.Placing.tasks g.J.Placing.world g.J.Naming.run.roster c.args.visitor.now.bearer.caller c.args.visitor.now.bearer.pass c.args.visitor.now.duties.list c.requires.complete.guest c.requires.may.free

pub record_move-requires-clause-moment : goal.record_move-requires-clause-moment
record_move-requires-clause-moment g c = c.requires.complete.here ∙ ap (λ (q : Sight). moment_of q.seen) (sym c.catch_up.ensures.same)

pub record_move-requires-clause-numbers : goal.record_move-requires-clause-numbers
record_move-requires-clause-numbers g c =
    subst (λ (q : Sight). HoldsAll g.J.Naming.run.roster q) (sym c.catch_up.ensures.same)
    (holds_all g.J.Placing.tasks g.J.Placing.world g.J.Naming.run.roster c.args.visitor.now.bearer.pass c.args.standings.now c.requires.all)

pub record_move-requires-clause-room : goal.record_move-requires-clause-room
record_move-requires-clause-room g c = subst (λ (q : Sight). HasRoom c.args.visitor.now.bearer.caller q) (sym c.catch_up.ensures.same) c.requires.may.room

pub record_move-requires-clause-dues : goal.record_move-requires-clause-dues
record_move-requires-clause-dues g c =
    c.as_slice-dues.ensures
    ∙ (c.catch_up.ensures.dues c.if-not-catch_up.false
    ∙ ap (λ (q : Sight). dues_of g.J.Placing.world (noted_net g.J.Placing.world q.seen).actors) (sym c.catch_up.ensures.same))

pub record_move-requires-clause-reserved : goal.record_move-requires-clause-reserved
record_move-requires-clause-reserved g c =
    on_ok (length c.as_slice-dues.result.now ≤ c.reserve.new.self.room) c.reserve.result (sym c.is_err.ensures.value ∙ c.if-is_err.false) c.reserve.ensures.ok

pub record_move-requires-clause-in_time : goal.record_move-requires-clause-in_time
record_move-requires-clause-in_time g c =
    let w = g.J.Placing.world in
    let p = c.args.visitor.now.bearer.pass in
    let t = target_is g.J.Placing.tasks w g.J.Naming.run.roster p c.args.standings.now c.requires.all c.args.self.now.of.roster.callers_are (c.nets_of_works_grow.ensures.past w p.seen)
    (c.conversations_are_these.ensures.only w) (c.targets_are_least.ensures g.J.Placing.tasks w (noted_net w p.seen)) c.as_slice-dues.result.now c.least_awaited-awaited.result
    c.least_due-moment.result (c.as_slice-dues.ensures ∙ c.catch_up.ensures.dues c.if-not-catch_up.false)
    (c.least_awaited-awaited.ensures ∙ ap (λ (v : World). least v.end (standing_moments c.args.standings.now)) (sym c.requires.world)) c.least_due-moment.ensures in
    subst (λ (q : Sight). IsInTimeBy g.J.Placing.tasks (noted_net w q.seen) w (event.Move c.least_due-moment.result)) (sym c.catch_up.ensures.same) (c.requires.may.may, t.0)

pub returns-then-not-catch_up-clause-known : goal.returns-then-not-catch_up-clause-known
returns-then-not-catch_up-clause-known g c =
    subst (λ (q : Sight). IsKnown g.J.Placing.world q.seen c.catch_up.new.calendar) (sym c.catch_up.ensures.same) c.catch_up.ensures.known

pub returns-then-is_err-clause-known : goal.returns-then-is_err-clause-known
returns-then-is_err-clause-known g c =
    subst (λ (q : Sight). IsKnown g.J.Placing.world q.seen c.catch_up.new.calendar) (sym c.catch_up.ensures.same) c.catch_up.ensures.known

pub returns-then-not-record_move-clause-go : goal.returns-then-not-record_move-clause-go
returns-then-not-record_move-clause-go g c =
    unmoved_so g.J.Placing.tasks g.J.Placing.world g.J.Naming.run.roster c.least_due-moment.result c.args.visitor.now.bearer c.record_move.new.bearer c.catch_up.new.pass
    c.args.visitor.now.duties.list c.reserve.new.self.list c.record_move.new.duties.list c.catch_up.ensures.same c.reserve.ensures.list c.record_move.result
    c.record_move.ensures.leaves c.if-not-record_move.true

pub returns-then-not-record_move-clause-known : goal.returns-then-not-record_move-clause-known
returns-then-not-record_move-clause-known g c =
    let still = unmoved_so g.J.Placing.tasks g.J.Placing.world g.J.Naming.run.roster c.least_due-moment.result c.args.visitor.now.bearer c.record_move.new.bearer
    c.catch_up.new.pass c.args.visitor.now.duties.list c.reserve.new.self.list c.record_move.new.duties.list c.catch_up.ensures.same c.reserve.ensures.list
    c.record_move.result c.record_move.ensures.leaves c.if-not-record_move.true in
    subst (λ (q : Sight). IsKnown g.J.Placing.world q.seen c.catch_up.new.calendar) (sym still.0) c.catch_up.ensures.known

pub returns-clause-go : goal.returns-clause-go
returns-clause-go g c =
    let w = g.J.Placing.world in
    let p = c.args.visitor.now.bearer.pass in
    let t = target_is g.J.Placing.tasks w g.J.Naming.run.roster p c.args.standings.now c.requires.all c.args.self.now.of.roster.callers_are (c.nets_of_works_grow.ensures.past w p.seen)
    (c.conversations_are_these.ensures.only w) (c.targets_are_least.ensures g.J.Placing.tasks w (noted_net w p.seen)) c.as_slice-dues.result.now c.least_awaited-awaited.result
    c.least_due-moment.result (c.as_slice-dues.ensures ∙ c.catch_up.ensures.dues c.if-not-catch_up.false)
    (c.least_awaited-awaited.ensures ∙ ap (λ (v : World). least v.end (standing_moments c.args.standings.now)) (sym c.requires.world)) c.least_due-moment.ensures in (
      moved_so g.J.Placing.tasks w g.J.Naming.run.roster c.least_due-moment.result c.args.visitor.now.bearer c.record_move.new.bearer c.catch_up.new.pass c.args.visitor.now.duties.list
          c.reserve.new.self.list c.record_move.new.duties.list c.catch_up.ensures.same c.reserve.ensures.list c.record_move.result c.record_move.ensures.leaves c.if-not-record_move.false,
      t.0,
      t.1,
    )

pub returns-clause-known : goal.returns-clause-known
returns-clause-known g c =
    let w = g.J.Placing.world in
    let p = c.args.visitor.now.bearer.pass in
    let m = c.least_due-moment.result in
    let moved = moved_so g.J.Placing.tasks w g.J.Naming.run.roster m c.args.visitor.now.bearer c.record_move.new.bearer c.catch_up.new.pass c.args.visitor.now.duties.list
    c.reserve.new.self.list c.record_move.new.duties.list c.catch_up.ensures.same c.reserve.ensures.list c.record_move.result c.record_move.ensures.leaves c.if-not-record_move.false in
    known_on w p.seen c.record_move.new.bearer.pass.seen c.catch_up.new.calendar
    (recorded_grows g.J.Placing.tasks w c.args.visitor.now.bearer.caller c.args.visitor.now.bearer.now name.Clock (bare (event.Move m)) _ p c.record_move.new.bearer.pass c.args.visitor.now.duties.list c.record_move.new.duties.list
    moved.entry.stamp moved.entry.reply moved.entry.turn) c.catch_up.ensures.known

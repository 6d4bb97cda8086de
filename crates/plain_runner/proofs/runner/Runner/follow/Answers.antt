use Rattle.plain_runner.proofs.Following.{grown_of, known_of, move_of, moved_of, ready_of}
use Rattle.plain_runner.proofs.Recorded.{if_ok}
use Rattle.plain_runner.proofs.runner.Runner.follow.Goals as goal

pub record-requires-clause-caller : goal.record-requires-clause-caller
record-requires-clause-caller c = known_of c.requires.world c.args.self.now c.requires.entry c.args.caller c.args.event.now c.requires.is c.requires.follows

pub record_next-requires-clause-caller : goal.record_next-requires-clause-caller
record_next-requires-clause-caller c = known_of c.requires.world c.args.self.now c.requires.entry c.args.caller c.args.event.now c.requires.is c.requires.follows

pub record-requires-clause-ready : goal.record-requires-clause-ready
record-requires-clause-ready c = (
  c.requires.world,
  move_of c.requires.world c.args.self.now c.requires.entry c.args.caller c.in-Move.moment c.args.event.now c.moving.result c.requires.is
      c.requires.follows c.in-Move.is c.moving.ensures,
)

pub record_next-requires-clause-ready : goal.record_next-requires-clause-ready
record_next-requires-clause-ready c = (
  c.requires.world,
  c.requires.follows.tracks,
  ready_of c.requires.world c.args.self.now c.requires.entry c.args.caller c.args.event.now c.requires.is c.requires.follows c.in_default.not-Move,
)

pub returns-in-Move : goal.returns-in-Move
returns-in-Move c =
    let r = c.args.self.now in
    if_ok c.record.result (λ entry recorded w x of f.
    moved_of w r c.record.new.self x entry c.args.caller c.in-Move.moment c.args.event.now c.moving.result of f c.in-Move.is c.moving.ensures
    (recorded w (move_of w r x c.args.caller c.in-Move.moment c.args.event.now c.moving.result of f c.in-Move.is c.moving.ensures)))
    c.record.ensures

pub returns-in_default : goal.returns-in_default
returns-in_default c =
    let r = c.args.self.now in
    if_ok c.record_next.result (λ entry recorded w x of f. grown_of w r c.record_next.new.self x entry c.args.caller c.args.event.now of f c.in_default.not-Move
    (recorded w f.tracks (ready_of w r x c.args.caller c.args.event.now of f c.in_default.not-Move))) c.record_next.ensures

use Rattle.order_search.proofs.Goers.{full_stops, goes_moving, goes_not, goes_ready}
use Rattle.order_search.proofs.going.can_go.Goals as goal

pub returns-then-is_full : goal.returns-then-is_full
returns-then-is_full c =
    let w = c.args.world.now in
    let r = c.args.runner.now in
    full_stops w r.history.entries c.args.caller c.is_full.result (c.is_full.ensures w c.requires.tracks) c.if-is_full.true

pub returns-then-may_turn : goal.returns-then-may_turn
returns-then-may_turn c =
    let w = c.args.world.now in
    let r = c.args.runner.now in
    let law = c.turns_are_ready.ensures in
    goes_ready law.duty law.own law.clock w r c.args.caller c.is_full.result c.may_turn.result c.requires.tracks c.requires.caller
    (c.is_full.ensures w c.requires.tracks) c.if-is_full.false (c.may_turn.ensures w c.requires.tracks) c.if-may_turn.true

pub returns-then-is_last : goal.returns-then-is_last
returns-then-is_last c =
    let w = c.args.world.now in
    let r = c.args.runner.now in
    let law = c.turns_are_ready.ensures in
    goes_moving law.duty law.own law.clock w r c.args.caller c.is_full.result c.may_turn.result c.is_last.result c.is_movable.result c.requires.tracks
    (c.is_full.ensures w c.requires.tracks) c.if-is_full.false (c.may_turn.ensures w c.requires.tracks) c.if-may_turn.false c.is_last.ensures c.if-is_last.true
    c.is_movable.ensures

pub returns : goal.returns
returns c =
    let w = c.args.world.now in
    let r = c.args.runner.now in
    let law = c.turns_are_ready.ensures in
    goes_not law.duty law.own law.clock w r c.args.caller c.is_full.result c.may_turn.result c.is_last.result c.requires.tracks c.requires.caller
    (c.is_full.ensures w c.requires.tracks) c.if-is_full.false (c.may_turn.ensures w c.requires.tracks) c.if-may_turn.false c.is_last.ensures c.if-is_last.false

use Rattle.std.proofs.Common.{length, inl, ap, sym, ◌∙◌, arith}
use Rattle.net_locks.proofs.Attempts.{attempted, keeps_moment}
use Rattle.net_locks.proofs.Turning.{has_number}
use Rattle.net_locks.proofs.turn.Locks+J+WorldActor+J.attempt.Goals as goal

pub act-answer-requires-clause-timely : goal.act-answer-requires-clause-timely
act-answer-requires-clause-timely g c = inl c.requires.other

pub act-answer-requires-clause-room : goal.act-answer-requires-clause-room
act-answer-requires-clause-room g c =
    let guest = c.requires.guest.1 in
    (guest.list, guest.held, omega (arith, ap length guest.all, c.requires.room))

pub returns-clause-here : goal.returns-clause-here
returns-clause-here g c =
    let w = g.J.Placing.world in
    let r = g.J.Naming.run.roster in
    let b = c.args.bearer.now in
    let guest = c.requires.guest in
    c.requires.here ∙ sym (keeps_moment w r c.args.lock.now.actor b.now c.args.work.now c.args.cites b.pass c.act-answer.new.pass b.caller c.requires.other
    (has_number w r b.caller b.pass guest.0 guest.1) c.act-answer.result c.act-answer.ensures)

pub returns-clause-attempted : goal.returns-clause-attempted
returns-clause-attempted g c =
    let ts = g.J.Placing.tasks in
    let w = g.J.Placing.world in
    let r = g.J.Naming.run.roster in
    let a = c.args.lock.now.actor in
    let work = c.args.work.now in
    let cites = c.args.cites in
    let b = c.args.bearer.now in
    let p' = c.act-answer.new.pass in
    attempted ts w r a work cites b (record { pass = p'; caller = b.caller; now = b.now }) c.requires.room
    (λ ds stamp o guest turn d. c.guests_record.ensures w r a b.caller b.now work cites b.pass ds stamp o p' guest turn d)
    (λ ds front guest look. c.guests_look.ensures w r b.caller b.pass ds front p' guest look) (c.locks_keep_actors.ensures.ready w p'.seen a b.now work)
    (λ net s t is. c.moves_are_the_clocks.ensures ts w net a s b.now work t c.requires.other is)
    (λ log t calls is told. c.few_calls_wait.ensures w a log b.now work t calls is told) c.act-answer.result c.act-answer.ensures

use Rattle.std.proofs.Common.{◌≡◌, ◌∙◌, Bool, Option, Vec, Global, ap, refl, sym}
use Rattle.live_answers.specs.declared.current.Current.{Current}
use Rattle.live_run.proofs.Hearing.{hears_turn}
use Rattle.live_run.proofs.Rounds.{ready_stays, ready_turned}
use Rattle.live_run.proofs.round.take_ready_turn.Goals as goal

pub take_turn-requires-clause-goes : goal.take_turn-requires-clause-goes
take_turn-requires-clause-goes g c =
    record { known = c.requires.caller; can = sym c.can_go.ensures ∙ c.if-not-can_go.false }

pub returns-clause-running : goal.returns-clause-running
returns-clause-running g c =
    let w = c.args.world.now in
    let old = c.args.round.now in
    let law = c.callers_that_come.ensures in
    let still = ready_stays law.clock_alone law.these c.calm_is_that_nobody_could.ensures.busy w old.runner c.args.caller c.requires.running.tracks
    (record { known = c.requires.caller; can = sym c.can_go.ensures ∙ c.if-not-can_go.false })
    (sym (c.moves_next.ensures w c.requires.running.tracks) ∙ c.if-moves_next.false) in
    let kept = c.set_deadline.new.self in
    ready_turned c.next_events_stay.ensures.pushed w old
    (record {
      runner = c.take_turn.new.runner;
      history = c.hear.new.history;
      places = record { grows = kept.grows; deadlines = kept.deadlines; currents = c.hear.new.currents; seats = kept.seats; accepted = kept.accepted };
      moved = old.moved;
    })
    c.args.caller c.in_ok-entry.entry c.requires.running c.in_ok-entry.ensures c.in_ok-hear.ensures.history
    (ap (λ (v : Vec Bool Global). v.items) c.set_deadline.ensures.grows) c.set_deadline.ensures.deadlines still refl

pub returns-clause-heard : goal.returns-clause-heard
returns-clause-heard g c =
    let old = c.args.round.now in
    let kept = c.set_deadline.new.self in
    hears_turn c.args.world.now old
    (record {
      runner = c.take_turn.new.runner;
      history = c.hear.new.history;
      places = record { grows = kept.grows; deadlines = kept.deadlines; currents = c.hear.new.currents; seats = kept.seats; accepted = kept.accepted };
      moved = old.moved;
    })
    c.args.caller c.in_ok-entry.entry kept.currents.items _ _ c.requires.running c.in_ok-entry.ensures c.in_ok-hear.ensures.history
    (ap (λ (v : Vec (Option Current) Global). v.items) c.set_deadline.ensures.currents) c.in_ok-hear.ensures.heard

use Rattle.std.proofs.Common.{◌≡◌, ◌∙◌, ℕ, List, Option, refl, sym, subst, arith}
use Rattle.live_run.specs.Deadlines.{AllowsMove}
use Rattle.live_run.proofs.Hearing.{hears_turn}
use Rattle.live_run.proofs.Rounds.{move_turned}
use Rattle.live_run.proofs.round.take_move.Goals as goal

pub take_turn-requires-clause-goes : goal.take_turn-requires-clause-goes
take_turn-requires-clause-goes g c =
    record { known = omega (arith, c.in-Some.ensures); can = sym c.can_go.ensures ∙ c.if-not-can_go.false }

pub returns-clause-running : goal.returns-clause-running
returns-clause-running g c =
    let w = c.args.world.now in
    let kept = c.args.round.now.places in
    move_turned c.next_events_stay.ensures.pushed w c.args.round.now
    (record {
      runner = c.take_turn.new.runner;
      history = c.hear.new.history;
      places = record { grows = kept.grows; deadlines = kept.deadlines; currents = c.hear.new.currents; seats = kept.seats; accepted = kept.accepted };
      moved = c.later-round.result;
    })
    c.in_ok-entry.entry c.in-Some.clock c.in_ok-target.target c.requires c.in_ok-entry.ensures
    c.in_ok-hear.ensures.history refl refl (c.places_hold.ensures c.if-not-places_hold.false) c.in-Some.ensures c.in_ok-target.ensures
    (subst (λ (ds : List (Option ℕ)). AllowsMove w c.args.round.now.runner.history.entries ds c.args.round.now.runner.moment c.in_ok-target.target) c.as_slice.ensures.value
    (c.all_stay.ensures c.if-not-all_stay.false w c.requires.tracks)) c.later-round.ensures.first c.later-round.ensures.second

pub returns-clause-heard : goal.returns-clause-heard
returns-clause-heard g c =
    let old = c.args.round.now in
    let kept = old.places in
    hears_turn c.args.world.now old
    (record {
      runner = c.take_turn.new.runner;
      history = c.hear.new.history;
      places = record { grows = kept.grows; deadlines = kept.deadlines; currents = c.hear.new.currents; seats = kept.seats; accepted = kept.accepted };
      moved = c.later-round.result;
    })
    c.in-Some.clock c.in_ok-entry.entry kept.currents.items _ _ c.requires c.in_ok-entry.ensures c.in_ok-hear.ensures.history refl c.in_ok-hear.ensures.heard

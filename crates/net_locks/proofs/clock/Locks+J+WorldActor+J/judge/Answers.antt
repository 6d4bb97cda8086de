use Rattle.std.proofs.Common.{◌≡◌, ℕ, ◌<◌, true, false, length, ap, sym, subst, ◌∙◌}
use Rattle.std.specs.List.{list_any}
use Rattle.net_base.specs.declared.world.World.{World}
use Rattle.journal.specs.declared.tokens.Sight.{Sight}
use Rattle.journal.specs.Tokens.{HoldsAll}
use Rattle.net_locks.specs.Works.{noted_net}
use Rattle.net_locks.specs.Standings.{has_left}
use Rattle.net_locks.proofs.Concluding.{full_limits, has_room as stays_unlimited, is_done, is_stopped, may_move, moment_within, nobody_could, not_calm}
use Rattle.net_locks.proofs.Halting.{flipped, free_clock, full_clock, has_room, in_end, known_clock, room_as}
use Rattle.net_locks.proofs.Sighted.{holds_all}
use Rattle.net_locks.proofs.Through.{all_through, some_unfinished}
use Rattle.net_locks.proofs.clock.Locks+J+WorldActor+J.judge.Goals as goal

pub busy-busy-requires-clause-numbers : goal.busy-busy-requires-clause-numbers
busy-busy-requires-clause-numbers g c = holds_all g.J.Placing.tasks g.J.Placing.world g.J.Naming.run.roster c.args.pass.now c.args.standings.now c.requires.all

pub returns-then-busy-clause-halts : goal.returns-then-busy-clause-halts
returns-then-busy-clause-halts g c =
    full_limits g.J.Placing.tasks g.J.Placing.world g.J.Naming.run.roster c.args.pass.now c.args.standings.now c.requires.all c.args.self.now.of.roster.callers_are
    c.somebody_is_limited.ensures.caller c.busy-busy.result.full c.if-busy.true c.busy-busy.ensures.finds.full_is

pub returns-in-Some-clause-halts : goal.returns-in-Some-clause-halts
returns-in-Some-clause-halts g c =
    not_calm g.J.Placing.tasks g.J.Placing.world g.J.Naming.run.roster c.args.pass.now c.args.standings.now c.requires.all c.args.self.now.of.roster.callers_are
    c.busy-busy.result c.busy-busy.ensures.finds c.if-busy.false c.nobody_is_limited.ensures c.calm_is_that_nobody_could.ensures.busy c.in-Some.caller c.in-Some.is

pub returns-then-is_through-clause-halts : goal.returns-then-is_through-clause-halts
returns-then-is_through-clause-halts g c =
    let w = g.J.Placing.world in
    let r = g.J.Naming.run.roster in
    let p = c.args.pass.now in
    let ss = c.args.standings.now in
    let callers = c.args.self.now.of.roster.callers_are in
    let scripts : c.len.result ≡ length w.scripts = c.len.ensures ∙ ap (λ (v : World). length v.scripts) (sym c.requires.world) in
    let none : list_any (has_left (length w.scripts)) ss ≡ false =
    ap (λ (n : ℕ). list_any (has_left n) ss) (sym scripts) ∙ flipped (list_any (has_left c.len.result) ss) c.is_through.result true c.is_through.ensures c.if-is_through.true in
    is_done g.J.Placing.tasks w r p ss c.requires.all callers c.busy-busy.result c.busy-busy.ensures.finds c.if-busy.false c.nobody_is_limited.ensures c.in_default.is
    c.calm_is_that_nobody_could.ensures.calm
    (all_through g.J.Placing.tasks w r p ss c.requires.all callers (c.nets_of_works_grow.ensures.past w p.seen) none)

pub returns-then-now-world-clause-halts : goal.returns-then-now-world-clause-halts
returns-then-now-world-clause-halts g c =
    let w = g.J.Placing.world in
    let r = g.J.Naming.run.roster in
    let p = c.args.pass.now in
    let ss = c.args.standings.now in
    let callers = c.args.self.now.of.roster.callers_are in
    let scripts : c.len.result ≡ length w.scripts = c.len.ensures ∙ ap (λ (v : World). length v.scripts) (sym c.requires.world) in
    let some : list_any (has_left (length w.scripts)) ss ≡ true =
    ap (λ (n : ℕ). list_any (has_left n) ss) (sym scripts) ∙ flipped (list_any (has_left c.len.result) ss) c.is_through.result false c.is_through.ensures c.if-is_through.false in
    is_stopped g.J.Placing.tasks w r p ss c.requires.all callers c.busy-busy.result c.busy-busy.ensures.finds c.if-busy.false c.nobody_is_limited.ensures c.in_default.is
    c.calm_is_that_nobody_could.ensures.calm
    (some_unfinished g.J.Placing.tasks w r p ss c.requires.all callers (c.nets_of_works_grow.ensures.past w p.seen) some)
    (c.nets_of_works_grow.ensures.moment w p.seen ∙ (sym c.requires.moment ∙ (c.if-now-world.true ∙ ap (λ (v : World). v.end) (sym c.requires.world))))

pub returns-then-room-eq0-clause-halts : goal.returns-then-room-eq0-clause-halts
returns-then-room-eq0-clause-halts g c =
    let w = g.J.Placing.world in
    let r = g.J.Naming.run.roster in
    let p = c.args.pass.now in
    let ss = c.args.standings.now in
    let callers = c.args.self.now.of.roster.callers_are in
    let past = c.nets_of_works_grow.ensures.past w p.seen in
    let scripts : c.len.result ≡ length w.scripts = c.len.ensures ∙ ap (λ (v : World). length v.scripts) (sym c.requires.world) in
    let some : list_any (has_left (length w.scripts)) ss ≡ true =
    ap (λ (n : ℕ). list_any (has_left n) ss) (sym scripts) ∙ flipped (list_any (has_left c.len.result) ss) c.is_through.result false c.is_through.ensures c.if-is_through.false in
    let before = in_end (noted_net w p.seen).moment w.end c.args.now c.args.world.now.end (moment_within g.J.Placing.tasks w r p ss c.requires.all c.requires.lawful)
    (c.nets_of_works_grow.ensures.moment w p.seen ∙ sym c.requires.moment) (ap (λ (v : World). v.end) c.requires.world) c.if-now-world.false in
    let moves = may_move g.J.Placing.tasks w r p ss c.requires.all callers c.busy-busy.result c.busy-busy.ensures.finds c.if-busy.false c.nobody_is_limited.ensures c.in_default.is
    c.calm_is_that_nobody_could.ensures.calm (some_unfinished g.J.Placing.tasks w r p ss c.requires.all callers past some) before in
    let room = room_as p c.busy-busy.new.pass c.args.caller c.room.result c.busy-busy.ensures.same c.room.ensures in
    c.somebody_is_limited.ensures.clock g.J.Placing.tasks w (noted_net w p.seen) (full_clock g.J.Placing.tasks w r p ss c.requires.all callers past c.args.caller c.requires.clock c.room.result room c.if-room-eq0.true) moves

pub returns-clause-halts : goal.returns-clause-halts
returns-clause-halts g c =
    let w = g.J.Placing.world in
    let r = g.J.Naming.run.roster in
    let p = c.args.pass.now in
    let ss = c.args.standings.now in
    let callers = c.args.self.now.of.roster.callers_are in
    let past = c.nets_of_works_grow.ensures.past w p.seen in
    let scripts : c.len.result ≡ length w.scripts = c.len.ensures ∙ ap (λ (v : World). length v.scripts) (sym c.requires.world) in
    let some : list_any (has_left (length w.scripts)) ss ≡ true =
    ap (λ (n : ℕ). list_any (has_left n) ss) (sym scripts) ∙ flipped (list_any (has_left c.len.result) ss) c.is_through.result false c.is_through.ensures c.if-is_through.false in
    let before = in_end (noted_net w p.seen).moment w.end c.args.now c.args.world.now.end (moment_within g.J.Placing.tasks w r p ss c.requires.all c.requires.lawful)
    (c.nets_of_works_grow.ensures.moment w p.seen ∙ sym c.requires.moment) (ap (λ (v : World). v.end) c.requires.world) c.if-now-world.false in
    let room = has_room g.J.Placing.tasks w r p ss c.requires.all callers past c.args.caller c.requires.clock c.room.result (room_as p c.busy-busy.new.pass c.args.caller c.room.result c.busy-busy.ensures.same c.room.ensures) c.if-room-eq0.false in
    record {
      may = may_move g.J.Placing.tasks w r p ss c.requires.all callers c.busy-busy.result c.busy-busy.ensures.finds c.if-busy.false c.nobody_is_limited.ensures c.in_default.is
          c.calm_is_that_nobody_could.ensures.calm (some_unfinished g.J.Placing.tasks w r p ss c.requires.all callers past some) before;
      unlimited = stays_unlimited g.J.Placing.tasks w r p ss c.requires.all callers c.busy-busy.result c.busy-busy.ensures.finds c.if-busy.false c.nobody_is_limited.ensures c.in_default.is
          c.calm_is_that_nobody_could.ensures.calm (free_clock g.J.Placing.tasks w r p ss c.requires.all callers past c.args.caller c.requires.clock room);
      free = nobody_could g.J.Placing.tasks w r p ss c.requires.all callers c.busy-busy.result c.busy-busy.ensures.finds c.if-busy.false c.nobody_is_limited.ensures c.in_default.is
          c.calm_is_that_nobody_could.ensures.calm c.args.caller (subst (λ (n : ℕ). c.args.caller < n) callers (known_clock g.J.Placing.tasks w r p ss c.requires.all callers past c.args.caller c.requires.clock));
      room = room;
    }

pub room-requires : goal.room-requires
room-requires g c =
    let w = g.J.Placing.world in
    let r = g.J.Naming.run.roster in
    let p = c.args.pass.now in
    let callers = c.args.self.now.of.roster.callers_are in
    let numbers = subst (λ (q : Sight). HoldsAll r q) (sym c.busy-busy.ensures.same) (holds_all g.J.Placing.tasks w r p c.args.standings.now c.requires.all) in
    numbers c.args.caller (known_clock g.J.Placing.tasks w r p c.args.standings.now c.requires.all callers (c.nets_of_works_grow.ensures.past w p.seen) c.args.caller c.requires.clock)

use Rattle.std.proofs.Common.{[], refl, sym, subst, arith}
use Rattle.order_search.specs.Exact.{IsWhole}
use Rattle.order_search.proofs.Searched.{begins_search, explored_all, explored_cut, explores_next, explores_on, finished_back, goes_back, looked_on, looked_so, nothing_found, turned_back}
use Rattle.order_search.proofs.ToldRuns.{kin_itself, nothing_sound, same_sound}
use Rattle.order_search.proofs.search.explore.Goals as goal

pub loop-init : goal.loop-init
loop-init g c = record {
  world = c.requires;
  kin = kin_itself c.args.world.now c.args.sought.losses;
  pass = record { losses_are = omega arith; preemptions_are = omega arith };
  sound = nothing_sound c.args.world.now c.args.sought.losses c.args.sought.preemptions c.new-found.result c.new-found.ensures.empty c.new-found.ensures.none;
  exact = λ plain. record {
    no_losses = refl;
    whole = subst IsWhole (sym c.new-trail.ensures.part) plain.whole;
    seen = [];
    searching = begins_search c.args.world.now c.args.sought.limit c.new-trail.result c.new-found.result
        (nothing_found c.args.world.now c.args.sought.limit c.new-found.result c.new-found.ensures.empty c.new-found.ensures.known c.new-found.ensures.histories
        c.new-found.ensures.entries c.new-found.ensures.whole)
        c.new-trail.ensures.forks c.new-trail.ensures.pending;
  };
}

pub returns-then-not-branch-clause-exact : goal.returns-then-not-branch-clause-exact
returns-then-not-branch-clause-exact g c = λ plain.
    let state = c.loop.invariant.exact plain in
    explored_cut c.args.world.now c.args.sought c.loop.pass c.loop.trail c.look.new.trail c.loop.found c.look.new.found c.in_ok-look.field-0 state
    (looked_so c.args.world.now c.loop.world c.args.sought c.loop.pass c.loop.trail c.look.new.trail c.loop.found c.look.new.found c.in_ok-look.field-0 plain state
    c.loop.invariant.kin c.in_ok-look.ensures.exact)
    c.if-not-branch.true c.loop.invariant.pass.preemptions_are

pub loop-preserved-then-branch : goal.loop-preserved-then-branch
loop-preserved-then-branch g c = record {
  world = c.in_ok-look.ensures.world;
  kin = c.in_ok-look.ensures.kin c.args.world.now c.loop.invariant.kin;
  pass = c.loop.invariant.pass;
  sound = same_sound c.args.world.now c.args.sought.losses c.args.sought.preemptions c.look.new.found _
      (c.in_ok-look.ensures.sound c.args.world.now c.loop.invariant.kin c.loop.invariant.sound) refl refl;
  exact = λ plain.
      let state = c.loop.invariant.exact plain in
      let on = looked_on c.args.world.now c.args.sought c.loop.pass c.loop.trail c.look.new.trail c.loop.found c.look.new.found c.in_ok-look.field-0 state
      (looked_so c.args.world.now c.loop.world c.args.sought c.loop.pass c.loop.trail c.look.new.trail c.loop.found c.look.new.found c.in_ok-look.field-0 plain state
      c.loop.invariant.kin c.in_ok-look.ensures.exact) c.if-not-branch.false in
      explores_on c.args.world.now c.args.sought c.loop.pass c.loop.trail c.look.new.trail c.loop.found c.look.new.found _ state on c.in_ok-look.ensures.part
      (record { told = refl; known = refl; histories = refl; entries = refl; whole = refl }) _ refl refl
      (turned_back c.args.world.now c.loop.pass.preemptions c.look.new.trail.refused c.look.new.trail.path c.go_back.new.self c.in_ok-go_back.field-0
      (goes_back c.args.world.now c.loop.pass.preemptions c.args.sought.limit state.seen c.loop.trail c.look.new.trail c.look.new.found c.go_back.new.self
      c.in_ok-go_back.field-0 on c.in_ok-go_back.ensures) c.if-branch.true);
}

pub returns-in_default-clause-sound : goal.returns-in_default-clause-sound
returns-in_default-clause-sound g c =
    same_sound c.args.world.now c.args.sought.losses c.args.sought.preemptions c.look.new.found _
    (c.in_ok-look.ensures.sound c.args.world.now c.loop.invariant.kin c.loop.invariant.sound) refl refl

pub returns-in_default-clause-exact : goal.returns-in_default-clause-exact
returns-in_default-clause-exact g c = λ plain.
    let state = c.loop.invariant.exact plain in
    let on = looked_on c.args.world.now c.args.sought c.loop.pass c.loop.trail c.look.new.trail c.loop.found c.look.new.found c.in_ok-look.field-0 state
    (looked_so c.args.world.now c.loop.world c.args.sought c.loop.pass c.loop.trail c.look.new.trail c.loop.found c.look.new.found c.in_ok-look.field-0 plain state
    c.loop.invariant.kin c.in_ok-look.ensures.exact) c.if-not-branch.false in
    explored_all c.args.world.now c.args.sought c.loop.pass c.loop.trail c.look.new.trail c.loop.found c.look.new.found _ state on c.in_ok-look.ensures.part
    (record { told = refl; known = refl; histories = refl; entries = refl; whole = refl }) c.loop.invariant.pass.preemptions_are
    (finished_back c.args.world.now c.loop.pass.preemptions c.look.new.trail.refused c.look.new.trail.path c.go_back.new.self c.in_ok-go_back.field-0
    (goes_back c.args.world.now c.loop.pass.preemptions c.args.sought.limit state.seen c.loop.trail c.look.new.trail c.look.new.found c.go_back.new.self
    c.in_ok-go_back.field-0 on c.in_ok-go_back.ensures) c.if-branch.false)
    c.in_default.ensures.none

pub loop-preserved : goal.loop-preserved
loop-preserved g c = record {
  world = c.in_ok-look.ensures.world;
  kin = c.in_ok-look.ensures.kin c.args.world.now c.loop.invariant.kin;
  pass = c.in-Some.ensures.some;
  sound = same_sound c.args.world.now c.args.sought.losses c.args.sought.preemptions c.look.new.found _
      (c.in_ok-look.ensures.sound c.args.world.now c.loop.invariant.kin c.loop.invariant.sound) refl refl;
  exact = λ plain.
      let state = c.loop.invariant.exact plain in
      let on = looked_on c.args.world.now c.args.sought c.loop.pass c.loop.trail c.look.new.trail c.loop.found c.look.new.found c.in_ok-look.field-0 state
      (looked_so c.args.world.now c.loop.world c.args.sought c.loop.pass c.loop.trail c.look.new.trail c.loop.found c.look.new.found c.in_ok-look.field-0 plain state
      c.loop.invariant.kin c.in_ok-look.ensures.exact) c.if-not-branch.false in
      explores_next c.args.world.now c.args.sought c.loop.pass c.loop.trail c.look.new.trail c.loop.found c.look.new.found _ state on c.in_ok-look.ensures.part
      (record { told = refl; known = refl; histories = refl; entries = refl; whole = refl }) c.begin.new.self c.in-Some.next c.begin.ensures.part
      c.begin.ensures.forks c.begin.ensures.pending
      (finished_back c.args.world.now c.loop.pass.preemptions c.look.new.trail.refused c.look.new.trail.path c.go_back.new.self c.in_ok-go_back.field-0
      (goes_back c.args.world.now c.loop.pass.preemptions c.args.sought.limit state.seen c.loop.trail c.look.new.trail c.look.new.found c.go_back.new.self
      c.in_ok-go_back.field-0 on c.in_ok-go_back.ensures) c.if-branch.false)
      (c.in-Some.ensures.next plain.no_losses);
}

use Rattle.std.proofs.Common.{List, refl, ap, sym, subst, ◌∙◌}
use Rattle.net_base.specs.Callers.{caller_of}
use Rattle.host_net.proofs.Counting.{counts_none}
use Rattle.host_net.proofs.Outcomes.{clock_played, clock_player}
use Rattle.host_net.proofs.Standings.{no_script}
use Rattle.net_guests.proofs.Shared.{itself}
use Rattle.host_net.proofs.Passing.{player}
use Rattle.host_net.proofs.Replacing.{all_advanced, all_at_once, all_kept, all_lent_first, all_seated, clock_alone, is_clock, place_within}
use Rattle.host_net.proofs.Taking.{kept_itself}
use Rattle.net_locks.specs.declared.clock.Advance.TheVariants as advance
use Rattle.host_net.specs.Advancing.{GroupsAreKept, IsTaken, StayAtOnce, other_players}
use Rattle.host_net.specs.Groups.{Grouped, all_members, visits}
use Rattle.host_net.specs.Playing.{Playing}
use Rattle.host_net.proofs.advance.Net+J+WorldActor+J.advance_groups.Goals as goal

pub returns-in_default-clause-kept : goal.returns-in_default-clause-kept
returns-in_default-clause-kept g c =
    let w = g.J.Placing.world in
    subst (λ (l : List (Grouped g.row.T.Denot)). GroupsAreKept g.J.Placing.tasks w c.args.groups.now advance.Memory l) (sym (c.in_default.ensures.none refl))
    (kept_itself g.J.Placing.tasks w c.args.groups.now)

pub with_all-answer-requires-clause-clock : goal.with_all-answer-requires-clause-clock
with_all-answer-requires-clause-clock g c =
    let w = g.J.Placing.world in
    let r = g.J.Naming.run.roster in
    let p = player c.clock.inside.guest c.clock.inside.role c.clock.inside.task c.clock.inside.lost c.clock.inside.counts in
    let taken =
    subst (λ (x : Playing g.row.T.Denot). IsTaken c.args.groups.now x c.in-Some.place c.take_clock.new.groups) (sym c.clock.view_is) c.in-Some.ensures.some in
    is_clock g.J.Placing.tasks w r c.args.groups.now c.take_clock.new.groups c.in-Some.place p taken c.requires.dealt

pub with_all-answer-requires-clause-apart : goal.with_all-answer-requires-clause-apart
with_all-answer-requires-clause-apart g c =
    let w = g.J.Placing.world in
    let r = g.J.Naming.run.roster in
    let p = player c.clock.inside.guest c.clock.inside.role c.clock.inside.task c.clock.inside.lost c.clock.inside.counts in
    let taken =
    subst (λ (x : Playing g.row.T.Denot). IsTaken c.args.groups.now x c.in-Some.place c.take_clock.new.groups) (sym c.clock.view_is) c.in-Some.ensures.some in
    clock_alone g.J.Placing.tasks w r c.args.groups.now c.take_clock.new.groups c.in-Some.place p taken c.requires.dealt

pub with_all-answer-requires-clause-lent : goal.with_all-answer-requires-clause-lent
with_all-answer-requires-clause-lent g c =
    let w = g.J.Placing.world in
    let r = g.J.Naming.run.roster in
    let p = player c.clock.inside.guest c.clock.inside.role c.clock.inside.task c.clock.inside.lost c.clock.inside.counts in
    let taken =
    subst (λ (x : Playing g.row.T.Denot). IsTaken c.args.groups.now x c.in-Some.place c.take_clock.new.groups) (sym c.clock.view_is) c.in-Some.ensures.some in
    let mine = itself w r c.clock.inside.guest c.clock.inside.guest.sight refl c.guest_keeps.ensures in
    all_lent_first g.J.Placing.tasks w r c.args.groups.now c.take_clock.new.groups c.in-Some.place p taken c.requires.dealt c.args.grounds.standings.now c.requires.standings mine

pub put_clock-requires : goal.put_clock-requires
put_clock-requires g c =
    let w = g.J.Placing.world in
    let r = g.J.Naming.run.roster in
    let p = player c.clock.inside.guest c.clock.inside.role c.clock.inside.task c.clock.inside.lost c.clock.inside.counts in
    let taken =
    subst (λ (x : Playing g.row.T.Denot). IsTaken c.args.groups.now x c.in-Some.place c.take_clock.new.groups) (sym c.clock.view_is) c.in-Some.ensures.some in
    let q = player c.with_all-answer.new.clock c.clock.inside.role c.clock.inside.task c.clock.inside.lost c.clock.inside.counts in
    place_within g.J.Placing.tasks w r c.args.groups.now c.take_clock.new.groups c.in-Some.place p taken c.requires.dealt q c.with_all-answer.new.groups
    c.with_all-answer.ensures.groups

pub invariant_of-clock : goal.invariant_of-clock
invariant_of-clock g c =
    let w = g.J.Placing.world in
    let r = g.J.Naming.run.roster in
    let p = player c.clock.inside.guest c.clock.inside.role c.clock.inside.task c.clock.inside.lost c.clock.inside.counts in
    let taken =
    subst (λ (x : Playing g.row.T.Denot). IsTaken c.args.groups.now x c.in-Some.place c.take_clock.new.groups) (sym c.clock.view_is) c.in-Some.ensures.some in
    let mine = itself w r c.clock.inside.guest c.clock.inside.guest.sight refl c.guest_keeps.ensures in
    let clock = is_clock g.J.Placing.tasks w r c.args.groups.now c.take_clock.new.groups c.in-Some.place p taken c.requires.dealt in
    let caller = c.with_all-answer.ensures.clock.caller_is in (
      clock_player g.T.WholeTask.Goes g.J.Placing.tasks w c.clock.inside.guest c.with_all-answer.new.clock c.clock.inside.role c.clock.inside.task c.clock.inside.lost
          c.clock.invariant.0 caller clock
          (clock_played g.J.Placing.tasks w r (visits (other_players c.take_clock.new.groups)) c.clock.inside.guest c.with_all-answer.result c.with_all-answer.new.clock
          c.with_all-answer.ensures.clock mine c.clock.invariant.0.plays),
      λ counts. counts_none g.T.WholeTask.Plays w c.with_all-answer.new.clock c.clock.inside.task c.clock.inside.lost c.clock.inside.before
          (λ s script. no_script w c.clock.inside.guest.caller s clock (ap (caller_of w) (sym caller) ∙ script)),
    )

pub returns-in_default-clause-moment : goal.returns-in_default-clause-moment
returns-in_default-clause-moment g c =
    subst (λ (l : List (Grouped g.row.T.Denot)). StayAtOnce advance.Memory (visits (all_members c.args.groups.now)) (visits (all_members l)))
    (sym (c.in_default.ensures.none refl)) (λ m are. are)

pub returns-clause-seats : goal.returns-clause-seats
returns-clause-seats g c =
    let w = g.J.Placing.world in
    let r = g.J.Naming.run.roster in
    let p = player c.clock.inside.guest c.clock.inside.role c.clock.inside.task c.clock.inside.lost c.clock.inside.counts in
    let taken =
    subst (λ (x : Playing g.row.T.Denot). IsTaken c.args.groups.now x c.in-Some.place c.take_clock.new.groups) (sym c.clock.view_is) c.in-Some.ensures.some in
    let q = player c.with_all-answer.new.clock c.clock.inside.role c.clock.inside.task c.clock.inside.lost c.clock.inside.counts in
    let mine = itself w r c.clock.inside.guest c.clock.inside.guest.sight refl c.guest_keeps.ensures in
    all_seated g.J.Placing.tasks w r c.args.groups.now c.take_clock.new.groups c.in-Some.place p taken c.requires.dealt q c.with_all-answer.new.groups
    c.with_all-answer.ensures.groups
    c.with_all-answer.result c.with_all-answer.ensures.clock mine c.histories_are_their_callers.ensures
    (c.histories_of_guests_are_legal.ensures.but_scripts w r)
    (c.histories_of_guests_are_legal.ensures.net w r) refl refl refl refl c.put_clock.new.groups c.put_clock.ensures

pub returns-clause-kept : goal.returns-clause-kept
returns-clause-kept g c =
    let w = g.J.Placing.world in
    let r = g.J.Naming.run.roster in
    let p = player c.clock.inside.guest c.clock.inside.role c.clock.inside.task c.clock.inside.lost c.clock.inside.counts in
    let taken =
    subst (λ (x : Playing g.row.T.Denot). IsTaken c.args.groups.now x c.in-Some.place c.take_clock.new.groups) (sym c.clock.view_is) c.in-Some.ensures.some in
    let q = player c.with_all-answer.new.clock c.clock.inside.role c.clock.inside.task c.clock.inside.lost c.clock.inside.counts in
    let mine = itself w r c.clock.inside.guest c.clock.inside.guest.sight refl c.guest_keeps.ensures in
    all_kept g.J.Placing.tasks w r c.args.groups.now c.take_clock.new.groups c.in-Some.place p taken c.requires.dealt q c.with_all-answer.new.groups
    c.with_all-answer.ensures.groups
    c.with_all-answer.result c.with_all-answer.ensures.clock mine c.histories_are_their_callers.ensures
    (c.histories_of_guests_are_legal.ensures.but_scripts w r)
    (c.histories_of_guests_are_legal.ensures.net w r) refl refl refl refl c.put_clock.new.groups c.put_clock.ensures

pub returns-clause-moment : goal.returns-clause-moment
returns-clause-moment g c =
    let w = g.J.Placing.world in
    let r = g.J.Naming.run.roster in
    let p = player c.clock.inside.guest c.clock.inside.role c.clock.inside.task c.clock.inside.lost c.clock.inside.counts in
    let taken =
    subst (λ (x : Playing g.row.T.Denot). IsTaken c.args.groups.now x c.in-Some.place c.take_clock.new.groups) (sym c.clock.view_is) c.in-Some.ensures.some in
    let q = player c.with_all-answer.new.clock c.clock.inside.role c.clock.inside.task c.clock.inside.lost c.clock.inside.counts in
    let mine = itself w r c.clock.inside.guest c.clock.inside.guest.sight refl c.guest_keeps.ensures in
    all_at_once g.J.Placing.tasks w r c.args.groups.now c.take_clock.new.groups c.in-Some.place p taken c.requires.dealt q c.with_all-answer.new.groups
    c.with_all-answer.ensures.groups
    c.with_all-answer.result c.with_all-answer.ensures.clock mine c.histories_are_their_callers.ensures
    (c.histories_of_guests_are_legal.ensures.but_scripts w r)
    (c.histories_of_guests_are_legal.ensures.net w r) refl refl refl refl c.put_clock.new.groups c.put_clock.ensures

pub returns-clause-answer : goal.returns-clause-answer
returns-clause-answer g c =
    let w = g.J.Placing.world in
    let r = g.J.Naming.run.roster in
    let p = player c.clock.inside.guest c.clock.inside.role c.clock.inside.task c.clock.inside.lost c.clock.inside.counts in
    let taken =
    subst (λ (x : Playing g.row.T.Denot). IsTaken c.args.groups.now x c.in-Some.place c.take_clock.new.groups) (sym c.clock.view_is) c.in-Some.ensures.some in
    let q = player c.with_all-answer.new.clock c.clock.inside.role c.clock.inside.task c.clock.inside.lost c.clock.inside.counts in
    let mine = itself w r c.clock.inside.guest c.clock.inside.guest.sight refl c.guest_keeps.ensures in
    all_advanced g.J.Placing.tasks w r c.args.groups.now c.take_clock.new.groups c.in-Some.place p taken c.requires.dealt q c.with_all-answer.new.groups
    c.with_all-answer.ensures.groups
    c.with_all-answer.result c.with_all-answer.ensures.clock mine c.histories_are_their_callers.ensures
    (c.histories_of_guests_are_legal.ensures.but_scripts w r)
    (c.histories_of_guests_are_legal.ensures.net w r) refl refl refl refl c.put_clock.new.groups c.put_clock.ensures

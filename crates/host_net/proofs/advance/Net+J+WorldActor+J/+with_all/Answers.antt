use Rattle.std.proofs.Common.{◌≡◌, ◌==◌, ◌++◌, ◌∷◌, ◌+◌, ◌<◌, true, false, [], length, List, ap, sym, subst, ◌∙◌, arith}
use Rattle.std.proofs.lemmas.List.{nil_from_length}
use Rattle.net_base.specs.Callers.{caller_of}
use Rattle.host_net.specs.declared.player.Player.TheInside.{Inside}
use Rattle.host_net.proofs.Continuing.{own_stays}
use Rattle.host_net.proofs.Counting.{counts_stay}
use Rattle.host_net.proofs.Lending.{advances_at, all_stand, players_left}
use Rattle.host_net.proofs.Outcomes.{player_stays}
use Rattle.host_net.proofs.Passing.{OthersStay, advances_here, are_back, group_lists, mine_caller, mine_names}
use Rattle.host_net.proofs.Passing.{next_apart, next_lent, other, others_stay_here, player, still_with}
use Rattle.host_net.specs.Advancing.{Advances, AreBack, AreLent, other_players}
use Rattle.host_net.specs.Groups.{Grouped, callers_of, visits}
use Rattle.host_net.specs.Playing.{IsCounted, IsPlayer, Playing}
use Rattle.net_guests.specs.Visits.{Visit}
use Rattle.host_net.proofs.advance.Net+J+WorldActor+J.+with_all.Goals as goal

pub with_all-answer-requires : goal.with_all-answer-requires
with_all-answer-requires g t c κs within =
    let w = g.J.Placing.world in
    let r = g.J.Naming.run.roster in
    let me = c.first-inside.inside.0.0.bundle in
    let clock = c.clock.inside.bundle in
    let one =
    ap (λ (i : Inside g.row.J.Denot g.row.T.Denot). player i.guest i.role i.task i.lost i.counts) c.first-inside.view_is ∙ c.first.view_is in
    let apart = next_apart g.J.Placing.tasks w r c.first-inside.inside.0.1.0 c.first-inside.inside.0.1.1.0
    c.first-inside.inside.0.1.1.1.0 c.first-inside.inside.0.1.1.1.1.1.0 me.visit clock.visit
    c.args.clock.now c.in-Some.first.now c.in-Some.others.now c.args.players.now c.args.groups.now one c.in-Some.ensures.cases.0 c.clock.view_is
    c.args.grounds.standings.now c.requires.apart c.requires.lent c.lend.new.clock.visit c.lend.ensures.same c.lend.ensures.lent c.lend.ensures.others in
    let lent = next_lent g.J.Placing.tasks w r c.first-inside.inside.0.1.0 c.first-inside.inside.0.1.1.0
    c.first-inside.inside.0.1.1.1.0 c.first-inside.inside.0.1.1.1.1.1.0 me.visit clock.visit
    c.args.clock.now c.in-Some.first.now c.in-Some.others.now c.args.players.now c.args.groups.now one c.in-Some.ensures.cases.0 c.clock.view_is
    c.args.grounds.standings.now c.requires.apart c.requires.lent c.lend.new.clock.visit c.lend.ensures.same c.lend.ensures.lent c.lend.ensures.others in
    let less : length c.in-Some.others.now + players_left c.args.groups.now < t = omega (arith, c.in-Some.ensures.cases.1, c.decreases) in (
      less,
      (
        within.0,
        (
          within.1.0,
          (
            within.1.1.0,
            (
              within.1.1.1,
              (
                c.requires.world,
                (
                  c.requires.is,
                  (
                    ap (λ (v : Visit). caller_of w v.caller) c.lend.ensures.same
                        ∙ (ap (λ (v : Visit). caller_of w v.caller) c.clock.view_is ∙ c.requires.clock),
                    (apart, lent),
                  ),
                ),
              ),
            ),
          ),
        ),
      ),
    )

pub take_back-requires-clause-away : goal.take_back-requires-clause-away
take_back-requires-clause-away g t c =
    let w = g.J.Placing.world in
    let r = g.J.Naming.run.roster in
    let me = c.first-inside.inside.0.0.bundle in
    let clock = c.clock.inside.bundle in
    let one =
    ap (λ (i : Inside g.row.J.Denot g.row.T.Denot). player i.guest i.role i.task i.lost i.counts) c.first-inside.view_is ∙ c.first.view_is in
    let had = c.clock-in-Some.inside.bundle in (
      me.visit,
      c.lend.ensures.away,
      still_with g.J.Placing.tasks w r c.first-inside.inside.0.1.0 c.first-inside.inside.0.1.1.0
          c.first-inside.inside.0.1.1.1.0 c.first-inside.inside.0.1.1.1.1.1.0 me.visit clock.visit
          c.args.clock.now c.in-Some.first.now c.in-Some.others.now c.args.players.now c.args.groups.now one c.in-Some.ensures.cases.0 c.clock.view_is
          c.args.grounds.standings.now c.requires.apart c.requires.lent c.lend.new.clock.visit c.lend.ensures.same c.lend.ensures.lent c.lend.ensures.others
          had.visit c.with_all-answer.new.clock c.clock-in-Some.view_is c.with_all-answer.result c.with_all-answer.ensures.others
          c.with_all-answer.ensures.clock,
    )

pub take_back-requires-clause-other : goal.take_back-requires-clause-other
take_back-requires-clause-other g t c =
    let w = g.J.Placing.world in
    let r = g.J.Naming.run.roster in
    let me = c.first-inside.inside.0.0.bundle in
    let clock = c.clock.inside.bundle in
    let one =
    ap (λ (i : Inside g.row.J.Denot g.row.T.Denot). player i.guest i.role i.task i.lost i.counts) c.first-inside.view_is ∙ c.first.view_is in
    let had = c.clock-in-Some.inside.bundle in
    subst (λ (v : Visit). (had.visit.caller == v.caller) ≡ false) (sym c.lend.ensures.away.visit_is)
    (other g.J.Placing.tasks w r c.first-inside.inside.0.1.0 c.first-inside.inside.0.1.1.0
    c.first-inside.inside.0.1.1.1.0 c.first-inside.inside.0.1.1.1.1.1.0 me.visit clock.visit
    c.args.clock.now c.in-Some.first.now c.in-Some.others.now c.args.players.now c.args.groups.now one c.in-Some.ensures.cases.0 c.clock.view_is
    c.args.grounds.standings.now c.requires.apart c.requires.lent c.lend.new.clock.visit c.lend.ensures.same c.lend.ensures.lent c.lend.ensures.others
    had.visit c.with_all-answer.new.clock c.clock-in-Some.view_is c.with_all-answer.result c.with_all-answer.ensures.others
    c.with_all-answer.ensures.clock)

pub invariant_of-first : goal.invariant_of-first
invariant_of-first g t c =
    let w = g.J.Placing.world in
    let r = g.J.Naming.run.roster in
    let me = c.first-inside.inside.0.0.bundle in
    let clock = c.clock.inside.bundle in
    let one =
    ap (λ (i : Inside g.row.J.Denot g.row.T.Denot). player i.guest i.role i.task i.lost i.counts) c.first-inside.view_is ∙ c.first.view_is in
    let had = c.clock-in-Some.inside.bundle in
    let still = still_with g.J.Placing.tasks w r c.first-inside.inside.0.1.0 c.first-inside.inside.0.1.1.0
    c.first-inside.inside.0.1.1.1.0 c.first-inside.inside.0.1.1.1.1.1.0 me.visit clock.visit
    c.args.clock.now c.in-Some.first.now c.in-Some.others.now c.args.players.now c.args.groups.now one c.in-Some.ensures.cases.0 c.clock.view_is
    c.args.grounds.standings.now c.requires.apart c.requires.lent c.lend.new.clock.visit c.lend.ensures.same c.lend.ensures.lent c.lend.ensures.others
    had.visit c.with_all-answer.new.clock c.clock-in-Some.view_is c.with_all-answer.result c.with_all-answer.ensures.others
    c.with_all-answer.ensures.clock in
    let back = c.take_back.ensures.with_itself me.visit c.lend.ensures.away still in
    let was =
    subst (λ (i : Inside g.row.J.Denot g.row.T.Denot). IsPlayer g.T.WholeTask.Goes g.J.Placing.tasks w i.guest i.role i.task i.lost) (sym c.first-inside.view_is)
    c.first.invariant.0 in
    let counted =
    subst (λ (i : Inside g.row.J.Denot g.row.T.Denot). i.counts ≡ true → IsCounted g.T.WholeTask.Plays w i.guest i.task i.lost i.before)
    (sym c.first-inside.view_is) c.first.invariant.1 in
    let later = c.take_back.new.self.visit in
    let caller = mine_caller g.J.Placing.tasks w r c.first-inside.inside.0.1.0 c.first-inside.inside.0.1.1.0
    c.first-inside.inside.0.1.1.1.0 c.first-inside.inside.0.1.1.1.1.1.0 me.visit clock.visit
    c.args.clock.now c.in-Some.first.now c.in-Some.others.now c.args.players.now c.args.groups.now one c.in-Some.ensures.cases.0 c.clock.view_is
    c.args.grounds.standings.now c.requires.apart c.requires.lent c.lend.new.clock.visit c.lend.ensures.same c.lend.ensures.lent c.lend.ensures.others
    had.visit c.with_all-answer.new.clock c.clock-in-Some.view_is c.with_all-answer.result c.with_all-answer.ensures.others
    c.with_all-answer.ensures.clock
    c.lend.new.self.visit c.take_back.new.self.visit c.take_back.new.clock.visit c.lend.ensures.away.visit_is c.take_back.ensures.back back
    c.take_back.ensures.same c.take_back.ensures.seen c.take_back.ensures.others in
    let names = mine_names g.J.Placing.tasks w r c.first-inside.inside.0.1.0 c.first-inside.inside.0.1.1.0
    c.first-inside.inside.0.1.1.1.0 c.first-inside.inside.0.1.1.1.1.1.0 me.visit clock.visit
    c.args.clock.now c.in-Some.first.now c.in-Some.others.now c.args.players.now c.args.groups.now one c.in-Some.ensures.cases.0 c.clock.view_is
    c.args.grounds.standings.now c.requires.apart c.requires.lent c.lend.new.clock.visit c.lend.ensures.same c.lend.ensures.lent c.lend.ensures.others
    had.visit c.with_all-answer.new.clock c.clock-in-Some.view_is c.with_all-answer.result c.with_all-answer.ensures.others
    c.with_all-answer.ensures.clock
    c.lend.new.self.visit c.take_back.new.self.visit c.take_back.new.clock.visit c.lend.ensures.away.visit_is c.take_back.ensures.back back
    c.take_back.ensures.same c.take_back.ensures.seen c.take_back.ensures.others in (
      player_stays g.T.WholeTask.Goes g.J.Placing.tasks w me.visit later c.first-inside.inside.0.1.0 c.first-inside.inside.0.1.1.0 c.first-inside.inside.0.1.1.1.0 was caller names
          back.stays,
      λ counts. counts_stay g.T.WholeTask.Plays w me.visit later c.first-inside.inside.0.1.1.0 c.first-inside.inside.0.1.1.1.0
          c.first-inside.inside.0.1.1.1.1.0 (counted counts) caller names
          (own_stays me.visit.caller me.visit.sight.seen later.sight.seen back.stays.alone),
    )

pub decide-requires-clause-all : goal.decide-requires-clause-all
decide-requires-clause-all g t c =
    let w = g.J.Placing.world in
    let r = g.J.Naming.run.roster in
    let none : c.args.players.now ++ other_players c.args.groups.now ≡ [] =
    ap (λ (l : List (Playing g.row.T.Denot)). l ++ other_players c.args.groups.now) (nil_from_length c.args.players.now c.in-None.ensures.cases)
    ∙ ap other_players (nil_from_length c.args.groups.now c.in-None-split_first_mut.ensures.cases) in
    all_stand g.J.Placing.tasks w r c.args.clock.now.sight c.args.grounds.standings.now
    (subst (λ (l : List (Playing g.row.T.Denot)). AreLent g.J.Placing.tasks w r (visits l) c.args.clock.now.sight c.args.grounds.standings.now) none c.requires.lent)

pub returns-in-Some-clause-others : goal.returns-in-Some-clause-others
returns-in-Some-clause-others g t c =
    let w = g.J.Placing.world in
    let r = g.J.Naming.run.roster in
    let me = c.first-inside.inside.0.0.bundle in
    let clock = c.clock.inside.bundle in
    let one =
    ap (λ (i : Inside g.row.J.Denot g.row.T.Denot). player i.guest i.role i.task i.lost i.counts) c.first-inside.view_is ∙ c.first.view_is in
    let had = c.clock-in-Some.inside.bundle in
    let still = still_with g.J.Placing.tasks w r c.first-inside.inside.0.1.0 c.first-inside.inside.0.1.1.0
    c.first-inside.inside.0.1.1.1.0 c.first-inside.inside.0.1.1.1.1.1.0 me.visit clock.visit
    c.args.clock.now c.in-Some.first.now c.in-Some.others.now c.args.players.now c.args.groups.now one c.in-Some.ensures.cases.0 c.clock.view_is
    c.args.grounds.standings.now c.requires.apart c.requires.lent c.lend.new.clock.visit c.lend.ensures.same c.lend.ensures.lent c.lend.ensures.others
    had.visit c.with_all-answer.new.clock c.clock-in-Some.view_is c.with_all-answer.result c.with_all-answer.ensures.others
    c.with_all-answer.ensures.clock in
    let back = c.take_back.ensures.with_itself me.visit c.lend.ensures.away still in
    others_stay_here g.J.Placing.tasks w r c.first-inside.inside.0.1.0 c.first-inside.inside.0.1.1.0
    c.first-inside.inside.0.1.1.1.0 c.first-inside.inside.0.1.1.1.1.1.0 me.visit clock.visit
    c.args.clock.now c.in-Some.first.now c.in-Some.others.now c.args.players.now c.args.groups.now one c.in-Some.ensures.cases.0 c.clock.view_is
    c.args.grounds.standings.now c.requires.apart c.requires.lent c.lend.new.clock.visit c.lend.ensures.same c.lend.ensures.lent c.lend.ensures.others
    had.visit c.with_all-answer.new.clock c.clock-in-Some.view_is c.with_all-answer.result c.with_all-answer.ensures.others
    c.with_all-answer.ensures.clock
    c.lend.new.self.visit c.take_back.new.self.visit c.take_back.new.clock.visit c.lend.ensures.away.visit_is c.take_back.ensures.back back
    c.take_back.ensures.same c.take_back.ensures.seen c.take_back.ensures.others

pub returns-in-Some-clause-clock : goal.returns-in-Some-clause-clock
returns-in-Some-clause-clock g t c =
    let w = g.J.Placing.world in
    let r = g.J.Naming.run.roster in
    let me = c.first-inside.inside.0.0.bundle in
    let clock = c.clock.inside.bundle in
    let one =
    ap (λ (i : Inside g.row.J.Denot g.row.T.Denot). player i.guest i.role i.task i.lost i.counts) c.first-inside.view_is ∙ c.first.view_is in
    let had = c.clock-in-Some.inside.bundle in
    let still = still_with g.J.Placing.tasks w r c.first-inside.inside.0.1.0 c.first-inside.inside.0.1.1.0
    c.first-inside.inside.0.1.1.1.0 c.first-inside.inside.0.1.1.1.1.1.0 me.visit clock.visit
    c.args.clock.now c.in-Some.first.now c.in-Some.others.now c.args.players.now c.args.groups.now one c.in-Some.ensures.cases.0 c.clock.view_is
    c.args.grounds.standings.now c.requires.apart c.requires.lent c.lend.new.clock.visit c.lend.ensures.same c.lend.ensures.lent c.lend.ensures.others
    had.visit c.with_all-answer.new.clock c.clock-in-Some.view_is c.with_all-answer.result c.with_all-answer.ensures.others
    c.with_all-answer.ensures.clock in
    let back = c.take_back.ensures.with_itself me.visit c.lend.ensures.away still in
    advances_here g.J.Placing.tasks w r c.first-inside.inside.0.1.0 c.first-inside.inside.0.1.1.0
    c.first-inside.inside.0.1.1.1.0 c.first-inside.inside.0.1.1.1.1.1.0 me.visit clock.visit
    c.args.clock.now c.in-Some.first.now c.in-Some.others.now c.args.players.now c.args.groups.now one c.in-Some.ensures.cases.0 c.clock.view_is
    c.args.grounds.standings.now c.requires.apart c.requires.lent c.lend.new.clock.visit c.lend.ensures.same c.lend.ensures.lent c.lend.ensures.others
    had.visit c.with_all-answer.new.clock c.clock-in-Some.view_is c.with_all-answer.result c.with_all-answer.ensures.others
    c.with_all-answer.ensures.clock
    c.lend.new.self.visit c.take_back.new.self.visit c.take_back.new.clock.visit c.lend.ensures.away.visit_is c.take_back.ensures.back back
    c.take_back.ensures.same c.take_back.ensures.seen c.take_back.ensures.others

pub returns-in-Some-clause-players : goal.returns-in-Some-clause-players
returns-in-Some-clause-players g t c =
    let w = g.J.Placing.world in
    let r = g.J.Naming.run.roster in
    let me = c.first-inside.inside.0.0.bundle in
    let clock = c.clock.inside.bundle in
    let one =
    ap (λ (i : Inside g.row.J.Denot g.row.T.Denot). player i.guest i.role i.task i.lost i.counts) c.first-inside.view_is ∙ c.first.view_is in
    let had = c.clock-in-Some.inside.bundle in
    let still = still_with g.J.Placing.tasks w r c.first-inside.inside.0.1.0 c.first-inside.inside.0.1.1.0
    c.first-inside.inside.0.1.1.1.0 c.first-inside.inside.0.1.1.1.1.1.0 me.visit clock.visit
    c.args.clock.now c.in-Some.first.now c.in-Some.others.now c.args.players.now c.args.groups.now one c.in-Some.ensures.cases.0 c.clock.view_is
    c.args.grounds.standings.now c.requires.apart c.requires.lent c.lend.new.clock.visit c.lend.ensures.same c.lend.ensures.lent c.lend.ensures.others
    had.visit c.with_all-answer.new.clock c.clock-in-Some.view_is c.with_all-answer.result c.with_all-answer.ensures.others
    c.with_all-answer.ensures.clock in
    let back = c.take_back.ensures.with_itself me.visit c.lend.ensures.away still in
    are_back g.J.Placing.tasks w r c.first-inside.inside.0.1.0 c.first-inside.inside.0.1.1.0
    c.first-inside.inside.0.1.1.1.0 c.first-inside.inside.0.1.1.1.1.1.0 me.visit clock.visit
    c.args.clock.now c.in-Some.first.now c.in-Some.others.now c.args.players.now c.args.groups.now one c.in-Some.ensures.cases.0 c.clock.view_is
    c.args.grounds.standings.now c.requires.apart c.requires.lent c.lend.new.clock.visit c.lend.ensures.same c.lend.ensures.lent c.lend.ensures.others
    had.visit c.with_all-answer.new.clock c.clock-in-Some.view_is c.with_all-answer.result c.with_all-answer.ensures.others
    c.with_all-answer.ensures.clock
    c.lend.new.self.visit c.take_back.new.self.visit c.take_back.new.clock.visit c.lend.ensures.away.visit_is c.take_back.ensures.back back
    c.take_back.ensures.same c.take_back.ensures.seen c.take_back.ensures.others
    c.with_all-answer.new.players
    (subst (λ (v : Visit). AreBack w v.now c.in-Some.others.now c.with_all-answer.new.players)
    (sym c.clock-in-Some.view_is) c.with_all-answer.ensures.players)

pub returns-in-Some-split_first_mut-clause-others : goal.returns-in-Some-split_first_mut-clause-others
returns-in-Some-split_first_mut-clause-others g t c =
    let w = g.J.Placing.world in
    let r = g.J.Naming.run.roster in
    let same =
    group_lists c.args.players.now c.args.groups.now c.in-Some-split_first_mut.group.now c.in-Some-split_first_mut.rest.now c.as_mut_slice-players.result.now
    (nil_from_length c.args.players.now c.in-None.ensures.cases) c.in-Some-split_first_mut.ensures.cases.0
    (c.as_mut_slice-players.ensures.value ∙ ap (λ (x : Grouped g.row.T.Denot). x.players) c.group.view_is) in
    subst (λ (l : List (Playing g.row.T.Denot)). OthersStay w r (c.args.clock.now.caller ∷ callers_of l)
    c.args.clock.now.sight c.with_all.new.clock.sight) (sym same)
    c.with_all.ensures.others

pub returns-in-Some-split_first_mut-clause-clock : goal.returns-in-Some-split_first_mut-clause-clock
returns-in-Some-split_first_mut-clause-clock g t c =
    let w = g.J.Placing.world in
    let r = g.J.Naming.run.roster in
    let same =
    group_lists c.args.players.now c.args.groups.now c.in-Some-split_first_mut.group.now c.in-Some-split_first_mut.rest.now c.as_mut_slice-players.result.now
    (nil_from_length c.args.players.now c.in-None.ensures.cases) c.in-Some-split_first_mut.ensures.cases.0
    (c.as_mut_slice-players.ensures.value ∙ ap (λ (x : Grouped g.row.T.Denot). x.players) c.group.view_is) in
    subst (λ (l : List (Playing g.row.T.Denot)). Advances g.J.Placing.tasks w r (visits l) c.args.clock.now c.with_all.result c.with_all.new.clock) (sym same)
    c.with_all.ensures.clock

pub returns-in-None-split_first_mut-clause-others : goal.returns-in-None-split_first_mut-clause-others
returns-in-None-split_first_mut-clause-others g t c v none is = c.decide.ensures.leaves.others v is none.0

pub returns-in-None-split_first_mut-clause-clock : goal.returns-in-None-split_first_mut-clause-clock
returns-in-None-split_first_mut-clause-clock g t c =
    let w = g.J.Placing.world in
    let r = g.J.Naming.run.roster in
    let leaves = c.decide.ensures.leaves in
    let none : c.args.players.now ++ other_players c.args.groups.now ≡ [] =
    ap (λ (l : List (Playing g.row.T.Denot)). l ++ other_players c.args.groups.now) (nil_from_length c.args.players.now c.in-None.ensures.cases)
    ∙ ap other_players (nil_from_length c.args.groups.now c.in-None-split_first_mut.ensures.cases) in
    subst (λ (l : List (Playing g.row.T.Denot)). Advances g.J.Placing.tasks w r (visits l) c.args.clock.now c.decide.result c.decide.new.clock) (sym none)
    (advances_at g.J.Placing.tasks w r c.args.clock.now c.decide.result c.decide.new.clock c.decide.ensures.guests leaves.decided leaves.caller leaves.names
    leaves.nexts leaves.timely)

pub returns-in-None-split_first_mut-clause-players : goal.returns-in-None-split_first_mut-clause-players
returns-in-None-split_first_mut-clause-players g t c =
    subst (λ (l : List (Playing g.row.T.Denot)). AreBack g.J.Placing.world c.decide.new.clock.now l l)
    (sym (nil_from_length c.args.players.now c.in-None.ensures.cases)) tt

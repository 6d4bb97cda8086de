use Rattle.std.proofs.Common.{sym, subst}
use Rattle.std.proofs.lemmas.List.{nil_from_length}
use Rattle.host_net.specs.Groups.{AreWaiting, all_members, members}
use Rattle.host_net.proofs.Seating.{seats_on, some_short, waiting_parts}
use Rattle.host_net.proofs.players.Net+J+WorldActor+J.+play_all.Goals as goal

pub returns-in-Some-clause-seats : goal.returns-in-Some-clause-seats
returns-in-Some-clause-seats g t c =
    seats_on c.args.groups.now c.in-Some.group.now c.play_round-first.new.group c.in-Some.others.now c.play_all-rest.new.groups c.in-Some.ensures.cases.0
    c.play_round-first.ensures.seats c.play_all-rest.ensures.seats

pub returns-in-Some-clause-rest : goal.returns-in-Some-clause-rest
returns-in-Some-clause-rest g t c = λ whole waits.
    let two = c.both.ensures.waits waits in
    waiting_parts g.J.Placing.tasks g.J.Placing.world (members c.play_round-first.new.group) (all_members c.play_all-rest.new.groups)
    (c.play_round-first.ensures.rest whole two.0)
    (c.play_all-rest.ensures.rest whole two.1)

pub returns-in-Some-clause-short : goal.returns-in-Some-clause-short
returns-in-Some-clause-short g t c = λ memory.
    some_short c.play_round-first.new.group c.play_all-rest.new.groups c.play_round-first.ensures.short c.play_all-rest.ensures.short
    (c.both.ensures.short memory)

pub returns-in-None-clause-rest : goal.returns-in-None-clause-rest
returns-in-None-clause-rest g t c = λ whole waits.
    subst (λ l. AreWaiting g.J.Placing.tasks g.J.Placing.world (all_members l)) (sym (nil_from_length c.args.groups.now c.in-None.ensures.cases)) (λ p there. absurd there)

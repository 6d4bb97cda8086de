use Rattle.std.proofs.Common.{◌≡◌, List, length, false, ap, sym, subst, ◌∙◌}
use Rattle.std.specs.List.{list_any}
use Rattle.host_net.specs.Groups.{AreWaiting, FollowsDeal, IsDealt, Seats, all_members, all_seats}
use Rattle.host_net.proofs.Joining.{written}
use Rattle.host_net.proofs.Seating.{as_many}
use Rattle.host_net.proofs.players.Net+J+WorldActor+J.play_phase.Goals as goal

pub invariant_of-players : goal.invariant_of-players
invariant_of-players g c =
    let p = c.players.inside in
    let there = c.deref_mut.ensures.value in
    let same = c.play_groups.ensures.seats in
    let wrote = written c.play_groups.new.groups p.groups.items p.groups.len p.groups.ok.0
    (as_many c.play_groups.new.groups c.deref_mut.result.now same ∙ ap length there) in
    subst (λ (ss : List Seats). IsDealt g.J.Placing.world p.callers ss × FollowsDeal p.deal.items ss)
    (sym (ap (λ l. all_seats l) wrote ∙ (same ∙ ap (λ l. all_seats l) there))) c.players.invariant

pub returns-clause-seats : goal.returns-clause-seats
returns-clause-seats g c =
    let p = c.players.inside in
    let there = c.deref_mut.ensures.value in
    let same = c.play_groups.ensures.seats in
    let wrote = written c.play_groups.new.groups p.groups.items p.groups.len p.groups.ok.0
    (as_many c.play_groups.new.groups c.deref_mut.result.now same ∙ ap length there) in
    ap (λ l. all_seats l) wrote ∙ (same ∙ (ap (λ l. all_seats l) there ∙ ap (λ x. all_seats x.groups) c.players.view_is))

pub returns-clause-rest : goal.returns-clause-rest
returns-clause-rest g c =
    let p = c.players.inside in
    let there = c.deref_mut.ensures.value in
    let same = c.play_groups.ensures.seats in
    let wrote = written c.play_groups.new.groups p.groups.items p.groups.len p.groups.ok.0
    (as_many c.play_groups.new.groups c.deref_mut.result.now same ∙ ap length there) in
    subst (λ l. list_any (λ x. x.memory) l ≡ false → AreWaiting g.J.Placing.tasks g.J.Placing.world (all_members l)) (sym wrote) c.play_groups.ensures.rest

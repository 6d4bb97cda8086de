use Rattle.std.proofs.Common.{◌≡◌, ◌++◌, List, [], ◌∷◌, length, length-append, reverse, ap, sym, subst, ◌∙◌, arith}
use Rattle.std.proofs.lemmas.List.{append-nil, reverse-reverse, nil_from_length}
use Rattle.host_net.specs.Groups.{IsDealt, all_members, all_seats, visits}
use Rattle.host_net.specs.Playing.{AreVisitsPlayed}
use Rattle.net_guests.specs.Visits.{HasGuest, Visit}
use Rattle.host_net.proofs.Seating.{groups_on, has_guest}
use Rattle.host_net.proofs.players.Players.into_guests.Goals as goal

pub loop-group-init : goal.loop-group-init
loop-group-init g c = (
  ap (λ (l : List Visit). l ++ visits (all_members (reverse c.reverse.new.self.items))) c.in_ok-guests.ensures.items
      ∙ (ap (λ l. visits (all_members l)) (ap reverse c.reverse.ensures.items ∙ reverse-reverse c.self.inside.groups.items)
      ∙ ap (λ x. visits (all_members x.groups)) c.self.view_is),
  subst (λ (l : List Visit). AreVisitsPlayed g.J.Placing.tasks g.J.Placing.world l) (sym c.in_ok-guests.ensures.items) (λ v there. absurd there),
)

pub loop-group-smaller : goal.loop-group-smaller
loop-group-smaller g c = omega (arith, ap length c.in-Some.ensures.items ∙ length-append c.pop.new.self.items (c.in-Some.group ∷ []))

pub loop-group-preserved : goal.loop-group-preserved
loop-group-preserved g c = (
  groups_on c.loop-group.guests.items c.add_guests.new.guests.items _ c.loop-group.groups.items c.pop.new.self.items c.in-Some.group c.loop-group.invariant.0
      c.in-Some.ensures.items c.in_ok-add_guests.ensures.same,
  c.in_ok-add_guests.ensures.plays c.loop-group.invariant.1,
)

pub returns-clause-same : goal.returns-clause-same
returns-clause-same g c =
    let none_left : c.loop-group.groups.items ≡ [] = nil_from_length c.loop-group.groups.items (omega (arith, c.in_default.ensures.cases.0, c.loop-group.groups.ok.0)) in
    sym (append-nil c.loop-group.guests.items)
    ∙ (ap (λ l. c.loop-group.guests.items ++ visits (all_members (reverse l))) (sym none_left) ∙ c.loop-group.invariant.0)

pub returns-clause-all : goal.returns-clause-all
returns-clause-all g c k lt =
    subst (λ (l : List Visit). HasGuest k l) (sym (returns-clause-same g c))
    (has_guest g.J.Placing.world c.args.self.callers c.args.self.groups
    (subst (λ x. IsDealt g.J.Placing.world x.callers (all_seats x.groups)) c.self.view_is c.self.invariant.0) k lt)

use Rattle.std.proofs.Common.{◌++◌, ◌∷◌, List, [], ap, sym, subst, ◌∙◌}
use Rattle.std.proofs.lemmas.List.{append-nil}
use Rattle.host_net.specs.Groups.{visits, with_last}
use Rattle.host_net.specs.Playing.{AreVisitsPlayed}
use Rattle.net_guests.specs.Visits.{Visit}
use Rattle.host_net.proofs.Seating.{plays_more}
use Rattle.host_net.proofs.players.add_clock.Goals as goal

pub returns-in-None-clause-same : goal.returns-in-None-clause-same
returns-in-None-clause-same g c =
    let vs = c.args.guests.now.items in
    sym (append-nil vs) ∙ ap (λ o. vs ++ visits (with_last [] o)) (sym c.in-None.is)

pub returns-in_ok-push-in-Some-clause-plays : goal.returns-in_ok-push-in-Some-clause-plays
returns-in_ok-push-in-Some-clause-plays g c = λ are.
    subst (λ (l : List Visit). AreVisitsPlayed g.J.Placing.tasks g.J.Placing.world l) (sym c.in_ok-push-in-Some.ensures.items)
    (plays_more g.J.Placing.tasks g.J.Placing.world c.args.guests.now.items c.into_guest.result are c.into_guest.ensures.plays)

pub returns-in_ok-push-in-Some-clause-same : goal.returns-in_ok-push-in-Some-clause-same
returns-in_ok-push-in-Some-clause-same g c =
    let vs = c.args.guests.now.items in
    c.in_ok-push-in-Some.ensures.items
    ∙ (ap (λ (v : Visit). vs ++ v ∷ []) c.into_guest.ensures.same ∙ ap (λ o. vs ++ visits (with_last [] o)) (sym c.in-Some.is))

use Rattle.std.proofs.Common.{◌++◌, List, [], ap, ◌∙◌}
use Rattle.host_net.specs.Groups.{members, visits, with_last}
use Rattle.host_net.specs.Playing.{guests_of}
use Rattle.net_guests.specs.Visits.{Visit}
use Rattle.host_net.proofs.Joining.{group_visits}
use Rattle.host_net.proofs.players.add_parts.Goals as goal

pub returns-clause-same : goal.returns-clause-same
returns-clause-same g c =
    let vs = guests_of c.args.parts.now.items in
    let p = c.group.inside in
    c.in_ok-add_clock_part.ensures.same
    ∙ (ap (λ (l : List Visit). l ++ visits (with_last [] p.clock)) c.in_ok-add_player_parts.ensures.same
    ∙ (group_visits vs p.players.items p.clock ∙ ap (λ x. vs ++ visits (members x)) c.group.view_is))

use Rattle.std.proofs.Common.{◌++◌, ◌∷◌, [], ap, sym, ◌∙◌}
use Rattle.std.proofs.lemmas.List.{append-nil}
use Rattle.host_net.specs.Groups.{visits, with_last}
use Rattle.host_net.specs.Playing.{guests_of}
use Rattle.host_net.proofs.Parting.{goes_part, guests_push, plays_part}
use Rattle.host_net.proofs.players.add_clock_part.Goals as goal

pub returns-in-None-clause-same : goal.returns-in-None-clause-same
returns-in-None-clause-same g c =
    let vs = guests_of c.args.parts.now.items in
    sym (append-nil vs) ∙ ap (λ o. vs ++ visits (with_last [] o)) (sym c.in-None.is)

pub returns-in_ok-push-in-Some-clause-plays : goal.returns-in_ok-push-in-Some-clause-plays
returns-in_ok-push-in-Some-clause-plays g c = λ are.
    plays_part g.J.Placing.tasks g.J.Placing.world c.args.parts.now.items c.push.new.self.items c.in_ok-part-in-Some.part
    c.in_ok-push-in-Some.ensures.items are c.in_ok-part-in-Some.ensures.plays

pub returns-in_ok-push-in-Some-clause-goes : goal.returns-in_ok-push-in-Some-clause-goes
returns-in_ok-push-in-Some-clause-goes g c = λ are.
    goes_part g.T.WholeTask.Goes g.J.Placing.tasks g.J.Placing.world c.args.parts.now.items c.push.new.self.items c.in_ok-part-in-Some.part
    c.in_ok-push-in-Some.ensures.items are c.in_ok-part-in-Some.ensures.goes

pub returns-in_ok-push-in-Some-clause-same : goal.returns-in_ok-push-in-Some-clause-same
returns-in_ok-push-in-Some-clause-same g c =
    let vs = guests_of c.args.parts.now.items in
    guests_push c.args.parts.now.items c.push.new.self.items c.in_ok-part-in-Some.part c.in_ok-push-in-Some.ensures.items
    ∙ (ap (λ x. vs ++ x.0 ∷ []) c.in_ok-part-in-Some.ensures.same ∙ ap (λ o. vs ++ visits (with_last [] o)) (sym c.in-Some.is))

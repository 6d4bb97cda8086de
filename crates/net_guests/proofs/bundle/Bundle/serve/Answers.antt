use Rattle.std.proofs.Common.{Some, slice_get, ap, sym, subst, ◌∙◌}
use Rattle.duties.specs.Queue.{work_of_duty}
use Rattle.net_guests.specs.Visits.{Carried, IsComplete, TakesPasses, visit_of}
use Rattle.net_guests.proofs.Firsts.{first_some}
use Rattle.net_guests.proofs.Operating.{hosted_on}
use Rattle.net_guests.proofs.bundle.Bundle.serve.Goals as goal

pub serve-requires-clause-complete : goal.serve-requires-clause-complete
serve-requires-clause-complete g c =
    let is = subst (λ (b : Carried). IsComplete g.J.Placing.world g.J.Naming.run.roster b) (sym c.self.view_is) c.requires.complete in
    is.visit

pub serve-requires-clause-some : goal.serve-requires-clause-some
serve-requires-clause-some g c =
    let first = first_some c.args.self.now.visit.owed c.requires.owes in
    (first.0, ap (λ (b : Carried). slice_get b.visit.owed 0) c.self.view_is ∙ first.1)

pub returns-clause-turn : goal.returns-clause-turn
returns-clause-turn g c d is =
    let new = visit_of c.serve.new.visitor c.self.inside.fids.names in
    subst (λ (b : Carried). TakesPasses g.J.Placing.tasks g.J.Placing.world d.actor (work_of_duty d) (Some d.cites) b.visit c.serve.result new) c.self.view_is
    (c.serve.ensures.turn d (ap (λ (b : Carried). slice_get b.visit.owed 0) c.self.view_is ∙ is))

pub returns-clause-complete : goal.returns-clause-complete
returns-clause-complete g c =
    let w = g.J.Placing.world in
    let r = g.J.Naming.run.roster in
    let is = subst (λ (b : Carried). IsComplete w r b) (sym c.self.view_is) c.requires.complete in
    hosted_on w r c.self.inside.visitor c.serve.new.visitor c.self.inside.host c.serve.ensures.same.caller is.home c.serve.ensures.complete

pub returns-clause-same : goal.returns-clause-same
returns-clause-same g c =
    record {
      caller = c.serve.ensures.same.caller ∙ ap (λ (b : Carried). b.visit.caller) c.self.view_is;
      now = c.serve.ensures.same.now ∙ ap (λ (b : Carried). b.visit.now) c.self.view_is;
    }

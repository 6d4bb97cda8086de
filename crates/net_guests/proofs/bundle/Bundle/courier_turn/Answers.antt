use Rattle.std.proofs.Common.{ap, sym, subst, ◌∙◌}
use Rattle.net_guests.specs.Visits.{Carried, IsComplete}
use Rattle.net_guests.proofs.Operating.{hosted_on}
use Rattle.net_guests.proofs.bundle.Bundle.courier_turn.Goals as goal

pub own-requires-clause-complete : goal.own-requires-clause-complete
own-requires-clause-complete g c =
    let is = subst (λ (b : Carried). IsComplete g.J.Placing.world g.J.Naming.run.roster b) (sym c.self.view_is) c.requires.complete in
    is.visit

pub returns-clause-complete : goal.returns-clause-complete
returns-clause-complete g c =
    let w = g.J.Placing.world in
    let r = g.J.Naming.run.roster in
    let is = subst (λ (b : Carried). IsComplete w r b) (sym c.self.view_is) c.requires.complete in
    hosted_on w r c.self.inside.visitor c.own.new.visitor c.self.inside.host c.own.ensures.same.caller is.home c.own.ensures.complete

pub returns-clause-same : goal.returns-clause-same
returns-clause-same g c =
    record {
      caller = c.own.ensures.same.caller ∙ ap (λ (b : Carried). b.visit.caller) c.self.view_is;
      now = c.own.ensures.same.now ∙ ap (λ (b : Carried). b.visit.now) c.self.view_is;
    }

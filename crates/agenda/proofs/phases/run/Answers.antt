use Rattle.std.proofs.Common.{List, sym, subst}
use Rattle.net_base.specs.declared.history.Entry.{Entry}
use Rattle.net_base.specs.Legal.{IsLegal, IsTimed}
use Rattle.net_base.specs.Net.{after}
use Rattle.net_base.specs.Ends.{EndsSo}
use Rattle.agenda.proofs.phases.run.Goals as goal

pub returns-clause-legal : goal.returns-clause-legal
returns-clause-legal g c =
    subst (λ (h : List Entry). IsLegal c.args.world.now h) (sym c.in_ok-history.ensures) c.in_ok-books.ensures.legal

pub returns-clause-timed : goal.returns-clause-timed
returns-clause-timed g c =
    subst (λ (h : List Entry). IsTimed c.args.world.now h) (sym c.in_ok-history.ensures) c.in_ok-books.ensures.timed

pub returns-clause-end : goal.returns-clause-end
returns-clause-end g c =
    let w = c.args.world.now in
    subst (λ (h : List Entry). EndsSo w (after w h) c.in_ok-books.field-0.end) (sym c.in_ok-history.ensures) c.in_ok-books.ensures.end

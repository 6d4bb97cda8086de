use Rattle.std.proofs.Common.{sym, subst, ◌∙◌}
use Rattle.host_net.proofs.Answered.{answered_free, answered_owing, tells_free, tells_lost, tells_nothing, tells_owing}
use Rattle.host_net.proofs.Keeping.{playing}
use Rattle.host_net.specs.Answering.{AreStepsAnswered}
use Rattle.host_net.proofs.player.Player.answered.Goals as goal

pub returns-then-not-self-clause-none : goal.returns-then-not-self-clause-none
returns-then-not-self-clause-none g c =
    let p = c.self.inside in
    tells_nothing (playing p.guest p.role p.task p.lost p.counts) c.args.self.now c.self.view_is c.if-not-self.true

pub returns-then-owes-clause-count : goal.returns-then-owes-clause-count
returns-then-owes-clause-count g c =
    let p = c.self.inside in
    subst (λ x. AreStepsAnswered g.J.Placing.world x.visit p.before) c.self.view_is
    (answered_owing g.T.WholeTask.Plays g.J.Placing.world p.guest p.task p.lost p.before
    (c.self.invariant.1 c.if-not-self.false) (sym c.owes.ensures ∙ c.if-owes.true))

pub returns-then-owes-clause-tells : goal.returns-then-owes-clause-tells
returns-then-owes-clause-tells g c =
    let p = c.self.inside in
    tells_owing (playing p.guest p.role p.task p.lost p.counts) c.args.self.now c.self.view_is c.if-not-self.false
    (sym c.owes.ensures ∙ c.if-owes.true)

pub returns-then-self-clause-none : goal.returns-then-self-clause-none
returns-then-self-clause-none g c =
    let p = c.self.inside in
    tells_lost (playing p.guest p.role p.task p.lost p.counts) c.args.self.now c.self.view_is
    (sym c.owes.ensures ∙ c.if-owes.false) c.if-self.true

pub returns-clause-count : goal.returns-clause-count
returns-clause-count g c =
    let p = c.self.inside in
    subst (λ x. AreStepsAnswered g.J.Placing.world x.visit c.finished.result) c.self.view_is
    (answered_free g.T.WholeTask.Plays g.J.Placing.world p.guest p.task p.lost p.before
    (c.self.invariant.1 c.if-not-self.false) c.finished.result c.if-self.false
    (sym c.owes.ensures ∙ c.if-owes.false) c.finished.ensures)

pub returns-clause-tells : goal.returns-clause-tells
returns-clause-tells g c =
    let p = c.self.inside in
    tells_free (playing p.guest p.role p.task p.lost p.counts) c.args.self.now c.self.view_is c.if-not-self.false
    c.if-self.false

use Rattle.std.proofs.Common.{◌≡◌, Some, None, ap, sym, subst, ◌∙◌}
use Rattle.net_base.specs.declared.history.Work.{Work}
use Rattle.net_base.specs.Callers.{caller_of}
use Rattle.net_base.specs.Next.{next_by}
use Rattle.net_base.specs.Steps.{Names}
use Rattle.net_base.specs.Requests.{planned}
use Rattle.net_locks.specs.Works.{entries}
use Rattle.net_locks.specs.Standings.{standing_ask}
use Rattle.host_net.specs.Playing.{Playing}
use Rattle.net_guests.specs.Visits.{Visit}
use Rattle.host_net.proofs.Foreseen.{nothing_next, something_next}
use Rattle.host_net.proofs.advance.script_next.Goals as goal

pub returns-in_default-clause-next : goal.returns-in_default-clause-next
returns-in_default-clause-next g c =
    let w = g.J.Placing.world in
    let s = c.requires.script.0 in
    let v = c.player.inside.guest in
    let seen : v ≡ c.args.player.now.visit = ap (λ (x : Playing g.row.T.Denot). x.visit) c.player.view_is in
    let script = ap (λ (u : Visit). caller_of w u.caller) seen ∙ c.requires.script.1 in
    let none = ap (g.T.WholeTask.asks c.player.inside.task) (sym c.fids.ensures) ∙ (sym c.in_ok-request.ensures ∙ c.in_default.is) in
    subst (λ (u : Visit). None ≡ next_by g.J.Placing.tasks w (entries u.sight.seen) u.caller) seen
    (nothing_next g.T.WholeTask.asks g.T.WholeTask.Goes g.met.T.WholeTask.asks_there g.J.Placing.tasks w v s c.player.inside.task script
    (c.player.invariant.0.goes_on s script c.if-player.false) none)

pub returns-clause-next : goal.returns-clause-next
returns-clause-next g c =
    let w = g.J.Placing.world in
    let s = c.requires.script.0 in
    let v = c.player.inside.guest in
    let seen : v ≡ c.args.player.now.visit = ap (λ (x : Playing g.row.T.Denot). x.visit) c.player.view_is in
    let script = ap (λ (u : Visit). caller_of w u.caller) seen ∙ c.requires.script.1 in
    let asks = ap (g.T.WholeTask.asks c.player.inside.task) (sym c.fids.ensures) ∙ (sym c.in_ok-request.ensures ∙ c.in-Some.is) in
    let home = c.host.ensures s script in
    let plans = ap (λ (l : Names). planned c.host.result l c.in-Some.request) (sym c.fids-2.ensures) ∙ c.plan-actor.ensures.event in
    subst (λ (u : Visit). Some (standing_ask (c.plan-actor.result.actor, c.bare.result)) ≡ next_by g.J.Placing.tasks w (entries u.sight.seen) u.caller) seen
    (ap (λ (x : Work). Some (record { actor = c.plan-actor.result.actor; event = x.event })) c.bare.ensures
    ∙ something_next g.T.WholeTask.asks g.T.WholeTask.Goes g.met.T.WholeTask.asks_there g.J.Placing.tasks w v s c.player.inside.task script
    (c.player.invariant.0.goes_on s script c.if-player.false) c.host.result c.in-Some.request
    (record { actor = c.plan-actor.result.actor; event = c.plan-actor.result.event }) home asks plans)

use Rattle.std.proofs.Common.{ℕ, List, [], sym, subst}
use Rattle.net_export.specs.Answered.{AreAnswersOf}
use Rattle.net_export.proofs.SessionAnswers.{answers_next, answers_whole, plays_at}
use Rattle.net_export.proofs.answering.answers_by_caller.Goals as goal

-- before the first session
pub loop-session-init : goal.loop-session-init
loop-session-init g c =
    subst (λ (all : List (List (List ℕ))). AreAnswersOf c.args.world.now (g.E.Entries.list c.args.history.now) [] all) (sym c.in_ok-all.ensures.items) tt

pub answers_to-requires-clause-played : goal.answers_to-requires-clause-played
answers_to-requires-clause-played g c =
    plays_at c.args.world.now c.args.sessions.now c.as_slice-session-items.result.now c.loop-session.session-index c.session-item.result
    c.as_slice-session-items.ensures c.loop-session-test.true c.session-item.is c.requires.played

-- its answers stand behind the others
pub loop-session-preserved : goal.loop-session-preserved
loop-session-preserved g c =
    answers_next c.args.world.now (g.E.Entries.list c.args.history.now) c.args.sessions.now c.as_slice-session-items.result.now c.loop-session.session-index
    c.session-item.result c.loop-session.all.items c.push.new.self.items c.in_ok-lines.lines
    c.as_slice-session-items.ensures c.loop-session-test.true c.session-item.is c.in_ok-push.ensures.items c.loop-session.invariant c.in_ok-lines.ensures

-- behind the last one
pub returns : goal.returns
returns g c =
    answers_whole c.args.world.now (g.E.Entries.list c.args.history.now) c.args.sessions.now c.as_slice-session-items.result.now c.loop-session.session-index _
    c.as_slice-session-items.ensures c.loop-session-test.false c.loop-session.invariant

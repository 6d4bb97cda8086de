use Rattle.std.proofs.Common.{◌∙◌, ℕ, arith, subst, sym}
use Rattle.std.proofs.lemmas.Bool.Decides.{nat_tests}
use Rattle.session_answers.specs.Served.{IsLastMessage, IsServedFirst, answered_of, session_state}
use Rattle.session_answers.proofs.Answering.{answered_all, answered_last, answered_one, begun}
use Rattle.session_answers.proofs.Told.{answers_are}
use Rattle.session_script.proofs.Shared.{opening_sound}
use Rattle.net_base.specs.Session.{State}
use Rattle.net_base.specs.SessionTable.{IsSound}
use Rattle.session_answers.proofs.answers.answers_by.Goals as goal

pub loop-replies-init : goal.loop-replies-init
loop-replies-init g c = record {
  so_far = begun c.args.host c.args.bytes.now (answered_of c.args.owes (g.E.Entries.list c.args.entries.now) c.args.caller) c.new-replies.result (session_state c.in_ok-session.session) c.new-answers.result
      c.in_ok-session.ensures.state c.new-answers.ensures c.new-replies.ensures;
  sound = subst (λ (s : State). IsSound s.table) (sym c.in_ok-session.ensures.state) opening_sound;
  host = c.in_ok-session.ensures.host;
}

-- the first message of what is left has its answer
pub loop-replies-preserved : goal.loop-replies-preserved
loop-replies-preserved g c =
    let l = c.loop-replies in
    let s : State = session_state l.session in
    let t : State = session_state c.serve_first.new.session in
    let served : IsServedFirst l.session.host s t l.rest.now c.in-Some.behind.now c.in-Some.answer l.replies c.serve_first.new.replies = rw c.in-Some.is at c.in_ok-answer.ensures.served in
    let at_host : IsServedFirst c.args.host s t l.rest.now c.in-Some.behind.now c.in-Some.answer l.replies c.serve_first.new.replies =
    subst (λ (h : ℕ). IsServedFirst h s t l.rest.now c.in-Some.behind.now c.in-Some.answer l.replies c.serve_first.new.replies) l.invariant.host served in
    record {
      so_far = answered_one c.args.host c.args.bytes.now (answered_of c.args.owes (g.E.Entries.list c.args.entries.now) c.args.caller) l.answers c.push.new.self s t l.rest.now c.in-Some.behind.now
          c.in-Some.answer l.replies c.serve_first.new.replies (grind (arith, nat_tests)) at_host c.in_ok-push.ensures.ok l.invariant.so_far;
      sound = rw c.in-Some.is at c.in_ok-answer.ensures.sound;
      host = c.serve_first.ensures.host ∙ l.invariant.host;
    }

-- it waits
pub returns-in_default : goal.returns-in_default
returns-in_default g c =
    let l = c.loop-replies in
    let s : State = session_state l.session in
    let last : IsLastMessage l.session.host s l.rest.now l.replies = rw c.in_default.is at c.in_ok-answer.ensures.served in
    answers_are c.args.host c.args.bytes.now c.args.owes (g.E.Entries.list c.args.entries.now) c.args.caller l.answers
    (answered_last c.args.host c.args.bytes.now (answered_of c.args.owes (g.E.Entries.list c.args.entries.now) c.args.caller) l.answers s l.rest.now l.replies (grind (arith, nat_tests))
    (subst (λ (h : ℕ). IsLastMessage h s l.rest.now l.replies) l.invariant.host last) l.invariant.so_far)

-- none is left
pub returns : goal.returns
returns g c =
    let l = c.loop-replies in
    answers_are c.args.host c.args.bytes.now c.args.owes (g.E.Entries.list c.args.entries.now) c.args.caller l.answers
    (answered_all c.args.host c.args.bytes.now (answered_of c.args.owes (g.E.Entries.list c.args.entries.now) c.args.caller) l.answers (session_state l.session) l.rest.now l.replies
    (grind (arith, nat_tests)) l.invariant.so_far)

use Rattle.std.proofs.Common.{arith, ap, ◌∙◌, sym, ◌++◌, List, ℕ, length, map, get_or}
use Rattle.net_base.specs.declared.ninep.Qid.{Qid}
use Rattle.net_base.specs.SessionFiles.{qid_of, step_to, walked}
use Rattle.session_answers.proofs.Walks.{passes_on, walk_ends, walk_stops}
use Rattle.session_answers.proofs.said.walked.Goals as goal

pub loop-name-init : goal.loop-name-init
loop-name-init c = ap (λ (xs : List Qid). xs ++ map qid_of (walked c.args.node c.args.names.now)) c.new-qids.ensures

pub loop-name-preserved : goal.loop-name-preserved
loop-name-preserved c =
    let l = c.loop-name in
    passes_on l.qids _ (map qid_of (walked c.args.node c.args.names.now)) l.at c.in-Some.next c.qid_of.result c.args.names.now l.name-index c.name-item.result
    (omega (arith, c.loop-name-test.true, ap (λ (xs : List (List ℕ)). length xs) c.as_slice-name-items.ensures))
    (c.name-item.is ∙ ap (λ (xs : List (List ℕ)). get_or xs l.name-index c.name-item.result) c.as_slice-name-items.ensures)
    (ap (step_to l.at) (sym c.as_slice.ensures) ∙ sym c.in_ok-next.ensures ∙ c.in-Some.is)
    c.qid_of.ensures
    c.in_ok-push.ensures.ok
    l.invariant

pub returns-in_default : goal.returns-in_default
returns-in_default c =
    let l = c.loop-name in
    walk_stops l.qids (map qid_of (walked c.args.node c.args.names.now)) l.at c.args.names.now l.name-index c.name-item.result
    (omega (arith, c.loop-name-test.true, ap (λ (xs : List (List ℕ)). length xs) c.as_slice-name-items.ensures))
    (c.name-item.is ∙ ap (λ (xs : List (List ℕ)). get_or xs l.name-index c.name-item.result) c.as_slice-name-items.ensures)
    (ap (step_to l.at) (sym c.as_slice.ensures) ∙ sym c.in_ok-next.ensures ∙ c.in_default.is)
    l.invariant

pub returns : goal.returns
returns c =
    let l = c.loop-name in
    walk_ends l.qids (map qid_of (walked c.args.node c.args.names.now)) l.at c.args.names.now l.name-index
    (omega (arith, c.loop-name-test.false, ap (λ (xs : List (List ℕ)). length xs) c.as_slice-name-items.ensures))
    l.invariant

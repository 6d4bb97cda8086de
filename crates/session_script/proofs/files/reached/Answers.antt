use Rattle.std.proofs.Common.{refl, arith, ap, ◌∙◌, sym, List, ℕ, length, get_or}
use Rattle.net_base.specs.SessionFiles.{reached, step_to}
use Rattle.session_script.proofs.Walks.{walk_ends, walk_stops, walks_on}
use Rattle.session_script.proofs.files.reached.Goals as goal

pub loop-name-init : goal.loop-name-init
loop-name-init c = refl

pub loop-name-preserved : goal.loop-name-preserved
loop-name-preserved c =
    let l = c.loop-name in
    walks_on l.at c.in-Some.next c.args.names.now l.name-index c.name-item.result (reached c.args.node c.args.names.now)
    (omega (arith, c.loop-name-test.true, ap (λ (xs : List (List ℕ)). length xs) c.as_slice-name-items.ensures))
    (c.name-item.is ∙ ap (λ (xs : List (List ℕ)). get_or xs l.name-index c.name-item.result) c.as_slice-name-items.ensures)
    (ap (step_to l.at) (sym c.as_slice.ensures) ∙ sym c.in_ok-next.ensures ∙ c.in-Some.is)
    l.invariant

pub returns-in_default : goal.returns-in_default
returns-in_default c =
    let l = c.loop-name in
    sym (walk_stops l.at c.args.names.now l.name-index c.name-item.result (reached c.args.node c.args.names.now)
    (omega (arith, c.loop-name-test.true, ap (λ (xs : List (List ℕ)). length xs) c.as_slice-name-items.ensures))
    (c.name-item.is ∙ ap (λ (xs : List (List ℕ)). get_or xs l.name-index c.name-item.result) c.as_slice-name-items.ensures)
    (ap (step_to l.at) (sym c.as_slice.ensures) ∙ sym c.in_ok-next.ensures ∙ c.in_default.is)
    l.invariant)

pub returns : goal.returns
returns c =
    let l = c.loop-name in
    sym (walk_ends l.at c.args.names.now l.name-index (reached c.args.node c.args.names.now)
    (omega (arith, c.loop-name-test.false, ap (λ (xs : List (List ℕ)). length xs) c.as_slice-name-items.ensures))
    l.invariant)

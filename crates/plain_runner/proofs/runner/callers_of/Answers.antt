use Rattle.std.proofs.Common.{◌+◌, ℕ, List, length, slice_get, ◌≡◌, refl, ap, subst, sym, ◌∙◌, arith}
use Rattle.net_base.specs.declared.world.Script.{Script}
use Rattle.net_base.specs.Callers.{clock_number}
use Rattle.net_actors.proofs.Shared.{some_versions}
use Rattle.history_laws.proofs.Shared.{clock_is, courier_is}
use Rattle.plain_runner.proofs.Opening.{AreFirst, all_callers, few_media, none_yet, one_more}
use Rattle.plain_runner.proofs.Recorded.{got}
use Rattle.plain_runner.proofs.runner.callers_of.Goals as goal

pub loop-script-init : goal.loop-script-init
loop-script-init c = none_yet c.args.world.now c.new-callers.result.items c.new-callers.ensures.items

pub loop-script-preserved : goal.loop-script-preserved
loop-script-preserved c =
    let w = c.args.world.now in
    let l = c.loop-script in
    subst (AreFirst w (l.script-index + 1)) (sym c.in_ok-push.ensures.items)
    (one_more w l.script-index l.callers.items c.in_ok-script.field-0 l.invariant (c.in_ok-script.ensures w l.script-index (sym (c.in_ok-dbs.ensures ∙ c.requires.dbs))
    (ap (λ (ss : List Script). slice_get ss l.script-index) (sym c.as_slice-script-items.ensures)
    ∙ got c.as_slice-script-items.result.now l.script-index c.script-item.result c.loop-script-test.true c.script-item.is)))

pub loop-medium-init : goal.loop-medium-init
loop-medium-init c =
    let l = c.loop-script in
    subst (λ (n : ℕ). AreFirst c.args.world.now n l.callers.items)
    (omega (arith, c.loop-script-test.false, l.auto.script-index-end, ap (λ (ss : List Script). length ss) c.as_slice-script-items.ensures)) l.invariant

pub loop-medium-preserved : goal.loop-medium-preserved
loop-medium-preserved c =
    let w = c.args.world.now in
    let l = c.loop-medium in
    let n = length w.scripts + l.medium in
    subst (λ (m : ℕ). AreFirst w m c.push-in-loop-medium.new.self.items) (omega arith)
    (subst (AreFirst w (n + 1)) (sym c.in_ok-push-2.ensures.items)
    (one_more w n l.callers.items c.courier.result l.invariant
    (c.courier.ensures w n (courier_is w l.medium n refl (omega (arith, c.loop-medium-test.true, c.len-medium-end.ensures))))))

pub overflow_cast-medium : goal.overflow_cast-medium
overflow_cast-medium c = omega (arith, few_media c.args.world.now c.requires.is, c.loop-medium-test.true, c.len-medium-end.ensures)

pub returns : goal.returns
returns c =
    let w = c.args.world.now in
    let l = c.loop-medium in
    let n = length w.scripts + l.medium in
    let last : n ≡ clock_number w = omega (arith, c.loop-medium-test.false, l.auto.medium-end, c.len-medium-end.ensures) in
    all_callers w (clock_number w + 1) c.push-2.new.self.items refl
    (subst (AreFirst w (clock_number w + 1)) (sym c.in_ok-push-3.ensures.items)
    (one_more w (clock_number w) l.callers.items c.clock.result (subst (λ (m : ℕ). AreFirst w m l.callers.items) last l.invariant)
    (c.clock.ensures w (clock_number w) (clock_is w))))

pub script-requires : goal.script-requires
script-requires c = record { some = some_versions c.args.world.now _ c.requires.is (c.in_ok-dbs.ensures ∙ c.requires.dbs) }

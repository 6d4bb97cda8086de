use Rattle.std.proofs.Common.{◌≡◌, ◌+◌, ◌==◌, ◌∙◌, ℕ, Bool, List, Option, Some, length, slice_get, ap, subst, sym, arith}
use Rattle.net_base.specs.declared.world.Script.{Script}
use Rattle.live_run.specs.LiveWorlds.{ArePlaces}
use Rattle.live_run.proofs.PlaceLists.{got, place_pushed}
use Rattle.live_run.proofs.places.places_of.Goals as goal

pub loop-script-preserved : goal.loop-script-preserved
loop-script-preserved c =
    let w = c.args.world.now in
    let l = c.loop-script in
    subst (λ (xs : List Bool). (length xs ≡ l.script-index + 1) × ArePlaces w xs) (sym c.in_ok-push.ensures.items)
    (place_pushed w l.script-index l.places.items c.script-item.result _ l.invariant.0
    (ap (λ (ss : List Script). slice_get ss l.script-index) (sym c.as_slice-script-items.ensures)
    ∙ got c.as_slice-script-items.result.now l.script-index c.script-item.result c.loop-script-test.true c.script-item.is)
    (ap (λ (n : ℕ). n == 0) c.len.ensures) l.invariant.1)

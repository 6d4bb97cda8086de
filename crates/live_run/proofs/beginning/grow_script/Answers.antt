use Rattle.std.proofs.Common.{◌≡◌, ◌∷◌, ◌∙◌, [], List, slice_get, ap, sym}
use Rattle.std.specs.Prelude.{slice_set}
use Rattle.std.proofs.lemmas.Option.{slice_get_past}
use Rattle.net_base.specs.declared.world.Step.{Step}
use Rattle.live_run.proofs.LastSteps.{with_steps}
use Rattle.live_run.proofs.PlaceLists.{got, scripts_set, scripts_stay}
use Rattle.live_run.proofs.beginning.grow_script.Goals as goal

pub returns-in-Some : goal.returns-in-Some
returns-in-Some c =
    let ss = c.args.scripts.items in
    let found = c.in-Some.found.now in
    ap (λ (steps : List Step). slice_set ss c.args.script (with_steps found steps)) c.in_ok-push.ensures.ok
    ∙ scripts_set ss c.args.script found (c.args.step ∷ []) (got ss c.args.script found c.in-Some.ensures.item.3.0 c.in-Some.ensures.value)

pub returns : goal.returns
returns c = sym (scripts_stay c.args.scripts.items c.args.script (c.args.step ∷ []) (slice_get_past c.args.scripts.items c.args.script c.in_default.ensures.item.3))

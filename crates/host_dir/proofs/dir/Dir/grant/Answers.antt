use Rattle.std.proofs.Common.{◌≡◌, true, Some, slice_get, rules, sym, subst, ◌∙◌}
use Rattle.net_base.specs.Directory.{home_at, is_reserved}
use Rattle.host_dir.specs.Found.{slot_at}
use Rattle.host_dir.specs.Kept.{StepMayWant}
use Rattle.host_dir.proofs.Rows.{at_reserved, then_err, then_ok}
use Rattle.host_dir.proofs.dir.Dir.grant.Goals as goal

pub returns-clause-ok : goal.returns-clause-ok
returns-clause-ok c =
    let d = c.args.self.now.dir in
    let s = slot_at d.slots c.args.n in
    let got : slice_get d.slots c.args.n ≡ Some s = search rules in
    let same : s.generation ≡ c.args.generation = search rules in
    let reserved : is_reserved s.kind ≡ true = search rules in
    then_ok c.grant_reserved.result _ _ (λ o gives w h of.
    at_reserved (home_at w h c.args.self.now.proto) c.args.n c.args.generation c.args.remote c.args.lport d s got same reserved ∙ gives w h of)
    c.grant_reserved.ensures.ok

pub returns-clause-memory : goal.returns-clause-memory
returns-clause-memory c =
    let d = c.args.self.now.dir in
    let s = slot_at d.slots c.args.n in
    let got : slice_get d.slots c.args.n ≡ Some s = search rules in
    let same : s.generation ≡ c.args.generation = search rules in
    let reserved : is_reserved s.kind ≡ true = search rules in
    then_err c.grant_reserved.result _ _ (λ wants w h of.
    subst StepMayWant (sym (at_reserved (home_at w h c.args.self.now.proto) c.args.n c.args.generation c.args.remote c.args.lport d s got same reserved)) (wants w h of))
    c.grant_reserved.ensures.memory

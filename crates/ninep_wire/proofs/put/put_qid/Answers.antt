use Rattle.std.proofs.Common.{◌≡◌, List, ℕ, ◌++◌, subst, ap, ◌∙◌, append_assoc}
use Rattle.std.specs.Prelude.{OnOk}
use Rattle.net_base.specs.NinepFields.{number_bytes}
use Rattle.ninep_wire.proofs.put.put_qid.Goals as goal

pub returns-clause-spelled : goal.returns-clause-spelled
returns-clause-spelled c =
    let kind : List ℕ = number_bytes 1 c.args.qid.kind in
    let version : List ℕ = number_bytes 4 c.args.qid.version in
    let path : List ℕ = number_bytes 8 c.args.qid.path in
    subst (λ (x : List ℕ). OnOk c.put_vast.result (c.put_vast.new.out ≡ x))
    (
    ap (λ (y : List ℕ). y ++ path) (c.in_ok-put_long.ensures.spelled ∙ ap (λ (z : List ℕ). z ++ version) c.in_ok-put_byte.ensures.spelled)
    ∙ append_assoc (c.args.out.now ++ kind) version path
    ∙ append_assoc c.args.out.now kind (version ++ path)
    )
    c.put_vast.ensures.spelled

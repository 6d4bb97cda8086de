use Rattle.std.proofs.Common.{◌≡◌, List, ℕ, ◌++◌, subst, ap, ◌∙◌, append_assoc}
use Rattle.std.specs.Prelude.{OnOk}
use Rattle.net_base.specs.NinepFields.{number_bytes}
use Rattle.ninep_wire.proofs.put_request.put_place.Goals as goal

pub returns-clause-spelled : goal.returns-clause-spelled
returns-clause-spelled c =
    subst (λ (x : List ℕ). OnOk c.put_vast.result (c.put_vast.new.out ≡ x))
    (ap (λ (y : List ℕ). y ++ number_bytes 8 c.args.offset) c.in_ok-put_long.ensures.spelled ∙ append_assoc c.args.out.now (number_bytes 4 c.args.fid)
    (number_bytes 8 c.args.offset)) c.put_vast.ensures.spelled

use Rattle.std.proofs.Common.{◌≡◌}
use Rattle.std.proofs.lemmas.Result.{IfOk-weaker}
use Rattle.net_base.specs.declared.ninep.Rmsg.TheVariants as r
use Rattle.net_base.specs.Exports.{bad_message}
use Rattle.net_base.specs.NinepMessages.{r_bytes}
use Rattle.net_export.proofs.Messages.{bad_is, bad_short}
use Rattle.net_export.proofs.serving.bad_message.Goals as goal

pub encode_r-requires-clause-short : goal.encode_r-requires-clause-short
encode_r-requires-clause-short c = bad_short c.in_ok-ename.ename c.in_ok-ename.ensures

pub returns : goal.returns
returns c =
    IfOk-weaker c.encode_r.result (λ answer. answer ≡ r_bytes (r.Error 65535 c.in_ok-ename.ename)) (λ answer. answer ≡ bad_message)
    (λ answer same. bad_is c.in_ok-ename.ename answer c.in_ok-ename.ensures same) c.encode_r.ensures.spelled

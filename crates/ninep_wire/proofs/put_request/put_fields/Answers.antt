use Rattle.std.proofs.Common.{◌<◌, length, subst, arith}
use Rattle.net_base.specs.declared.ninep.Tmsg.{Tmsg}
use Rattle.net_base.specs.NinepMessages.{t_fields}
use Rattle.ninep_wire.proofs.Sizes.{each_short}
use Rattle.ninep_wire.proofs.put_request.put_fields.Goals as goal

pub put_strings-requires-clause-short : goal.put_strings-requires-clause-short
put_strings-requires-clause-short c =
    let short = subst (λ (m : Tmsg). length (t_fields m) < 8210) c.in-Walk.is c.requires.short in
    each_short c.in-Walk.names (omega (arith, short))

use Rattle.std.proofs.Common.{length, sym, ap, ◌∙◌, arith}
use Rattle.std.proofs.lemmas.List.{length-take-le}
use Rattle.ip_wire.proofs.ip.encode_ip_header.Goals as goal

pub copy_from_slice-requires : goal.copy_from_slice-requires
copy_from_slice-requires c =
    length-take-le 20 c.args.out.now (omega arith) ∙ sym (ap length c.header_bytes.ensures.value)

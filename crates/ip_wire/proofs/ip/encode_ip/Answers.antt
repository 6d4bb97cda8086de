use Rattle.std.proofs.Common.{◌+◌, ◌++◌, false, length, take, drop, refl, sym, ap, ◌∙◌, arith}
use Rattle.std.proofs.lemmas.List.{length-take-le, take_at}
use Rattle.formats.specs.Ipv4.{summed, flagged_bytes}
use Rattle.ip_wire.specs.Headers.{view}
use Rattle.net_base.proofs.Shared.{laid}
use Rattle.ip_wire.proofs.ip.encode_ip.Goals as goal

pub copy_from_slice-requires : goal.copy_from_slice-requires
copy_from_slice-requires c =
    length-take-le 20 c.args.out.now (omega arith) ∙ sym (ap length c.header_bytes.ensures.value)

pub returns-clause-spelled : goal.returns-clause-spelled
unfolding flagged_bytes
returns-clause-spelled c =
    rw (c.copy_from_slice-2.ensures.after, c.copy_from_slice.ensures.after, c.header_bytes.ensures.value) (laid 20 (summed false (20 + length c.args.payload.now) (view c.args.header.now)) c.args.payload.now c.args.out.now refl)

pub returns-clause-spells : goal.returns-clause-spells
unfolding flagged_bytes
returns-clause-spells c =
    rw (c.copy_from_slice-2.ensures.after, c.copy_from_slice.ensures.after, c.header_bytes.ensures.value) (record {
      header = c.header_bytes.ensures.fits;
      fits = c.requires.fits;
      reserved = false;
      spelled =
          ap (take (20 + length c.args.payload.now)) (laid 20 (summed false (20 + length c.args.payload.now) (view c.args.header.now)) c.args.payload.now c.args.out.now refl)
          ∙ take_at (summed false (20 + length c.args.payload.now) (view c.args.header.now) ++ c.args.payload.now) (drop (20 + length c.args.payload.now) c.args.out.now) (20 + length c.args.payload.now) (omega arith);
    })

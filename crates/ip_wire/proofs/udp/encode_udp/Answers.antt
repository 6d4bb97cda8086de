use Rattle.std.proofs.Common.{◌≡◌, ℕ, List, ◌+◌, ◌++◌, length, take, drop, ap, ◌∙◌, inl, arith}
use Rattle.std.proofs.lemmas.List.{length-append, length-take-le, take_at}
use Rattle.net_base.proofs.Shared.{laid}
use Rattle.ip_wire.proofs.udp.encode_udp.Goals as goal

pub returns-clause-spelled : goal.returns-clause-spelled
returns-clause-spelled c =
    rw (c.copy_from_slice-2.ensures.after, c.copy_from_slice.ensures.after)
    (laid 8 c.header_bytes.result c.args.text.now c.args.out.now (omega (arith, c.copy_from_slice.ensures.len, ap length c.copy_from_slice.ensures.after, length-take-le 8 c.args.out.now (omega arith)))
    ∙ ap (λ (x : List ℕ). x ++ drop (8 + length c.args.text.now) c.args.out.now) c.header_bytes.ensures)

pub returns-clause-spells : goal.returns-clause-spells
returns-clause-spells c =
    let long : length (c.header_bytes.result ++ c.args.text.now) ≡ 8 + length c.args.text.now = omega (arith, length-append c.header_bytes.result c.args.text.now, c.copy_from_slice.ensures.len, ap length c.copy_from_slice.ensures.after, length-take-le 8 c.args.out.now (omega arith)) in
    rw (c.copy_from_slice-2.ensures.after, c.copy_from_slice.ensures.after) (record {
      sport = omega arith;
      dport = omega arith;
      fits = omega arith;
      spelled = inl (
          ap (take (8 + length c.args.text.now)) (laid 8 c.header_bytes.result c.args.text.now c.args.out.now (omega (arith, c.copy_from_slice.ensures.len, ap length c.copy_from_slice.ensures.after, length-take-le 8 c.args.out.now (omega arith))))
          ∙ take_at (c.header_bytes.result ++ c.args.text.now) (drop (8 + length c.args.text.now) c.args.out.now) (8 + length c.args.text.now) long
          ∙ c.header_bytes.ensures);
    })

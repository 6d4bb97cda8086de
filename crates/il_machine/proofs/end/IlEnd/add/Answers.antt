use Rattle.std.proofs.Common.{◌≡◌, ◌+◌, ◌<◌, ◌≤◌, None, length, arith, ap, ◌∙◌}
use Rattle.net_base.specs.IlEnd.{early_at}
use Rattle.il_machine.specs.Windows.{Windows}
use Rattle.il_machine.proofs.Near.{few, wider}
use Rattle.il_machine.proofs.end.IlEnd.add.Goals as goal

pub add_early-requires-clause-room : goal.add_early-requires-clause-room
add_early-requires-clause-room c =
    let most : length c.self.inside.early ≤ 19 = few 19 (c.self.inside.got + 1) (c.self.inside.got + 20) c.self.inside.early (omega arith) c.self.invariant.early_are_near in
    omega (arith, most)

pub come_in_turn-self-inside-requires-clause-near : goal.come_in_turn-self-inside-requires-clause-near
come_in_turn-self-inside-requires-clause-near c =
    let got : c.self.inside.got ≡ c.args.self.now.got = ap (λ (w : Windows). w.got) c.self.view_is in
    let new : early_at c.args.k c.self.inside.early ≡ None = ap (λ (w : Windows). early_at c.args.k w.early) c.self.view_is ∙ c.requires.new in
    let above : c.self.inside.got < c.args.k = omega (arith, got, c.requires.number.0) in
    let within : c.args.k ≤ c.self.inside.got + 20 = omega (arith, got, c.requires.number.1) in
    rw c.add_early.ensures (above, within, new, wider (c.self.inside.got + 1) (c.self.inside.got + 20) c.self.inside.got (c.self.inside.got + 20) c.self.inside.early (omega arith) (omega arith) c.self.invariant.early_are_near)

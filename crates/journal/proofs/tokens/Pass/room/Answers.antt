use Rattle.std.proofs.Common.{sym, subst, arith}
use Rattle.net_base.specs.declared.noted.Number.TheVariants as number
use Rattle.net_base.specs.Stamped.{In}
use Rattle.journal.specs.declared.tokens.Sight.{Sight}
use Rattle.journal.proofs.tokens.Pass.room.Goals as goal

pub bounds-self-inside-caller : goal.bounds-self-inside-caller
bounds-self-inside-caller g c = let t = c.requires in (c.self.invariant.counted.each c.args.caller t.0 (subst (λ (z : Sight). In (number.Caller c.args.caller, t.0) z.held) (sym c.self.view_is) t.1)).0

pub overflow_sub-result : goal.overflow_sub-result
overflow_sub-result g c =
    let t = c.requires in
    let m = c.self.invariant.counted.each c.args.caller t.0 (subst (λ (z : Sight). In (number.Caller c.args.caller, t.0) z.held) (sym c.self.view_is) t.1) in
    let m1 = m.1 in
    let m2 = m.2 in
    rw c.from.ensures (omega arith)

pub returns : goal.returns
returns g c es i =
    let m = c.self.invariant.counted.each c.args.caller es (subst (λ (z : Sight). In (number.Caller c.args.caller, es) z.held) (sym c.self.view_is) i) in
    let m1 = m.1 in
    let m2 = m.2 in
    rw c.from.ensures (omega arith)

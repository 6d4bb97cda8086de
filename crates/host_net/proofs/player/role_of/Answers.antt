use Rattle.std.proofs.Common.{◌≡◌, ◌-◌, ℕ, sym, subst, arith}
use Rattle.net_base.specs.Callers.{IsCourier, caller_of}
use Rattle.host_net.proofs.Naming.{clock_of, courier_of}
use Rattle.host_net.proofs.player.role_of.Goals as goal
use Rattle.net_base.proofs.Shared.{script_at}

pub returns-then-caller-scripts : goal.returns-then-caller-scripts
returns-then-caller-scripts c = script_at c.args.world.now c.args.caller (omega (arith, c.if-caller-scripts.true, c.len-scripts.ensures))

pub returns-then-caller-scripts-2 : goal.returns-then-caller-scripts-2
returns-then-caller-scripts-2 c =
    subst (λ (n : ℕ). caller_of c.args.world.now c.args.caller ≡ IsCourier (c.args.caller - n)) (sym c.len-scripts.ensures)
    (courier_of c.args.world.now c.args.caller (omega (arith, c.if-caller-scripts.false, c.len-scripts.ensures))
    (omega (arith, c.if-caller-scripts-2.true, c.len-scripts.ensures, c.len-media.ensures)))

pub returns : goal.returns
returns c =
    clock_of c.args.world.now c.args.caller (omega (arith, c.if-caller-scripts.false, c.len-scripts.ensures))
    (omega (arith, c.if-caller-scripts-2.false, c.len-scripts.ensures, c.len-media.ensures)) c.requires.known

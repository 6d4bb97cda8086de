use Rattle.std.proofs.Common.{ℕ, List, ap, sym, subst, arith}
use Rattle.net_base.specs.declared.noted.Noted.{Noted}
use Rattle.net_base.specs.declared.noted.Number.TheVariants as number
use Rattle.net_base.specs.Stamped.{at, moment_noted}
use Rattle.net_locks.specs.Guests.{IsGuest}
use Rattle.net_base.specs.Duties.{Duty}
use Rattle.duties.specs.Marks.{Covers}
use Rattle.net_guests.proofs.bundle.Bundle.fresh.Goals as goal

pub returns-clause-complete : goal.returns-clause-complete
returns-clause-complete g c =
    let w = g.J.Placing.world in
    let p = c.args.pass in
    record {
      visit = record {
        guest = subst (λ (l : List Duty). IsGuest w g.J.Naming.run.roster c.args.caller p l) (sym c.new.ensures)
            (c.guests_begin.ensures.guest w g.J.Naming.run.roster c.args.caller p c.requires.known c.requires.seen c.requires.held);
        here = sym (ap moment_noted c.requires.seen);
        early = omega arith;
        covers = subst (λ (l : List (ℕ × Noted)). Covers l c.new-2.result) (sym (ap (at (number.Caller c.args.caller)) c.requires.seen)) c.new-2.ensures;
        known = c.new-3.ensures w p.seen;
      };
      home = c.requires.home;
    }

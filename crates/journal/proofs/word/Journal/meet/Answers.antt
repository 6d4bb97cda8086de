use Rattle.std.proofs.Common.{List, sym, subst, ⊎_elim}
use Rattle.net_base.specs.Stamped.{In, at}
use Rattle.journal.specs.declared.law.View.{View}
use Rattle.journal.specs.Rule.{Held, Looks, both_seen}
use Rattle.journal.specs.Tokens.{Counted}
use Rattle.journal.proofs.Counts.{counts_met}
use Rattle.journal.proofs.After.{met}
use Rattle.journal.proofs.word.Journal.meet.Goals as goal
use Rattle.net_base.proofs.Shared.{in_parts}

pub invariant_of-pass : goal.invariant_of-pass
invariant_of-pass g c =
    let p = c.pass.invariant in
    let q = c.other.invariant in
    let v : View = c.pass.inside.seat.me.0 in
    let u : View = c.other.inside.seat.me.0 in
    let d : Looks g.J.Naming.run.roster (both_seen v u) c.watch.result c.watch.new.seat.me.0 = subst (λ (z : View). Looks g.J.Naming.run.roster z c.watch.result c.watch.new.seat.me.0) c.take_in.ensures.both c.watch.ensures.seen in record {
      seat = c.watch.ensures.seat;
      agrees = record { lists = d.lists; clock_is = d.moment_is };
      callers = λ k es i. ⊎_elim (λ t. p.callers k es t) (λ t. q.callers k es t) (in_parts (k, es) v.held u.held (subst (λ (hs : List Held). In (k, es) hs) d.held i));
      counted = subst (Counted c.greater-pass-inside.result) (sym d.held)
          (counts_met c.pass.inside.counts c.other.inside.counts c.greater-pass-inside.result v.held u.held (λ k. at k c.watch.new.seat.me.0.seen) c.greater-pass-inside.ensures.length c.greater-pass-inside.ensures.each
          (λ k es i. d.lists k es (subst (λ (hs : List Held). In (k, es) hs) (sym d.held) i)) p.counted q.counted);
    }

pub returns : goal.returns
returns g c =
    let p = c.pass.invariant in
    let q = c.other.invariant in
    let v : View = c.pass.inside.seat.me.0 in
    let u : View = c.other.inside.seat.me.0 in
    let d : Looks g.J.Naming.run.roster (both_seen v u) c.watch.result c.watch.new.seat.me.0 = subst (λ (z : View). Looks g.J.Naming.run.roster z c.watch.result c.watch.new.seat.me.0) c.take_in.ensures.both c.watch.ensures.seen in
    met g.J.Naming.run.roster v u c.watch.new.seat.me.0 c.watch.result p.agrees q.agrees d c.args.pass.now c.args.other c.pass.view_is c.other.view_is

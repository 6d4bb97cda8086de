use Rattle.std.proofs.Common.{List, ap, sym, subst, ◌∙◌}
use Rattle.net_base.specs.Stamped.{In}
use Rattle.journal.specs.declared.law.View.{View}
use Rattle.journal.specs.declared.tokens.Sight.{Sight}
use Rattle.net_base.specs.Stamped.{latest}
use Rattle.journal.specs.Rule.{Held, has_caller}
use Rattle.journal.specs.Tokens.{sight, Looked, Counted, OnlyCallers}
use Rattle.journal.proofs.After.{all_seen}
use Rattle.journal.proofs.word.Journal.look.Goals as goal

pub invariant_of-pass : goal.invariant_of-pass
invariant_of-pass g c =
    let p = c.pass.invariant in
    let d = c.watch.ensures.seen in record {
      seat = c.watch.ensures.seat;
      agrees = record { lists = d.lists; clock_is = d.moment_is };
      callers = subst OnlyCallers (sym d.held) p.callers;
      counted = subst (Counted c.pass.inside.counts) (sym d.held) p.counted;
    }

pub returns : goal.returns
returns g c =
    let p = c.pass.invariant in
    let d = c.watch.ensures.seen in
    let v : View = c.pass.inside.seat.me.0 in
    let whole : Looked g.J.Naming.run.roster (sight v) c.watch.result (sight c.watch.new.seat.me.0) = record {
      front_is = d.front;
      before = d.before;
      held = d.held;
      lists = λ k es i. d.lists k es (subst (λ (hs : List Held). In (k, es) hs) (sym d.held) i);
      moment_is = λ h. ap (latest 0) (d.moment_is (ap has_caller d.held ∙ h) ∙ d.clock_is ∙ sym (p.agrees.clock_is h));
      whole = all_seen g.J.Naming.run.roster v c.watch.new.seat.me.0.seen p.agrees d.lawful d.before (λ k es i. d.lists k es (subst (λ (hs : List Held). In (k, es) hs) (sym d.held) i));
      lawful = d.lawful;
    } in
    subst (λ (z : Sight). Looked g.J.Naming.run.roster z c.watch.result (sight c.watch.new.seat.me.0)) c.pass.view_is whole

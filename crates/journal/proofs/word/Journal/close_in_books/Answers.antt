use Rattle.std.proofs.Common.{◌≡◌, List, length, map, ap, sym, subst, ◌∙◌}
use Rattle.net_base.specs.declared.noted.Noted.{Noted}
use Rattle.net_base.specs.Stamped.{In}
use Rattle.journal.specs.declared.law.View.{View}
use Rattle.journal.specs.declared.tokens.Sight.{Sight}
use Rattle.journal.specs.Rule.{KeptBySeat, Held}
use Rattle.journal.specs.Tokens.{sight, HoldsAll}
use Rattle.journal.proofs.Gathering.{closes, whole}
use Rattle.journal.proofs.Placing.{all_there}
use Rattle.journal.proofs.word.Journal.close_in_books.Goals as goal

pub new-requires : goal.new-requires
new-requires g c =
    let f = c.close_with.ensures.values.2 in
    let kept : KeptBySeat g.J.Naming.run.roster f.0 = subst (λ r. KeptBySeat r f.0) c.args.self.roster_is f.1.0 in
    let v : View = c.pass.inside.seat.me.0 in
    let w : View = c.gather.new.all.me.0 in
    let all : HoldsAll g.J.Naming.run.roster (sight v) = subst (HoldsAll g.J.Naming.run.roster) (sym c.pass.view_is) c.requires.callers in
    let t = c.in_ok-gather.ensures.gathered in
    let known = kept.views c.gather.new.all.id w f.1.1 in
    let ends =
    closes g.J.Naming.run.roster v c.watch-count.new.seat.me.0 w c.watch-count.result c.args.books.items t.0 kept.log c.gather.new.lists.items
    c.pass.invariant.agrees c.watch-count.ensures.seen t.1 known kept.lawful all c.requires.actors t.2 in
    let long : length (map (λ (z : Noted). z.entry) kept.log) ≡ length c.gather.new.places.items =
    ends.1 ∙ sym (c.gather.ensures.long ∙ c.in_ok-places.ensures) in
    record {
      all = all_there c.gather.new.lists.items c.gather.new.places.items (map (λ (z : Noted). z.entry) kept.log) c.in_ok-gather.ensures.placed long ends.3;
      only = (map (λ (z : Noted). z.entry) kept.log, long, ends.2);
    }

pub returns : goal.returns
returns g c =
    let f = c.close_with.ensures.values.2 in
    let kept : KeptBySeat g.J.Naming.run.roster f.0 = subst (λ r. KeptBySeat r f.0) c.args.self.roster_is f.1.0 in
    let v : View = c.pass.inside.seat.me.0 in
    let w : View = c.gather.new.all.me.0 in
    let all : HoldsAll g.J.Naming.run.roster (sight v) = subst (HoldsAll g.J.Naming.run.roster) (sym c.pass.view_is) c.requires.callers in
    let t = c.in_ok-gather.ensures.gathered in
    let known = kept.views c.gather.new.all.id w f.1.1 in
    let d = c.watch-count.ensures.seen in
    let ends =
    closes g.J.Naming.run.roster v c.watch-count.new.seat.me.0 w c.watch-count.result c.args.books.items t.0 kept.log c.gather.new.lists.items
    c.pass.invariant.agrees d t.1 known kept.lawful all c.requires.actors t.2 in
    let held = ap (λ (p : Sight). p.held) c.pass.view_is in
    let seen = ap (λ (p : Sight). p.seen) c.pass.view_is in
    let long : length (map (λ (z : Noted). z.entry) kept.log) ≡ length c.gather.new.places.items =
    ends.1 ∙ sym (c.gather.ensures.long ∙ c.in_ok-places.ensures) in
    whole g.J.Naming.run.roster c.args.pass c.args.books.items c.new.result kept.log (ends.0 ∙ seen)
    (c.new.ensures (map (λ (z : Noted). z.entry) kept.log) long ends.2)
    (λ k es i. (known.lists k es (t.1.kept k es (subst (λ (hs : List Held). In (k, es) hs) (sym (d.held ∙ held)) i))).1.0)
    (λ b i. (known.lists _ b.list (t.1.taken b i)).1.0)
    kept.lawful

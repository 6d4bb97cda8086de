use Rattle.std.proofs.Common.{ℕ, ◌+◌, ◌<◌, ◌≤◌, List, [], ◌∷◌, ◌++◌, length, refl, ap, sym, subst, ◌∙◌, arith, rules}
use Rattle.atomic_table.specs.Seated.{TableId}
use Rattle.net_base.specs.declared.actor.ActorName.{ActorName}
use Rattle.net_base.specs.declared.noted.Number.TheVariants as number
use Rattle.net_base.specs.Stamped.{at}
use Rattle.journal.specs.declared.law.View.{View}
use Rattle.journal.specs.declared.tokens.Volume.{Volume}
use Rattle.journal.specs.Rule.{IsSeat, Run, actor_numbers, caller_numbers, only}
use Rattle.journal.specs.Tokens.{AreBlank, Distinct}
use Rattle.journal.proofs.Dealing.{all_dealt, dealt_given, dealt_next, first_pass}
use Rattle.journal.proofs.After.{volume_is}
use Rattle.journal.proofs.opening.Opened.named.Goals as goal

pub invariant_of-push_reserved : goal.invariant_of-push_reserved
invariant_of-push_reserved g c =
    let s = c.hand-seat.ensures in
    let o = c.self.inside in
    let n = c.self.invariant in
    let distinct : Distinct o.actors.items = subst Distinct (sym (n.actors_are ∙ ap (λ (q : Run). q.roster.actors) (c.self.view_is ∙ c.requires.name))) c.requires.distinct in
    let d = c.loop-i.invariant.1 in
    record {
      few = search rules;
      table_is = c.into_badge.ensures.0 ∙ s.seats.1.0;
      view = only (number.Actor c.index-actor.result.now) c.loop-i.all.me.0;
      list = [];
      views_is = c.into_badge.ensures.2 ∙ ap (λ (z : View). z ∷ []) s.given;
      held = dealt_given c.args.self.roster.callers o.actors.items c.loop-i.i c.loop-i.all.me.0 c.loop-i.books.items d (search rules) c.index-actor.result.now c.index-actor.ensures distinct;
      agrees = ap (at (number.Actor c.index-actor.result.now)) d.seen;
      entries = c.new.ensures.items;
      short = omega arith;
    }

pub loop-i-init : goal.loop-i-init
loop-i-init g c =
    let o = c.self.inside in
    let n = c.self.invariant in
    let callers_are = ap (λ (q : Run). q.roster.callers) c.self.view_is in (
      subst (λ (t : TableId). IsSeat t o.seat) (ap (λ (q : Run). q.table) (c.self.view_is ∙ c.requires.name)) n.seat,
      record {
        within = omega arith;
        seen = ap (λ (v : View). v.seen) n.view_is;
        clock_is = ap (λ (v : View). v.clock) n.view_is;
        held = ap (λ (v : View). v.held) n.view_is
            ∙ ap (λ (k : ℕ). caller_numbers k ++ actor_numbers o.table.shared.key.actors) callers_are
            ∙ ap (λ (as' : List ActorName). caller_numbers c.args.self.roster.callers ++ actor_numbers as') (sym n.actors_are);
        books_are = subst (λ (books : List Volume). AreBlank 0 [] books) (sym c.in_ok-books.ensures.items) _;
      },
      refl,
      c.in_ok-books.ensures.len,
      omega (arith, c.in_ok-books.ensures.capacity, c.len.ensures),
    )

pub returns-clause-held : goal.returns-clause-held
returns-clause-held g c =
    let o = c.self.inside in
    all_dealt c.args.self.roster.callers o.actors.items c.loop-i.i c.loop-i.all.me.0 c.loop-i.books.items c.loop-i.invariant.1 (search rules)
    ∙ ap (λ (q : Run). caller_numbers q.roster.callers) c.requires.name

pub loop-i-preserved : goal.loop-i-preserved
loop-i-preserved g c =
    let s = c.hand-seat.ensures in
    let o = c.self.inside in
    let n = c.self.invariant in
    let distinct : Distinct o.actors.items = subst Distinct (sym (n.actors_are ∙ ap (λ (q : Run). q.roster.actors) (c.self.view_is ∙ c.requires.name))) c.requires.distinct in
    let inv = c.loop-i.invariant in
    let d = inv.1 in
    let a = c.index-actor.result.now in
    let lt : c.loop-i.i < length o.actors.items = search rules in
    let given = dealt_given c.args.self.roster.callers o.actors.items c.loop-i.i c.loop-i.all.me.0 c.loop-i.books.items d lt a c.index-actor.ensures distinct in
    let views = c.into_badge.ensures.2 ∙ ap (λ (z : View). z ∷ []) s.given in (
      s.seats.0,
      rw c.push_reserved.ensures.items
          (dealt_next c.args.self.roster.callers o.actors.items c.loop-i.i c.loop-i.all.me.0 c.loop-i.books.items d lt a c.index-actor.ensures distinct c.hand-seat.new.seat.me.0 _ s.kept
          (let v = volume_is a c.loop-i.i _ c.into_badge.result.views (only (number.Actor a) c.loop-i.all.me.0) (number.Actor a) [] views given in
          record { actor = ap (λ z. z.actor) v; number_is = ap (λ z. z.number) v; seen = ap (λ z. z.seen) v ∙ d.seen; list = ap (λ z. z.list) v })),
      refl,
      c.push_reserved.ensures.len ∙ ap (λ k. k + 1) inv.3,
      search rules,
    )

pub invariant_of-pass : goal.invariant_of-pass
invariant_of-pass g c =
    let o = c.self.inside in
    let n = c.self.invariant in
    let inv = c.loop-i.invariant in
    first_pass g.J.Naming.run.table c.loop-i.all c.args.self.roster.callers o.actors.items c.loop-i.i c.loop-i.books.items inv.0 inv.1 (search rules) (subst (λ (q : Run). q.roster.callers ≤ 37) c.self.view_is n.few)

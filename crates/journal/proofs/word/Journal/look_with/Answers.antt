use Rattle.std.proofs.Common.{◌-◌, [], ◌∷◌, ap, sym, subst, ◌∙◌}
use Rattle.std.specs.Prelude.{vec_len, vec_capacity}
use Rattle.net_base.specs.declared.noted.Number.TheVariants as number
use Rattle.journal.specs.declared.law.View.{View}
use Rattle.journal.specs.Rule.{Looks, both_seen, only}
use Rattle.journal.specs.Tokens.{sight, Counted, Agrees, OnlyCallers}
use Rattle.journal.proofs.After.{rested, volume_is, look_kept, look_given, look_agrees, look_actor, looked_with}
use Rattle.journal.proofs.word.Journal.look_with.Goals as goal

pub invariant_of-book : goal.invariant_of-book
invariant_of-book g c =
    let b = c.book.invariant in
    let p = c.pass.invariant in
    let v : View = c.pass.inside.seat.me.0 in
    let u : View = c.into_seat.result.me.0 in
    let a = c.book.inside.actor in
    let badge = ap (λ z. z.views) (sym c.replace-badge.ensures.value) in
    let held = rested c.book.inside.badge.views u b.view ((number.Actor a, b.list) ∷ []) (badge ∙ c.into_seat.ensures.2) b.views_is b.held in
    let book = sym (volume_is a c.book.inside.number (vec_capacity c.book.inside.entries - vec_len c.book.inside.entries) c.book.inside.badge.views u (number.Actor a) b.list (badge ∙ c.into_seat.ensures.2) held) ∙ c.book.view_is in
    let n = c.watch-front.result in
    let w : View = c.watch-front.new.seat.me.0 in
    let d : Looks g.J.Naming.run.roster (both_seen v u) n w = subst (λ (z : View). Looks g.J.Naming.run.roster z n w) c.take_in.ensures.both c.watch-front.ensures.seen in
    let s = c.hand-seat.ensures in
    record {
      few = b.few;
      table_is = c.into_badge.ensures.0 ∙ s.seats.1.0;
      view = only (number.Actor a) w;
      list = b.list;
      views_is = c.into_badge.ensures.2 ∙ ap (λ (z : View). z ∷ []) s.given;
      held = look_given v u a b.list p.agrees p.callers held g.J.Naming.run.roster n w d;
      agrees = look_actor v u a b.list p.agrees p.callers held g.J.Naming.run.roster n w d;
      entries = b.entries;
      short = b.short;
    }

pub invariant_of-pass : goal.invariant_of-pass
invariant_of-pass g c =
    let b = c.book.invariant in
    let p = c.pass.invariant in
    let v : View = c.pass.inside.seat.me.0 in
    let u : View = c.into_seat.result.me.0 in
    let a = c.book.inside.actor in
    let badge = ap (λ z. z.views) (sym c.replace-badge.ensures.value) in
    let held = rested c.book.inside.badge.views u b.view ((number.Actor a, b.list) ∷ []) (badge ∙ c.into_seat.ensures.2) b.views_is b.held in
    let book = sym (volume_is a c.book.inside.number (vec_capacity c.book.inside.entries - vec_len c.book.inside.entries) c.book.inside.badge.views u (number.Actor a) b.list (badge ∙ c.into_seat.ensures.2) held) ∙ c.book.view_is in
    let n = c.watch-front.result in
    let w : View = c.watch-front.new.seat.me.0 in
    let d : Looks g.J.Naming.run.roster (both_seen v u) n w = subst (λ (z : View). Looks g.J.Naming.run.roster z n w) c.take_in.ensures.both c.watch-front.ensures.seen in
    let s = c.hand-seat.ensures in
    record {
      seat = s.seats.0;
      agrees = subst Agrees (sym s.kept) (look_agrees v u a b.list p.agrees p.callers held g.J.Naming.run.roster n w d);
      callers = subst OnlyCallers (sym (ap (λ (z : View). z.held) s.kept ∙ look_kept v u a b.list p.agrees p.callers held g.J.Naming.run.roster n w d)) p.callers;
      counted = subst (Counted c.pass.inside.counts) (sym (ap (λ (z : View). z.held) s.kept ∙ look_kept v u a b.list p.agrees p.callers held g.J.Naming.run.roster n w d)) p.counted;
    }

pub returns : goal.returns
returns g c =
    let b = c.book.invariant in
    let p = c.pass.invariant in
    let v : View = c.pass.inside.seat.me.0 in
    let u : View = c.into_seat.result.me.0 in
    let a = c.book.inside.actor in
    let badge = ap (λ z. z.views) (sym c.replace-badge.ensures.value) in
    let held = rested c.book.inside.badge.views u b.view ((number.Actor a, b.list) ∷ []) (badge ∙ c.into_seat.ensures.2) b.views_is b.held in
    let book = sym (volume_is a c.book.inside.number (vec_capacity c.book.inside.entries - vec_len c.book.inside.entries) c.book.inside.badge.views u (number.Actor a) b.list (badge ∙ c.into_seat.ensures.2) held) ∙ c.book.view_is in
    let n = c.watch-front.result in
    let w : View = c.watch-front.new.seat.me.0 in
    let d : Looks g.J.Naming.run.roster (both_seen v u) n w = subst (λ (z : View). Looks g.J.Naming.run.roster z n w) c.take_in.ensures.both c.watch-front.ensures.seen in
    let s = c.hand-seat.ensures in
    let room = vec_capacity c.book.inside.entries - vec_len c.book.inside.entries in
    looked_with v u a b.list p.agrees p.callers held g.J.Naming.run.roster n w d c.book.inside.number room
    c.args.book.now _ c.args.pass.now _ book
    (sym (volume_is a c.book.inside.number room c.into_badge.result.views (only (number.Actor a) w) (number.Actor a) b.list (c.into_badge.ensures.2 ∙ ap (λ (z : View). z ∷ []) s.given)
    (look_given v u a b.list p.agrees p.callers held g.J.Naming.run.roster n w d)))
    c.pass.view_is
    (ap sight (sym s.kept))

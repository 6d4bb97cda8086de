use Rattle.std.proofs.Common.{◌+◌, ◌-◌, List, [], ◌∷◌, ◌++◌, refl, ap, sym, subst, ◌∙◌}
use Rattle.std.specs.Prelude.{vec_len, vec_capacity, slice_set, slice_index}
use Rattle.net_base.specs.declared.noted.Noted.{Noted}
use Rattle.net_base.specs.declared.noted.Number.TheVariants as number
use Rattle.net_base.specs.Stamped.{In}
use Rattle.journal.specs.declared.law.View.{View}
use Rattle.journal.specs.declared.tokens.Sight.{Sight}
use Rattle.journal.specs.declared.tokens.Volume.{Volume}
use Rattle.journal.specs.Rule.{Held, MayAdd, Timely, Adds, both_seen, only}
use Rattle.journal.specs.Tokens.{noted_work, stamped, sight, MayBeRecorded, Agrees, Counted, OnlyCallers}
use Rattle.journal.proofs.After.{rested, volume_is, may_add, kept_held, given_held, pass_agrees, book_agrees, book_short, recorded, gained_callers, map-stamped}
use Rattle.journal.proofs.Counts.{counts_gain}
use Rattle.journal.proofs.word.Journal.put.Goals as goal

pub add-stamp-requires-clause-may : goal.add-stamp-requires-clause-may
add-stamp-requires-clause-may g c =
    let b = c.book.invariant in
    let p = c.pass.invariant in
    let x : Noted = noted_work c.args.entry c.args.work.now in
    let v : View = c.pass.inside.seat.me.0 in
    let u : View = c.into_seat.result.me.0 in
    let a = c.book.inside.actor in
    let badge = ap (λ z. z.views) (sym c.replace-badge.ensures.value) in
    let held = rested c.book.inside.badge.views u b.view ((number.Actor a, b.list) ∷ []) (badge ∙ c.into_seat.ensures.2) b.views_is b.held in
    let book = sym (volume_is a c.book.inside.number (vec_capacity c.book.inside.entries - vec_len c.book.inside.entries) c.book.inside.badge.views u (number.Actor a) b.list (badge ∙ c.into_seat.ensures.2) held) ∙ c.book.view_is in
    let may : MayBeRecorded (sight v) record { actor = a; number = c.book.inside.number; seen = u.seen; list = b.list; room = vec_capacity c.book.inside.entries - vec_len c.book.inside.entries } x =
    subst (λ (z : Volume). MayBeRecorded (sight v) z x) (sym book) (subst (λ (z : Sight). MayBeRecorded z c.args.book.now x) (sym c.pass.view_is) c.requires.may) in
    let timely : Timely g.J.Naming.run.roster v.held x = subst (λ (z : Sight). Timely g.J.Naming.run.roster z.held x) (sym c.pass.view_is) c.requires.timely in
    subst (λ (z : View). MayAdd g.J.Naming.run.roster z x) (sym c.take_in.ensures.both)
    (may_add v u a b.list p.agrees p.callers held g.J.Naming.run.roster x may.of_caller may.caller may.room may.actor may.moment_is may.event_is timely)

pub invariant_of-book : goal.invariant_of-book
invariant_of-book g c =
    let b = c.book.invariant in
    let p = c.pass.invariant in
    let x : Noted = noted_work c.args.entry c.args.work.now in
    let v : View = c.pass.inside.seat.me.0 in
    let u : View = c.into_seat.result.me.0 in
    let a = c.book.inside.actor in
    let badge = ap (λ z. z.views) (sym c.replace-badge.ensures.value) in
    let held = rested c.book.inside.badge.views u b.view ((number.Actor a, b.list) ∷ []) (badge ∙ c.into_seat.ensures.2) b.views_is b.held in
    let book = sym (volume_is a c.book.inside.number (vec_capacity c.book.inside.entries - vec_len c.book.inside.entries) c.book.inside.badge.views u (number.Actor a) b.list (badge ∙ c.into_seat.ensures.2) held) ∙ c.book.view_is in
    let may : MayBeRecorded (sight v) record { actor = a; number = c.book.inside.number; seen = u.seen; list = b.list; room = vec_capacity c.book.inside.entries - vec_len c.book.inside.entries } x =
    subst (λ (z : Volume). MayBeRecorded (sight v) z x) (sym book) (subst (λ (z : Sight). MayBeRecorded z c.args.book.now x) (sym c.pass.view_is) c.requires.may) in
    let n = c.add-stamp.result in
    let w : View = c.add-stamp.new.seat.me.0 in
    let d : Adds g.J.Naming.run.roster x (both_seen v u) n w = subst (λ (z : View). Adds g.J.Naming.run.roster x z n w) c.take_in.ensures.both c.add-stamp.ensures.added in
    let s = c.hand-seat.ensures in record {
      few = b.few;
      table_is = c.into_badge.ensures.0 ∙ s.seats.1.0;
      view = only (number.Actor a) w;
      list = b.list ++ (n, x) ∷ [];
      views_is = c.into_badge.ensures.2 ∙ ap (λ (z : View). z ∷ []) s.given;
      held = given_held v u a b.list p.agrees p.callers held g.J.Naming.run.roster x n w d may.of_caller may.caller may.actor;
      agrees = book_agrees v u a b.list p.agrees p.callers held g.J.Naming.run.roster x n w d may.of_caller may.caller may.actor;
      short = book_short v u a b.list p.agrees p.callers held g.J.Naming.run.roster x n w d may.of_caller may.caller may.actor;
      entries = c.push_reserved.ensures.items ∙ ap (λ l. l ++ stamped (n, x) ∷ []) b.entries ∙ sym (map-stamped b.list (n, x));
    }

pub invariant_of-pass : goal.invariant_of-pass
invariant_of-pass g c =
    let b = c.book.invariant in
    let p = c.pass.invariant in
    let x : Noted = noted_work c.args.entry c.args.work.now in
    let v : View = c.pass.inside.seat.me.0 in
    let u : View = c.into_seat.result.me.0 in
    let a = c.book.inside.actor in
    let badge = ap (λ z. z.views) (sym c.replace-badge.ensures.value) in
    let held = rested c.book.inside.badge.views u b.view ((number.Actor a, b.list) ∷ []) (badge ∙ c.into_seat.ensures.2) b.views_is b.held in
    let book = sym (volume_is a c.book.inside.number (vec_capacity c.book.inside.entries - vec_len c.book.inside.entries) c.book.inside.badge.views u (number.Actor a) b.list (badge ∙ c.into_seat.ensures.2) held) ∙ c.book.view_is in
    let may : MayBeRecorded (sight v) record { actor = a; number = c.book.inside.number; seen = u.seen; list = b.list; room = vec_capacity c.book.inside.entries - vec_len c.book.inside.entries } x =
    subst (λ (z : Volume). MayBeRecorded (sight v) z x) (sym book) (subst (λ (z : Sight). MayBeRecorded z c.args.book.now x) (sym c.pass.view_is) c.requires.may) in
    let n = c.add-stamp.result in
    let w : View = c.add-stamp.new.seat.me.0 in
    let d : Adds g.J.Naming.run.roster x (both_seen v u) n w = subst (λ (z : View). Adds g.J.Naming.run.roster x z n w) c.take_in.ensures.both c.add-stamp.ensures.added in
    let s = c.hand-seat.ensures in record {
      seat = s.seats.0;
      agrees = subst Agrees (sym s.kept) (pass_agrees v u a b.list p.agrees p.callers held g.J.Naming.run.roster x n w d may.of_caller may.caller may.actor);
      callers = subst OnlyCallers (sym (ap (λ (z : View). z.held) s.kept ∙ kept_held v u a b.list p.agrees p.callers held g.J.Naming.run.roster x n w d may.of_caller may.caller may.actor)) (gained_callers n x v.held p.callers);
      counted = subst (λ (hs : List Held). Counted (slice_set c.pass.inside.counts c.args.entry.caller (slice_index c.pass.inside.counts c.args.entry.caller + 1)) hs) (sym (ap (λ (z : View). z.held) s.kept ∙ kept_held v u a b.list p.agrees p.callers held g.J.Naming.run.roster x n w d may.of_caller may.caller may.actor))
          (counts_gain c.pass.inside.counts v.held n x may.of_caller p.counted may.caller may.room (slice_index c.pass.inside.counts c.args.entry.caller + 1) refl);
    }

pub returns : goal.returns
returns g c =
    let b = c.book.invariant in
    let p = c.pass.invariant in
    let x : Noted = noted_work c.args.entry c.args.work.now in
    let v : View = c.pass.inside.seat.me.0 in
    let u : View = c.into_seat.result.me.0 in
    let a = c.book.inside.actor in
    let badge = ap (λ z. z.views) (sym c.replace-badge.ensures.value) in
    let held = rested c.book.inside.badge.views u b.view ((number.Actor a, b.list) ∷ []) (badge ∙ c.into_seat.ensures.2) b.views_is b.held in
    let book = sym (volume_is a c.book.inside.number (vec_capacity c.book.inside.entries - vec_len c.book.inside.entries) c.book.inside.badge.views u (number.Actor a) b.list (badge ∙ c.into_seat.ensures.2) held) ∙ c.book.view_is in
    let may : MayBeRecorded (sight v) record { actor = a; number = c.book.inside.number; seen = u.seen; list = b.list; room = vec_capacity c.book.inside.entries - vec_len c.book.inside.entries } x =
    subst (λ (z : Volume). MayBeRecorded (sight v) z x) (sym book) (subst (λ (z : Sight). MayBeRecorded z c.args.book.now x) (sym c.pass.view_is) c.requires.may) in
    let n = c.add-stamp.result in
    let w : View = c.add-stamp.new.seat.me.0 in
    let d : Adds g.J.Naming.run.roster x (both_seen v u) n w = subst (λ (z : View). Adds g.J.Naming.run.roster x z n w) c.take_in.ensures.both c.add-stamp.ensures.added in
    let s = c.hand-seat.ensures in
    let room = vec_capacity c.push_reserved.new.self - vec_len c.push_reserved.new.self in
    recorded v u a b.list p.agrees p.callers held g.J.Naming.run.roster x n w d may.of_caller may.caller may.actor c.book.inside.number (vec_capacity c.book.inside.entries - vec_len c.book.inside.entries) room
    c.args.book.now _ c.args.pass.now _ book
    (sym (volume_is a c.book.inside.number room c.into_badge.result.views (only (number.Actor a) w) (number.Actor a) (b.list ++ (n, x) ∷ []) (c.into_badge.ensures.2 ∙ ap (λ (z : View). z ∷ []) s.given)
    (given_held v u a b.list p.agrees p.callers held g.J.Naming.run.roster x n w d may.of_caller may.caller may.actor)))
    c.pass.view_is
    (ap sight (sym s.kept))

pub bounds-pass-inside-caller : goal.bounds-pass-inside-caller
bounds-pass-inside-caller g c =
    let m = c.requires.may in
    (c.pass.invariant.counted.each c.args.entry.caller m.of_caller (subst (λ (z : Sight). In (number.Caller c.args.entry.caller, m.of_caller) z.held) (sym c.pass.view_is) m.caller)).0

use Rattle.std.proofs.Common.{◌-◌, List, [], ◌∷◌, ◌++◌, refl, ap, sym, subst, ◌∙◌, inl}
use Rattle.std.specs.Prelude.{vec_len, vec_capacity}
use Rattle.net_base.specs.declared.noted.Number.TheVariants as number
use Rattle.net_base.specs.Stamped.{In}
use Rattle.journal.specs.declared.law.View.{View}
use Rattle.journal.specs.declared.tokens.Volume.{Volume}
use Rattle.journal.specs.Rule.{Held, Looks, both_seen}
use Rattle.journal.proofs.After.{rested, volume_is}
use Rattle.journal.proofs.word.Journal.gather_one.Goals as goal
use Rattle.net_base.proofs.Shared.{in_front, in_back}

pub returns-clause-taken : goal.returns-clause-taken
returns-clause-taken g c =
    let b = c.book.invariant in
    let i = c.book.inside in
    let v : View = c.args.all.now.me.0 in
    let u : View = c.into_seat.result.me.0 in
    let w : View = c.watch.new.seat.me.0 in
    let d : Looks g.J.Naming.run.roster (both_seen v u) c.watch.result w = subst (λ (z : View). Looks g.J.Naming.run.roster z c.watch.result w) c.take_in.ensures.both c.watch.ensures.seen in
    let held = rested i.badge.views u b.view ((number.Actor i.actor, b.list) ∷ []) c.into_seat.ensures.2 b.views_is b.held in
    let book = sym (volume_is i.actor i.number (vec_capacity i.entries - vec_len i.entries) i.badge.views u (number.Actor i.actor) b.list c.into_seat.ensures.2 held) ∙ c.book.view_is in
    let mine : In (number.Actor i.actor, b.list) w.held =
    subst (λ (hs : List Held). In (number.Actor i.actor, b.list) hs) (sym (d.held ∙ ap (λ (hs : List Held). v.held ++ hs) held)) (in_back (number.Actor i.actor, b.list) v.held ((number.Actor i.actor, b.list) ∷ []) (inl refl)) in
    record {
      kept = λ k es j. subst (λ (hs : List Held). In (k, es) hs) (sym d.held) (in_front (k, es) v.held u.held j);
      before = d.olds v.seen (inl refl);
      taken = subst (λ (z : Volume). In (number.Actor z.actor, z.list) w.held) book mine;
    }

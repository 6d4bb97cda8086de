use Rattle.std.proofs.Common.{◌≡◌, [], List, ◌∷◌, ◌++◌, map, reverse, length, length-append, ap, sym, subst, ◌∙◌, arith}
use Rattle.std.proofs.lemmas.List.{reverse-reverse, nil_from_length}
use Rattle.journal.specs.declared.tokens.Volume.{Volume}
use Rattle.net_locks.specs.Rosters.{AreUnused}
use Rattle.net_locks.proofs.Rows.{taken_all, taken_in, taken_on, unused_parts, unused_reverse}
use Rattle.net_locks.proofs.locks.locks_of.Goals as goal

pub loop-book-init : goal.loop-book-init
loop-book-init g c = (
  ap (λ (l : _). map (λ q. q.actor) l ++ map (λ (b : Volume). b.actor) (reverse c.reverse.new.self.items)) c.in_ok-locks.ensures.items
      ∙ ap (map (λ (b : Volume). b.actor)) (ap reverse c.reverse.ensures.items ∙ reverse-reverse c.args.books.items),
  subst (λ (l : List Volume). AreUnused l) (sym c.reverse.ensures.items) (unused_reverse c.args.books.items c.requires.blank),
)

pub loop-book-smaller : goal.loop-book-smaller
loop-book-smaller g c = omega (arith, ap length c.in-Some.ensures.items ∙ length-append c.pop.new.self.items (c.in-Some.book ∷ []))

pub lock_for-requires-clause-has : goal.lock_for-requires-clause-has
lock_for-requires-clause-has g c =
    c.requires.actors c.in-Some.book.actor
    (taken_in (λ q. q.actor) (λ (b : Volume). b.actor) c.loop-book.locks.items c.loop-book.books.items c.pop.new.self.items (map (λ (b : Volume). b.actor) c.args.books.items)
    c.in-Some.book c.loop-book.invariant.0 c.in-Some.ensures.items)

pub lock_for-requires-clause-blank : goal.lock_for-requires-clause-blank
lock_for-requires-clause-blank g c = (unused_parts c.pop.new.self.items c.in-Some.book (subst (λ (l : List Volume). AreUnused l) c.in-Some.ensures.items c.loop-book.invariant.1)).1

pub loop-book-preserved : goal.loop-book-preserved
loop-book-preserved g c = (
  subst (λ (l : _). map (λ q. q.actor) l ++ map (λ (b : Volume). b.actor) (reverse c.pop.new.self.items) ≡ map (λ (b : Volume). b.actor) c.args.books.items) (sym c.in_ok-push.ensures.items)
      (taken_on (λ q. q.actor) (λ (b : Volume). b.actor) c.loop-book.locks.items c.loop-book.books.items c.pop.new.self.items (map (λ (b : Volume). b.actor) c.args.books.items)
      c.in_ok-lock.lock c.in-Some.book c.loop-book.invariant.0 c.in-Some.ensures.items c.in_ok-lock.ensures),
  (unused_parts c.pop.new.self.items c.in-Some.book (subst (λ (l : List Volume). AreUnused l) c.in-Some.ensures.items c.loop-book.invariant.1)).0,
)

pub returns : goal.returns
returns g c =
    let none_left : c.loop-book.books.items ≡ [] = nil_from_length c.loop-book.books.items (omega (arith, c.in_default.ensures.cases.0, c.loop-book.books.ok.0)) in
    taken_all (λ q. q.actor) (λ (b : Volume). b.actor) c.loop-book.locks.items c.loop-book.books.items (map (λ (b : Volume). b.actor) c.args.books.items) c.loop-book.invariant.0 none_left

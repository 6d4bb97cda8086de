use Rattle.std.proofs.Common.{◌≡◌, List, [], ◌∷◌, ◌++◌, map, reverse, length, ap, sym, subst, ◌∙◌, arith, length-append}
use Rattle.std.proofs.lemmas.List.{reverse-reverse, nil_from_length}
use Rattle.net_base.specs.Stamped.{In}
use Rattle.journal.specs.declared.tokens.Volume.{Volume}
use Rattle.net_locks.specs.Rosters.{AreReplayed}
use Rattle.net_locks.proofs.Rows.{replayed_on, taken_all, taken_on}
use Rattle.net_locks.proofs.finishing.books_of.Goals as goal

pub loop-lock-init : goal.loop-lock-init
loop-lock-init g c = (
  ap (λ (l : List Volume). map (λ (b : Volume). b.actor) l ++ map (λ q. q.actor) (reverse c.reverse.new.self.items)) c.in_ok-books.ensures.items
      ∙ ap (map (λ q. q.actor)) (ap reverse c.reverse.ensures.items ∙ reverse-reverse c.args.locks.items),
  λ b i. absurd (subst (λ (l : List Volume). In b l) c.in_ok-books.ensures.items i),
)

pub loop-lock-smaller : goal.loop-lock-smaller
loop-lock-smaller g c = omega (arith, ap length c.in-Some.ensures.items ∙ length-append c.pop.new.self.items (c.in-Some.lock ∷ []))

pub loop-lock-preserved : goal.loop-lock-preserved
loop-lock-preserved g c = (
  subst (λ (l : List Volume). map (λ (b : Volume). b.actor) l ++ map (λ q. q.actor) (reverse c.pop.new.self.items) ≡ map (λ q. q.actor) c.args.locks.items) (sym c.in_ok-push.ensures.items)
      (taken_on (λ (b : Volume). b.actor) (λ q. q.actor) c.loop-lock.books.items c.loop-lock.locks.items c.pop.new.self.items (map (λ q. q.actor) c.args.locks.items)
      c.in_ok-book.book c.in-Some.lock c.loop-lock.invariant.0 c.in-Some.ensures.items c.in_ok-book.ensures.actor),
  subst (λ (l : List Volume). AreReplayed g.J.Placing.world l) (sym c.in_ok-push.ensures.items)
      (replayed_on g.J.Placing.world c.loop-lock.books.items c.in_ok-book.book c.loop-lock.invariant.1 c.in_ok-book.ensures.replayed),
)

pub returns-clause-actors : goal.returns-clause-actors
returns-clause-actors g c =
    let none_left : c.loop-lock.locks.items ≡ [] = nil_from_length c.loop-lock.locks.items (omega (arith, c.in_default.ensures.cases.0, c.loop-lock.locks.ok.0)) in
    taken_all (λ (b : Volume). b.actor) (λ q. q.actor) c.loop-lock.books.items c.loop-lock.locks.items (map (λ q. q.actor) c.args.locks.items) c.loop-lock.invariant.0 none_left

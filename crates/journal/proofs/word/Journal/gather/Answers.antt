use Rattle.std.proofs.Common.{refl, List, [], ◌∷◌, ◌++◌, map, ap, sym, subst, ◌∙◌, append_assoc}
use Rattle.std.proofs.lemmas.List.{append-nil}
use Rattle.journal.specs.declared.tokens.Stamped.{Stamped}
use Rattle.journal.specs.declared.tokens.Volume.{Volume}
use Rattle.journal.specs.Closing.{AreAllOf}
use Rattle.journal.specs.Places.{ArePlaced}
use Rattle.journal.specs.Tokens.{stamped}
use Rattle.journal.proofs.Gathering.{gathered_none, gathered_more, of_none, of_more}
use Rattle.journal.proofs.word.Journal.gather.Goals as goal

pub loop-book-init : goal.loop-book-init
loop-book-init g c = (
  c.requires.seat,
  refl,
  (
    [],
    [],
    append-nil c.args.books.items,
    gathered_none c.args.all.now.me.0,
    subst (λ (ls : List (List Stamped)). AreAllOf [] ls) (sym c.requires.none) of_none,
    subst (λ (ls : List (List Stamped)). ArePlaced ls c.args.places.now.items) (sym c.requires.none) (λ e i. absurd i),
  ),
)

pub loop-book-preserved : goal.loop-book-preserved
loop-book-preserved g c =
    let inv = c.loop-book.invariant.2 in
    let b : Volume = c.in-Some.book in
    let one = c.gather_one.ensures in
    let mine = c.in_ok-gather_one.ensures in
    let v = c.args.all.now.me.0 in
    let w = c.gather_one.new.all.me.0 in (
      one.seat,
      one.long ∙ c.loop-book.invariant.1,
      (
        b ∷ inv.0,
        inv.1 ++ map stamped b.list,
        sym (append_assoc c.pop.new.self.items (b ∷ []) inv.0) ∙ (ap (λ (l : List Volume). l ++ inv.0) (sym c.in-Some.ensures.items) ∙ inv.2),
        gathered_more v c.loop-book.all.me.0 w inv.0 b inv.1 inv.3 mine.taken,
        subst (λ (ls : List (List Stamped)). AreAllOf (inv.1 ++ map stamped b.list) ls) (sym mine.list)
            (of_more inv.1 (map stamped b.list) c.loop-book.lists.items inv.4),
        mine.placed inv.5,
      ),
    )

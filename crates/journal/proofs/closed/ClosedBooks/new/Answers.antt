use Rattle.journal.proofs.Placing.{all_at, closed_by}
use Rattle.journal.proofs.closed.ClosedBooks.new.Goals as goal

pub invariant_of-result : goal.invariant_of-result
invariant_of-result c =
    let o = c.requires.only in
    closed_by c.args.lists.items c.args.places.items o.0 c.requires.all o.1 o.2

pub returns : goal.returns
returns c log long at = all_at c.args.lists.items c.args.places.items log c.requires.all long at

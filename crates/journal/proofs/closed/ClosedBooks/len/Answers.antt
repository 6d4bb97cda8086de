use Rattle.std.proofs.Common.{arith}
use Rattle.journal.proofs.Placing.{long_as}
use Rattle.journal.proofs.closed.ClosedBooks.len.Goals as goal

pub returns : goal.returns
returns c =
    let i = c.self.inside in
    let long = long_as i.lists.items i.places.items c.args.self.now c.self.invariant c.self.view_is in
    omega (arith, long, c.len.ensures, i.places.ok.0)

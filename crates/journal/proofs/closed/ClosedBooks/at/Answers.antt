use Rattle.std.proofs.Common.{◌≡◌, List, None, Some, slice_get, refl, subst, arith}
use Rattle.journal.specs.declared.tokens.Stamped.{Stamped}
use Rattle.journal.specs.Places.{there}
use Rattle.journal.proofs.Placing.{got_by, lends, long_as, never_none}
use Rattle.journal.proofs.closed.ClosedBooks.at.Goals as goal

pub index-requires : goal.index-requires
index-requires c =
    let i = c.self.inside in
    let long = long_as i.lists.items i.places.items c.args.self.now c.self.invariant c.self.view_is in
    omega (arith, long, c.requires.within, i.places.ok.0)

pub unreachable-requires : goal.unreachable-requires
unreachable-requires c =
    let i = c.self.inside in
    let p = c.index.result.now in
    let long = long_as i.lists.items i.places.items c.args.self.now c.self.invariant c.self.view_is in
    let noted : slice_get i.places.items c.args.stamp ≡ Some p = got_by i.places.items c.args.stamp p c.index.ensures (omega (arith, long, c.requires.within)) in
    let none = subst (λ (ls : List (List Stamped)). there ls p ≡ None) c.deref.ensures.value (c.in-None.ensures.none refl) in
    never_none i.lists.items i.places.items c.self.invariant c.args.stamp p noted none

pub returns : goal.returns
returns c =
    let i = c.self.inside in
    let p = c.index.result.now in
    let own : Stamped = c.in-Some.own.now in
    let long = long_as i.lists.items i.places.items c.args.self.now c.self.invariant c.self.view_is in
    let noted : slice_get i.places.items c.args.stamp ≡ Some p = got_by i.places.items c.args.stamp p c.index.ensures (omega (arith, long, c.requires.within)) in
    let found = subst (λ (ls : List (List Stamped)). there ls p ≡ Some own) c.deref.ensures.value c.in-Some.ensures.some in
    lends i.lists.items i.places.items c.args.self.now c.self.invariant c.self.view_is c.args.stamp p own noted found

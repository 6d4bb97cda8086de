use Rattle.std.proofs.Common.{ℕ, List, [], ◌++◌, sym, ap, ◌∙◌, arith, ◌<◌, length}
use Rattle.net_base.specs.Networks.{addresses_of}
use Rattle.net_base.proofs.Shared.{own-default}
use Rattle.ndb_search.specs.Numbers.{numbers_in}
use Rattle.ndb_search.specs.declared.tuple_numbers.Kind.TheVariants.{Address}
use Rattle.ndb_search.proofs.Behind.{of-all}
use Rattle.ndb_search.proofs.Owned.{addresses_more, addresses_less}
use Rattle.ndb_search.proofs.networks.addresses_of.Goals as goal

pub loop-place-preserved : goal.loop-place-preserved
loop-place-preserved c =
    let h : c.loop-place.place < length c.args.db.now = omega (arith, c.loop-place-test.true, c.len-place-end.ensures) in
    c.in_ok-add_in.ensures
    ∙ ap (λ (ips : List ℕ). ips ++ numbers_in Address c.tuple-tuple.result) c.loop-place.invariant
    ∙ sym (addresses_more c.args.me.now c.args.db.now c.loop-place.place c.tuple-tuple.result h (own-default c.args.db.now c.loop-place.place c.tuple-tuple.result [] h c.tuple-tuple.ensures) (sym c.has.ensures ∙ c.if-not-has.false))

pub loop-place-preserved-then-not-has : goal.loop-place-preserved-then-not-has
loop-place-preserved-then-not-has c =
    let h : c.loop-place.place < length c.args.db.now = omega (arith, c.loop-place-test.true, c.len-place-end.ensures) in
    c.loop-place.invariant
    ∙ sym (addresses_less c.args.me.now c.args.db.now c.loop-place.place c.tuple-tuple.result h (own-default c.args.db.now c.loop-place.place c.tuple-tuple.result [] h c.tuple-tuple.ensures) (sym c.has.ensures ∙ c.if-not-has.true))

pub returns : goal.returns
returns c = of-all (addresses_of c.args.me.now) c.args.db.now c.loop-place.place _ (omega (arith, c.loop-place-test.false, c.len-place-end.ensures)) c.loop-place.invariant

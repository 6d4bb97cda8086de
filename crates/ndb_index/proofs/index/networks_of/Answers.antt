use Rattle.std.proofs.Common.{nat_eq, [], arith, ◌<◌, length, sym, ap, ◌∙◌}
use Rattle.std.specs.List.{list_any}
use Rattle.net_base.proofs.Shared.{own-default}
use Rattle.ndb_index.specs.Nets.{has_prefix, has_length, places_kept}
use Rattle.ndb_index.proofs.Notes.{taken}
use Rattle.ndb_index.proofs.Own.{Kept, places_more, any_more}
use Rattle.ndb_index.proofs.Unnamed.{none_placed, none_long}
use Rattle.ndb_index.proofs.index.networks_of.Goals as goal

pub returns-then-not-names : goal.returns-then-not-names
returns-then-not-names c = (
  λ asked. ap (λ (kept : Kept). places_kept asked kept) c.new-networks.ensures.empty ∙ sym (none_placed asked 0 c.args.db.now (sym c.names.ensures ∙ c.if-not-names.true)),
  λ bits. ap (list_any (nat_eq bits)) c.new-lengths.ensures.empty ∙ sym (none_long bits c.args.db.now (sym c.names.ensures ∙ c.if-not-names.true)),
)

pub loop-place-preserved : goal.loop-place-preserved
loop-place-preserved c =
    let h : c.loop-place.place < length c.args.db.now = omega (arith, c.loop-place-test.true, c.len-place-end.ensures) in
    let here = own-default c.args.db.now c.loop-place.place c.tuple-tuple.result [] h c.tuple-tuple.ensures in (
      λ asked. places_more (has_prefix asked) c.args.db.now c.loop-place.place c.tuple-tuple.result (places_kept asked c.loop-place.networks.entries) (places_kept asked c.add_tuple.new.networks.entries)
          h here (taken c.loop-place.place c.args.db.now (omega (arith, h)))
          (c.loop-place.invariant.0 asked) (c.in_ok-add_tuple.ensures.places asked),
      λ bits. any_more (has_length bits) c.args.db.now c.loop-place.place c.tuple-tuple.result (list_any (nat_eq bits) c.loop-place.lengths.keys) (list_any (nat_eq bits) c.add_tuple.new.lengths.keys)
          h here (c.loop-place.invariant.1 bits) (c.in_ok-add_tuple.ensures.lengths bits),
    )

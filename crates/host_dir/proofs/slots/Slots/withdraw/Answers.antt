use Rattle.std.proofs.Common.{◌≡◌, rules, ap, ◌∙◌}
use Rattle.std.proofs.lemmas.List.{length-set}
use Rattle.net_base.specs.Directory.{Slot}
use Rattle.host_dir.specs.Found.{slot_at}
use Rattle.host_dir.proofs.Firsts.{at_place}
use Rattle.host_dir.proofs.Index.{kept}
use Rattle.host_dir.proofs.slots.Slots.withdraw.Goals as goal

pub invariant_of-self : goal.invariant_of-self
invariant_of-self c =
    let before = c.self.invariant in
    let old : c.index_mut-slot.result.now ≡ slot_at c.self.inside.slots.items c.args.n =
    at_place c.self.inside.slots.items c.args.n c.index_mut-slot.result.now (search rules) c.index_mut-slot.ensures.value in (
      length-set c.self.inside.slots.items c.args.n c.withdraw.new.self ∙ before.0,
      kept c.self.inside.slots.items c.self.inside.given.entries c.args.n c.withdraw.new.self before.1 (search rules)
          (ap (λ (s : Slot). s.pair) c.withdraw.ensures ∙ ap (λ (s : Slot). s.pair) old),
    )

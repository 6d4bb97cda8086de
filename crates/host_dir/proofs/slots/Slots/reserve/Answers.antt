use Rattle.std.proofs.Common.{ap, ◌∙◌}
use Rattle.std.proofs.lemmas.List.{length-set}
use Rattle.net_base.specs.Directory.{Slot}
use Rattle.host_dir.proofs.Index.{emptied}
use Rattle.host_dir.proofs.slots.Slots.reserve.Goals as goal

pub invariant_of-self : goal.invariant_of-self
invariant_of-self c =
    let before = c.self.invariant in (
      length-set c.self.inside.slots.items c.args.n c.reserve.new.self ∙ before.0,
      emptied c.self.inside.slots.items c.self.inside.given.entries c.args.n c.reserve.new.self before.1 (ap (λ (s : Slot). s.pair) c.reserve.ensures),
    )

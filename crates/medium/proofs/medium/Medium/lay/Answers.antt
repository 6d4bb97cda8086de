use Rattle.std.proofs.Common.{Option, sym, subst, option_to_list}
use Rattle.medium.specs.declared.frame.Frame.{Frame}
use Rattle.medium.specs.OnMedium.{AllSpelled}
use Rattle.medium.proofs.Laying.{AllSpelled-joined, spelled_held}
use Rattle.medium.proofs.medium.Medium.lay.Goals as goal

pub invariant_of-self-2 : goal.invariant_of-self-2
invariant_of-self-2 c = (
  AllSpelled-joined c.self.inside.queue.items c.join.new.queue.items c.join-2.new.queue.items c.join-3.new.queue.items (option_to_list c.in_ok-first.field-0.first) (option_to_list c.in_ok-first.field-0.second) (option_to_list c.self.inside.held) c.ahead.result c.args.frame
      (rw c.in_ok-reserve.ensures.items at c.join.ensures.items) c.join-2.ensures.items (rw c.take.ensures.value at c.join-3.ensures.items) c.in_ok-first.ensures.now c.self.invariant.0 c.self.invariant.1 c.requires.spelled,
  subst (λ (held : Option Frame). AllSpelled (option_to_list held)) (sym c.in_ok-first.ensures.held) (spelled_held c.ahead.result c.args.frame c.requires.spelled),
)

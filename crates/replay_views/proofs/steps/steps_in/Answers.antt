use Rattle.std.proofs.Common.{List, subst, sym}
use Rattle.net_base.specs.declared.history.Entry.{Entry}
use Rattle.net_base.specs.Legal.{IsLegal, IsTimed}
use Rattle.replay_views.proofs.steps.steps_in.Goals as goal

pub record_of-requires-clause-legal : goal.record_of-requires-clause-legal
record_of-requires-clause-legal c = subst (λ (h : List Entry). IsLegal c.args.world.now h) (sym c.as_slice-entries.ensures) c.requires.legal

pub record_of-requires-clause-timed : goal.record_of-requires-clause-timed
record_of-requires-clause-timed c = subst (λ (h : List Entry). IsTimed c.args.world.now h) (sym c.as_slice-entries.ensures) c.requires.timed

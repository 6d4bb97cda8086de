use Rattle.std.proofs.Common.{inl, ap, ◌∙◌}
use Rattle.net_base.specs.declared.actor.ActorName.TheVariants as name
use Rattle.net_base.specs.Stamped.{same_actor}
use Rattle.locked.proofs.Shared.{still_holds, same_moment}
use Rattle.thread_tests.proofs.one_lock.act_once.Goals as goal

pub act-answer-requires-clause-timely : goal.act-answer-requires-clause-timely
act-answer-requires-clause-timely g c = inl (ap (λ a. same_actor a name.Clock) c.requires.actor)

pub returns-clause-held : goal.returns-clause-held
returns-clause-held g c = let h = c.requires.held in still_holds _ _ _ _ _ _ _ _ _ h.0 _ c.act-answer.result _ h.1 h.2 c.act-answer.ensures

pub returns-clause-moment : goal.returns-clause-moment
returns-clause-moment g c =
    let h = c.requires.held in
    same_moment _ _ _ _ _ _ _ _ _ h.0 c.act-answer.result _ (ap (λ a. same_actor a name.Clock) c.requires.actor) h.1 c.act-answer.ensures ∙ c.requires.moment

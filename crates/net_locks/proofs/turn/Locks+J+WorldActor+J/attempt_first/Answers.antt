use Rattle.std.proofs.Common.{◌≡◌, ℕ, List, Some, slice_get, ap, sym, subst, ◌∙◌}
use Rattle.std.specs.Prelude.{option_copied}
use Rattle.std.proofs.lemmas.Option.{same_Some}
use Rattle.net_base.specs.declared.actor.ActorName.{ActorName}
use Rattle.net_base.specs.declared.actor.ActorName.TheVariants as name
use Rattle.net_base.specs.declared.history.Work.{Work}
use Rattle.net_base.specs.Duties.{Duty}
use Rattle.net_base.specs.Stamped.{In, same_actor}
use Rattle.duties.specs.Queue.{work_of_duty}
use Rattle.net_locks.specs.Visitors.{Attempted}
use Rattle.net_locks.proofs.Firsts.{first_in}
use Rattle.net_locks.proofs.turn.Locks+J+WorldActor+J.attempt_first.Goals as goal

pub attempt-requires-clause-other : goal.attempt-requires-clause-other
attempt-requires-clause-other g c =
    let w = g.J.Placing.world in
    let ds = c.args.duties.now.list in
    let d = c.unwrap-first.result.now in
    let is : slice_get ds 0 ≡ Some d = sym c.first.ensures ∙ ap option_copied c.unwrap-first.ensures in
    let there = subst (λ (l : List Duty). In d l) (sym c.requires.guest.owed) (first_in ds d is) in
    ap (λ (a : ActorName). same_actor a name.Clock) (c.requires.lock d is) ∙ c.no_duty_is_the_clocks.ensures w c.args.bearer.now.pass.seen c.args.bearer.now.caller d there

pub returns-clause-attempted : goal.returns-clause-attempted
returns-clause-attempted g c d is =
    let ts = g.J.Placing.tasks in
    let w = g.J.Placing.world in
    let r = g.J.Naming.run.roster in
    let first : c.unwrap-first.result.now ≡ d = same_Some c.unwrap-first.result.now d (ap option_copied (sym c.unwrap-first.ensures) ∙ (c.first.ensures ∙ is)) in
    let work : c.work.result.now ≡ work_of_duty d = c.work.ensures ∙ ap work_of_duty first in
    let cites : c.first-2.inside.cites ≡ d.cites = ap (λ (q : Duty). q.cites) (c.first-2.view_is ∙ first) in
    let b = c.args.bearer.now in
    let b' = c.attempt.new.bearer in
    subst (λ (a : ActorName). Attempted ts w r a (work_of_duty d) (Some d.cites) b c.attempt.result b') (c.requires.lock d is)
    (subst (λ (x : Work). Attempted ts w r c.args.lock.now.actor x (Some d.cites) b c.attempt.result b') work
    (subst (λ (n : ℕ). Attempted ts w r c.args.lock.now.actor c.work.result.now (Some n) b c.attempt.result b') cites c.attempt.ensures.attempted))

use Rattle.std.proofs.Common.{sym, ◌∙◌}
use Rattle.std.proofs.lemmas.Option.{none-some, same_Some}
use Rattle.replay_views.proofs.Scripts.{answered_free, answered_owing}
use Rattle.replay_views.proofs.standing.answered.Goals as goal

pub returns-then-owes : goal.returns-then-owes
returns-then-owes c = λ w h k s is at. answered_owing w h k c.args.caller.now s is at (sym (c.owes.ensures w h k is) ∙ c.if-owes.true)

pub returns-in-Some : goal.returns-in-Some
returns-in-Some c = λ w h k s is at.
    answered_free w h k c.in-Some.finished s (sym (c.owes.ensures w h k is) ∙ c.if-owes.false) (same_Some _ _ (c.in-Some.ensures w h k s is at))

pub returns-in-None : goal.returns-in-None
returns-in-None c = λ w h k s is at. absurd (none-some _ (c.in-None.ensures w h k s is at))

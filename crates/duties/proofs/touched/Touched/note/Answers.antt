use Rattle.std.proofs.Common.{sym, subst, ◌∙◌, arith}
use Rattle.duties.specs.Marks.{Covers, Marks}
use Rattle.duties.proofs.Covering.{covers_again, covers_new}
use Rattle.duties.proofs.touched.Touched.note.Goals as goal

pub returns-then-has-clause-covers : goal.returns-then-has-clause-covers
returns-then-has-clause-covers c own x covers at =
    covers_again own x c.args.actor c.args.stamp _ c.max-self-inside.result _ (subst (λ (m : Marks). Covers own m) (sym c.self.view_is) covers) at
    (omega (arith, c.max-self-inside.ensures)) (omega (arith, c.max-self-inside.ensures)) (sym c.has.ensures ∙ c.if-has.true)

pub returns-clause-covers : goal.returns-clause-covers
returns-clause-covers c own x covers at =
    covers_new own x c.args.actor c.args.stamp _ c.push_reserved.new.self.items c.max-self-inside.result _ (subst (λ (m : Marks). Covers own m) (sym c.self.view_is) covers) at
    (omega (arith, c.max-self-inside.ensures)) (omega (arith, c.max-self-inside.ensures)) (sym c.is_conversation.ensures ∙ c.if-not-is_conversation.false)
    c.push_reserved.ensures.items

use Rattle.std.proofs.Common.{arith, sym, subst}
use Rattle.std.proofs.lemmas.Bool.Decides.{nat_tests}
use Rattle.il_machine.specs.Windows.{Windows}
use Rattle.il_machine.specs.Stands.{StandsForSomeEnd, IsEndShort}
use Rattle.il_machine.proofs.Unread.{length_cut}
use Rattle.il_machine.proofs.Witness.{got_few, some_short}
use Rattle.il_machine.specs.contracts.end.IlEnd.{the_view}
use Rattle.il_machine.proofs.end.IlEnd.is_short.Goals as goal

pub returns-then-self-lt-MOST_MESSAGES-clause-some : goal.returns-then-self-lt-MOST_MESSAGES-clause-some
returns-then-self-lt-MOST_MESSAGES-clause-some c = (
  λ t. subst (λ (w : Windows). StandsForSomeEnd w IsEndShort) c.self.view_is
      (some_short (the_view c.self.inside) (omega (arith, c.self.invariant.unacked_were_sent)) (omega (arith, c.self.invariant.unread_were_got, length_cut c.self.inside.unread.offset c.self.inside.unread.texts)) c.if-self-lt-MOST_MESSAGES.true (grind (arith, nat_tests, t))),
  λ some. let few = got_few (the_view c.self.inside) (subst (λ (w : Windows). StandsForSomeEnd w IsEndShort) (sym c.self.view_is) some) in grind (arith, nat_tests, few),
)

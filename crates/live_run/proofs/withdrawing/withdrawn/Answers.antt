use Rattle.std.proofs.Common.{◌≡◌, ℕ, Option, Some, None, refl, arith}
use Rattle.std.specs.Prelude.{IfSome}
use Rattle.live_run.specs.LiveRuns.{CanWithdraw}
use Rattle.live_run.specs.declared.playing.Rest.{Rest}
use Rattle.live_run.proofs.withdrawing.withdrawn.Goals as goal

if_some : (o : Option ℕ) (P : ℕ → Type 0) → ((last : ℕ) → o ≡ Some last → P last) → IfSome o P
if_some None P made = tt
if_some (Some last) P made = made last refl

pub returns : goal.returns
returns c =
    if_some c.deadline.result _ (λ last is. record {
      among = c.is_among.ensures c.if-not-is_among.false;
      known = omega (arith, c.if-len-script.false, c.len.ensures);
      deadline = c.deadline.ensures last is;
      unheard = c.is_waiting.ensures c.if-not-is_waiting.false;
    })

-- Each message has one spelling, and each spelling is one message's.
use Rattle.std.proofs.Common.{◌≡◌, ℕ, List, sym, ap, subst, ◌∙◌}
use Rattle.std.specs.Prelude.{◌↔◌}
use Rattle.net_base.specs.declared.ninep.Tmsg.{Tmsg}
use Rattle.net_base.specs.declared.ninep.Rmsg.{Rmsg}
use Rattle.net_base.specs.NinepMessages.{t_bytes, SpellsT, r_bytes, SpellsR}
use Rattle.ninep_wire.proofs.Laws.{some_is}
use Rattle.ninep_wire.proofs.Whole.{t_only, r_only}

t_back : (m n : Tmsg) (bytes : List ℕ) → SpellsT m bytes → SpellsT n bytes → m ≡ n
t_back m n bytes s p = some_is m n (sym (t_only m bytes s) ∙ t_only n bytes p)

pub t_one : (m n : Tmsg) (a b : List ℕ) → SpellsT m a → SpellsT n b → (m ≡ n) ↔ (a ≡ b)
t_one m n a b s p = (
  λ same. s.spelled ∙ ap t_bytes same ∙ sym p.spelled,
  λ same. t_back m n b (subst (SpellsT m) same s) p,
)

r_back : (m n : Rmsg) (bytes : List ℕ) → SpellsR m bytes → SpellsR n bytes → m ≡ n
r_back m n bytes s p = some_is m n (sym (r_only m bytes s) ∙ r_only n bytes p)

pub r_one : (m n : Rmsg) (a b : List ℕ) → SpellsR m a → SpellsR n b → (m ≡ n) ↔ (a ≡ b)
r_one m n a b s p = (
  λ same. s.spelled ∙ ap r_bytes same ∙ sym p.spelled,
  λ same. r_back m n b (subst (SpellsR m) same s) p,
)

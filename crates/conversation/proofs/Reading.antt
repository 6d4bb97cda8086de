-- What a read of a UDP end is for its conversation.
use Rattle.std.proofs.Common.{◌≡◌, ℕ, Bool, Option, None, sym, subst, ◌∙◌}
use Rattle.std.specs.Option.{option_map}
use Rattle.net_base.specs.declared.history.Outcome.{Outcome}
use Rattle.net_base.specs.declared.reply.Reply.{Reply}
use Rattle.net_base.specs.UdpEnd.{UdpEnd}
use Rattle.net_base.specs.Conversation.{Conv, Core, Udp, Connected, is_over, leaves, read_at, udp_read}
use Rattle.conversation.specs.Kept.{as_step}

-- a read tells this in every conversation with the end
abbrev pub Tells : UdpEnd → UdpEnd → ℕ → Option Reply → Type 0
Tells old new count answer =
    (c : Conv) → udp_read old.unread count old (record c { core = Udp old }) ≡ option_map (λ (answer : Reply). leaves (record c { core = Udp old }) answer (record c { core = Udp new }) None) answer

-- what is answered so is given, where the conversation was over or wasn't
abbrev pub Gives : Bool → Conv → Option Reply → Option Outcome → Type 0
Gives was after answer given =
    (before : Conv) → is_over before ≡ was → option_map (λ (answer : Reply). leaves before answer after None) answer ≡ as_step after given

in_conversation : (b : Conv) (old new : UdpEnd) (count : ℕ) (was : Bool) (answer : Option Reply) (given : Option Outcome) → b.core ≡ Udp old → was ≡ is_over b → Tells old new count answer → Gives was (record b { core = Udp new }) answer given → read_at Connected b.core count b ≡ as_step (record b { core = Udp new }) given
in_conversation b old new count was answer given is over tells gives =
    subst (λ (x : Core). was ≡ is_over (record b { core = x }) → read_at Connected x count (record b { core = x }) ≡ as_step (record b { core = Udp new }) given) (sym is) (λ h. tells b ∙ gives (record b { core = Udp old }) (sym h)) over

-- the read is that of the conversation
pub read_of_udp : (b kept : Conv) (old new : UdpEnd) (count : ℕ) (was : Bool) (answer : Option Reply) (given : Option Outcome) → b ≡ kept → b.core ≡ Udp old → was ≡ is_over kept → Tells old new count answer → Gives was (record b { core = Udp new }) answer given → read_at Connected kept.core count kept ≡ as_step (record b { core = Udp new }) given
read_of_udp b kept old new count was answer given e is over tells gives =
    subst (λ (k : Conv). was ≡ is_over k → read_at Connected k.core count k ≡ as_step (record b { core = Udp new }) given) e (λ h. in_conversation b old new count was answer given is h tells gives) over

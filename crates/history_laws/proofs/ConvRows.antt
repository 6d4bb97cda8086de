-- What a conversation's step leaves of its generation and of the kind of its end.
use Rattle.std.proofs.Common.{◌≡◌, ℕ, ◌+◌, ◌<◌, ◌⊎◌, true, Option, Some, inl, inr, refl, sym, subst, arith}
use Rattle.std.specs.Prelude.{IfSome}
use Rattle.std.proofs.lemmas.Bool.{ltb-true, true≢false}
use Rattle.std.proofs.lemmas.Option.{same_Some}
use Rattle.net_base.specs.declared.address.Proto.{Proto}
use Rattle.net_base.specs.declared.address.Proto.TheVariants as proto
use Rattle.net_base.specs.declared.event.Event.{Event}
use Rattle.net_base.specs.declared.event.Event.TheVariants as event
use Rattle.net_base.specs.declared.history.With.{With}
use Rattle.net_base.specs.ActorStep.{Step}
use Rattle.net_base.specs.Conversation.{Conv, Il, Udp, conv_step}
use Rattle.net_base.specs.IlEnd.{End}
use Rattle.net_base.specs.UdpEnd.{UdpEnd}
use Rattle.history_laws.specs.ConvRows.{ConvRow, generation_in}
use Rattle.history_laws.specs.ConvRows as row
use Rattle.history_laws.proofs.ConvTable.{conv_rows, map_some}
use Rattle.history_laws.proofs.Cores.{core_stays}
use Rattle.history_laws.proofs.Duties.{same_core, bears, named}

-- the generation stays, or the event raises it by one
abbrev pub Raised : Event → ℕ → ℕ → Type 0
Raised e old new = (new ≡ old) ⊎ ((bears e ≡ true) × (named e ≡ old + 1) × (new ≡ old + 1))

-- and the end's protocol stays
abbrev pub Kept : Proto → Event → Conv → Step Conv → Type 0
Kept p e c t = same_core p t.state.core × Raised e c.generation t.state.generation

abbrev pub KeptIf : Proto → Event → Conv → Option (Step Conv) → Type 0
KeptIf p e c o = IfSome o (Kept p e c)

same_il : (p : Proto) (a b : End) → same_core p (Il a) → same_core p (Il b)
same_il proto.Il a b is = tt
same_il proto.Udp a b is = is

same_udp : (p : Proto) (a b : UdpEnd) → same_core p (Udp a) → same_core p (Udp b)
same_udp proto.Udp a b is = tt
same_udp proto.Il a b is = is

raised : (slot now : ℕ) (c : Conv) (e : Event) (with : With) (t : Step Conv) → ConvRow slot now c e with t → Raised e c.generation t.state.generation
raised slot now c e with t row.Begins = inr (refl, refl, refl)
raised slot now c e with t (row.BornIl k said sync may) = inr (refl, refl, refl)
raised slot now c e with t (row.BornUdp k said may) = inr (refl, refl, refl)
raised slot now c e with t _ = inl refl

pub conv_kept : (slot : ℕ) (e : Event) (with : With) (now : ℕ) (p : Proto) (c : Conv) → same_core p c.core → KeptIf p e c (conv_step slot e with now c)
conv_kept slot e with now p c core =
    map_some (conv_step slot e with now c) _ (Kept p e c) (conv_rows slot now c e with)
    (λ t row. (core_stays (same_core p) (same_il p) (same_udp p) slot now c e with t row core, raised slot now c e with t row))

-- A birth that comes isn't stale.

named_is : (e : Event) (g : ℕ) → bears e ≡ true → generation_in e ≡ Some g → named e ≡ g
named_is (event.Begin n) g is names = same_Some n g names
named_is (event.Born n) g is names = same_Some n g names
named_is _ g is names = absurd (true≢false (sym is))

row_done : (slot now : ℕ) (c : Conv) (e : Event) (with : With) (t : Step Conv) → bears e ≡ true → c.generation < named e → ConvRow slot now c e with t
    → t.state.generation ≡ named e
row_done slot now c e with t is lt (row.Stale {g = g} names old) = absurd (omega (arith, lt, named_is e g is names, ltb-true g c.generation old))
row_done slot now c e with t is lt row.Begins = refl
row_done slot now c e with t is lt (row.BornIl k said sync may) = refl
row_done slot now c e with t is lt (row.BornUdp k said may) = refl
row_done slot now c e with t is lt _ = absurd (true≢false (sym is))

pub birth_done : (slot : ℕ) (e : Event) (with : With) (now : ℕ) (c : Conv) (u : Step Conv) → bears e ≡ true → c.generation < named e
    → conv_step slot e with now c ≡ Some u → u.state.generation ≡ named e
birth_done slot e with now c u is lt step =
    row_done slot now c e with u is lt (subst (λ (o : Option (Step Conv)). IfSome o (λ (t : Step Conv). ConvRow slot now c e with t)) step (conv_rows slot now c e with))

-- What holds of all ends of a protocol, if of one, stays so of a conversation's end.
use Rattle.std.proofs.Common.{◌≡◌, ℕ, subst}
use Rattle.net_base.specs.declared.event.Event.{Event}
use Rattle.net_base.specs.declared.history.With.{With}
use Rattle.net_base.specs.ActorStep.{Step}
use Rattle.net_base.specs.Conversation.{Conv, Core, Il, Udp, core_announced, fresh_like}
use Rattle.net_base.specs.IlEnd.{End}
use Rattle.net_base.specs.UdpEnd.{UdpEnd}
use Rattle.history_laws.specs.ConvRows.{ConvRow}
use Rattle.history_laws.specs.ConvRows as row

module _ (P : Core → Type 0) (il : (a b : End) → P (Il a) → P (Il b)) (udp : (a b : UdpEnd) → P (Udp a) → P (Udp b)) where
  fresh : (k : Core) → P k → P (fresh_like k)
  fresh (Il e) is = il e _ is
  fresh (Udp e) is = udp e _ is

  announced : (k : Core) → P k → P (core_announced k)
  announced (Il e) is = il e _ is
  announced (Udp e) is = udp e _ is

  as_il : (k : Core) (e d : End) → k ≡ Il e → P k → P (Il d)
  as_il k e d same is = il e d (subst P same is)

  as_udp : (k : Core) (e d : UdpEnd) → k ≡ Udp e → P k → P (Udp d)
  as_udp k e d same is = udp e d (subst P same is)

  pub core_stays : (slot now : ℕ) (c : Conv) (e : Event) (gift : With) (s : Step Conv) → ConvRow slot now c e gift s → P c.core → P s.state.core
  core_stays slot now c e gift s row.Begins is = fresh c.core is
  core_stays slot now c e gift s (row.BornIl {e = x} k said sync may) is = as_il c.core x _ k is
  core_stays slot now c e gift s (row.BornUdp {e = x} k said may) is = as_udp c.core x _ k is
  core_stays slot now c e gift s (row.JoinsIl {e = x} at k may) is = as_il c.core x _ k is
  core_stays slot now c e gift s (row.JoinsUdp {e = x} at k may) is = as_udp c.core x _ k is
  core_stays slot now c e gift s (row.Listens at) is = announced c.core is
  core_stays slot now c e gift s (row.ReadsIl {e = x} some at k unread) is = as_il c.core x _ k is
  core_stays slot now c e gift s (row.ReadsUdp {e = x} some at k unread) is = as_udp c.core x _ k is
  core_stays slot now c e gift s (row.WritesIl {e = x} some fits at k stands) is = as_il c.core x _ k is
  core_stays slot now c e gift s (row.HangsIl {e = x} k) is = as_il c.core x _ k is
  core_stays slot now c e gift s (row.LeavesIl {e = x} k) is = as_il c.core x _ k is
  core_stays slot now c e gift s (row.HangsUdp {e = x} k) is = as_udp c.core x _ k is
  core_stays slot now c e gift s (row.LeavesUdp {e = x} k) is = as_udp c.core x _ k is
  core_stays slot now c e gift s (row.ClosesIl {e = x} opens k) is = as_il c.core x _ k is
  core_stays slot now c e gift s (row.ClosesUdp {e = x} opens k) is = as_udp c.core x _ k is
  core_stays slot now c e gift s (row.ArrivesIl {e = x} k said) is = as_il c.core x _ k is
  core_stays slot now c e gift s (row.ArrivesUdp {e = x} k said takes) is = as_udp c.core x _ k is
  core_stays slot now c e gift s (row.ArrivesNot {e = x} k said takes) is = as_udp c.core x _ k is
  core_stays slot now c e gift s (row.TicksIl {e = x} k) is = as_il c.core x _ k is
  core_stays slot now c e gift s (row.TicksEarly {e = x} k) is = as_il c.core x _ k is
  core_stays slot now c e gift s _ is = is

-- A packet that a link accepted is short, and the world has the link.
use Rattle.std.proofs.Common.{◌≡◌, ℕ, zero, suc, ◌+◌, ◌^◌, ◌<◌, ◌≤◌, ◌==◌, ◌&&◌, true, List, [], ◌∷◌, length, Option, Some, None, slice_get, nat_le, refl, sym, subst, ◌∙◌, arith}
use Rattle.std.specs.List.{list_all}
use Rattle.std.proofs.lemmas.Bool.{and_parts, leb-true, ltb-false}
use Rattle.std.proofs.lemmas.Option.{same_Some}
use Rattle.net_base.specs.declared.actor.ActorName.{ActorName}
use Rattle.net_base.specs.declared.actor.ActorName.TheVariants as name
use Rattle.net_base.specs.declared.event.Event.{Event}
use Rattle.net_base.specs.declared.history.Entry.{Entry}
use Rattle.net_base.specs.declared.history.With.{With}
use Rattle.net_base.specs.declared.packet.Packet.{Packet}
use Rattle.net_base.specs.declared.reply.Reply.{Reply}
use Rattle.net_base.specs.declared.world.MediumSpec.{MediumSpec}
use Rattle.net_base.specs.declared.world.World.{World}
use Rattle.net_base.specs.ActorStep.{Step}
use Rattle.net_base.specs.Actors.{Actor}
use Rattle.net_base.specs.Legal.{Follows, MayFollow}
use Rattle.net_base.specs.Medium.{Medium, datagram_length}
use Rattle.net_base.specs.Net.{Net, after, owed, with_of}
use Rattle.net_base.specs.World.{IsWorld, all_apart, are_media, is_medium, is_name, is_range, is_within, overlap}
use Rattle.replay_views.specs.Capture.{given_packet, medium_of}
use Rattle.history_laws.specs.ActorRows.{ActorRow, AtClock, AtConv, AtDesk, AtDir, AtMedium, Lays, MediumRow}
use Rattle.history_laws.proofs.Shared.{shown_reply}

none_some : {A : Type 0} (x : A) → None ≡ Some x → ⊥
none_some x is = cc

-- what was given is a packet with at most this number of bytes, and the link is one of this number
pub record Gives (g : With) (most : ℕ) (media medium : ℕ) : Type 0 where
  pub packet : Packet
  pub is : given_packet g ≡ Some packet
  pub within : datagram_length packet.body ≤ most
  pub there : medium < media

row_gives : (spec : MediumSpec) (seed : ℕ) (st : Medium) (e : Event) (g : With) (t : Step Medium) (n m media : ℕ) → MediumRow spec seed st e g t
    → medium_of (name.Medium n) t.outcome.reply ≡ Some m → n < media → Gives g spec.mtu media m
row_gives spec seed st e g t n m media (Lays {p = p} fits) on lt = record {
  packet = p;
  is = refl;
  within = ltb-false spec.mtu (datagram_length p.body) fits;
  there = subst (λ (k : ℕ). k < media) (same_Some n m on) lt;
}
row_gives spec seed st e g t n m media _ on lt = absurd (none_some m on)

gives_less : (g : With) (least most media m : ℕ) → least ≤ most → Gives g least media m → Gives g most media m
gives_less g least most media m le gives = record { packet = gives.packet; is = gives.is; within = omega (arith, le, gives.within); there = gives.there }

-- a link of the world carries packets of 16,384 bytes at most
mtu_within : (n m : ℕ) (ss : List MediumSpec) (s : MediumSpec) → are_media n ss ≡ true → slice_get ss m ≡ Some s → s.mtu ≤ 16384
mtu_within n m [] s are at = absurd (none_some s at)
mtu_within n zero (r ∷ ss) s are at =
    let first : is_medium n r ≡ true = (and_parts (is_medium n r) (are_media (n + 1) ss) are).0 in
    let rest = (and_parts (r.number == n) (is_name r.name && (is_within 576 16384 r.mtu && (nat_le (r.loss + r.twice + r.later) 1000 && (list_all is_range r.fates && all_apart overlap r.fates)))) first).1 in
    let mtu = (and_parts (is_name r.name) (is_within 576 16384 r.mtu && (nat_le (r.loss + r.twice + r.later) 1000 && (list_all is_range r.fates && all_apart overlap r.fates))) rest).1 in
    let within = (and_parts (is_within 576 16384 r.mtu) (nat_le (r.loss + r.twice + r.later) 1000 && (list_all is_range r.fates && all_apart overlap r.fates)) mtu).0 in
    let most : r.mtu ≤ 16384 = leb-true r.mtu 16384 (and_parts (nat_le 576 r.mtu) (nat_le r.mtu 16384) within).1 in
    subst (λ (q : MediumSpec). q.mtu ≤ 16384) (same_Some r s at) most
mtu_within n (suc m) (r ∷ ss) s are at = mtu_within (n + 1) m ss s (and_parts (is_medium n r) (are_media (n + 1) ss) are).1 at

place_there : (n : ℕ) (ss : List MediumSpec) (s : MediumSpec) → slice_get ss n ≡ Some s → n < length ss
place_there n [] s at = absurd (none_some s at)
place_there zero (r ∷ ss) s at = omega arith
place_there (suc n) (r ∷ ss) s at = omega (arith, place_there n ss s at)

row_laid : (w : World) → IsWorld w → (now : ℕ) (a : ActorName) (s : Actor) (e : Event) (g : With) (t : Step Actor) (m : ℕ) → ActorRow w now a s e g t
    → medium_of a t.outcome.reply ≡ Some m → Gives g 16384 (length w.media) m
row_laid w world now a s e g t m (AtMedium {k = n} {spec = spec} {m = st} {s = u} at row) on =
    gives_less g spec.mtu 16384 (length w.media) m (mtu_within 0 n w.media spec world.media at)
    (row_gives spec w.seed st e g u n m (length w.media) row on (place_there n w.media spec at))
row_laid w world now a s e g t m (AtDesk there row) on = absurd (none_some m on)
row_laid w world now a s e g t m (AtDir row) on = absurd (none_some m on)
row_laid w world now a s e g t m (AtConv row) on = absurd (none_some m on)
row_laid w world now a s e g t m AtClock on = absurd (none_some m on)

-- an entry that accepted a frame was given a packet that is not long
pub laid_gives : (w : World) (past : List Entry) (net : Net) (x : Entry) (m : ℕ) → IsWorld w → Follows w past net x
    → medium_of x.actor x.reply ≡ Some m
    → Gives (with_of (net.owed x.caller)) 16384 (length w.media) m
laid_gives w past net x m world may on =
    shown_reply w net x (λ (r : Reply). medium_of x.actor r ≡ Some m → Gives (with_of (net.owed x.caller)) 16384 (length w.media) m) may.is_ready may.answers
    (λ t. row_laid w world net.moment x.actor (net.actors x.actor) x.event (with_of (net.owed x.caller)) t m) on

-- so it fits a datagram
pub laid_fits : (w : World) (h : List Entry) (x : Entry) (m : ℕ) (p : Packet) → IsWorld w → MayFollow w h x → medium_of x.actor x.reply ≡ Some m
    → given_packet (with_of (owed w h x.caller)) ≡ Some p → datagram_length p.body < 2 ^ 16
laid_fits w h x m p world may on is =
    let gives = laid_gives w h (after w h) x m world may on in
    let same : gives.packet ≡ p = same_Some gives.packet p (sym gives.is ∙ is) in
    let within : datagram_length p.body ≤ 16384 = subst (λ (q : Packet). datagram_length q.body ≤ 16384) same gives.within in
    omega (arith, within)

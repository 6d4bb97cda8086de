-- What a conversation with a UDP end has, and what a step of it reads and sends.
use Rattle.std.proofs.Common.{◌≡◌, ℕ, ◌++◌, List, [], ◌∷◌, length, take, drop, Option, Some, None, refl, sym, subst}
use Rattle.std.specs.Prelude.{IfSome}
use Rattle.std.proofs.lemmas.Bool.{cond_both}
use Rattle.net_base.specs.declared.actor.ActorName.{ActorName}
use Rattle.net_base.specs.declared.actor.ActorName.TheVariants as actor
use Rattle.net_base.specs.declared.address.Pair.{Pair}
use Rattle.net_base.specs.declared.address.Proto.TheVariants as proto
use Rattle.net_base.specs.declared.event.Event.{Event}
use Rattle.net_base.specs.declared.event.Event.TheVariants as event
use Rattle.net_base.specs.declared.history.With.{With}
use Rattle.net_base.specs.declared.packet.Body.{Body}
use Rattle.net_base.specs.declared.packet.Body.TheVariants as body
use Rattle.net_base.specs.declared.packet.Packet.{Packet}
use Rattle.net_base.specs.declared.reply.Reply.{Reply}
use Rattle.net_base.specs.declared.reply.Reply.TheVariants as reply
use Rattle.net_base.specs.ActorStep.{Step}
use Rattle.net_base.specs.Conversation.{Core, Il, Udp, Stage, Connected, Conv, leaves, conv_step}
use Rattle.net_base.specs.Mirror.{mirror}
use Rattle.net_base.specs.UdpEnd.{UdpEnd, datagram_comes, datagram_read, takes_datagram}
use Rattle.net_base.specs.Written.{Given}
use Rattle.history_laws.specs.ConvRows.{ConvRow}
use Rattle.history_laws.specs.ConvRows as row
use Rattle.history_laws.proofs.Shared.{conv_rows, map_some}
use Rattle.prefix_law.proofs.UdpDuties.{given_to, EmittedAs, GiftFine}

-- a text for the conversation was written at the one with the mirror of its pair
pub record Came (K : Given → Type 0) (W : Pair → List ℕ → Type 0) (h n g : ℕ) (text : List ℕ) : Type 0 where
  pub pair : Pair
  pub has : K (given_to h proto.Udp n g pair)
  pub written : W (mirror pair) text

pub came_more : (K L : Given → Type 0) (W V : Pair → List ℕ → Type 0) (h n g : ℕ) (text : List ℕ) → ((x : Given) → K x → L x) → ((p : Pair) (t : List ℕ) → W p t → V p t) → Came K W h n g text → Came L V h n g text
came_more K L W V h n g text kept written c = record { pair = c.pair; has = kept _ c.has; written = written _ text c.written }

abbrev pub EachCame : (Given → Type 0) → (Pair → List ℕ → Type 0) → ℕ → ℕ → ℕ → List (List ℕ) → Type 0
EachCame K W h n g [] = Unit {0}
EachCame K W h n g (text ∷ texts) = Came K W h n g text × EachCame K W h n g texts

-- a connected conversation has its pair
abbrev pub AtStage : (Given → Type 0) → ℕ → ℕ → ℕ → Pair → Stage → Type 0
AtStage K h n g pair Connected = K (given_to h proto.Udp n g pair)
AtStage K h n g pair _ = Unit {0}

abbrev pub CoreFine : (Given → Type 0) → (Pair → List ℕ → Type 0) → ℕ → ℕ → Conv → Core → Type 0
CoreFine K W h n c (Il e) = ⊥
CoreFine K W h n c (Udp e) = AtStage K h n c.generation c.pair c.stage × EachCame K W h n c.generation e.unread

abbrev pub ConvFine : (Given → Type 0) → (Pair → List ℕ → Type 0) → ℕ → ℕ → Conv → Type 0
ConvFine K W h n c = CoreFine K W h n c c.core

-- a read that replies bytes gives the first of a text that came
pub record FirstOf (K : Given → Type 0) (W : Pair → List ℕ → Type 0) (h n g count : ℕ) (bytes : List ℕ) : Type 0 where
  pub text : List ℕ
  pub came : Came K W h n g text
  pub bytes_is : bytes ≡ take count text

abbrev pub ReadFine : (Given → Type 0) → (Pair → List ℕ → Type 0) → ActorName → Event → Reply → Type 0
ReadFine K W (actor.Conv h proto.Udp n) (event.Read g count) (reply.Bytes bytes) = FirstOf K W h n g count bytes
ReadFine K W _ _ _ = Unit {0}

-- a datagram that a step emits is a write that counts, at the conversation that has the packet's addresses
pub record Sent (K : Given → Type 0) (a : ActorName) (ev : Event) (r : Reply) (p : Pair) (text : List ℕ) : Type 0 where
  pub host : ℕ
  pub slot : ℕ
  pub generation : ℕ
  pub count : ℕ
  pub actor_is : a ≡ actor.Conv host proto.Udp slot
  pub event_is : ev ≡ event.Write generation text
  pub reply_is : r ≡ reply.Count count
  pub has : K (given_to host proto.Udp slot generation p)

abbrev pub SentAs : (Given → Type 0) → ActorName → Event → Reply → Pair → Body → Type 0
SentAs K a ev r p (body.Il m) = Unit {0}
SentAs K a ev r p (body.Udp text) = Sent K a ev r p text

abbrev pub SentIf : (Given → Type 0) → ActorName → Event → Reply → Option Packet → Type 0
SentIf K a ev r None = Unit {0}
SentIf K a ev r (Some p) = SentAs K a ev r (record { local = p.src; remote = p.dst }) p.body

module _ (K : Given → Type 0) (W : Pair → List ℕ → Type 0) (h n : ℕ) where
  -- what a step leaves
  pub record UdpStep (ev : Event) (s : Step Conv) : Type 0 where
    pub fine : ConvFine K W h n s.state
    pub sent : SentIf K (actor.Conv h proto.Udp n) ev s.outcome.reply s.outcome.emit
    pub read : ReadFine K W (actor.Conv h proto.Udp n) ev s.outcome.reply

  abbrev of_udp : Conv → UdpEnd → Conv
  of_udp c e = record c { core = Udp e }

  abbrev Fine : Conv → UdpEnd → Type 0
  Fine c e = AtStage K h n c.generation c.pair c.stage × EachCame K W h n c.generation e.unread

  -- a stale answer gives no bytes
  stale_read : (ev : Event) → ReadFine K W (actor.Conv h proto.Udp n) ev reply.Stale
  stale_read (event.Read g count) = tt
  stale_read _ = tt

  each_push : (g : ℕ) (texts : List (List ℕ)) (text : List ℕ) → EachCame K W h n g texts → Came K W h n g text → EachCame K W h n g (texts ++ text ∷ [])
  each_push g [] text each came = (came, tt)
  each_push g (x ∷ texts) text each came = (each.0, each_push g texts text each.1 came)

  module _ (c : Conv) (e : UdpEnd) (f : Fine c e) where
    -- what came at the end of a row
    at_end : (x : UdpEnd) → ◌≡◌ {A = Core} (Udp e) (Udp x) → EachCame K W h n c.generation x.unread
    at_end x is = let same : e ≡ x = cc is in subst (λ (y : UdpEnd). EachCame K W h n c.generation y.unread) same f.1

    -- the first datagram is read
    takes_first : (gift : With) (count : ℕ) (x : UdpEnd) (text : List ℕ) (texts : List (List ℕ)) → ◌≡◌ {A = Core} (Udp e) (Udp x) → x.unread ≡ text ∷ texts
        → UdpStep (event.Read c.generation count)
        (leaves (of_udp c e) (reply.Bytes (take count text)) (record (of_udp c e) { core = Udp (datagram_read x) }) None)
    takes_first gift count x text texts is are =
        let each : EachCame K W h n c.generation (text ∷ texts) = subst (λ (xs : List (List ℕ)). EachCame K W h n c.generation xs) are (at_end x is) in
        record {
          fine = (f.0, subst (λ (xs : List (List ℕ)). EachCame K W h n c.generation (drop 1 xs)) (sym are) each.1);
          sent = tt;
          read = record { text = text; came = each.0; bytes_is = refl };
        }

    -- a datagram comes
    came_to : (p : Packet) (x : UdpEnd) (text : List ℕ) → ◌≡◌ {A = Core} (Udp e) (Udp x) → p.body ≡ body.Udp text
        → K (given_to h proto.Udp n c.generation (record { local = p.dst; remote = p.src })) → EmittedAs W (record { local = p.src; remote = p.dst }) p.body
        → EachCame K W h n c.generation (datagram_comes text x).unread
    came_to p x text is said has emitted =
        let written : EmittedAs W (record { local = p.src; remote = p.dst }) (body.Udp text) = subst (EmittedAs W (record { local = p.src; remote = p.dst })) said emitted in
        cond_both (takes_datagram x.state (length x.unread)) (record x { unread = x.unread ++ text ∷ [] }) x (λ (y : UdpEnd). EachCame K W h n c.generation y.unread)
        (λ _. each_push c.generation x.unread text (at_end x is) (record { pair = record { local = p.dst; remote = p.src }; has = has; written = written }))
        (λ _. at_end x is)

    row_steps : (now : ℕ) (ev : Event) (gift : With) (s : Step Conv) → GiftFine K W h proto.Udp n ev gift → ConvRow n now (of_udp c e) ev gift s → UdpStep ev s
    row_steps now ev gift s got (row.Stale names old) = record { fine = f; sent = tt; read = stale_read ev }
    row_steps now ev gift s got row.Begins = record { fine = (tt, tt); sent = tt; read = tt }
    row_steps now ev gift s got (row.BornUdp {p = p} k said may) = record {
      fine = (got.0, (record { pair = record { local = p.dst; remote = p.src }; has = got.0; written = subst (EmittedAs W (record { local = p.src; remote = p.dst })) said got.1 }, tt));
      sent = tt;
      read = tt;
    }
    row_steps now ev gift s got (row.JoinsUdp {e = x} at k may) = record { fine = (got, at_end x k); sent = tt; read = tt }
    row_steps now ev gift s got (row.Listens at) = record { fine = (tt, f.1); sent = tt; read = tt }
    row_steps now ev gift s got (row.Binds {port = port} at) = record {
      fine = (subst (λ (x : Stage). AtStage K h n c.generation (record c.pair { local = record c.pair.local { port = port } }) x) (sym at) tt, f.1);
      sent = tt;
      read = tt;
    }
    row_steps now ev gift s got (row.ReadsUdp {count = count} {e = x} {text = text} {texts = texts} some at k are) = takes_first gift count x text texts k are
    row_steps now ev gift s got (row.ReadsEnd some at k none ended) = absurd (cc k)
    row_steps now ev gift s got (row.WritesUdp {text = text} some fits at k) = record {
      fine = f;
      sent = record {
        host = h;
        slot = n;
        generation = c.generation;
        count = length text;
        actor_is = refl;
        event_is = refl;
        reply_is = refl;
        has = subst (λ (x : Stage). AtStage K h n c.generation c.pair x) at f.0;
      };
      read = tt;
    }
    row_steps now ev gift s got (row.HangsUdp {e = x} k) = record { fine = (f.0, at_end x k); sent = tt; read = tt }
    row_steps now ev gift s got (row.LeavesUdp {e = x} k) = record { fine = (f.0, at_end x k); sent = tt; read = tt }
    row_steps now ev gift s got (row.ClosesUdp {e = x} last k) = record { fine = (f.0, at_end x k); sent = tt; read = tt }
    row_steps now ev gift s got (row.ArrivesUdp {p = p} {e = x} {text = text} k said takes) = record { fine = (f.0, came_to p x text k said got.0 got.1); sent = tt; read = tt }
    row_steps now ev gift s got (row.ArrivesNot {p = p} {e = x} {text = text} k said takes) = record { fine = (f.0, came_to p x text k said got.0 got.1); sent = tt; read = tt }
    row_steps now ev gift s got (row.BornIl k said sync may) = absurd (cc k)
    row_steps now ev gift s got (row.JoinsIl at k may) = absurd (cc k)
    row_steps now ev gift s got (row.ReadsIl some at k there) = absurd (cc k)
    row_steps now ev gift s got (row.WritesIl some fits at k stands) = absurd (cc k)
    row_steps now ev gift s got (row.HangsIl k) = absurd (cc k)
    row_steps now ev gift s got (row.LeavesIl k) = absurd (cc k)
    row_steps now ev gift s got (row.ClosesIl last k) = absurd (cc k)
    row_steps now ev gift s got (row.ArrivesIl k said) = absurd (cc k)
    row_steps now ev gift s got (row.TicksIl k) = absurd (cc k)
    row_steps now ev gift s got (row.TicksEarly k) = absurd (cc k)
    row_steps now ev gift s got _ = record { fine = f; sent = tt; read = tt }

  -- every step
  pub udp_steps : (ev : Event) (gift : With) (now : ℕ) (c : Conv) (e : UdpEnd) → Fine c e → GiftFine K W h proto.Udp n ev gift
      → IfSome (conv_step n ev gift now (of_udp c e)) (λ s. UdpStep ev s)
  udp_steps ev gift now c e f got = map_some (conv_step n ev gift now (of_udp c e)) _ _ (conv_rows n now (of_udp c e) ev gift) (λ s row. row_steps c e f now ev gift s got row)

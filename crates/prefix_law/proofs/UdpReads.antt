-- What is read at a conversation of UDP begins a datagram that its peer wrote.
use Rattle.std.proofs.Common.{◌≡◌, ℕ, List, [], ◌∷◌, ◌++◌, take, drop, refl, sym, ap, subst, ◌∙◌, append_assoc}
use Rattle.std.specs.Prelude.{option_to_list}
use Rattle.std.proofs.lemmas.List.{take-append-drop}
use Rattle.net_base.specs.declared.actor.ActorName.{ActorName}
use Rattle.net_base.specs.declared.actor.ActorName.TheVariants as actor
use Rattle.net_base.specs.declared.address.Proto.{Proto}
use Rattle.net_base.specs.declared.address.Proto.TheVariants as proto
use Rattle.net_base.specs.declared.event.Event.{Event}
use Rattle.net_base.specs.declared.event.Event.TheVariants as event
use Rattle.net_base.specs.declared.history.Entry.{Entry}
use Rattle.net_base.specs.declared.reply.Reply.{Reply}
use Rattle.net_base.specs.declared.reply.Reply.TheVariants as reply
use Rattle.net_base.specs.declared.world.World.{World}
use Rattle.net_base.specs.Legal.{IsLegalBy}
use Rattle.net_base.specs.Net.{Net, opening_net, next_net, net_of, work_of}
use Rattle.net_base.specs.Stamped.{In}
use Rattle.net_base.specs.Tasks.{Tasks}
use Rattle.net_base.specs.World.{IsWorld}
use Rattle.net_base.specs.Written.{Conversation, Given, IsRead, gives, given_from, given_in}
use Rattle.prefix_law.specs.PrefixLaw.{WasWritten}
use Rattle.history_laws.proofs.Shared.{legal_take, slice_get_take}
use Rattle.prefix_law.proofs.Holders.{peer_is}
use Rattle.prefix_law.proofs.Places.{places}
use Rattle.prefix_law.proofs.Trace.{HasPlaces}
use Rattle.prefix_law.proofs.UdpConvs.{FirstOf, ReadFine}
use Rattle.prefix_law.proofs.UdpTrace.{Known, Wrote, all_kept, took}
use Rattle.net_base.proofs.Shared.{in_front}

given_append : (w : World) (net : Net) (xs ys : List Entry) → given_from w net (xs ++ ys) ≡ given_from w net xs ++ given_from w (net_of w net xs) ys
given_append w net [] ys = refl
given_append w net (x ∷ xs) ys =
    let first = option_to_list (gives x.actor (work_of net x) x.reply) in
    ap (λ (gs : List Given). first ++ gs) (given_append w (next_net w net x) xs ys) ∙ sym (append_assoc first (given_from w (next_net w net x) xs) (given_from w (net_of w (next_net w net x) xs) ys))

-- what was given in a beginning was given
known_later : (w : World) (h : List Entry) (k : ℕ) (g : Given) → Known w (take k h) g → Known w h g
known_later w h k g there =
    subst (λ (xs : List Entry). In g (given_in w xs)) (take-append-drop k h)
    (subst (λ (gs : List Given). In g gs) (sym (given_append w (opening_net w) (take k h) (drop k h))) (in_front g (given_in w (take k h)) _ there))

module _ {ts : Tasks} (w : World) (world : HasPlaces w) (h : List Entry) (legal : IsLegalBy ts w h) where
  -- the datagram that was read, in the beginning before the read
  first_of : (e : Conversation) (k count : ℕ) (text : List ℕ) → e.proto ≡ proto.Udp → IsRead h e k count text → FirstOf (Known w (take k h)) (Wrote w (take k h)) e.host e.slot e.generation count text
  first_of e k count text udp r =
      let t = took w world (take k h) r.entry (legal k r.entry r.stands) (all_kept w world (take k h) (legal_take w h k legal)) in
      let K = Known w (take k h) in
      let W = Wrote w (take k h) in
      subst (λ (p : Proto). ReadFine K W (actor.Conv e.host p e.slot) (event.Read e.generation count) (reply.Bytes text)) udp
      (subst (λ (a : ActorName). ReadFine K W a (event.Read e.generation count) (reply.Bytes text)) r.actor_is
      (subst (λ (ev : Event). ReadFine K W r.entry.actor ev (reply.Bytes text)) r.event_is
      (subst (λ (x : Reply). ReadFine K W r.entry.actor r.entry.event x) (sym t.reply_is ∙ r.reply_is) t.leaves.read)))

  pub was_written_in : (e : Conversation) (k count : ℕ) (text : List ℕ) → e.proto ≡ proto.Udp → IsRead h e k count text → WasWritten w h e k count text
  was_written_in e k count text udp r =
      let f = first_of e k count text udp r in
      let p = f.came.pair in
      let was = f.came.written in
      let e_is : ◌≡◌ {A = Conversation} (record { host = e.host; proto = proto.Udp; slot = e.slot; generation = e.generation }) e =
      ap (λ (x : Proto). record { host = e.host; proto = x; slot = e.slot; generation = e.generation }) (sym udp) in
      let own : Known w h (record { to = e; pair = p }) = subst (λ (x : Conversation). Known w h (record { to = x; pair = p })) e_is (known_later w h k _ f.came.has) in
      let there = slice_get_take k h was.k was.written.entry was.written.stands in
      record {
        by = was.by;
        peer_is = peer_is w world h legal e was.by p own (was.proto_is ∙ sym udp) (known_later w h k _ was.has);
        at = was.k;
        datagram = f.text;
        written = record {
          entry = was.written.entry;
          count = was.written.count;
          stands = there.1;
          actor_is = was.written.actor_is;
          event_is = was.written.event_is;
          reply_is = was.written.reply_is;
        };
        earlier = there.0;
        text_is = f.bytes_is;
      }

pub was_written : {ts : Tasks} (w : World) (h : List Entry) (e : Conversation) (k count : ℕ) (text : List ℕ) → IsWorld w → IsLegalBy ts w h → e.proto ≡ proto.Udp → IsRead h e k count text → WasWritten w h e k count text
was_written w h e k count text world legal udp r = was_written_in w (places w world) h legal e k count text udp r

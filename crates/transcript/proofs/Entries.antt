-- Entries are told by their words, and plain histories by their texts.
use Rattle.std.proofs.Common.{◌≡◌, ℕ, Bool, true, false, if◌then◌else◌, List, [], ◌∷◌, ◌++◌, Option, Some, None, drop, map, refl, sym, ◌∙◌, ap, append_assoc, bytes_eq, codes}
use Rattle.net_base.specs.declared.address.Addr.{Addr}
use Rattle.net_base.specs.declared.event.Event.{Event}
use Rattle.net_base.specs.declared.history.Entry.{Entry}
use Rattle.net_base.specs.declared.packet.BodyHeader.{BodyHeader}
use Rattle.net_base.specs.declared.packet.BodyHeader.TheVariants as body
use Rattle.net_base.specs.declared.packet.Header.{Header}
use Rattle.net_base.specs.declared.reply.Reply.{Reply}
use Rattle.net_base.specs.declared.world.World.{World}
use Rattle.net_base.specs.Plain.{IsClean, IsPlain, IsPlainEvent, IsPlainReply}
use Rattle.net_base.specs.Summary.{summary}
use Rattle.net_base.specs.Transcript.{body_words, emitted_words, ended_words, entry_words, event_words, history_text, outcome_words, proto_word, reply_words, way_words, who_words}
use Rattle.transcript.proofs.Events.{read_event, event_told, clean_event}
use Rattle.transcript.proofs.Numbers.{number, number_told, clean_numeral}
use Rattle.transcript.proofs.Readers.{Word, at, read_actor, read_addr, read_kind, read_number}
use Rattle.transcript.proofs.Replies.{Ends, read_reply, reply_told, clean_reply}
use Rattle.transcript.proofs.Telling.{lines_told, words_told}
use Rattle.transcript.proofs.Told.{actor_told, addr_told, clean, clean_actor, clean_addr, clean_dash, clean_kind, dash_told, kind_told}
use Rattle.transcript.specs.Telling.{AreClean, HasCleanWords}

-- What follows the reply.

abbrev il_body : List Word → BodyHeader
il_body ws = body.Il (read_kind (at ws 5)) (number (at ws 6)) (number (at ws 7)) (number (at ws 8)) (number (at ws 9))

abbrev udp_body : List Word → BodyHeader
udp_body ws = body.Udp (number (at ws 5))

abbrev header_of : BodyHeader → List Word → Header
header_of b ws = record { src = read_addr (at ws 1); dst = read_addr (at ws 2); ttl = number (at ws 3); tos = number (at ws 4); body = b }

abbrev is_ended : Word → Bool
is_ended word = bytes_eq word (codes "ended")

-- the header, and whether the entry ended
abbrev Tail : Type 0
Tail = Option Header × Bool

abbrev with_header : List Word → Tail
with_header ws =
    if bytes_eq (at ws 0) (codes "il")
    then (Some (header_of (il_body ws) ws), is_ended (at ws 10))
    else (Some (header_of (udp_body ws) ws), is_ended (at ws 6))

abbrev read_tail : List Word → Tail
read_tail ws = if bytes_eq (at ws 0) (codes "+") then with_header (drop 1 ws) else (None, is_ended (at ws 0))

abbrev tail_of : Option Header → Bool → List Word
tail_of emits ended = emitted_words emits ++ ended_words ended

abbrev headed : Addr → Addr → ℕ → ℕ → BodyHeader → Header
headed src dst ttl tos b = record { src = src; dst = dst; ttl = ttl; tos = tos; body = b }

header_told : (src dst : Addr) (ttl tos : ℕ) (b : BodyHeader) (ended : Bool) → read_tail (tail_of (Some (headed src dst ttl tos b)) ended) ≡ (Some (headed src dst ttl tos b), ended)
header_told src dst ttl tos (body.Il k spec id ack length) false =
    rw (addr_told src, addr_told dst, number_told ttl, number_told tos, kind_told k, number_told spec, number_told id, number_told ack, number_told length) refl
header_told src dst ttl tos (body.Il k spec id ack length) true =
    rw (addr_told src, addr_told dst, number_told ttl, number_told tos, kind_told k, number_told spec, number_told id, number_told ack, number_told length) refl
header_told src dst ttl tos (body.Udp length) false =
    rw (addr_told src, addr_told dst, number_told ttl, number_told tos, number_told length) refl
header_told src dst ttl tos (body.Udp length) true =
    rw (addr_told src, addr_told dst, number_told ttl, number_told tos, number_told length) refl

tail_told : (emits : Option Header) (ended : Bool) → read_tail (tail_of emits ended) ≡ (emits, ended)
tail_told None false = refl
tail_told None true = refl
tail_told (Some h) ended = header_told h.src h.dst h.ttl h.tos h.body ended

tail_ends : (emits : Option Header) (ended : Bool) → Ends (tail_of emits ended)
tail_ends None false = refl
tail_ends None true = refl
tail_ends (Some h) ended = refl

-- An entry.

abbrev entry_of : List Word → Event → Reply → Tail → Entry
entry_of ws e r tail =
    record {
      actor = read_actor (at ws 2);
      caller = number (at ws 1);
      moment = number (at ws 0);
      event = e;
      cites = read_number (at ws 3);
      reply = r;
      emits = tail.0;
      ended = tail.1;
    }

abbrev behind_reply : List Word → Event → Reply × List Word → Entry
behind_reply ws e read = entry_of ws e read.0 (read_tail read.1)

abbrev behind_event : List Word → Event × List Word → Entry
behind_event ws read = behind_reply ws read.0 (read_reply (drop 1 read.1))

abbrev read_entry : List Word → Entry
read_entry ws = behind_event ws (read_event (drop 4 ws))

who_told : (x : Entry) (ws : List Word) → entry_of (who_words x ++ ws) x.event x.reply (x.emits, x.ended) ≡ x
who_told x ws =
    rw (number_told x.moment, number_told x.caller, actor_told x.actor, dash_told x.cites) refl

entry_told : (x : Entry) → IsPlainEvent x.event → IsPlainReply x.reply → read_entry (entry_words x) ≡ x
entry_told x event_plain reply_plain =
    let tail = tail_of x.emits x.ended in
    let ws = entry_words x in
    ap (behind_event ws) (event_told x.event event_plain (reply_words x.reply ++ emitted_words x.emits ++ ended_words x.ended))
    ∙ ap (λ words. behind_reply ws x.event (read_reply words)) (append_assoc (reply_words x.reply) (emitted_words x.emits) (ended_words x.ended))
    ∙ ap (behind_reply ws x.event) (reply_told x.reply reply_plain tail (tail_ends x.emits x.ended))
    ∙ ap (entry_of ws x.event x.reply) (tail_told x.emits x.ended)
    ∙ who_told x (event_words x.event ++ outcome_words x)

-- Clean words.

words_both : (xs ys : List Word) → AreClean xs → AreClean ys → AreClean (xs ++ ys)
words_both [] ys cx cy = cy
words_both (x ∷ xs) ys cx cy = (cx.0, words_both xs ys cx.1 cy)

clean_body : (b : BodyHeader) → AreClean (body_words b)
clean_body (body.Il k spec id ack length) =
    (clean_kind k, (clean_numeral spec, (clean_numeral id, (clean_numeral ack, (clean_numeral length, tt)))))
clean_body (body.Udp length) = (clean_numeral length, tt)

clean_proto_word : (b : BodyHeader) → IsClean (proto_word b)
clean_proto_word (body.Il k spec id ack length) = clean (codes "il") refl
clean_proto_word (body.Udp length) = clean (codes "udp") refl

clean_way : (h : Header) → AreClean (way_words (proto_word h.body) h)
clean_way h = (clean_proto_word h.body, (clean_addr h.src, (clean_addr h.dst, (clean_numeral h.ttl, (clean_numeral h.tos, tt)))))

clean_emitted : (emits : Option Header) → AreClean (emitted_words emits)
clean_emitted None = tt
clean_emitted (Some h) =
    (clean (codes "+") refl, words_both (way_words (proto_word h.body) h) (body_words h.body) (clean_way h) (clean_body h.body))

clean_ended : (ended : Bool) → AreClean (ended_words ended)
clean_ended false = tt
clean_ended true = (clean (codes "ended") refl, tt)

clean_who : (x : Entry) → AreClean (who_words x)
clean_who x = (clean_numeral x.moment, (clean_numeral x.caller, (clean_actor x.actor, (clean_dash x.cites, tt))))

clean_outcome : (x : Entry) → AreClean (outcome_words x)
clean_outcome x =
    let front = words_both (reply_words x.reply) (emitted_words x.emits) (clean_reply x.reply) (clean_emitted x.emits) in
    (clean (codes "=") refl, words_both (reply_words x.reply ++ emitted_words x.emits) (ended_words x.ended) front (clean_ended x.ended))

clean_entry : (x : Entry) → IsPlainEvent x.event → AreClean (entry_words x)
clean_entry x plain =
    let front = words_both (who_words x) (event_words x.event) (clean_who x) (clean_event x.event plain) in
    words_both (who_words x ++ event_words x.event) (outcome_words x) front (clean_outcome x)

-- Histories.

all_clean : (h : List Entry) → IsPlain h → HasCleanWords h
all_clean [] plain = tt
all_clean (x ∷ xs) plain = (clean_entry x plain.0, all_clean xs plain.2)

all_told : (h : List Entry) → IsPlain h → map read_entry (map entry_words h) ≡ h
all_told [] plain = refl
all_told (x ∷ xs) plain = rw (entry_told x plain.0 plain.1, all_told xs plain.2) refl

pub texts_told : (h k : List Entry) → IsPlain h → IsPlain k → history_text h ≡ history_text k → h ≡ k
texts_told h k ph pk same =
    sym (all_told h ph) ∙ ap (map read_entry) (words_told 0 h k (all_clean h ph) (all_clean k pk) same) ∙ all_told k pk

-- a summary begins with a letter
pub printed_told : (v w : World) (h k : List Entry) → IsPlain h → IsPlain k → history_text h ++ summary v h ≡ history_text k ++ summary w k → h ≡ k
printed_told v w h k ph pk same =
    sym (all_told h ph) ∙ ap (map read_entry) (lines_told 0 h k (summary v h) (summary w k) (all_clean h ph) (all_clean k pk) refl refl same) ∙ all_told k pk

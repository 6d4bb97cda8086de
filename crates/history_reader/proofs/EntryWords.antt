-- Entries are read exactly.
use Rattle.std.proofs.Common.{◌≡◌, ℕ, Bool, true, false, if◌then◌else◌, List, [], ◌∷◌, ◌++◌, refl, sym, ap, subst, ◌∙◌, Option, Some, None, append_assoc, codes}
use Rattle.std.specs.Prelude.{bytes_eq, option_map}
use Rattle.std.proofs.lemmas.Option.{none-some, same_Some}
use Rattle.std.proofs.lemmas.Slice.Eq.{bytes_eq-Decides}
use Rattle.net_base.specs.declared.actor.ActorName.{ActorName}
use Rattle.net_base.specs.declared.address.Addr.{Addr}
use Rattle.net_base.specs.declared.event.Event.{Event}
use Rattle.net_base.specs.declared.history.Entry.{Entry}
use Rattle.net_base.specs.declared.il.IlKind.{IlKind}
use Rattle.net_base.specs.declared.packet.BodyHeader.{BodyHeader}
use Rattle.net_base.specs.declared.packet.BodyHeader.TheVariants as body
use Rattle.net_base.specs.declared.packet.Header.{Header}
use Rattle.net_base.specs.declared.reply.Reply.{Reply}
use Rattle.net_base.specs.Transcript.{body_words, emitted_words, ended_words, entry_words, event_words, header_words, outcome_words, reply_words, who_words}
use Rattle.history_reader.specs.EntryReading as spec
use Rattle.history_reader.specs.EntryReading.{HeaderWay, Who}
use Rattle.history_reader.specs.EventRows.{event_of}
use Rattle.history_reader.specs.Fields.{Words, Read, actor, behind, both_fields, kind_read, long, long_or_dash, read_as, narrow, octet, read_place}
use Rattle.history_reader.specs.ReplyRows.{reply_read}
use Rattle.history_reader.specs.Spelling.{IsGoodHistory}
use Rattle.history_reader.specs.Wide.{IfAny, IsLongField, IsNarrow, IsOctet, IsPlace, IsWideActor, IsWideBody, IsWideEntry, IsWideHeader}
use Rattle.history_reader.proofs.EventWords.{FitsEvent, equals, event_back, event_sound, plain_event}
use Rattle.history_reader.proofs.Exact.{AreBare, AreRows, Exact, bare_both, exact_both, exact_made, made_of, made_sound, made_told, row, rows_sound}
use Rattle.history_reader.proofs.FieldWords.{actor_exact, actors, bare, dashes, kind_exact, kinds, long_exact, long_or_dash_exact, narrow_exact, numbers, octet_exact, place_exact, places}
use Rattle.history_reader.proofs.ReplyWords.{Ends, FitsReply, reply_back, reply_sound}

-- Headers.

abbrev AnyKind : IlKind → Type 0
AnyKind k = Unit {0}

abbrev ack_words : ℕ × ℕ → Words
ack_words f = numbers f.0 ++ numbers f.1

abbrev ack_fits : ℕ × ℕ → Type 0
ack_fits f = IsNarrow f.0 × IsLongField f.1

ack_exact : Exact (ℕ × ℕ) (both_fields narrow long) ack_words ack_fits
ack_exact = exact_both narrow long numbers numbers IsNarrow IsLongField narrow_exact long_exact

abbrev ids_words : ℕ × (ℕ × ℕ) → Words
ids_words f = numbers f.0 ++ ack_words f.1

abbrev ids_fits : ℕ × (ℕ × ℕ) → Type 0
ids_fits f = IsNarrow f.0 × ack_fits f.1

ids_exact : Exact (ℕ × (ℕ × ℕ)) (both_fields narrow (both_fields narrow long)) ids_words ids_fits
ids_exact = exact_both narrow (both_fields narrow long) numbers ack_words IsNarrow ack_fits narrow_exact ack_exact

abbrev special_words : ℕ × (ℕ × (ℕ × ℕ)) → Words
special_words f = numbers f.0 ++ ids_words f.1

abbrev special_fits : ℕ × (ℕ × (ℕ × ℕ)) → Type 0
special_fits f = IsOctet f.0 × ids_fits f.1

special_exact : Exact (ℕ × (ℕ × (ℕ × ℕ))) (both_fields octet (both_fields narrow (both_fields narrow long))) special_words special_fits
special_exact = exact_both octet (both_fields narrow (both_fields narrow long)) numbers ids_words IsOctet ids_fits octet_exact ids_exact

abbrev il_words : IlKind × (ℕ × (ℕ × (ℕ × ℕ))) → Words
il_words f = kinds f.0 ++ special_words f.1

abbrev il_fits : IlKind × (ℕ × (ℕ × (ℕ × ℕ))) → Type 0
il_fits f = AnyKind f.0 × special_fits f.1

il_exact : Exact (IlKind × (ℕ × (ℕ × (ℕ × ℕ)))) (both_fields kind_read (both_fields octet (both_fields narrow (both_fields narrow long)))) il_words il_fits
il_exact = exact_both kind_read (both_fields octet (both_fields narrow (both_fields narrow long))) kinds special_words AnyKind special_fits kind_exact special_exact

abbrev marks_words : ℕ × ℕ → Words
marks_words f = numbers f.0 ++ numbers f.1

abbrev marks_fits : ℕ × ℕ → Type 0
marks_fits f = IsOctet f.0 × IsOctet f.1

marks_exact : Exact (ℕ × ℕ) (both_fields octet octet) marks_words marks_fits
marks_exact = exact_both octet octet numbers numbers IsOctet IsOctet octet_exact octet_exact

abbrev to_words : Addr × (ℕ × ℕ) → Words
to_words f = places f.0 ++ marks_words f.1

abbrev to_fits : Addr × (ℕ × ℕ) → Type 0
to_fits f = IsPlace f.0 × marks_fits f.1

to_exact : Exact (Addr × (ℕ × ℕ)) (both_fields read_place (both_fields octet octet)) to_words to_fits
to_exact = exact_both read_place (both_fields octet octet) places marks_words IsPlace marks_fits place_exact marks_exact

abbrev from_words : Addr × (Addr × (ℕ × ℕ)) → Words
from_words f = places f.0 ++ to_words f.1

abbrev from_fits : Addr × (Addr × (ℕ × ℕ)) → Type 0
from_fits f = IsPlace f.0 × to_fits f.1

from_exact : Exact (Addr × (Addr × (ℕ × ℕ))) (both_fields read_place (both_fields read_place (both_fields octet octet))) from_words from_fits
from_exact = exact_both read_place (both_fields read_place (both_fields octet octet)) places to_words IsPlace to_fits place_exact to_exact

abbrev of_way : HeaderWay → Addr × (Addr × (ℕ × ℕ))
of_way w = (w.0, (w.1, (w.2, w.3)))

abbrev way_spelled : HeaderWay → Words
way_spelled w = from_words (of_way w)

abbrev IsWideWay : HeaderWay → Type 0
IsWideWay w = from_fits (of_way w)

way_exact : Exact HeaderWay spec.read_way way_spelled IsWideWay
way_exact = exact_made (both_fields read_place (both_fields read_place (both_fields octet octet))) from_words from_fits from_exact spec.to_way of_way (λ f. refl) (λ w. refl)

abbrev IsIl : BodyHeader → Type 0
IsIl (body.Il k special id ack length) = Unit {0}
IsIl (body.Udp length) = ⊥

abbrev IsUdp : BodyHeader → Type 0
IsUdp (body.Il k special id ack length) = ⊥
IsUdp (body.Udp length) = Unit {0}

abbrev FitsIl : BodyHeader → Type 0
FitsIl b = IsWideBody b × IsIl b

abbrev FitsUdp : BodyHeader → Type 0
FitsUdp b = IsWideBody b × IsUdp b

il_told : (b : BodyHeader) → FitsIl b → (rest : Words) → spec.il_body (body_words b ++ rest) ≡ Some (b, rest)
il_told (body.Il k special id ack length) h rest =
    made_told (both_fields kind_read (both_fields octet (both_fields narrow (both_fields narrow long)))) il_words il_fits il_exact spec.to_il (k, (special, (id, (ack, length)))) (tt, (h.0.0, (h.0.1, (h.0.2, h.0.3)))) rest
il_told (body.Udp length) h rest = absurd h.1

il_bare : (b : BodyHeader) → FitsIl b → AreBare (body_words b)
il_bare (body.Il k special id ack length) h = il_exact.bare (k, (special, (id, (ack, length)))) (tt, (h.0.0, (h.0.1, (h.0.2, h.0.3))))
il_bare (body.Udp length) h = absurd h.1

il_body_exact : Exact BodyHeader spec.il_body body_words FitsIl
il_body_exact =
    record {
      sound = made_sound (both_fields kind_read (both_fields octet (both_fields narrow (both_fields narrow long)))) il_words il_fits il_exact spec.to_il body_words FitsIl (λ f. refl) (λ f h. ((h.1.0, h.1.1.0, h.1.1.1.0, h.1.1.1.1), tt));
      told = il_told;
      bare = il_bare;
    }

udp_told : (b : BodyHeader) → FitsUdp b → (rest : Words) → spec.udp_body (body_words b ++ rest) ≡ Some (b, rest)
udp_told (body.Il k special id ack length) h rest = absurd h.1
udp_told (body.Udp length) h rest = made_told long numbers IsLongField long_exact (λ n. body.Udp n) length h.0 rest

udp_bare : (b : BodyHeader) → FitsUdp b → AreBare (body_words b)
udp_bare (body.Il k special id ack length) h = absurd h.1
udp_bare (body.Udp length) h = long_exact.bare length h.0

udp_body_exact : Exact BodyHeader spec.udp_body body_words FitsUdp
udp_body_exact =
    record {
      sound = made_sound long numbers IsLongField long_exact (λ n. body.Udp n) body_words FitsUdp (λ f. refl) (λ f h. (h, tt));
      told = udp_told;
      bare = udp_bare;
    }

abbrev il_head_words : HeaderWay × BodyHeader → Words
il_head_words f = way_spelled f.0 ++ body_words f.1

abbrev il_head_fits : HeaderWay × BodyHeader → Type 0
il_head_fits f = IsWideWay f.0 × FitsIl f.1

il_head_exact : Exact (HeaderWay × BodyHeader) (both_fields spec.read_way spec.il_body) il_head_words il_head_fits
il_head_exact = exact_both spec.read_way spec.il_body way_spelled body_words IsWideWay FitsIl way_exact il_body_exact

abbrev udp_head_words : HeaderWay × BodyHeader → Words
udp_head_words f = way_spelled f.0 ++ body_words f.1

abbrev udp_head_fits : HeaderWay × BodyHeader → Type 0
udp_head_fits f = IsWideWay f.0 × FitsUdp f.1

udp_head_exact : Exact (HeaderWay × BodyHeader) (both_fields spec.read_way spec.udp_body) udp_head_words udp_head_fits
udp_head_exact = exact_both spec.read_way spec.udp_body way_spelled body_words IsWideWay FitsUdp way_exact udp_body_exact

abbrev IsWideHead : Header → Type 0
IsWideHead h = IsWideHeader (Some h)

il_spelled : (w : HeaderWay) (b : BodyHeader) → IsIl b → header_words (spec.to_header (w, b)) ≡ codes "il" ∷ (way_spelled w ++ body_words b)
il_spelled w (body.Il k special id ack length) is = refl
il_spelled w (body.Udp length) is = absurd is

udp_spelled : (w : HeaderWay) (b : BodyHeader) → IsUdp b → header_words (spec.to_header (w, b)) ≡ codes "udp" ∷ (way_spelled w ++ body_words b)
udp_spelled w (body.Il k special id ack length) is = absurd is
udp_spelled w (body.Udp length) is = refl

header_rows_are : AreRows header_words IsWideHead spec.header_rows
header_rows_are = (
  row (both_fields spec.read_way spec.il_body) il_head_words il_head_fits il_head_exact spec.to_header header_words IsWideHead (codes "il") (λ f h. il_spelled f.0 f.1 h.1.1)
      (λ f h. (h.0.0, h.0.1.0, h.0.1.1.0, h.0.1.1.1, h.1.0)),
  (
    row (both_fields spec.read_way spec.udp_body) udp_head_words udp_head_fits udp_head_exact spec.to_header header_words IsWideHead (codes "udp") (λ f h. udp_spelled f.0 f.1 h.1.1)
        (λ f h. (h.0.0, h.0.1.0, h.0.1.1.0, h.0.1.1.1, h.1.0)),
    tt,
  ),
)

header_sound : (words : Words) (h : Header) (rest : Words) → spec.header_of_words words ≡ Some (h, rest) → (words ≡ header_words h ++ rest) × IsWideHead h
header_sound [] h rest e = absurd (none-some (h, rest) e)
header_sound (word ∷ words) h rest e = rows_sound header_words IsWideHead spec.header_rows header_rows_are word words h rest e

abbrev head_of : HeaderWay → BodyHeader → Header
head_of w b = spec.to_header (w, b)

head_told : (w : HeaderWay) (b : BodyHeader) → IsWideWay w → IsWideBody b → (rest : Words) → spec.header_of_words (header_words (head_of w b) ++ rest) ≡ Some (head_of w b, rest)
head_told w (body.Il k special id ack length) hw hb rest =
    made_told (both_fields spec.read_way spec.il_body) il_head_words il_head_fits il_head_exact spec.to_header (w, body.Il k special id ack length) (hw, (hb, tt)) rest
head_told w (body.Udp length) hw hb rest = made_told (both_fields spec.read_way spec.udp_body) udp_head_words udp_head_fits udp_head_exact spec.to_header (w, body.Udp length) (hw, (hb, tt)) rest

head_bare : (w : HeaderWay) (b : BodyHeader) → IsWideWay w → IsWideBody b → AreBare (header_words (head_of w b))
head_bare w (body.Il k special id ack length) hw hb = (bare (codes "il") refl refl, il_head_exact.bare (w, body.Il k special id ack length) (hw, (hb, tt)))
head_bare w (body.Udp length) hw hb = (bare (codes "udp") refl refl, udp_head_exact.bare (w, body.Udp length) (hw, (hb, tt)))

-- What follows a reply.

emitted_sound : (words : Words) (h : Option Header) (rest : Words) → spec.emitted words ≡ Some (h, rest) → (words ≡ emitted_words h ++ rest) × IsWideHeader h
emitted_sound [] h rest e =
    let same = same_Some (None, []) (h, rest) e in
    (ap (λ (r : Option Header × Words). emitted_words r.0 ++ r.1) same, subst (λ (r : Option Header × Words). IsWideHeader r.0) same tt)
emitted_sound (word ∷ words) h rest e = by (bytes_eq word (codes "+")) refl e
  where
    some : (o : Read Header) → spec.header_of_words words ≡ o → word ≡ codes "+" → behind o (made_of (λ (x : Header). Some x)) ≡ Some (h, rest) → (word ∷ words ≡ emitted_words h ++ rest) × IsWideHeader h
    some None q plus f = absurd (none-some (h, rest) f)
    some (Some (x, last)) q plus f =
        let is = header_sound words x last q in
        let same = same_Some (Some x, last) (h, rest) f in (
          ap (λ (w : List ℕ). w ∷ words) plus ∙ ap (λ (ws : Words). codes "+" ∷ ws) is.0 ∙ ap (λ (r : Option Header × Words). emitted_words r.0 ++ r.1) same,
          subst (λ (r : Option Header × Words). IsWideHeader r.0) same is.1,
        )

    by : (v : Bool) → bytes_eq word (codes "+") ≡ v → (if v then read_as spec.header_of_words (λ x. Some x) words else Some (None, word ∷ words)) ≡ Some (h, rest)
        → (word ∷ words ≡ emitted_words h ++ rest) × IsWideHeader h
    by true is f = some (spec.header_of_words words) refl ((bytes_eq-Decides word (codes "+")).0 is) f
    by false is f =
        let same = same_Some (None, word ∷ words) (h, rest) f in
        (ap (λ (r : Option Header × Words). emitted_words r.0 ++ r.1) same, subst (λ (r : Option Header × Words). IsWideHeader r.0) same tt)

emitted_told : (h : Option Header) → IsWideHeader h → (end : Bool) → spec.emitted (emitted_words h ++ ended_words end) ≡ Some (h, ended_words end)
emitted_told None wide false = refl
emitted_told None wide true = refl
emitted_told (Some h) wide end =
    ap (λ (o : Read Header). behind o (made_of (λ (x : Header). Some x))) (head_told (h.src, h.dst, h.ttl, h.tos) h.body (wide.0, (wide.1, (wide.2, wide.3))) wide.4 (ended_words end))

emitted_bare : (h : Option Header) → IsWideHeader h → AreBare (emitted_words h)
emitted_bare None wide = tt
emitted_bare (Some h) wide = (bare (codes "+") refl refl, head_bare (h.src, h.dst, h.ttl, h.tos) h.body (wide.0, (wide.1, (wide.2, wide.3))) wide.4)

ended_sound : (words : Words) (end : Bool) → spec.ended_read words ≡ Some end → words ≡ ended_words end
ended_sound [] end e = ap ended_words (same_Some false end e)
ended_sound (word ∷ []) end e = by (bytes_eq word (codes "ended")) refl e
  where
    by : (v : Bool) → bytes_eq word (codes "ended") ≡ v → (if v then Some true else None) ≡ Some end → word ∷ [] ≡ ended_words end
    by true is f = ap (λ (w : List ℕ). w ∷ []) ((bytes_eq-Decides word (codes "ended")).0 is) ∙ ap ended_words (same_Some true end f)
    by false is f = absurd (none-some end f)
ended_sound (word ∷ other ∷ words) end e = absurd (none-some end e)

ended_told : (end : Bool) → spec.ended_read (ended_words end) ≡ Some end
ended_told false = refl
ended_told true = refl

ended_bare : (end : Bool) → AreBare (ended_words end)
ended_bare false = tt
ended_bare true = (bare (codes "ended") refl refl, tt)

no_call : (h : Option Header) (end : Bool) → Ends (emitted_words h ++ ended_words end)
no_call None false = refl
no_call None true = refl
no_call (Some h) end = refl

-- Who recorded it.

abbrev cites_words : ActorName × Option ℕ → Words
cites_words f = actors f.0 ++ dashes f.1

abbrev cites_fits : ActorName × Option ℕ → Type 0
cites_fits f = IsWideActor f.0 × (IfAny IsLongField) f.1

cites_exact : Exact (ActorName × Option ℕ) (both_fields actor long_or_dash) cites_words cites_fits
cites_exact = exact_both actor long_or_dash actors dashes IsWideActor (IfAny IsLongField) actor_exact long_or_dash_exact

abbrev caller_words : ℕ × (ActorName × Option ℕ) → Words
caller_words f = numbers f.0 ++ cites_words f.1

abbrev caller_fits : ℕ × (ActorName × Option ℕ) → Type 0
caller_fits f = IsNarrow f.0 × cites_fits f.1

caller_exact : Exact (ℕ × (ActorName × Option ℕ)) (both_fields narrow (both_fields actor long_or_dash)) caller_words caller_fits
caller_exact = exact_both narrow (both_fields actor long_or_dash) numbers cites_words IsNarrow cites_fits narrow_exact cites_exact

abbrev moment_words : ℕ × (ℕ × (ActorName × Option ℕ)) → Words
moment_words f = numbers f.0 ++ caller_words f.1

abbrev moment_fits : ℕ × (ℕ × (ActorName × Option ℕ)) → Type 0
moment_fits f = IsLongField f.0 × caller_fits f.1

moment_exact : Exact (ℕ × (ℕ × (ActorName × Option ℕ))) (both_fields long (both_fields narrow (both_fields actor long_or_dash))) moment_words moment_fits
moment_exact = exact_both long (both_fields narrow (both_fields actor long_or_dash)) numbers caller_words IsLongField caller_fits long_exact caller_exact

abbrev of_who : Who → ℕ × (ℕ × (ActorName × Option ℕ))
of_who w = (w.0, (w.1, (w.2, w.3)))

abbrev who_spelled : Who → Words
who_spelled w = moment_words (of_who w)

abbrev IsWideWho : Who → Type 0
IsWideWho w = moment_fits (of_who w)

who_exact : Exact Who spec.who who_spelled IsWideWho
who_exact = exact_made (both_fields long (both_fields narrow (both_fields actor long_or_dash))) moment_words moment_fits moment_exact spec.to_who of_who (λ f. refl) (λ w. refl)

-- An entry.

pub word_sound : (first : List ℕ) (words rest : Words) → spec.behind_word first words ≡ Some rest → words ≡ first ∷ rest
word_sound first [] rest e = absurd (none-some rest e)
word_sound first (word ∷ words) rest e = by (bytes_eq word first) refl e
  where
    by : (v : Bool) → bytes_eq word first ≡ v → (if v then Some words else None) ≡ Some rest → word ∷ words ≡ first ∷ rest
    by true is f = ap (λ (w : List ℕ). w ∷ words) ((bytes_eq-Decides word first).0 is) ∙ ap (λ (ws : Words). first ∷ ws) (same_Some words rest f)
    by false is f = absurd (none-some rest f)

pub record FitsEntry (x : Entry) : Type 0 where
  pub wide : IsWideEntry x
  pub event : FitsEvent x.event
  pub reply : FitsReply x.reply

abbrev IsEntry : Words → Entry → Type 0
IsEntry words x = (words ≡ entry_words x) × FitsEntry x

-- what its parts are
entry_is : (words r1 r2 r3 r4 r5 : Words) (w : Who) (e : Event) (r : Reply) (h : Option Header) (end : Bool) → (words ≡ who_spelled w ++ r1) × IsWideWho w → (r1 ≡ event_words e ++ r2) × FitsEvent e → r2 ≡ equals ∷ r3
    → (r3 ≡ reply_words r ++ r4) × FitsReply r → (r4 ≡ emitted_words h ++ r5) × IsWideHeader h → r5 ≡ ended_words end → IsEntry words (spec.to_entry w e r h end)
entry_is words r1 r2 r3 r4 r5 w e r h end pw pe ps pr ph pd =
    let tail : r3 ≡ (reply_words r ++ emitted_words h) ++ ended_words end =
    pr.0 ∙ ap (λ (ws : Words). reply_words r ++ ws) (ph.0 ∙ ap (λ (ws : Words). emitted_words h ++ ws) pd) ∙ sym (append_assoc (reply_words r) (emitted_words h) (ended_words end)) in
    let rest : r1 ≡ event_words e ++ (equals ∷ ((reply_words r ++ emitted_words h) ++ ended_words end)) =
    pe.0 ∙ ap (λ (ws : Words). event_words e ++ ws) (ps ∙ ap (λ (ws : Words). equals ∷ ws) tail) in (
      pw.0 ∙ ap (λ (ws : Words). who_spelled w ++ ws) rest,
      record {
        wide = record { moment = pw.1.0; caller = pw.1.1.0; actor = pw.1.1.1.0; cites = pw.1.1.1.1; event = pe.1.0; reply = pr.1.0; emits = ph.1 };
        event = pe.1;
        reply = pr.1;
      },
    )

same_entry : (words : Words) (x y : Entry) → x ≡ y → IsEntry words x → IsEntry words y
same_entry words x y same is = subst (IsEntry words) same is

pub entry_sound : (words : Words) (x : Entry) → spec.entry_of words ≡ Some x → IsEntry words x
entry_sound words x e = at_who (spec.who words) refl e
  where
    at_end : (w : Who) (r1 : Words) → spec.who words ≡ Some (w, r1) → (ev : Event) (r2 : Words) → event_of r1 ≡ Some (ev, r2) → (r3 : Words) → spec.behind_word equals r2 ≡ Some r3
        → (r : Reply) (r4 : Words) → reply_read r3 ≡ Some (r, r4) → (h : Option Header) (r5 : Words) → spec.emitted r4 ≡ Some (h, r5) → (o : Option Bool) → spec.ended_read r5 ≡ o
        → option_map (spec.to_entry w ev r h) o ≡ Some x → IsEntry words x
    at_end w r1 qw ev r2 qe r3 qs r r4 qr h r5 qh None qd f = absurd (none-some x f)
    at_end w r1 qw ev r2 qe r3 qs r r4 qr h r5 qh (Some end) qd f =
        same_entry words (spec.to_entry w ev r h end) x (same_Some (spec.to_entry w ev r h end) x f)
        (entry_is words r1 r2 r3 r4 r5 w ev r h end (who_exact.sound words w r1 qw) (event_sound r1 ev r2 qe) (word_sound equals r2 r3 qs) (reply_sound r3 r r4 qr) (emitted_sound r4 h r5 qh) (ended_sound r5 end qd))

    at_emitted : (w : Who) (r1 : Words) → spec.who words ≡ Some (w, r1) → (ev : Event) (r2 : Words) → event_of r1 ≡ Some (ev, r2) → (r3 : Words) → spec.behind_word equals r2 ≡ Some r3
        → (r : Reply) (r4 : Words) → reply_read r3 ≡ Some (r, r4) → (o : Read (Option Header)) → spec.emitted r4 ≡ o → behind o (λ h rest. option_map (spec.to_entry w ev r h) (spec.ended_read rest)) ≡ Some x → IsEntry words x
    at_emitted w r1 qw ev r2 qe r3 qs r r4 qr None qh f = absurd (none-some x f)
    at_emitted w r1 qw ev r2 qe r3 qs r r4 qr (Some (h, r5)) qh f = at_end w r1 qw ev r2 qe r3 qs r r4 qr h r5 qh (spec.ended_read r5) refl f

    at_reply : (w : Who) (r1 : Words) → spec.who words ≡ Some (w, r1) → (ev : Event) (r2 : Words) → event_of r1 ≡ Some (ev, r2) → (r3 : Words) → spec.behind_word equals r2 ≡ Some r3
        → (o : Read Reply) → reply_read r3 ≡ o → behind o (λ r rest. spec.tail_of w ev r rest) ≡ Some x → IsEntry words x
    at_reply w r1 qw ev r2 qe r3 qs None qr f = absurd (none-some x f)
    at_reply w r1 qw ev r2 qe r3 qs (Some (r, r4)) qr f = at_emitted w r1 qw ev r2 qe r3 qs r r4 qr (spec.emitted r4) refl f

    at_equals : (w : Who) (r1 : Words) → spec.who words ≡ Some (w, r1) → (ev : Event) (r2 : Words) → event_of r1 ≡ Some (ev, r2) → (o : Option Words) → spec.behind_word equals r2 ≡ o
        → spec.answer_read_of w ev o ≡ Some x → IsEntry words x
    at_equals w r1 qw ev r2 qe None qs f = absurd (none-some x f)
    at_equals w r1 qw ev r2 qe (Some r3) qs f = at_reply w r1 qw ev r2 qe r3 qs (reply_read r3) refl f

    at_event : (w : Who) (r1 : Words) → spec.who words ≡ Some (w, r1) → (o : Read Event) → event_of r1 ≡ o → behind o (λ ev last. spec.answer_read_of w ev (spec.behind_word equals last)) ≡ Some x → IsEntry words x
    at_event w r1 qw None qe f = absurd (none-some x f)
    at_event w r1 qw (Some (ev, r2)) qe f = at_equals w r1 qw ev r2 qe (spec.behind_word equals r2) refl f

    at_who : (o : Read Who) → spec.who words ≡ o → behind o (λ w rest. behind (event_of rest) (λ ev last. spec.answer_read_of w ev (spec.behind_word equals last))) ≡ Some x → IsEntry words x
    at_who None qw f = absurd (none-some x f)
    at_who (Some (w, r1)) qw f = at_event w r1 qw (event_of r1) refl f

abbrev who_of : Entry → Who
who_of x = (x.moment, x.caller, x.actor, x.cites)

who_wide : (x : Entry) → IsWideEntry x → IsWideWho (who_of x)
who_wide x wide = (wide.moment, (wide.caller, (wide.actor, wide.cites)))

pub entry_told : (x : Entry) → IsGoodHistory x → spec.entry_of (entry_words x) ≡ Some x
entry_told x good =
    let w = who_of x in
    let tail = emitted_words x.emits ++ ended_words x.ended in
    let wide = good.wide in
    ap (λ (o : Read Who). behind o (λ w rest. behind (event_of rest) (λ ev last. spec.answer_read_of w ev (spec.behind_word equals last))))
    (who_exact.told w (who_wide x wide) (event_words x.event ++ outcome_words x))
    ∙ ap (λ (o : Read Event). behind o (λ ev last. spec.answer_read_of w ev (spec.behind_word equals last))) ((event_back x.event wide.event good.event).0 ((reply_words x.reply ++ emitted_words x.emits) ++ ended_words x.ended))
    ∙ ap (λ (ws : Words). behind (reply_read ws) (λ r rest. spec.tail_of w x.event r rest)) (append_assoc (reply_words x.reply) (emitted_words x.emits) (ended_words x.ended))
    ∙ ap (λ (o : Read Reply). behind o (λ r rest. spec.tail_of w x.event r rest)) ((reply_back x.reply wide.reply good.reply).0 tail (no_call x.emits x.ended))
    ∙ ap (λ (o : Read (Option Header)). behind o (λ h rest. option_map (spec.to_entry w x.event x.reply h) (spec.ended_read rest))) (emitted_told x.emits wide.emits x.ended)
    ∙ ap (option_map (spec.to_entry w x.event x.reply x.emits)) (ended_told x.ended)

pub entry_bare : (x : Entry) → IsGoodHistory x → AreBare (entry_words x)
entry_bare x good =
    let wide = good.wide in
    let who = who_exact.bare (who_of x) (who_wide x wide) in
    let event = (event_back x.event wide.event good.event).1 in
    let reply = (reply_back x.reply wide.reply good.reply).1 in
    let tail = bare_both (reply_words x.reply ++ emitted_words x.emits) (ended_words x.ended) (bare_both (reply_words x.reply) (emitted_words x.emits) reply (emitted_bare x.emits wide.emits)) (ended_bare x.ended) in
    bare_both (who_words x ++ event_words x.event) (outcome_words x) (bare_both (who_words x) (event_words x.event) who event) (bare (codes "=") refl refl, tail)

-- bare words make what fits good

bare_front : (xs ys : Words) → AreBare (xs ++ ys) → AreBare xs
bare_front [] ys all = tt
bare_front (x ∷ xs) ys all = (all.0, bare_front xs ys all.1)

bare_behind : (xs ys : Words) → AreBare (xs ++ ys) → AreBare ys
bare_behind [] ys all = all
bare_behind (x ∷ xs) ys all = bare_behind xs ys all.1

bare_middle : (xs ys zs : Words) → AreBare ((xs ++ ys) ++ zs) → AreBare ys
bare_middle xs ys zs all = bare_behind xs ys (bare_front (xs ++ ys) zs all)

pub entry_good : (x : Entry) → FitsEntry x → AreBare (entry_words x) → IsGoodHistory x
entry_good x fits all =
    record {
      event = plain_event x.event fits.event (bare_middle (who_words x) (event_words x.event) (outcome_words x) all);
      reply = fits.reply.1;
      wide = fits.wide;
    }

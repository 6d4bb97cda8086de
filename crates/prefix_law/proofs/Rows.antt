-- Each row of the table keeps what holds.
use Rattle.std.proofs.Common.{◌≡◌, ℕ, ◌^◌, ◌<◌, ◌==◌, ◌&&◌, true, false, not, length, Option, Some, None, is_some, refl, sym, ap, ◌∙◌, arith}
use Rattle.std.proofs.lemmas.Bool.{and_parts, eqb-true}
use Rattle.std.proofs.lemmas.Option.{same_Some}
use Rattle.net_base.specs.declared.il.IlKind.{IlKind}
use Rattle.net_base.specs.declared.il.IlKind.TheVariants.{Sync, Data, DataQuery, Ack, Query, State, Close}
use Rattle.net_base.specs.declared.il.IlMsg.{IlMsg}
use Rattle.net_base.specs.declared.il.IlState.{IlState}
use Rattle.net_base.specs.declared.il.IlState.TheVariants.{Closed, Syncer, Syncee, Established, Listening, Closing}
use Rattle.net_base.specs.declared.il.Cause.{Cause}
use Rattle.net_base.specs.declared.il.Cause.TheVariants as cause
use Rattle.net_base.specs.Number.{id_of, number}
use Rattle.net_base.specs.IlEnd.{End, rstart_of, recvd, silent, emitting, hears, establishes, closes, hears_ack, accepts}
use Rattle.net_base.specs.IlTable.{is_sized, refuses, at_syncer, at_syncee, at_established, at_closing, at_closed, row, arrives}
use Rattle.prefix_law.proofs.Ids.{id_of_same}
use Rattle.prefix_law.proofs.Begins.{begins_itself, begins_length, begins_back}
use Rattle.prefix_law.proofs.Untouched.{leaves_itself, ack_leaves}
use Rattle.prefix_law.proofs.Talking.{HasCause, Closes, rstart_known, Numbered, Carries, SoundAs, Sound, HasMet, met_untold, KnowsAs, Knows, Growth, Grows, grows_itself, Link, Talking, ack_of, hears_ack_talks, TextOf, accepts_talks, Good, good_if, good_same, good_silent, good_ack, good_state, good_close, good_sync, good_again}

-- neither end has written too much
abbrev pub Few : End → End → Type 0
Few e e' = (length e.sent < 2 ^ 31) × (length e'.sent < 2 ^ 31)

-- an end gets a cause
pub gets_cause : (e : End) (why : Cause) → Growth e.start e.start e.fresh e.fresh e.rstart e.rstart e.sent e.sent e.got e.got e.cause (Some why)
gets_cause e why = record {
  same_start = λ h. (refl, h);
  same_rstart = λ r h. h;
  sent_more = begins_itself e.sent;
  sent_one = omega arith;
  got_more = begins_itself e.got;
  no_more = λ h. ((why, refl), begins_itself e.sent);
}

-- an end keeps the cause that it had
growth_at : (e0 e : End) (kept : Option Cause) → Grows e0 e → HasCause kept → Growth e0.start e.start e0.fresh e.fresh e0.rstart e.rstart e0.sent e.sent e0.got e.got e0.cause kept
growth_at e0 e kept g why = record {
  same_start = g.same_start;
  same_rstart = g.same_rstart;
  sent_more = g.sent_more;
  sent_one = g.sent_one;
  got_more = g.got_more;
  no_more = λ h. (why, (g.no_more h).1);
}

-- after the ack of a packet of e'
heard : (now : ℕ) (m : IlMsg) (e0 e' e : End) → Few e e' → Link e' e → Numbered e'.start e'.rstart e'.sent e'.got m → Talking e0 e' e → Talking e0 e' (hears_ack now m e)
heard now m e0 e' e few back n t =
    hears_ack_talks now m e0 e' e (omega (arith, few.0, begins_length e'.got e.sent back.in_order)) (ack_of e e' m back n) t

text_of : (e' : End) (m : IlMsg) → Carries e'.start e'.sent m → TextOf e' m
text_of e' m c = (c.k, c.text_is, c.id_is)

accepted : (now : ℕ) (m : IlMsg) (e0 e' e : End) → Few e e' → Link e' e → Numbered e'.start e'.rstart e'.sent e'.got m → Carries e'.start e'.sent m → Talking e0 e' e → Talking e0 e' (accepts m (hears_ack now m e))
accepted now m e0 e' e few back n c t = accepts_talks m e0 e' (hears_ack now m e) few.1 (text_of e' m c) (heard now m e0 e' e few back n t)

-- a close that comes after the last message marks the end
all_came : (now : ℕ) (m : IlMsg) (e0 e' e : End) → Few e e' → Closes e'.start e'.sent e'.cause m → Talking e0 e' e → Talking e0 e' (hears_ack now m e) → m.id ≡ recvd e
    → Talking e0 e' (closes (Some cause.ByPeer) (record (hears_ack now m e) { closed_by_peer = true }))
all_came now m e0 e' e few c t talks last =
    let got_few : length e.got < 2 ^ 31 = omega (arith, few.1, begins_length e.got e'.sent t.0.in_order) in
    let ids : id_of e'.start (length e.got) ≡ id_of e'.start (length e'.sent) = ap (λ (r : ℕ). id_of r (length e.got)) (sym (rstart_known e0 e' e t)) ∙ (sym last ∙ c.id_is) in
    let same : length e.got ≡ length e'.sent = id_of_same e'.start (length e.got) (length e'.sent) (omega arith) (omega (arith, few.1)) ids in
    let back = begins_back e.got e'.sent t.0.in_order same in (
      record {
        rstart_is = talks.0.rstart_is;
        in_order = talks.0.in_order;
        early_is = talks.0.early_is;
        acked_got = talks.0.acked_got;
        all_got = λ _. (c.has_cause, λ k u h. (ack_leaves now m e e (leaves_itself e)).got_more k u (back k u h));
      },
      talks.1,
      record { same_start = talks.2.same_start; same_rstart = talks.2.same_rstart; sent_more = talks.2.sent_more; sent_one = talks.2.sent_one; got_more = talks.2.got_more; no_more = λ h. ((cause.ByPeer, refl), (talks.2.no_more h).1) },
      (tt, λ _. (talks.1, (cause.ByPeer, refl)), met_untold _ _ talks.1),
    )

pub good_established : (kind : IlKind) (now : ℕ) (m : IlMsg) (e0 e' e : End) → Few e e' → Link e' e → SoundAs kind e'.start e'.rstart e'.sent e'.got e'.cause m → Talking e0 e' e → Good e0 e' (at_established kind now m e)
good_established Sync now m e0 e' e few back s t =
    good_if (m.id == rstart_of e) _ _ (λ _. good_ack e0 e' (hears now e) t) (λ _. good_silent e0 e' e t)
good_established Data now m e0 e' e few back s t =
    good_ack e0 e' (accepts m (hears_ack now m e)) (accepted now m e0 e' e few back s.0 s.1 t)
good_established DataQuery now m e0 e' e few back s t =
    let after = accepts m (hears_ack now m e) in
    let talks : Talking e0 e' after = accepted now m e0 e' e few back s.0 s.1 t in
    good_if (is_some (number (rstart_of e) m.id (length after.got))) _ _ (λ _. good_ack e0 e' after talks) (λ _. good_state e0 e' after talks)
good_established Ack now m e0 e' e few back s t = good_silent e0 e' (hears_ack now m e) (heard now m e0 e' e few back s t)
good_established Query now m e0 e' e few back s t = good_state e0 e' (hears_ack now m e) (heard now m e0 e' e few back s t)
good_established State now m e0 e' e few back s t =
    let talks : Talking e0 e' (hears_ack now m e) = heard now m e0 e' e few back s t in
    good_again e0 e' (hears_ack now m e) (silent (hears_ack now m e)) talks (good_silent e0 e' (hears_ack now m e) talks)
good_established Close now m e0 e' e few back s t =
    let talks : Talking e0 e' (hears_ack now m e) = heard now m e0 e' e few back s.0 t in
    good_if (m.spec == 0) _ _
    (λ _. good_if (m.id == recvd e) _ _
    (λ last. good_close e0 e' (closes (Some cause.ByPeer) (record (hears_ack now m e) { closed_by_peer = true })) (all_came now m e0 e' e few s.1 t talks (eqb-true m.id (recvd e) last)) (cause.ByPeer, refl))
    (λ _. good_state e0 e' (hears_ack now m e) talks))
    (λ _. good_silent e0 e' e t)

pub good_closing : (kind : IlKind) (now : ℕ) (m : IlMsg) (e0 e' e : End) → HasCause e0.cause → Few e e' → Link e' e → SoundAs kind e'.start e'.rstart e'.sent e'.got e'.cause m → Talking e0 e' e → Good e0 e' (at_closing kind now m e)
good_closing Sync now m e0 e' e why few back s t = good_close e0 e' (hears now e) t (t.2.no_more why).0
good_closing Data now m e0 e' e why few back s t = let talks : Talking e0 e' (hears_ack now m e) = heard now m e0 e' e few back s.0 t in good_close e0 e' (hears_ack now m e) talks (talks.2.no_more why).0
good_closing DataQuery now m e0 e' e why few back s t = let talks : Talking e0 e' (hears_ack now m e) = heard now m e0 e' e few back s.0 t in good_close e0 e' (hears_ack now m e) talks (talks.2.no_more why).0
good_closing Ack now m e0 e' e why few back s t = good_silent e0 e' (hears_ack now m e) (heard now m e0 e' e few back s t)
good_closing Query now m e0 e' e why few back s t = let talks : Talking e0 e' (hears_ack now m e) = heard now m e0 e' e few back s t in good_close e0 e' (hears_ack now m e) talks (talks.2.no_more why).0
good_closing State now m e0 e' e why few back s t =
    let talks : Talking e0 e' (hears_ack now m e) = heard now m e0 e' e few back s t in
    good_again e0 e' (hears_ack now m e) (emitting Close (hears_ack now m e)) talks (good_close e0 e' (hears_ack now m e) talks (talks.2.no_more why).0)
good_closing Close now m e0 e' e why few back s t =
    let talks : Talking e0 e' (hears_ack now m e) = heard now m e0 e' e few back s.0 t in
    good_if (m.spec == 0) _ _
    (λ _. record { link = talks.0; knows = (tt, λ h. (talks.1, (t.2.no_more why).0), met_untold _ _ talks.1); grows = growth_at e0 (hears_ack now m e) e.cause (talks.2) (t.2.no_more why).0; says = tt })
    (λ _. good_silent e0 e' e t)

-- an end that has met the other
pub talking : (e e' : End) → Link e e' → HasMet e → Knows e → Talking e e' e
talking e e' l met knows = (l, met, grows_itself e, knows)

-- an end is told the other's start
told : (id : ℕ) (e e' : End) → e.fresh ≡ false → e.cause ≡ None → e'.fresh ≡ false → id ≡ e'.start → Link e e' → Knows e → Talking e e' (establishes (record e { rstart = Some id }))
told id e e' old none old' is l knows = (
  record {
    rstart_is = λ r h. (sym (same_Some id r h) ∙ is, old');
    in_order = l.in_order;
    early_is = l.early_is;
    acked_got = l.acked_got;
    all_got = l.all_got;
  },
  record { r = id; rstart_is = refl; not_fresh = old },
  record {
    same_start = λ h. (refl, h);
    same_rstart = λ r h. ap (λ (n : ℕ). Some n) (is ∙ sym (l.rstart_is r h).0);
    sent_more = begins_itself e.sent;
    sent_one = omega arith;
    got_more = begins_itself e.got;
    no_more = λ h. (h, begins_itself e.sent);
  },
  ((record { r = id; rstart_is = refl; not_fresh = old }, none), λ m. (record { r = id; rstart_is = refl; not_fresh = old }, (knows.1 m).1), met_untold e.sent e.got (record { r = id; rstart_is = refl; not_fresh = old })),
)

good_syncer : (kind : IlKind) (now : ℕ) (m : IlMsg) (e e' : End) → Few e e' → Link e e' → Link e' e → Knows e → KnowsAs Syncer e.rstart e.fresh e.cause → e'.fresh ≡ false → SoundAs kind e'.start e'.rstart e'.sent e'.got e'.cause m → Good e e' (at_syncer kind now m e)
good_syncer Sync now m e e' few l back knows as_s old s =
    good_if (m.ack == e.start) _ _
    (λ _. good_ack e e' (establishes (hears now (record e { rstart = Some m.id }))) (told m.id e e' as_s.0 as_s.1 old s.0 l knows))
    (λ _. good_same e e' l knows)
good_syncer Close now m e e' few l back knows as_s old s =
    good_if ((m.spec == 1) && (m.ack == e.start)) _ _
    (λ _. record { link = l; knows = (tt, λ h. ((knows.1 h).0, (cause.Refused, refl)), knows.2); grows = gets_cause e cause.Refused; says = tt })
    (λ _. good_same e e' l knows)
good_syncer _ now m e e' few l back knows as_s old s = good_same e e' l knows

good_syncee : (kind : IlKind) (now : ℕ) (m : IlMsg) (e e' : End) → Few e e' → Link e e' → Link e' e → Knows e → KnowsAs Syncee e.rstart e.fresh e.cause → e'.fresh ≡ false → SoundAs kind e'.start e'.rstart e'.sent e'.got e'.cause m → Good e e' (at_syncee kind now m e)
good_syncee Sync now m e e' few l back knows as_s old s =
    good_if (m.id == rstart_of e) _ _ (λ _. good_sync e e' (hears now e) (talking e e' l as_s.0 knows)) (λ _. good_same e e' l knows)
good_syncee kind now m e e' few l back knows as_s old s =
    good_if (not (refuses kind m.spec) && (m.ack == e.start)) (at_established kind now m (establishes (hears now e))) (silent e)
    (λ _. good_established kind now m e e' (establishes (hears now e)) few back s (l, as_s.0, grows_itself e, (as_s, knows.1, knows.2)))
    (λ _. good_same e e' l knows)

good_closed : (kind : IlKind) (now : ℕ) (m : IlMsg) (e e' : End) → Link e e' → Knows e → Good e e' (at_closed kind now m e)
good_closed Close now m e e' l knows =
    good_if (e.closed_by_peer && (m.spec == 0)) _ _
    (λ tests. let closed_by_peer = knows.1 (and_parts e.closed_by_peer (m.spec == 0) tests).0 in good_close e e' (hears now e) (talking e e' l closed_by_peer.0 knows) closed_by_peer.1)
    (λ _. good_same e e' l knows)
good_closed _ now m e e' l knows = good_same e e' l knows

pub good_row : (s : IlState) (kind : IlKind) (now : ℕ) (m : IlMsg) (e e' : End) → Few e e' → Link e e' → Link e' e → Knows e → KnowsAs s e.rstart e.fresh e.cause → e'.fresh ≡ false → SoundAs kind e'.start e'.rstart e'.sent e'.got e'.cause m → Good e e' (row s kind now m e)
good_row Syncer kind now m e e' few l back knows as_s old s = good_syncer kind now m e e' few l back knows as_s old s
good_row Syncee kind now m e e' few l back knows as_s old s = good_syncee kind now m e e' few l back knows as_s old s
good_row Established kind now m e e' few l back knows as_s old s = good_established kind now m e e' e few back s (talking e e' l as_s.0 knows)
good_row Closing kind now m e e' few l back knows as_s old s = good_closing kind now m e e' e as_s.1 few back s (talking e e' l as_s.0 knows)
good_row Closed kind now m e e' few l back knows as_s old s = good_closed kind now m e e' l knows
good_row Listening kind now m e e' few l back knows as_s old s = good_same e e' l knows

pub good_arrives : (now : ℕ) (m : IlMsg) (e e' : End) → Few e e' → Link e e' → Link e' e → Knows e → e'.fresh ≡ false → Sound e' m → Good e e' (arrives now m e)
good_arrives now m e e' few l back knows old s =
    good_if (is_sized m.kind (length m.text)) _ _
    (λ _. good_row e.state m.kind now m e e' few l back knows knows.0 old s)
    (λ _. good_same e e' l knows)

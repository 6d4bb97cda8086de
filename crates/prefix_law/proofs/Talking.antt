-- What holds of two ends that talk, and that the parts of their steps keep it.
use Rattle.std.proofs.Common.{◌≡◌, ℕ, zero, suc, ◌+◌, ◌^◌, ◌<◌, ◌≤◌, ◌==◌, nat_le, Bool, true, false, cond, ◌||◌, List, [], ◌∷◌, length, Option, Some, None, is_some, unwrap_or, slice_get, ◌⊎◌, inl, inr, refl, sym, ap, ◌∙◌, arith}
use Rattle.std.proofs.lemmas.Bool.{cond_both, eqb-true, ltb-true}
use Rattle.std.proofs.lemmas.Option.{none-some, slice_get_within, slice_get-get_or}
use Rattle.net_base.specs.declared.il.IlKind.{IlKind}
use Rattle.net_base.specs.declared.il.IlKind.TheVariants.{Sync, Data, DataQuery, Ack, Query, State, Close}
use Rattle.net_base.specs.declared.il.IlMsg.{IlMsg}
use Rattle.net_base.specs.declared.il.IlState.{IlState}
use Rattle.net_base.specs.declared.il.IlState.TheVariants.{Syncer, Syncee, Established, Closing}
use Rattle.net_base.specs.declared.il.Cause.{Cause}
use Rattle.net_base.specs.Number.{id_of, number}
use Rattle.net_base.specs.IlEnd.{Early, End, Turn, rstart_of, next, recvd, backlog, message, silent, emitting, syncs, retransmits, has_unacked, hears, acked_to, hears_ack, early_at, without_early, becomes_early, comes_in_turn, come_in_turn, accepts}
use Rattle.prefix_law.proofs.Ids.{number_meant}
use Rattle.prefix_law.proofs.Begins.{Begins, begins_itself, begins_more, pushed_begins, begins_length}

-- Packets.

-- a packet has the id of a message that was sent, and acknowledges one that was got
pub record Numbered (start : ℕ) (rstart : Option ℕ) (sent got : List (List ℕ)) (m : IlMsg) : Type 0 where
  pub k : ℕ
  pub sent_it : k ≤ length sent
  pub id_is : m.id ≡ id_of start k
  pub r : ℕ
  pub rstart_is : rstart ≡ Some r
  pub g : ℕ
  pub got_it : g ≤ length got
  pub ack_is : m.ack ≡ id_of r g

-- a packet of data has the text of the message with its id
pub record Carries (start : ℕ) (sent : List (List ℕ)) (m : IlMsg) : Type 0 where
  pub k : ℕ
  pub text_is : slice_get sent k ≡ Some m.text
  pub id_is : m.id ≡ id_of start (k + 1)

-- an end with a cause writes no more
abbrev pub HasCause : Option Cause → Type 0
HasCause cause = (why : Cause) × (cause ≡ Some why)

-- a close says how much was sent, and no more will be
pub record Closes (start : ℕ) (sent : List (List ℕ)) (cause : Option Cause) (m : IlMsg) : Type 0 where
  pub id_is : m.id ≡ id_of start (length sent)
  pub has_cause : HasCause cause

-- the ack of a sync names the start of the sync that it answers, or none
abbrev pub Answers : Option ℕ → ℕ → Type 0
Answers rstart ack = (ack ≡ 0) ⊎ ((r : ℕ) × (rstart ≡ Some r) × (ack ≡ r))

pub answers : (rstart : Option ℕ) → Answers rstart (unwrap_or rstart 0)
answers None = inl refl
answers (Some r) = inr (r, refl, refl)

-- what holds of each packet of an end, by its kind
abbrev pub SoundAs : IlKind → ℕ → Option ℕ → List (List ℕ) → List (List ℕ) → Option Cause → IlMsg → Type 0
SoundAs Sync start rstart sent got cause m = (m.id ≡ start) × Answers rstart m.ack
SoundAs Data start rstart sent got cause m = Numbered start rstart sent got m × Carries start sent m
SoundAs DataQuery start rstart sent got cause m = Numbered start rstart sent got m × Carries start sent m
SoundAs Close start rstart sent got cause m = Numbered start rstart sent got m × Closes start sent cause m
SoundAs _ start rstart sent got cause m = Numbered start rstart sent got m

abbrev pub Sound : End → IlMsg → Type 0
Sound e m = SoundAs m.kind e.start e.rstart e.sent e.got e.cause m

-- One end.

-- the end was told the other's start
pub record Met (rstart : Option ℕ) (fresh : Bool) : Type 0 where
  pub r : ℕ
  pub rstart_is : rstart ≡ Some r
  pub not_fresh : fresh ≡ false

abbrev pub HasMet : End → Type 0
HasMet e = Met e.rstart e.fresh

-- so it is in these states, and it has a cause where it closes
abbrev pub KnowsAs : IlState → Option ℕ → Bool → Option Cause → Type 0
KnowsAs Established rstart fresh cause = Met rstart fresh × (cause ≡ None)
KnowsAs Syncee rstart fresh cause = Met rstart fresh × (cause ≡ None)
KnowsAs Syncer rstart fresh cause = (fresh ≡ false) × (cause ≡ None)
KnowsAs Closing rstart fresh cause = Met rstart fresh × HasCause cause
KnowsAs _ rstart fresh cause = Unit {0}

-- before it has met the other end it has sent and got nothing
abbrev pub Untold : Option ℕ → List (List ℕ) → List (List ℕ) → Type 0
Untold rstart sent got = rstart ≡ None → (sent ≡ []) × (got ≡ [])

pub met_untold : {rstart : Option ℕ} {fresh : Bool} (sent got : List (List ℕ)) → Met rstart fresh → Untold rstart sent got
met_untold sent got met none = absurd (none-some met.r (sym none ∙ met.rstart_is))

abbrev pub Knows : End → Type 0
Knows e = KnowsAs e.state e.rstart e.fresh e.cause × (e.closed_by_peer ≡ true → HasMet e × HasCause e.cause) × Untold e.rstart e.sent e.got

-- what only grows
pub record Growth (start start' : ℕ) (fresh fresh' : Bool) (rstart rstart' : Option ℕ) (sent sent' got got' : List (List ℕ)) (cause cause' : Option Cause) : Type 0 where
  pub same_start : fresh ≡ false → (start' ≡ start) × (fresh' ≡ false)
  pub same_rstart : (r : ℕ) → rstart ≡ Some r → rstart' ≡ Some r
  pub sent_more : Begins sent sent'
  pub sent_one : length sent' ≤ length sent + 1
  pub got_more : Begins got got'
  -- an end with a cause writes no more
  pub no_more : HasCause cause → HasCause cause' × Begins sent' sent

abbrev pub Grows : End → End → Type 0
Grows e e' = Growth e.start e'.start e.fresh e'.fresh e.rstart e'.rstart e.sent e'.sent e.got e'.got e.cause e'.cause

pub grows_itself : (e : End) → Grows e e
grows_itself e = record {
  same_start = λ h. (refl, h);
  same_rstart = λ r h. h;
  sent_more = begins_itself e.sent;
  sent_one = omega arith;
  got_more = begins_itself e.got;
  no_more = λ h. (h, begins_itself e.sent);
}

-- what was sound stays so
pub numbered_stays : (e e' : End) (m : IlMsg) → e.fresh ≡ false → Grows e e' → Numbered e.start e.rstart e.sent e.got m → Numbered e'.start e'.rstart e'.sent e'.got m
numbered_stays e e' m old grows n = record {
  k = n.k;
  sent_it = omega (arith, n.sent_it, begins_length e.sent e'.sent grows.sent_more);
  id_is = rw (grows.same_start old).0 n.id_is;
  r = n.r;
  rstart_is = grows.same_rstart n.r n.rstart_is;
  g = n.g;
  got_it = omega (arith, n.got_it, begins_length e.got e'.got grows.got_more);
  ack_is = n.ack_is;
}

pub carries_stays : (e e' : End) (m : IlMsg) → e.fresh ≡ false → Grows e e' → Carries e.start e.sent m → Carries e'.start e'.sent m
carries_stays e e' m old grows c = record {
  k = c.k;
  text_is = grows.sent_more c.k m.text c.text_is;
  id_is = rw (grows.same_start old).0 c.id_is;
}

closes_stays : (e e' : End) (m : IlMsg) → e.fresh ≡ false → Grows e e' → Closes e.start e.sent e.cause m → Closes e'.start e'.sent e'.cause m
closes_stays e e' m old grows c =
    let same : length e'.sent ≡ length e.sent = omega (arith, begins_length e.sent e'.sent grows.sent_more, begins_length e'.sent e.sent (grows.no_more c.has_cause).1) in
    record { id_is = rw ((grows.same_start old).0, same) c.id_is; has_cause = (grows.no_more c.has_cause).0 }

sound_as_stays : (kind : IlKind) (e e' : End) (m : IlMsg) → e.fresh ≡ false → Grows e e' → SoundAs kind e.start e.rstart e.sent e.got e.cause m → SoundAs kind e'.start e'.rstart e'.sent e'.got e'.cause m
sound_as_stays Sync e e' m old grows s = (rw (grows.same_start old).0 s.0, elim s.1 [ inl none ↦ inl none | inr a ↦ inr (a.0, grows.same_rstart a.0 a.1, a.2) ])
sound_as_stays Data e e' m old grows s = (numbered_stays e e' m old grows s.0, carries_stays e e' m old grows s.1)
sound_as_stays DataQuery e e' m old grows s = (numbered_stays e e' m old grows s.0, carries_stays e e' m old grows s.1)
sound_as_stays Close e e' m old grows s = (numbered_stays e e' m old grows s.0, closes_stays e e' m old grows s.1)
sound_as_stays _ e e' m old grows s = numbered_stays e e' m old grows s

pub sound_stays : (e e' : End) (m : IlMsg) → e.fresh ≡ false → Grows e e' → Sound e m → Sound e' m
sound_stays e e' m = sound_as_stays m.kind e e' m

-- Two ends.

-- each early message was written
abbrev pub EarlyIn : List (List ℕ) → List Early → Type 0
EarlyIn sent [] = Unit {0}
EarlyIn sent (x ∷ xs) = ((k : ℕ) × (x.number ≡ k + 1) × (slice_get sent k ≡ Some x.text)) × EarlyIn sent xs

-- what an end has from the other, which has this start and these lists
pub record Bond (rstart : Option ℕ) (acked : ℕ) (got : List (List ℕ)) (early : List Early) (closed_by_peer : Bool) (start' : ℕ) (fresh' : Bool) (sent' got' : List (List ℕ)) (cause' : Option Cause) : Type 0 where
  pub rstart_is : (r : ℕ) → rstart ≡ Some r → (r ≡ start') × (fresh' ≡ false)
  pub in_order : Begins got sent'
  pub early_is : EarlyIn sent' early
  pub acked_got : acked ≤ length got'
  -- a closed_by_peer end has all that the other wrote, who writes no more
  pub all_got : closed_by_peer ≡ true → HasCause cause' × Begins sent' got

abbrev pub Link : End → End → Type 0
Link e e' = Bond e.rstart e.acked e.got e.early e.closed_by_peer e'.start e'.fresh e'.sent e'.got e'.cause

early_in_more : (xs ys : List (List ℕ)) (es : List Early) → Begins xs ys → EarlyIn xs es → EarlyIn ys es
early_in_more xs ys [] begins all = tt
early_in_more xs ys (e ∷ es) begins all = ((all.0.0, all.0.1, begins all.0.0 e.text all.0.2), early_in_more xs ys es begins all.1)

-- the link stays where the other end grows
pub link_stays : (e e' e'' : End) → Grows e' e'' → Link e e' → Link e e''
link_stays e e' e'' grows l = record {
  rstart_is = λ r h. let was = l.rstart_is r h in let same = grows.same_start was.1 in (was.0 ∙ sym same.0, same.1);
  in_order = λ k t h. grows.sent_more k t (l.in_order k t h);
  early_is = early_in_more e'.sent e''.sent e.early grows.sent_more l.early_is;
  acked_got = omega (arith, l.acked_got, begins_length e'.got e''.got grows.got_more);
  all_got = λ m. let all = l.all_got m in let more = grows.no_more all.0 in (more.0, λ k t h. all.1 k t (more.1 k t h));
}

-- A step, part by part.

-- e came from e0 by the parts of a step, has met the other end, and has from it what it may have
abbrev pub Talking : End → End → End → Type 0
Talking e0 e' e = Link e e' × HasMet e × Grows e0 e × Knows e

-- the ack of a message is that of some message that the other end got
abbrev pub AckOf : End → End → IlMsg → Type 0
AckOf e e' m = (g : ℕ) × (g ≤ length e'.got) × (m.ack ≡ id_of e.start g)

pub ack_of : (e e' : End) (m : IlMsg) → Link e' e → Numbered e'.start e'.rstart e'.sent e'.got m → AckOf e e' m
ack_of e e' m back n = (n.g, n.got_it, n.ack_is ∙ ap (λ (r : ℕ). id_of r n.g) (back.rstart_is n.r n.rstart_is).0)

acked_to_talks : (now : ℕ) (found : Option ℕ) (e0 e' e : End) → Talking e0 e' e → ((k : ℕ) → found ≡ Some k → k ≤ length e'.got) → Talking e0 e' (acked_to now found e)
acked_to_talks now None e0 e' e t all = t
acked_to_talks now (Some k) e0 e' e t all =
    cond_both (nat_le k (length e.sent)) _ _ (λ x. Talking e0 e' x)
    (λ _. (record { rstart_is = t.0.rstart_is; in_order = t.0.in_order; early_is = t.0.early_is; acked_got = all k refl; all_got = t.0.all_got }, t.1, t.2, t.3))
    (λ _. t)

pub hears_ack_talks : (now : ℕ) (m : IlMsg) (e0 e' e : End) → length e'.got < 2 ^ 31 → AckOf e e' m → Talking e0 e' e → Talking e0 e' (hears_ack now m e)
hears_ack_talks now m e0 e' e few ack t =
    acked_to_talks now (number e.start m.ack e.acked) e0 e' (hears now e) t (λ k found.
    let meant = number_meant e.start e.acked k ack.0 (omega (arith, t.0.acked_got)) (omega (arith, ack.1)) (rw ack.2 at found) in
    omega (arith, ack.1, meant.0))

-- the text of a message of data is that of the message whose id it has
abbrev pub TextOf : End → IlMsg → Type 0
TextOf e' m = (k : ℕ) × (slice_get e'.sent k ≡ Some m.text) × (m.id ≡ id_of e'.start (k + 1))

-- the other end's start is known
pub rstart_known : (e0 e' e : End) → Talking e0 e' e → rstart_of e ≡ e'.start
rstart_known e0 e' e t = ap (λ (o : Option ℕ). unwrap_or o 0) t.1.rstart_is ∙ (t.0.rstart_is t.1.r t.1.rstart_is).0

-- message k, from 1, was written, and its text is this
abbrev pub Written : List (List ℕ) → ℕ → List ℕ → Type 0
Written sent k text = (j : ℕ) × (k ≡ j + 1) × (slice_get sent j ≡ Some text)

becomes_early_talks : (found : Option ℕ) (text : List ℕ) (e0 e' e : End) → ((k : ℕ) → found ≡ Some k → Written e'.sent k text) → Talking e0 e' e → Talking e0 e' (becomes_early found text e)
becomes_early_talks None text e0 e' e written t = t
becomes_early_talks (Some k) text e0 e' e written t =
    cond_both (is_some (early_at k e.early) || nat_le 64 (backlog e)) _ _ (λ x. Talking e0 e' x)
    (λ _. t)
    (λ _. (record { rstart_is = t.0.rstart_is; in_order = t.0.in_order; early_is = (written k refl, t.0.early_is); acked_got = t.0.acked_got; all_got = t.0.all_got }, t.1, t.2, t.3))

early_at_written : (sent : List (List ℕ)) (k : ℕ) (es : List Early) (text : List ℕ) → EarlyIn sent es → early_at k es ≡ Some text → Written sent k text
early_at_written sent k [] text all found = absurd (none-some text found)
early_at_written sent k (e ∷ es) text all found = at_first (e.number == k) refl found (early_at_written sent k es text all.1)
  where
    at_first : (b : Bool) → (e.number == k) ≡ b → cond b (Some e.text) (early_at k es) ≡ Some text → (early_at k es ≡ Some text → Written sent k text) → Written sent k text
    at_first true is here later =
        let same : e.number ≡ k = eqb-true e.number k is in
        (all.0.0, sym same ∙ all.0.1, all.0.2 ∙ here)
    at_first false is here later = later here

early_in_without : (sent : List (List ℕ)) (k : ℕ) (es : List Early) → EarlyIn sent es → EarlyIn sent (without_early k es)
early_in_without sent k [] all = tt
early_in_without sent k (e ∷ es) all = cond_both (e.number == k) _ _ (λ xs. EarlyIn sent xs) (λ _. all.1) (λ _. (all.0, early_in_without sent k es all.1))

comes_in_turn_talks : (found : Option (List ℕ)) (e0 e' e : End) → ((text : List ℕ) → found ≡ Some text → slice_get e'.sent (length e.got) ≡ Some text) → Talking e0 e' e → Talking e0 e' (comes_in_turn found e)
comes_in_turn_talks None e0 e' e there t = t
comes_in_turn_talks (Some text) e0 e' e there t = (
  record {
    rstart_is = t.0.rstart_is;
    in_order = pushed_begins e.got e'.sent text t.0.in_order (there text refl);
    early_is = early_in_without e'.sent (length e.got + 1) e.early t.0.early_is;
    acked_got = t.0.acked_got;
    all_got = λ m. ((t.0.all_got m).0, λ k u h. begins_more e.got (text ∷ []) k u ((t.0.all_got m).1 k u h));
  },
  t.1,
  record {
    same_start = t.2.same_start;
    same_rstart = t.2.same_rstart;
    sent_more = t.2.sent_more;
    sent_one = t.2.sent_one;
    got_more = λ k u h. begins_more e.got (text ∷ []) k u (t.2.got_more k u h);
    no_more = t.2.no_more;
  },
  (t.3.0, t.3.1, met_untold _ _ t.1),
)

come_in_turn_talks : (n : ℕ) (e0 e' e : End) → Talking e0 e' e → Talking e0 e' (come_in_turn n e)
come_in_turn_talks zero e0 e' e t = t
come_in_turn_talks (suc n) e0 e' e t =
    come_in_turn_talks n e0 e' (comes_in_turn (early_at (length e.got + 1) e.early) e)
    (comes_in_turn_talks (early_at (length e.got + 1) e.early) e0 e' e
    (λ text found.
    let w = early_at_written e'.sent (length e.got + 1) e.early text t.0.early_is found in
    let same : length e.got ≡ w.0 = omega (arith, w.1) in
    rw same w.2)
    t)

pub accepts_talks : (m : IlMsg) (e0 e' e : End) → length e'.sent < 2 ^ 31 → TextOf e' m → Talking e0 e' e → Talking e0 e' (accepts m e)
accepts_talks m e0 e' e few text t =
    let found = number (rstart_of e) m.id (length e.got) in
    let with_it = becomes_early found m.text e in
    let got_few : length e.got < 2 ^ 31 = omega (arith, begins_length e.got e'.sent t.0.in_order) in
    let here : text.0 < length e'.sent = slice_get_within e'.sent text.0 m.text text.1 in
    come_in_turn_talks (length with_it.early) e0 e' with_it
    (becomes_early_talks found m.text e0 e' e
    (λ k is.
    let meant = number_meant e'.start (length e.got) k (text.0 + 1) got_few (omega arith) (rw (rstart_known e0 e' e t, text.2) at is) in
    (text.0, meant.0, text.1))
    t)

-- Whole steps.

-- what a step emits is sound
abbrev pub Says : Option IlMsg → End → Type 0
Says None e = Unit {0}
Says (Some m) e = (e.fresh ≡ false) × Sound e m

-- a step that keeps what holds
pub record Good (e0 e' : End) (turn : Turn) : Type 0 where
  pub link : Link turn.end e'
  pub knows : Knows turn.end
  pub grows : Grows e0 turn.end
  pub says : Says turn.emits turn.end

pub good_if : {e0 e' : End} (b : Bool) (x y : Turn) → (b ≡ true → Good e0 e' x) → (b ≡ false → Good e0 e' y) → Good e0 e' (cond b x y)
good_if {e0} {e'} b x y f g = cond_both b x y (λ t. Good e0 e' t) f g

-- nothing changes
pub good_same : (e e' : End) → Link e e' → Knows e → Good e e' (silent e)
good_same e e' l k = record { link = l; knows = k; grows = grows_itself e; says = tt }

pub good_silent : (e0 e' e : End) → Talking e0 e' e → Good e0 e' (silent e)
good_silent e0 e' e t = record { link = t.0; knows = t.3; grows = t.2; says = tt }

-- what an end says with the ids of its last messages
pub last_numbered : (kind : IlKind) (text : List ℕ) (e : End) → HasMet e → Numbered e.start e.rstart e.sent e.got (message kind (next e) (recvd e) text)
last_numbered kind text e met = record {
  k = length e.sent;
  sent_it = omega arith;
  id_is = refl;
  r = met.r;
  rstart_is = met.rstart_is;
  g = length e.got;
  got_it = omega arith;
  ack_is = ap (λ (o : Option ℕ). id_of (unwrap_or o 0) (length e.got)) met.rstart_is;
}

good_says : (kind : IlKind) (e0 e' e : End) → Talking e0 e' e → SoundAs kind e.start e.rstart e.sent e.got e.cause (message kind (next e) (recvd e) []) → Good e0 e' (emitting kind e)
good_says kind e0 e' e t sound = record { link = t.0; knows = t.3; grows = t.2; says = (t.1.not_fresh, sound) }

pub good_ack : (e0 e' e : End) → Talking e0 e' e → Good e0 e' (emitting Ack e)
good_ack e0 e' e t = good_says Ack e0 e' e t (last_numbered Ack [] e t.1)

pub good_query : (e0 e' e : End) → Talking e0 e' e → Good e0 e' (emitting Query e)
good_query e0 e' e t = good_says Query e0 e' e t (last_numbered Query [] e t.1)

pub good_state : (e0 e' e : End) → Talking e0 e' e → Good e0 e' (emitting State e)
good_state e0 e' e t = good_says State e0 e' e t (last_numbered State [] e t.1)

pub good_close : (e0 e' e : End) → Talking e0 e' e → HasCause e.cause → Good e0 e' (emitting Close e)
good_close e0 e' e t why = good_says Close e0 e' e t (last_numbered Close [] e t.1, record { id_is = refl; has_cause = why })

pub good_sync : (e0 e' e : End) → Talking e0 e' e → Good e0 e' (syncs e)
good_sync e0 e' e t = record { link = t.0; knows = t.3; grows = t.2; says = (t.1.not_fresh, (refl, answers e.rstart)) }

pub good_again : (e0 e' e : End) (turn : Turn) → Talking e0 e' e → Good e0 e' turn → Good e0 e' (retransmits e turn)
good_again e0 e' e turn t other =
    good_if (has_unacked e) _ _
    (λ waits.
    let within : e.acked < length e.sent = ltb-true e.acked (length e.sent) waits in
    record {
      link = t.0;
      knows = t.3;
      grows = t.2;
      says = (
        t.1.not_fresh,
        (
          record {
            k = e.acked + 1;
            sent_it = omega arith;
            id_is = refl;
            r = t.1.r;
            rstart_is = t.1.rstart_is;
            g = length e.got;
            got_it = omega arith;
            ack_is = ap (λ (o : Option ℕ). id_of (unwrap_or o 0) (length e.got)) t.1.rstart_is;
          },
          record { k = e.acked; text_is = slice_get-get_or e.sent e.acked [] within; id_is = refl },
        ),
      );
    })
    (λ _. other)

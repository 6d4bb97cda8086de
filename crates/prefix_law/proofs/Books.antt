-- Entries and what ends have written and read.
use Rattle.std.proofs.Common.{◌≡◌, ℕ, ◌+◌, ◌==◌, ◌&&◌, Bool, true, false, cond, List, [], ◌∷◌, ◌++◌, Some, ◌⊎◌, inl, inr, refl, sym, ap, subst, ◌∙◌, append_assoc, arith, Option, None}
use Rattle.std.specs.Prelude.{flat_map, filter, take}
use Rattle.net_base.specs.Networks.{is_filled}
use Rattle.std.proofs.lemmas.Bool.{and_parts, and_from, cond_both, eqb-true, eq-eqb}
use Rattle.std.proofs.lemmas.Option.{same_Some, none-some}
use Rattle.std.proofs.lemmas.List.{append-nil}
use Rattle.net_base.specs.declared.address.Pair.{Pair}
use Rattle.net_base.specs.declared.address.Proto.TheVariants as proto
use Rattle.net_base.specs.declared.actor.ActorName.{ActorName}
use Rattle.net_base.specs.declared.actor.ActorName.TheVariants as actor
use Rattle.net_base.specs.declared.event.Event.{Event}
use Rattle.net_base.specs.declared.event.Event.TheVariants as event
use Rattle.net_base.specs.declared.reply.Reply.{Reply}
use Rattle.net_base.specs.declared.history.With.{With}
use Rattle.net_base.specs.declared.history.With.TheVariants as given
use Rattle.net_base.specs.declared.history.Entry.{Entry}
use Rattle.net_base.specs.declared.timer.Timers.TheVariants.{Fixed}
use Rattle.net_base.specs.IlEnd.{End, Turn, fresh_end, silent}
use Rattle.net_base.specs.IlTable.{connects, is_born}
use Rattle.prefix_law.proofs.Pairs.{Side, leaves}
use Rattle.net_base.specs.Same.{same_pair}
use Rattle.net_base.specs.Mirror.{mirror}
use Rattle.net_base.specs.ActorStep.{Step}
use Rattle.net_base.specs.Conversation.{Il, Stage, Unused, Listening, Connected, Conv}
use Rattle.prefix_law.proofs.Trace.{Owner, Trace, empty_side, conv_trace}
use Rattle.net_base.specs.Stamped.{same_actor}
use Rattle.net_base.specs.Written.{Conversation, written_in, read_in, written_by, read_by, joined_texts}
use Rattle.prefix_law.proofs.Begins.{Begins}
use Rattle.prefix_law.proofs.Deeds.{both_ways}
use Rattle.prefix_law.proofs.ConvMoves.{is_connected, Stays, Move, Stay, Begin, Join, Come, Listen, Elsewhere, of_end}
use Rattle.prefix_law.proofs.Untouched.{Leaves}
use Rattle.prefix_law.proofs.Accounts.{HasEmpty, ReadsAll, AllSized, AtEnd, no_empty, given_by, Reading, Account, Silent, left_account, joined-append}
use Rattle.prefix_law.proofs.Sides.{same_pair_from, put_here}
use Rattle.prefix_law.proofs.Touch.{owner_of, Owned, HasEnd, ConvFine, touched, side_at}
use Rattle.prefix_law.proofs.ConvSteps.{GiftFine, quiet_trace, trace_touched}
use Rattle.net_base.proofs.Shared.{same_pair_is}

-- the conversation of an owner
abbrev pub conv_of : Owner → Conversation
conv_of o = record { host = o.host; proto = proto.Il; slot = o.slot; generation = o.generation }

abbrev pub is_at : Owner → ActorName → Bool
is_at o a = same_actor a (actor.Conv o.host proto.Il o.slot)

-- the texts that its conversation wrote and read
abbrev pub writes : Owner → List Entry → List (List ℕ)
writes o h = flat_map (written_by (conv_of o)) h

abbrev pub reads : Owner → List Entry → List (List ℕ)
reads o h = flat_map (read_by (conv_of o)) h

abbrev pub written_here : Owner → ActorName → Event → Reply → List (List ℕ)
written_here o a ev r = cond (is_at o a) (written_in o.generation ev r) []

abbrev pub read_here : Owner → ActorName → Event → Reply → List (List ℕ)
read_here o a ev r = cond (is_at o a) (read_in o.generation ev r) []

-- the entry is no write or read of this conversation
pub record NoEntry (o : Owner) (a : ActorName) (ev : Event) (r : Reply) : Type 0 where
  pub written_none : written_here o a ev r ≡ []
  pub read_none : read_here o a ev r ≡ []

-- the end's part in the entry
pub record EntryAccount (o : Owner) (a : ActorName) (ev : Event) (r : Reply) (e e' : End) : Type 0 where
  pub sent_is : e'.sent ≡ e.sent ++ written_here o a ev r
  pub read_is : Reading e → given_by e' ≡ given_by e ++ joined_texts (read_here o a ev r)
  pub reading : Reading e → Reading e'
  pub sized : AllSized e.sent → AllSized e'.sent
  pub ends : Reading e → AllSized e.got → HasEmpty (read_here o a ev r) → AtEnd e × AtEnd e'
  pub whole : (is_at o a ≡ true → ReadsAll o.generation ev r) → Reading e → AllSized e.got → e.read_offset ≡ 0 → (e'.read_offset ≡ 0) × (take e'.read_count e'.got ≡ take e.read_count e.got ++ filter is_filled (read_here o a ev r))
  pub quiet : AtEnd e → joined_texts (read_here o a ev r) ≡ []
  pub stays : AtEnd e → AtEnd e'

no_entry_account : (o : Owner) (a : ActorName) (ev : Event) (r : Reply) (e : End) → NoEntry o a ev r → EntryAccount o a ev r e e
no_entry_account o a ev r e n = record {
  sent_is = rw n.written_none (sym (append-nil e.sent));
  read_is = λ _. rw n.read_none (sym (append-nil (given_by e)));
  reading = λ x. x;
  sized = λ x. x;
  ends = λ _ _ h. absurd (no_empty (read_here o a ev r) n.read_none h);
  whole = λ _ _ _ none. (none, rw n.read_none (sym (append-nil (take e.read_count e.got))));
  quiet = λ _. ap joined_texts n.read_none;
  stays = λ x. x;
}

-- a pair that was had is accounted for, and a new one begins with nothing
pub record Booked (t u : Trace) (a : ActorName) (ev : Event) (r : Reply) : Type 0 where
  pub had : (p : Pair) (o : Owner) → u.owner p ≡ Some o
      → ((t.owner p ≡ Some o) × EntryAccount o a ev r (t.side p).end (u.side p).end) ⊎ (((q : Pair) → t.owner q ≡ Some o → ⊥) × (u.side p ≡ empty_side) × NoEntry o a ev r)
  pub none : (o : Owner) → ((p : Pair) → u.owner p ≡ Some o → ⊥) → ((p : Pair) → t.owner p ≡ Some o → ⊥) × NoEntry o a ev r

-- where nothing changes and nothing is written or read
pub booked_quiet : (t : Trace) (a : ActorName) (ev : Event) (r : Reply) → ((o : Owner) → NoEntry o a ev r) → Booked t t a ev r
booked_quiet t a ev r none = record {
  had = λ p o is. inl (is, no_entry_account o a ev r (t.side p).end (none o));
  none = λ o alone. (alone, none o);
}

-- Books.

pub record Books (t : Trace) (h : List Entry) : Type 0 where
  pub sent_is : (p : Pair) (o : Owner) → t.owner p ≡ Some o → (t.side p).end.sent ≡ writes o h
  pub given_is : (p : Pair) (o : Owner) → t.owner p ≡ Some o → given_by (t.side p).end ≡ joined_texts (reads o h)
  pub reading : (p : Pair) (o : Owner) → t.owner p ≡ Some o → Reading (t.side p).end
  pub sized : (p : Pair) (o : Owner) → t.owner p ≡ Some o → AllSized (t.side p).end.sent
  pub ended : (p : Pair) (o : Owner) → t.owner p ≡ Some o → HasEmpty (reads o h) → AtEnd (t.side p).end
  pub none : (o : Owner) → ((p : Pair) → t.owner p ≡ Some o → ⊥) → (writes o h ≡ []) × (reads o h ≡ [])

-- what was got was written, and is no empty message
pub got_sized : (k : ℕ) (t : Trace) (h : List Entry) → Owned k t → Books t h → (p : Pair) → AllSized (t.side p).end.got
got_sized k t h w b p i x is = sent_sized (t.owner (mirror p)) refl i x ((w.talk p).link.in_order i x is)
  where
    sent_sized : (o : Option Owner) → t.owner (mirror p) ≡ o → AllSized (t.side (mirror p)).end.sent
    sent_sized (Some o) is = b.sized (mirror p) o is
    sent_sized None is = subst (λ (s : Side). AllSized s.end.sent) (sym (w.untouched (mirror p) is)) (λ j y none. absurd (none-some y none))

has_empty_append : (xs ys : List (List ℕ)) → HasEmpty (xs ++ ys) → HasEmpty xs ⊎ HasEmpty ys
has_empty_append [] ys h = inr h
has_empty_append (x ∷ xs) ys (inl is) = inl (inl is)
has_empty_append (x ∷ xs) ys (inr h) = elim (has_empty_append xs ys h) [ inl a ↦ inl (inr a) | inr b ↦ inr b ]

pub writes_push : (o : Owner) (h : List Entry) (x : Entry) → writes o (h ++ x ∷ []) ≡ writes o h ++ written_here o x.actor x.event x.reply
writes_push o [] x = append-nil (written_here o x.actor x.event x.reply)
writes_push o (y ∷ h) x =
    let first = written_here o y.actor y.event y.reply in
    ap (λ (zs : List (List ℕ)). first ++ zs) (writes_push o h x) ∙ sym (append_assoc first (writes o h) (written_here o x.actor x.event x.reply))

pub reads_push : (o : Owner) (h : List Entry) (x : Entry) → reads o (h ++ x ∷ []) ≡ reads o h ++ read_here o x.actor x.event x.reply
reads_push o [] x = append-nil (read_here o x.actor x.event x.reply)
reads_push o (y ∷ h) x =
    let first = read_here o y.actor y.event y.reply in
    ap (λ (zs : List (List ℕ)). first ++ zs) (reads_push o h x) ∙ sym (append_assoc first (reads o h) (read_here o x.actor x.event x.reply))

pub books_next : (t u : Trace) (h : List Entry) (x : Entry) → ((p : Pair) → AllSized (t.side p).end.got) → Books t h → Booked t u x.actor x.event x.reply → Books u (h ++ x ∷ [])
books_next t u h x all b k = record {
  sent_is = λ p o is. sent p o (k.had p o is);
  given_is = λ p o is. given p o (k.had p o is);
  reading = λ p o is. reading p o (k.had p o is);
  sized = λ p o is. sized p o (k.had p o is);
  ended = λ p o is e. ended p o (k.had p o is) (rw (reads_push o h x) at e);
  none = λ o alone.
      let n = k.none o alone in
      let before = b.none o n.0 in
      (rw (writes_push o h x) (rw (before.0, n.1.written_none) refl), rw (reads_push o h x) (rw (before.1, n.1.read_none) refl));
}
  where
    sent : (p : Pair) (o : Owner)
        → ((t.owner p ≡ Some o) × EntryAccount o x.actor x.event x.reply (t.side p).end (u.side p).end) ⊎ (((q : Pair) → t.owner q ≡ Some o → ⊥) × (u.side p ≡ empty_side) × NoEntry o x.actor x.event x.reply)
        → (u.side p).end.sent ≡ writes o (h ++ x ∷ [])
    sent p o (inl y) = rw (writes_push o h x) (y.1.sent_is ∙ ap (λ (zs : List (List ℕ)). zs ++ written_here o x.actor x.event x.reply) (b.sent_is p o y.0))
    sent p o (inr y) = rw (writes_push o h x) (ap (λ (s : Side). s.end.sent) y.1 ∙ rw ((b.none o y.0).0, y.2.written_none) refl)

    given : (p : Pair) (o : Owner)
        → ((t.owner p ≡ Some o) × EntryAccount o x.actor x.event x.reply (t.side p).end (u.side p).end) ⊎ (((q : Pair) → t.owner q ≡ Some o → ⊥) × (u.side p ≡ empty_side) × NoEntry o x.actor x.event x.reply)
        → given_by (u.side p).end ≡ joined_texts (reads o (h ++ x ∷ []))
    given p o (inl y) =
        y.1.read_is (b.reading p o y.0) ∙ (ap (λ (zs : List ℕ). zs ++ joined_texts (read_here o x.actor x.event x.reply)) (b.given_is p o y.0)
        ∙ (sym (joined-append (reads o h) (read_here o x.actor x.event x.reply)) ∙ ap joined_texts (sym (reads_push o h x))))
    given p o (inr y) = rw (reads_push o h x) (ap (λ (s : Side). given_by s.end) y.1 ∙ rw ((b.none o y.0).1, y.2.read_none) refl)

    reading : (p : Pair) (o : Owner)
        → ((t.owner p ≡ Some o) × EntryAccount o x.actor x.event x.reply (t.side p).end (u.side p).end) ⊎ (((q : Pair) → t.owner q ≡ Some o → ⊥) × (u.side p ≡ empty_side) × NoEntry o x.actor x.event x.reply)
        → Reading (u.side p).end
    reading p o (inl y) = y.1.reading (b.reading p o y.0)
    reading p o (inr y) = subst (λ (s : Side). Reading s.end) (sym y.1) (inr (refl, refl))

    sized : (p : Pair) (o : Owner)
        → ((t.owner p ≡ Some o) × EntryAccount o x.actor x.event x.reply (t.side p).end (u.side p).end) ⊎ (((q : Pair) → t.owner q ≡ Some o → ⊥) × (u.side p ≡ empty_side) × NoEntry o x.actor x.event x.reply)
        → AllSized (u.side p).end.sent
    sized p o (inl y) = y.1.sized (b.sized p o y.0)
    sized p o (inr y) = subst (λ (s : Side). AllSized s.end.sent) (sym y.1) (λ j z none. absurd (none-some z none))

    ended : (p : Pair) (o : Owner)
        → ((t.owner p ≡ Some o) × EntryAccount o x.actor x.event x.reply (t.side p).end (u.side p).end) ⊎ (((q : Pair) → t.owner q ≡ Some o → ⊥) × (u.side p ≡ empty_side) × NoEntry o x.actor x.event x.reply)
        → HasEmpty (reads o h ++ read_here o x.actor x.event x.reply) → AtEnd (u.side p).end
    ended p o (inl y) e =
        elim (has_empty_append (reads o h) (read_here o x.actor x.event x.reply) e) [
          | inl old ↦ y.1.stays (b.ended p o y.0 old)
          | inr new ↦ (y.1.ends (b.reading p o y.0) (all p) new).1
        ]
    ended p o (inr y) e = absurd (no_empty (reads o h ++ read_here o x.actor x.event x.reply) (rw ((b.none o y.0).1, y.2.read_none) refl) e)

-- A conversation's entry.

same_owner : (h n g : ℕ) (o : Owner) → h ≡ o.host → n ≡ o.slot → g ≡ o.generation → ◌≡◌ {A = Owner} (record { host = h; slot = n; generation = g }) o
same_owner h n g o one two three =
    ap (λ (i : ℕ). record { host = i; slot = n; generation = g }) one
    ∙ (ap (λ (i : ℕ). record { host = o.host; slot = i; generation = g }) two ∙ ap (λ (i : ℕ). record { host = o.host; slot = o.slot; generation = i }) three)

module _ (h n : ℕ) (ev : Event) (r : Reply) where
  no_entry : (o : Owner) → (h ≡ o.host → n ≡ o.slot → Silent o.generation ev r) → NoEntry o (actor.Conv h proto.Il n) ev r
  no_entry o f = record {
    written_none = cond_both (((h == o.host) && true) && (n == o.slot)) _ _ (λ (xs : List (List ℕ)). xs ≡ []) (λ is. (silent is).0) (λ _. refl);
    read_none = cond_both (((h == o.host) && true) && (n == o.slot)) _ _ (λ (xs : List (List ℕ)). xs ≡ []) (λ is. (silent is).1) (λ _. refl);
  }
    where
      silent : (((h == o.host) && true) && (n == o.slot)) ≡ true → Silent o.generation ev r
      silent is = let parts = and_parts ((h == o.host) && true) (n == o.slot) is in f (eqb-true h o.host (and_parts (h == o.host) true parts.0).0) (eqb-true n o.slot parts.1)

  entry_account : (g : ℕ) (e e' : End) → Account g ev r e e' → (e.closed_by_peer ≡ true → Begins e'.got e.got) → EntryAccount (record { host = h; slot = n; generation = g }) (actor.Conv h proto.Il n) ev r e e'
  entry_account g e e' a back =
      let here : (((h == h) && true) && (n == n)) ≡ true = and_from ((h == h) && true) (n == n) (and_from (h == h) true (eq-eqb h h refl) refl) (eq-eqb n n refl) in
      record { sent_is = rw here a.sent_is; read_is = λ x. rw here (a.read_is x); reading = a.reading; sized = a.sized; ends = λ reading all h. a.ends reading all (rw here at h); whole = λ room reading all none. rw here (a.whole (room here) reading all none); quiet = λ at. rw here (a.quiet at); stays = λ at. a.stays at (back at.0) }

  -- the pair's own end takes part, and no other
  booked_touched : (k : ℕ) (t : Trace) (p : Pair) (turn : Turn) (g : ℕ) → Owned k t → t.owner p ≡ owner_of h n g → Account g ev r (t.side p).end turn.end → ((g' : ℕ) → (g' ≡ g → ⊥) → Silent g' ev r) → ((t.side p).end.closed_by_peer ≡ true → Begins turn.end.got (t.side p).end.got)
      → Booked t (touched t p turn) (actor.Conv h proto.Il n) ev r
  booked_touched k t p turn g w is account others back = record {
    had = λ q o owner. inl (owner, had q o owner (same_pair p q) refl);
    none = λ o alone. (
      alone,
      no_entry o (λ one two. others o.generation (λ same.
          alone p (is ∙ ap (λ (x : Owner). Some x) (same_owner h n g o one two (sym same))))),
    );
  }
    where
      had : (q : Pair) (o : Owner) → t.owner q ≡ Some o → (b : Bool) → same_pair p q ≡ b → EntryAccount o (actor.Conv h proto.Il n) ev r (t.side q).end ((touched t p turn).side q).end
      had q o owner true same =
          let e : ◌≡◌ {A = Owner} (record { host = h; slot = n; generation = g }) o = same_Some _ _ (sym is ∙ (ap t.owner (same_pair_is p q same) ∙ owner)) in
          subst (λ (x : Side). EntryAccount o (actor.Conv h proto.Il n) ev r (t.side q).end x.end) (sym (side_at t p turn q true same))
          (subst (λ (x : Pair). EntryAccount o (actor.Conv h proto.Il n) ev r (t.side x).end turn.end) (same_pair_is p q same)
          (subst (λ (x : Owner). EntryAccount x (actor.Conv h proto.Il n) ev r (t.side p).end turn.end) e (entry_account g (t.side p).end turn.end account back)))
      had q o owner false same =
          subst (λ (x : Side). EntryAccount o (actor.Conv h proto.Il n) ev r (t.side q).end x.end) (sym (side_at t p turn q false same))
          (no_entry_account o (actor.Conv h proto.Il n) ev r (t.side q).end (no_entry o (λ one two. others o.generation (λ three.
          absurd (both_ways (same_pair_of q o owner one two three) same)))))
        where
          same_pair_of : (q : Pair) (o : Owner) → t.owner q ≡ Some o → h ≡ o.host → n ≡ o.slot → o.generation ≡ g → same_pair p q ≡ true
          same_pair_of q o owner one two three = same_pair_from p q (w.unique p q o (is ∙ ap (λ (x : Owner). Some x) (same_owner h n g o one two (sym three))) owner)

-- a closed_by_peer end gets no more
back_touched : (k : ℕ) (t : Trace) (p : Pair) (turn : Turn) (o : Owner) → t.owner p ≡ Some o → Owned k t → Owned (k + 1) (touched t p turn) → (t.side p).end.closed_by_peer ≡ true → Begins turn.end.got (t.side p).end.got
back_touched k t p turn o is w w' closed_by_peer i x there = ((w.talk p).link.all_got closed_by_peer).1 i x (order i x there)
  where
    order : Begins turn.end.got (t.side (mirror p)).end.sent
    order =
        subst (λ (s : Side). Begins turn.end.got s.end.sent) (side_at t p turn (mirror p) false (w.apart p o is))
        (subst (λ (s : Side). Begins s.end.got ((touched t p turn).side (mirror p)).end.sent) (put_here t.side p (leaves (t.side p) turn)) (w'.talk p).link.in_order)

-- nothing is written or read by an event that isn't a write or a read
begin_silent : (g g' : ℕ) (r : Reply) → Silent g (event.Begin g') r
begin_silent g g' r = (refl, refl)

born_silent : (g g' : ℕ) (r : Reply) → Silent g (event.Born g') r
born_silent g g' r = (refl, refl)

connect_silent : (g g' : ℕ) (r : Reply) → Silent g (event.Connect g') r
connect_silent g g' r = (refl, refl)

announced_silent : (g g' : ℕ) (r : Reply) → Silent g (event.Announced g') r
announced_silent g g' r = (refl, refl)

module _ (k h n : ℕ) (t : Trace) (w : Owned k t) (now : ℕ) (c : Conv) (e : End) (ev : Event) (gift : With) (s : Step Conv) where
  abbrev IsBooked : Type 0
  IsBooked = Booked t (conv_trace s.state.stage s.state.core s.state s.outcome.emit t) (actor.Conv h proto.Il n) ev s.outcome.reply

  quietly : is_connected s.state.stage ≡ false → ((g : ℕ) → Silent g ev s.outcome.reply) → IsBooked
  quietly not silent =
      subst (λ (u : Trace). Booked t u (actor.Conv h proto.Il n) ev s.outcome.reply) (sym (quiet_trace s.state.stage s.state.core s.state s.outcome.emit t not))
      (booked_quiet t (actor.Conv h proto.Il n) ev s.outcome.reply (λ o. no_entry h n ev s.outcome.reply o (λ one two. silent o.generation)))

  stay_booked : Owned (k + 1) (conv_trace s.state.stage s.state.core s.state s.outcome.emit t) → (stage : Stage) → c.stage ≡ stage → HasEnd t h n (of_end c e) stage (Il e) → Elsewhere c ev s.outcome.reply → (turn : Turn) → Stays c e ev turn s → IsBooked
  stay_booked after Connected is has other turn st =
      subst (λ (u : Trace). Booked t u (actor.Conv h proto.Il n) ev s.outcome.reply) (trace_touched t c.pair turn s (st.stage_is ∙ is) st.core_is (st.pair_is (ap is_connected is)) st.emits)
      (booked_touched h n ev s.outcome.reply k t c.pair turn c.generation w has.0 (subst (λ (x : End). Account c.generation ev s.outcome.reply x turn.end) (sym has.1) st.account)
      (λ g apart. other.silent g (λ same. absurd (apart same)))
      (back_touched k t c.pair turn (record { host = h; slot = n; generation = c.generation }) has.0 w (subst (λ (u : Trace). Owned (k + 1) u) (sym (trace_touched t c.pair turn s (st.stage_is ∙ is) st.core_is (st.pair_is (ap is_connected is)) st.emits)) after)))
  stay_booked after Unused is has other turn st = quietly (ap is_connected (st.stage_is ∙ is)) (λ g. other.silent g (λ _. ap is_connected is))
  stay_booked after Listening is has other turn st = quietly (ap is_connected (st.stage_is ∙ is)) (λ g. other.silent g (λ _. ap is_connected is))

  -- a pair that was never used begins
  begins_booked : (p : Pair) (turn : Turn) (g : ℕ) → t.owner p ≡ owner_of h n g → t.side p ≡ empty_side → Leaves (fresh_end Fixed) turn.end → ((g' : ℕ) → Silent g' ev s.outcome.reply)
      → touched t p turn ≡ conv_trace s.state.stage s.state.core s.state s.outcome.emit t → IsBooked
  begins_booked p turn g is empty l silent same =
      subst (λ (u : Trace). Booked t u (actor.Conv h proto.Il n) ev s.outcome.reply) same
      (booked_touched h n ev s.outcome.reply k t p turn g w is
      (subst (λ (x : Side). Account g ev s.outcome.reply x.end turn.end) (sym empty) (left_account g ev s.outcome.reply (fresh_end Fixed) turn.end l (silent g)))
      (λ g' _. silent g')
      (λ m. absurd (both_ways m (ap (λ (x : Side). x.end.closed_by_peer) empty))))

  pub conv_booked : Owned (k + 1) (conv_trace s.state.stage s.state.core s.state s.outcome.emit t) → ConvFine t h n (of_end c e) → GiftFine t h n ev gift → Elsewhere c ev s.outcome.reply → Move now c e ev gift s → IsBooked
  conv_booked after fine gift_fine other (Stay turn act st) = stay_booked after c.stage refl fine.0 other turn st
  conv_booked after fine gift_fine other (Begin b) = quietly (ap is_connected b.stage_is) (λ g. subst (λ (x : Event). Silent g x s.outcome.reply) (sym b.event_is) (begin_silent g (c.generation + 1) s.outcome.reply))
  conv_booked after fine gift_fine other (Listen o) = quietly (ap is_connected o.stage_is) (λ g. subst (λ (x : Event). Silent g x s.outcome.reply) (sym o.event_is) (announced_silent g c.generation s.outcome.reply))
  conv_booked after fine gift_fine other (Join j) =
      let owner : t.owner j.pair ≡ owner_of h n c.generation = subst (λ (g : With). GiftFine t h n (event.Connect c.generation) g) j.given_is (subst (λ (x : Event). GiftFine t h n x gift) j.event_is gift_fine) in
      let has : HasEnd t h n (of_end c e) c.stage (Il e) = fine.0 in
      let end_is : e ≡ fresh_end e.timer.timers = rw j.was at has in
      begins_booked j.pair (connects now j.start e) c.generation owner (fine.1 j.pair c.generation owner (omega arith) (λ _. ap is_connected j.was))
      (subst (λ (x : End). Leaves (fresh_end Fixed) (connects now j.start x).end) (sym end_is) (record { sent_is = refl; taken_is = refl; cut_is = refl; got_more = λ i u z. z; marked_stays = λ z. z }))
      (λ g. subst (λ (x : Event). Silent g x s.outcome.reply) (sym j.event_is) (connect_silent g c.generation s.outcome.reply))
      (trace_touched t j.pair (connects now j.start e) s j.stage_is j.core_is j.pair_is j.emits)
  conv_booked after fine gift_fine other (Come x) =
      let p : Pair = record { local = x.packet.dst; remote = x.packet.src } in
      let g = c.generation + 1 in
      let gift' : GiftFine t h n (event.Born g) (given.Birth x.packet x.start x.limit) = subst (λ (y : With). GiftFine t h n (event.Born g) y) x.given_is (subst (λ (y : Event). GiftFine t h n y gift) x.event_is gift_fine) in
      begins_booked p (is_born now x.start x.message.id (fresh_end e.timer.timers)) g gift'.0 (fine.1 p g gift'.0 (omega arith) (λ is. absurd (omega arith)))
      (record { sent_is = refl; taken_is = refl; cut_is = refl; got_more = λ i u z. z; marked_stays = λ z. z })
      (λ g'. subst (λ (y : Event). Silent g' y s.outcome.reply) (sym x.event_is) (born_silent g' g s.outcome.reply))
      (trace_touched t p (is_born now x.start x.message.id (fresh_end e.timer.timers)) s x.stage_is x.core_is x.pair_is x.emits)

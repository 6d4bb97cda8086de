-- An end of file comes after the peer's close, and after all that it writes.
use Rattle.std.proofs.Common.{◌≡◌, ℕ, suc, ◌==◌, true, List, [], ◌∷◌, ◌++◌, length, take, drop, Option, Some, None, ◌⊎◌, inl, inr, refl, sym, ap, subst, ◌∙◌, arith}
use Rattle.std.proofs.lemmas.Bool.{cases_lt, eq-eqb}
use Rattle.std.proofs.lemmas.List.{append-nil, length_push, take_all, take-append-drop}
use Rattle.std.proofs.lemmas.Grind.{flat_map-append}
use Rattle.std.proofs.lemmas.Option.{none-some, same_Some, slice_get_within}
use Rattle.net_base.specs.declared.actor.ActorName.TheVariants as actor
use Rattle.net_base.specs.declared.address.Pair.{Pair}
use Rattle.net_base.specs.declared.address.Proto.TheVariants as proto
use Rattle.net_base.specs.declared.event.Event.TheVariants as event
use Rattle.net_base.specs.declared.history.Entry.{Entry}
use Rattle.net_base.specs.declared.reply.Reply.{Reply}
use Rattle.net_base.specs.declared.reply.Reply.TheVariants as reply
use Rattle.net_base.specs.declared.world.World.{World}
use Rattle.net_base.specs.Legal.{IsLegalBy, MayFollowBy}
use Rattle.net_base.specs.Mirror.{mirror}
use Rattle.net_base.specs.Net.{after, work_of}
use Rattle.net_base.specs.Tasks.{Tasks}
use Rattle.net_base.specs.World.{IsWorld}
use Rattle.net_base.specs.Written.{read_by, joined_texts, IsRead, HasClosed}
use Rattle.prefix_law.proofs.Accounts.{AtEnd, HasEmpty, no_empty, joined-append}
use Rattle.prefix_law.proofs.Books.{conv_of, reads, read_here, reads_push, got_sized, Booked, EntryAccount, NoEntry}
use Rattle.prefix_law.proofs.Said.{closed_by}
use Rattle.prefix_law.proofs.Happened.{Happened, happened, kept_at}
use Rattle.history_laws.proofs.Shared.{by_entries, legal_take, one_more, take_before}
use Rattle.prefix_law.proofs.Trace.{Owner, Trace, empty_side, actor_trace, trace}
use Rattle.prefix_law.proofs.Whole.{Kept}

-- Reads of nothing.

has_empty_left : (xs ys : List (List ℕ)) → HasEmpty xs → HasEmpty (xs ++ ys)
has_empty_left [] ys h = absurd h
has_empty_left (x ∷ xs) ys (inl is) = inl is
has_empty_left (x ∷ xs) ys (inr h) = inr (has_empty_left xs ys h)

has_empty_right : (xs ys : List (List ℕ)) → HasEmpty ys → HasEmpty (xs ++ ys)
has_empty_right [] ys h = h
has_empty_right (x ∷ xs) ys h = inr (has_empty_right xs ys h)

empty_before : (o : Owner) (h : List Entry) (k : ℕ) → HasEmpty (reads o (take k h)) → HasEmpty (reads o h)
empty_before o h k some =
    subst (λ (xs : List Entry). HasEmpty (reads o xs)) (take-append-drop k h)
    (subst HasEmpty (sym (flat_map-append (read_by (conv_of o)) (take k h) (drop k h))) (has_empty_left (reads o (take k h)) (reads o (drop k h)) some))

-- the entry k of a history, which reads nothing, after those before it
pub record Reads (h : List Entry) (o : Owner) (k : ℕ) : Type 0 where
  pub entry : Entry
  pub stands : take (suc k) h ≡ take k h ++ entry ∷ []
  pub may : (ts : Tasks) (w : World) → IsLegalBy ts w h → MayFollowBy ts w (take k h) entry
  pub here : read_here o entry.actor entry.event entry.reply ≡ [] ∷ []

read_of_nothing : (o : Owner) (count : ℕ) (x : Entry) → x.actor ≡ actor.Conv o.host proto.Il o.slot → x.event ≡ event.Read o.generation count → x.reply ≡ reply.Bytes [] → read_here o x.actor x.event x.reply ≡ [] ∷ []
read_of_nothing o count x actor_is event_is reply_is =
    let host_is : (o.host == o.host) ≡ true = eq-eqb o.host o.host refl in
    let slot_is : (o.slot == o.slot) ≡ true = eq-eqb o.slot o.slot refl in
    let generation_is : (o.generation == o.generation) ≡ true = eq-eqb o.generation o.generation refl in
    rw (actor_is, event_is, reply_is) (rw (host_is, slot_is, generation_is) refl)

pub reads_nothing : (h : List Entry) (o : Owner) (k count : ℕ) → IsRead h (conv_of o) k count [] → Reads h o k
reads_nothing h o k count r =
    let next = one_more h k (slice_get_within h k r.entry r.stands) in
    let same : next.0 ≡ r.entry = same_Some next.0 r.entry (sym next.1 ∙ r.stands) in
    record {
      entry = r.entry;
      stands = next.2 ∙ ap (λ (x : Entry). take k h ++ x ∷ []) same;
      may = λ ts w legal. legal k r.entry r.stands;
      here = read_of_nothing o count r.entry r.actor_is r.event_is r.reply_is;
    }

empty_here : (h : List Entry) (o : Owner) (k : ℕ) → Reads h o k → HasEmpty (reads o (take (suc k) h))
empty_here h o k r =
    subst (λ (xs : List Entry). HasEmpty (reads o xs)) (sym r.stands)
    (subst HasEmpty (sym (reads_push o (take k h) r.entry))
    (has_empty_right (reads o (take k h)) (read_here o r.entry.actor r.entry.event r.entry.reply) (subst HasEmpty (sym r.here) (inl refl))))

module _ (w : World) (world : IsWorld w) where
  booked_at : (h : List Entry) (x : Entry) → Happened w h x → Booked (trace w h) (trace w (h ++ x ∷ [])) x.actor x.event x.reply
  booked_at h x d =
      subst (λ (u : Trace). Booked (trace w h) u x.actor x.event x.reply) (sym d.trace_is)
      (subst (λ (r : Reply). Booked (trace w h) (actor_trace x.actor d.step.state (work_of (after w h) x) d.step.outcome (trace w h)) x.actor x.event r) (sym d.reply_is) d.leaves.booked)

  -- Who has a pair keeps it.

  abbrev OwnerStays : List Entry → Type 0
  OwnerStays h = (k : ℕ) (p : Pair) (o : Owner) → (trace w (take k h)).owner p ≡ Some o → (trace w h).owner p ≡ Some o

  owner_more : {ts : Tasks} (h : List Entry) (x : Entry) → IsLegalBy ts w h → MayFollowBy ts w h x → OwnerStays h → OwnerStays (h ++ x ∷ [])
  owner_more h x legal may before k p o owns =
      elim (cases_lt (length h) k) [
        | inl more ↦ subst (λ (xs : List Entry). (trace w xs).owner p ≡ Some o) (take_all k (h ++ x ∷ []) (omega (arith, more, length_push h x))) owns
        | inr less ↦
            let was = before k p o (subst (λ (xs : List Entry). (trace w xs).owner p ≡ Some o) (take_before h x k less) owns) in
            let d = happened w world h x legal may in
            ap (λ (t : Trace). t.owner p) d.trace_is ∙ d.leaves.later.owner_stays p o was
      ]

  owner_stays : {ts : Tasks} (h : List Entry) → IsLegalBy ts w h → OwnerStays h
  owner_stays h legal = by_entries w OwnerStays (λ k p o owns. subst (λ (xs : List Entry). (trace w xs).owner p ≡ Some o) (take_all k [] (omega arith)) owns) owner_more h legal

  -- Nothing is read after a read of nothing.

  abbrev NothingMore : List Entry → Type 0
  NothingMore h = (k : ℕ) (p : Pair) (o : Owner) → (trace w h).owner p ≡ Some o → HasEmpty (reads o (take k h)) → joined_texts (reads o (take k h)) ≡ joined_texts (reads o h)

  nothing_next : {ts : Tasks} (h : List Entry) (x : Entry) → IsLegalBy ts w h → MayFollowBy ts w h x → NothingMore h → NothingMore (h ++ x ∷ [])
  nothing_next h x legal may before k p o owns some =
      elim (cases_lt (length h) k) [
        | inl more ↦ ap (λ (xs : List Entry). joined_texts (reads o xs)) (take_all k (h ++ x ∷ []) (omega (arith, more, length_push h x)))
        | inr less ↦ subst (λ (xs : List Entry). joined_texts (reads o xs) ≡ joined_texts (reads o (h ++ x ∷ []))) (sym (take_before h x k less))
            (quiet (subst (λ (xs : List Entry). HasEmpty (reads o xs)) (take_before h x k less) some) ((booked_at h x (happened w world h x legal may)).had p o owns))
      ]
    where
      t : Trace
      t = trace w h

      quiet : HasEmpty (reads o (take k h))
          → ((t.owner p ≡ Some o) × EntryAccount o x.actor x.event x.reply (t.side p).end ((trace w (h ++ x ∷ [])).side p).end) ⊎ (((q : Pair) → t.owner q ≡ Some o → ⊥) × ((trace w (h ++ x ∷ [])).side p ≡ empty_side) × NoEntry o x.actor x.event x.reply)
          → joined_texts (reads o (take k h)) ≡ joined_texts (reads o (h ++ x ∷ []))
      quiet was (inl old) =
          let here = read_here o x.actor x.event x.reply in
          let at : AtEnd (t.side p).end = (kept_at w world h legal).books.ended p o old.0 (empty_before o h k was) in
          let now : joined_texts (reads o (h ++ x ∷ [])) ≡ joined_texts (reads o h) =
          ap joined_texts (reads_push o h x) ∙ (joined-append (reads o h) here ∙ (ap (λ (xs : List ℕ). joined_texts (reads o h) ++ xs) (old.1.quiet at) ∙ append-nil (joined_texts (reads o h)))) in
          before k p o old.0 was ∙ sym now
      quiet was (inr new) = absurd (no_empty (reads o h) ((kept_at w world h legal).books.none o new.0).1 (empty_before o h k was))

  nothing_more : {ts : Tasks} (h : List Entry) → IsLegalBy ts w h → NothingMore h
  nothing_more h legal = by_entries w NothingMore (λ k p o is. absurd (none-some o is)) nothing_next h legal

  -- Where the entry k reads nothing at the conversation o, which has the pair p.

  module _ {ts : Tasks} (h : List Entry) (legal : IsLegalBy ts w h) (o : Owner) (p : Pair) (owns : (trace w h).owner p ≡ Some o) (k : ℕ) (r : Reads h o k) where
    pub empty_read : HasEmpty (reads o h)
    empty_read = empty_before o h (suc k) (empty_here h o k r)

    -- all was read before
    pub read_before : joined_texts (reads o (take k h)) ≡ joined_texts (reads o h)
    read_before =
        let before = reads o (take k h) in
        let now : joined_texts (reads o (take (suc k) h)) ≡ joined_texts before =
        ap (λ (xs : List Entry). joined_texts (reads o xs)) r.stands
        ∙ (ap joined_texts (reads_push o (take k h) r.entry ∙ ap (λ (xs : List (List ℕ)). before ++ xs) r.here)
        ∙ (joined-append before ([] ∷ []) ∙ append-nil (joined_texts before))) in
        sym now ∙ nothing_more h legal (suc k) p o owns (empty_here h o k r)

    abbrev before : List Entry
    before = take k h

    legal_before : IsLegalBy ts w before
    legal_before = legal_take w h k legal

    d : Happened w before r.entry
    d = happened w world before r.entry legal_before (r.may ts w legal)

    kept : Kept w (length before) (after w before) (trace w before) before
    kept = kept_at w world before legal_before

    -- the reader had its pair by then
    had_pair : (trace w (take (suc k) h)).owner p ≡ Some o
    had_pair = go ((trace w (take (suc k) h)).owner p) refl
      where
        go : (found : Option Owner) → (trace w (take (suc k) h)).owner p ≡ found → (trace w (take (suc k) h)).owner p ≡ Some o
        go (Some other) is = is ∙ (sym (owner_stays h legal (suc k) p other is) ∙ owns)
        go None is = absurd (no_empty (reads o (take (suc k) h)) ((kept_at w world (take (suc k) h) (legal_take w h (suc k) legal)).books.none o unowned).1 (empty_here h o k r))
          where
            unowned : (q : Pair) → (trace w (take (suc k) h)).owner q ≡ Some o → ⊥
            unowned q has =
                let same : q ≡ p = (kept_at w world h legal).fine.owned.unique q p o (owner_stays h legal (suc k) q o has) owns in
                none-some o (sym is ∙ subst (λ (x : Pair). (trace w (take (suc k) h)).owner x ≡ Some o) same has)

    closed_by_peer : ((trace w before).side p).end.closed_by_peer ≡ true
    closed_by_peer = go ((booked_at before r.entry d).had p o (subst (λ (xs : List Entry). (trace w xs).owner p ≡ Some o) r.stands had_pair))
      where
        some : HasEmpty (read_here o r.entry.actor r.entry.event r.entry.reply)
        some = subst HasEmpty (sym r.here) (inl refl)

        go : (((trace w before).owner p ≡ Some o) × EntryAccount o r.entry.actor r.entry.event r.entry.reply ((trace w before).side p).end ((trace w (before ++ r.entry ∷ [])).side p).end)
            ⊎ (((q : Pair) → (trace w before).owner q ≡ Some o → ⊥) × ((trace w (before ++ r.entry ∷ [])).side p ≡ empty_side) × NoEntry o r.entry.actor r.entry.event r.entry.reply)
            → ((trace w before).side p).end.closed_by_peer ≡ true
        go (inl old) = (old.1.ends (kept.books.reading p o old.0) (got_sized (length before) (trace w before) before kept.fine.owned kept.books p) some).0.0
        go (inr new) = absurd (no_empty (read_here o r.entry.actor r.entry.event r.entry.reply) new.2.read_none some)

    -- the other end closed before
    pub closed_before : (f : Owner) → (trace w h).owner (mirror p) ≡ Some f → HasClosed w (take k h) (conv_of f)
    closed_before f is =
        let c = closed_by w world before legal_before p closed_by_peer in
        let same : c.0 ≡ f = same_Some c.0 f (sym (owner_stays h legal k (mirror p) c.0 c.1) ∙ is) in
        subst (λ (x : Owner). HasClosed w (take k h) (conv_of x)) same c.2

-- What an end has read and written, entry by entry.
use Rattle.std.proofs.Common.{◌≡◌, ℕ, ◌+◌, ◌<◌, ◌≤◌, ◌==◌, nat_lt, true, List, [], ◌∷◌, ◌++◌, length, take, drop, Some, slice_get, ◌⊎◌, inl, inr, refl, sym, ap, subst, ◌∙◌, append_assoc, arith}
use Rattle.std.specs.Prelude.{slice_index_or, filter}
use Rattle.std.proofs.lemmas.Bool.{lt-ltb, cond_both, eq-eqb, ltb-true, ltb-false, cases_lt}
use Rattle.std.proofs.lemmas.List.{append-nil, take-append-le, take_all, get_or_append_left, take-append-drop, take_more, length-append, length-drop, length-take}
use Rattle.std.proofs.lemmas.Option.{slice_get-get_or}
use Rattle.std.proofs.Math.Seq.{take-add}
use Rattle.net_base.specs.declared.event.Event.{Event}
use Rattle.net_base.specs.declared.event.Event.TheVariants as event
use Rattle.net_base.specs.declared.reply.Reply.{Reply}
use Rattle.net_base.specs.declared.reply.Reply.TheVariants as reply
use Rattle.net_base.specs.Networks.{is_filled}
use Rattle.net_base.specs.IlEnd.{End, Turn, has_unacked, starts}
use Rattle.net_base.specs.IlTable.{first_unread, sends}
use Rattle.net_base.specs.IlTable.{reads as reads_end, writes as writes_end}
use Rattle.net_base.specs.Written.{written_in, read_in, joined_texts}
use Rattle.prefix_law.proofs.Begins.{Begins, begins_prefix, begins_length, in_pushed}
use Rattle.prefix_law.proofs.Untouched.{Leaves}

-- some text has no bytes
abbrev pub HasEmpty : List (List ℕ) → Type 0
HasEmpty [] = ⊥
HasEmpty (text ∷ texts) = (text ≡ []) ⊎ HasEmpty texts

-- the bytes that an end has given to its readers
abbrev pub given_out : ℕ → ℕ → List (List ℕ) → List ℕ
given_out taken cut got = joined_texts (take taken got) ++ take cut (slice_index_or got taken [])

-- it stands in a message, or before the next one
abbrev pub IsReading : ℕ → ℕ → List (List ℕ) → Type 0
IsReading taken cut got = ((taken < length got) × ((cut ≡ 0) ⊎ (cut < length (slice_index_or got taken [])))) ⊎ ((taken ≡ length got) × (cut ≡ 0))

abbrev pub given_by : End → List ℕ
given_by e = given_out e.read_count e.read_offset e.got

abbrev pub Reading : End → Type 0
Reading e = IsReading e.read_count e.read_offset e.got

-- a message has 1 to 8,192 bytes
abbrev pub IsSized : List ℕ → Type 0
IsSized text = (0 < length text) × (length text ≤ 8192)

abbrev pub AllSized : List (List ℕ) → Type 0
AllSized xs = (k : ℕ) (t : List ℕ) → slice_get xs k ≡ Some t → IsSized t

-- a read of the generation that replies bytes has room for every message
abbrev pub ReadsAll : ℕ → Event → Reply → Type 0
ReadsAll g (event.Read g' count) (reply.Bytes text) = g' ≡ g → 8192 ≤ count
ReadsAll g _ _ = Unit {0}

-- all that will ever come was given
abbrev pub AtEnd : End → Type 0
AtEnd e = (e.closed_by_peer ≡ true) × (e.read_count ≡ length e.got) × (e.read_offset ≡ 0)

-- an entry's event and reply say what the end wrote and gave
pub record Account (g : ℕ) (ev : Event) (r : Reply) (e e' : End) : Type 0 where
  pub sent_is : e'.sent ≡ e.sent ++ written_in g ev r
  pub read_is : Reading e → given_by e' ≡ given_by e ++ joined_texts (read_in g ev r)
  pub reading : Reading e → Reading e'
  pub sized : AllSized e.sent → AllSized e'.sent
  -- a read of nothing comes at the end alone
  pub ends : Reading e → AllSized e.got → HasEmpty (read_in g ev r) → AtEnd e × AtEnd e'
  -- reads with room for every message take whole messages
  pub whole : ReadsAll g ev r → Reading e → AllSized e.got → e.read_offset ≡ 0 → (e'.read_offset ≡ 0) × (take e'.read_count e'.got ≡ take e.read_count e.got ++ filter is_filled (read_in g ev r))
  -- nothing more is read at the end
  pub quiet : AtEnd e → joined_texts (read_in g ev r) ≡ []
  -- the end stays the end, where nothing more comes
  pub stays : AtEnd e → Begins e'.got e.got → AtEnd e'

-- nothing is written or read
abbrev pub Silent : ℕ → Event → Reply → Type 0
Silent g ev r = (written_in g ev r ≡ []) × (read_in g ev r ≡ [])

given_more : (taken cut : ℕ) (got rest : List (List ℕ)) → IsReading taken cut got → given_out taken cut (got ++ rest) ≡ given_out taken cut got
given_more taken cut got rest (inl less) =
    let le : taken ≤ length got = omega (arith, less.0) in
    rw (take-append-le taken got rest le, get_or_append_left got rest [] taken less.0) refl
given_more taken cut got rest (inr end) =
    let le : taken ≤ length got = omega (arith, end.0) in
    rw (end.1, take-append-le taken got rest le) refl

taken_more : (taken cut : ℕ) (got rest : List (List ℕ)) → IsReading taken cut got → take taken (got ++ rest) ≡ take taken got
taken_more taken cut got rest (inl less) = take-append-le taken got rest (omega (arith, less.0))
taken_more taken cut got rest (inr end) = take-append-le taken got rest (omega (arith, end.0))

reading_more : (taken cut : ℕ) (got rest : List (List ℕ)) → IsReading taken cut got → IsReading taken cut (got ++ rest)
reading_more taken cut got rest (inl less) = inl (omega (arith, less.0, length-append got rest), rw (get_or_append_left got rest [] taken less.0) less.1)
reading_more taken cut got rest (inr end) =
    elim (cases_lt taken (length (got ++ rest))) [ inl less ↦ inl (less, inl end.1) | inr more ↦ inr (omega (arith, end.0, length-append got rest), end.1) ]

pub no_empty : (xs : List (List ℕ)) → xs ≡ [] → HasEmpty xs → ⊥
no_empty [] is h = h
no_empty (x ∷ xs) is h = absurd (cc is)

pub left_account : (g : ℕ) (ev : Event) (r : Reply) (e e' : End) → Leaves e e' → Silent g ev r → Account g ev r e e'
left_account g ev r e e' l silent = record {
  sent_is = rw silent.0 (l.sent_is ∙ sym (append-nil e.sent));
  read_is = λ reading.
      let more = begins_prefix e.got e'.got l.got_more in
      rw silent.1 (rw (l.taken_is, l.cut_is, ← more.1) (given_more e.read_count e.read_offset e.got more.0 reading ∙ sym (append-nil (given_by e))));
  reading = λ reading.
      let more = begins_prefix e.got e'.got l.got_more in
      rw (l.taken_is, l.cut_is, ← more.1) (reading_more e.read_count e.read_offset e.got more.0 reading);
  sized = λ all. rw l.sent_is all;
  ends = λ _ _ h. absurd (no_empty (read_in g ev r) silent.1 h);
  whole = λ _ reading _ none.
      let more = begins_prefix e.got e'.got l.got_more in
      (l.cut_is ∙ none, rw silent.1 (rw (l.taken_is, ← more.1) (taken_more e.read_count e.read_offset e.got more.0 reading ∙ sym (append-nil (take e.read_count e.got)))));
  quiet = λ _. ap joined_texts silent.1;
  stays = λ at back. (l.marked_stays at.0, omega (arith, l.taken_is, at.1, begins_length e.got e'.got l.got_more, begins_length e'.got e.got back), l.cut_is ∙ at.2);
}

sized_push : (xs : List (List ℕ)) (y : List ℕ) → IsSized y → AllSized xs → AllSized (xs ++ y ∷ [])
sized_push xs y some all k t is = elim (in_pushed xs y k t is) [ inl old ↦ all k t old | inr last ↦ subst (λ (u : List ℕ). IsSized u) last.1 some ]

pub sends_account : (g g' : ℕ) (text : List ℕ) (n : ℕ) (e e' : End) → g' ≡ g → e'.sent ≡ e.sent ++ text ∷ [] → e'.read_count ≡ e.read_count → e'.read_offset ≡ e.read_offset → e'.got ≡ e.got → e'.closed_by_peer ≡ e.closed_by_peer → IsSized text → Account g (event.Write g' text) (reply.Count n) e e'
sends_account g g' text n e e' own sent taken cut got closed_by_peer some = record {
  sent_is = rw (eq-eqb g' g own) sent;
  read_is = λ reading. rw (taken, cut, got) (sym (append-nil (given_by e)));
  reading = λ reading. rw (taken, cut, got) reading;
  sized = λ all. rw sent (sized_push e.sent text some all);
  ends = λ _ _ h. absurd h;
  whole = λ _ _ _ none. (cut ∙ none, rw (taken, got) (sym (append-nil (take e.read_count e.got))));
  quiet = λ _. refl;
  stays = λ at back. (closed_by_peer ∙ at.0, omega (arith, taken, at.1, ap length got), cut ∙ at.2);
}

pub write_account : (g g' now : ℕ) (text : List ℕ) (n : ℕ) (e : End) → g' ≡ g → IsSized text → Account g (event.Write g' text) (reply.Count n) e (writes_end now text e).end
write_account g g' now text n e own some =
    cond_both (has_unacked e) _ _ (λ (t : Turn). Account g (event.Write g' text) (reply.Count n) e t.end)
    (λ _. sends_account g g' text n e (sends now text e).end own refl refl refl refl refl some) (λ _. sends_account g g' text n e (sends now text (starts now e)).end own refl refl refl refl refl some)

pub joined-append : (xs ys : List (List ℕ)) → joined_texts (xs ++ ys) ≡ joined_texts xs ++ joined_texts ys
joined-append [] ys = refl
joined-append (x ∷ xs) ys = ap (λ (zs : List ℕ). x ++ zs) (joined-append xs ys) ∙ sym (append_assoc x (joined_texts xs) (joined_texts ys))

one_piece : (js xs cs : List ℕ) → js ++ (xs ++ cs) ≡ (js ++ xs) ++ (cs ++ [])
one_piece js xs cs = simp (append_assoc, append-nil)

last_piece : (js xs cs : List ℕ) → (js ++ ((xs ++ cs) ++ [])) ++ [] ≡ (js ++ xs) ++ (cs ++ [])
last_piece js xs cs = simp (append_assoc, append-nil)

-- a read within a message gives some bytes
some_bytes : (count cut : ℕ) (m : List ℕ) → 0 < count → cut < length m → take count (drop cut m) ≡ [] → ⊥
some_bytes count cut m some less none = omega (arith, ap length none, length-take count (drop cut m), length-drop cut m)

one_empty : (xs : List ℕ) → HasEmpty (xs ∷ []) → xs ≡ []
one_empty xs (inl is) = is
one_empty xs (inr h) = absurd h

within : (e : End) → e.read_count < length e.got → Reading e → AllSized e.got → e.read_offset < length (slice_index_or e.got e.read_count [])
within e there reading all =
    let here : 0 < length (slice_index_or e.got e.read_count []) = (all e.read_count (slice_index_or e.got e.read_count []) (slice_get-get_or e.got e.read_count [] there)).0 in
    elim reading [ inl x ↦ elim x.1 [ inl none ↦ omega (arith, none, here) | inr less ↦ less ] | inr end ↦ absurd (omega (arith, end.0)) ]

some_read : (g g' count : ℕ) (e : End) → g' ≡ g → 0 < count → e.read_count < length e.got → Reading e → AllSized e.got → HasEmpty (read_in g (event.Read g' count) (reply.Bytes (take count (first_unread e)))) → ⊥
some_read g g' count e own some there reading all h =
    let one : HasEmpty (take count (first_unread e) ∷ []) = rw (eq-eqb g' g own) at h in
    some_bytes count e.read_offset (slice_index_or e.got e.read_count []) some (within e there reading all) (one_empty (take count (first_unread e)) one)

pub read_account : (g g' count : ℕ) (e : End) → g' ≡ g → 0 < count → e.read_count < length e.got → Account g (event.Read g' count) (reply.Bytes (take count (first_unread e))) e (reads_end count e)
read_account g g' count e own some there =
    let m = slice_index_or e.got e.read_count [] in
    let js = joined_texts (take e.read_count e.got) in
    cond_both (nat_lt count (length (first_unread e))) _ _ (λ (x : End). Account g (event.Read g' count) (reply.Bytes (take count (first_unread e))) e x)
    (λ more. record {
      sent_is = sym (append-nil e.sent);
      read_is = λ _. rw (eq-eqb g' g own) (rw (take-add e.read_offset count m) (one_piece js (take e.read_offset m) (take count (drop e.read_offset m))));
      reading = λ _. inl (there, inr (omega (arith, ltb-true count (length (drop e.read_offset m)) more, length-drop e.read_offset m)));
      sized = λ all. all;
      ends = λ reading all h. absurd (some_read g g' count e own some there reading all h);
      whole = λ room reading all none. absurd (omega (arith, room own, (all e.read_count m (slice_get-get_or e.got e.read_count [] there)).1, ltb-true count (length (drop e.read_offset m)) more, length-drop e.read_offset m));
      quiet = λ at. absurd (omega (arith, at.1));
      stays = λ at back. absurd (omega (arith, at.1));
    })
    (λ not. record {
      sent_is = sym (append-nil e.sent);
      read_is = λ _.
          let all : take count (drop e.read_offset m) ≡ drop e.read_offset m = take_all count (drop e.read_offset m) (ltb-false count (length (drop e.read_offset m)) not) in
          let next : joined_texts (take (e.read_count + 1) e.got) ≡ js ++ ((take e.read_offset m ++ drop e.read_offset m) ++ []) =
          ap joined_texts (take_more e.got e.read_count [] there) ∙ (joined-append (take e.read_count e.got) (m ∷ []) ∙ ap (λ (x : List ℕ). js ++ (x ++ [])) (sym (take-append-drop e.read_offset m))) in
          rw (eq-eqb g' g own) (rw (all, next) (last_piece js (take e.read_offset m) (drop e.read_offset m)));
      reading = λ _. elim (cases_lt (e.read_count + 1) (length e.got)) [ inl less ↦ inl (less, inl refl) | inr more ↦ inr (omega arith, refl) ];
      sized = λ all. all;
      ends = λ reading all h. absurd (some_read g g' count e own some there reading all h);
      whole = λ room reading all none.
          let here : IsSized m = all e.read_count m (slice_get-get_or e.got e.read_count [] there) in
          let cut_none : drop e.read_offset m ≡ m = rw none refl in
          let text_is : take count (drop e.read_offset m) ≡ m = ap (take count) cut_none ∙ take_all count m (omega (arith, room own, here.1)) in
          let filled : filter is_filled (m ∷ []) ≡ m ∷ [] = rw (lt-ltb 0 (length m) here.0) refl in
          (refl, rw (eq-eqb g' g own) (take_more e.got e.read_count [] there ∙ ap (λ (xs : List (List ℕ)). take e.read_count e.got ++ xs) (sym (ap (λ (x : List ℕ). filter is_filled (x ∷ [])) text_is ∙ filled))));
      quiet = λ at. absurd (omega (arith, at.1));
      stays = λ at back. absurd (omega (arith, at.1));
    })

-- the end of what came gives no bytes
pub end_account : (g g' count : ℕ) (e : End) → e.closed_by_peer ≡ true → length e.got ≤ e.read_count → Account g (event.Read g' count) (reply.Bytes []) e e
end_account g g' count e closed_by_peer all = record {
  sent_is = sym (append-nil e.sent);
  read_is = λ _. cond_both (g' == g) _ _ (λ (xs : List (List ℕ)). given_by e ≡ given_by e ++ joined_texts xs) (λ _. sym (append-nil (given_by e))) (λ _. sym (append-nil (given_by e)));
  reading = λ r. r;
  sized = λ x. x;
  ends = λ reading _ _.
      let end : (e.read_count ≡ length e.got) × (e.read_offset ≡ 0) = elim reading [ inl x ↦ absurd (omega (arith, x.0)) | inr end ↦ end ] in
      ((closed_by_peer, end.0, end.1), (closed_by_peer, end.0, end.1));
  whole = λ _ _ _ none. (
    none,
    cond_both (g' == g) _ _ (λ (xs : List (List ℕ)). take e.read_count e.got ≡ take e.read_count e.got ++ filter is_filled xs) (λ _. sym (append-nil (take e.read_count e.got))) (λ _. sym (append-nil (take e.read_count e.got))),
  );
  quiet = λ _. cond_both (g' == g) _ _ (λ (xs : List (List ℕ)). joined_texts xs ≡ []) (λ _. refl) (λ _. refl);
  stays = λ at _. at;
}

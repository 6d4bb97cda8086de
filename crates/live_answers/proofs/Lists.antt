-- Elements of lists, and texts of replies.
use Rattle.std.proofs.Common.{◌≡◌, ℕ, zero, suc, ◌<◌, ◌≤◌, List, [], ◌∷◌, ◌++◌, length, Option, Some, None, Result, Ok, Err, OnOk, slice_get, refl, sym, ap, ◌∙◌, arith}
use Rattle.std.specs.Prelude.{get_or}
use Rattle.std.proofs.lemmas.List.{append_assoc, append-nil}
use Rattle.std.proofs.lemmas.Option.{slice_get_read}
use Rattle.net_base.specs.declared.history.Entry.{Entry}
use Rattle.net_base.specs.declared.reply.Reply.{Reply}
use Rattle.live_lines.specs.AnswerLines.{replies_text, reply_text}
use Rattle.live_answers.specs.Steps.{reply_at}

pub got : {A : Type 0} (xs : List A) (i : ℕ) (x : A) → i < length xs → x ≡ get_or xs i x → slice_get xs i ≡ Some x
got xs i x lt is = slice_get_read xs (length xs) i x refl lt is

pub past : {A : Type 0} (xs : List A) (i : ℕ) → length xs ≤ i → slice_get xs i ≡ None
past [] i le = refl
past (x ∷ xs) zero le = absurd (omega (arith, le))
past (x ∷ xs) (suc i) le = past xs i (omega (arith, le))

pub texts_more : (rs ss : List Reply) → replies_text (rs ++ ss) ≡ replies_text rs ++ replies_text ss
texts_more [] ss = refl
texts_more (r ∷ rs) ss = ap (λ (t : List ℕ). reply_text r ++ t) (texts_more rs ss) ∙ sym (append_assoc (reply_text r) (replies_text rs) (replies_text ss))

pub text_some : (h : List Entry) (k : ℕ) (x : Entry) (old new : List ℕ) → slice_get h k ≡ Some x → new ≡ old ++ reply_text x.reply → new ≡ old ++ replies_text (reply_at (slice_get h k))
text_some h k x old new there is = is ∙ ap (λ (t : List ℕ). old ++ t) (sym (append-nil (reply_text x.reply)) ∙ ap (λ (o : Option Entry). replies_text (reply_at o)) (sym there))

pub text_none : (h : List Entry) (k : ℕ) (old : List ℕ) → slice_get h k ≡ None → old ≡ old ++ replies_text (reply_at (slice_get h k))
text_none h k old there = sym (append-nil old) ∙ ap (λ (o : Option Entry). old ++ replies_text (reply_at o)) (sym there)

pub on_ok : {T E P Q : Type 0} (r : Result T E) → (P → Q) → OnOk r P → OnOk r Q
on_ok (Ok x) then_ given = then_ given
on_ok (Err e) then_ given = given

-- The text by which an outcome is known determines the outcome, among those of one world.
use Rattle.std.proofs.Common.{◌≡◌, ℕ, zero, suc, ◌+◌, ◌-◌, ◌*◌, ◌/◌, ◌%◌, ◌<◌, ◌==◌, inl, inr, Bool, true, false, not, cond, ◌||◌, List, [], ◌∷◌, ◌++◌, drop, length, Option, Some, None, refl, sym, ap, subst, ◌∙◌, append_assoc, arith, codes}
use Rattle.std.specs.Prelude.{Vec, bytes_eq, flat_map, map, vec_items}
use Rattle.std.specs.List.{enumerate_from, list_any, range_with_len}
use Rattle.std.proofs.lemmas.Bool.{false≢true}
use Rattle.std.proofs.lemmas.List.{map-append}
use Rattle.std.proofs.lemmas.List.FromFn.{length-map-range_with_len}
use Rattle.net_base.specs.declared.history.Entry.{Entry}
use Rattle.net_base.specs.declared.reply.Reply.{Reply}
use Rattle.net_base.specs.declared.world.Script.{Script}
use Rattle.net_base.specs.declared.world.World.{World}
use Rattle.net_base.specs.Next.{own_replies, zone_of}
use Rattle.net_base.specs.Plain.{AreLines, IsClean, IsLine}
use Rattle.net_base.specs.Stamped.{In}
use Rattle.net_base.specs.Summary.{summary}
use Rattle.net_base.specs.Transcript.{as_lines, dash, reply_words, spaced}
use Rattle.net_base.proofs.Shared.{equal_texts, length_map, same_text}
use Rattle.transcript.specs.Telling.{AreClean}
use Rattle.turn_orders.specs.Orders.{Told, first_told, is_told, told_of}
use Rattle.turn_orders.specs.Results.{RunOutcome, outcome_of, result_text, result_words, results, same_outcome, script_results}
use Rattle.turn_orders.proofs.Shared.{outcome_itself, outcomes_equal}
use Rattle.order_search.specs.Known.{is_among, text_of, text_told, texts_in, with_text}
use Rattle.order_search.specs.Marks.{results_text}
use Rattle.order_search.proofs.CleanResults.{clean_result}
use Rattle.order_search.proofs.StepReplies.{results_are}

-- ---- results have no newline

line_both : (a b : List ℕ) → IsLine a → IsLine b → IsLine (a ++ b)
line_both [] b one other = other
line_both (x ∷ a) b one other = (one.0, line_both a b one.1 other)

line_clean : (a : List ℕ) → IsClean a → IsLine a
line_clean [] is = tt
line_clean (x ∷ a) is = (is.1, line_clean a is.2)

line_words : (words : List (List ℕ)) → AreClean words → IsLine (spaced words)
line_words [] are = tt
line_words (word ∷ words) are = (λ is. omega (arith, is), line_both word (spaced words) (line_clean word are.0) (line_words words are.1))

line_rest : (a : List ℕ) → IsLine a → IsLine (drop 1 a)
line_rest [] is = tt
line_rest (x ∷ a) is = is.1

line_codes : (bytes : List ℕ) → list_any (λ (b : ℕ). b == 10) bytes ≡ false → IsLine bytes
line_codes [] is = tt
line_codes (b ∷ bytes) is = (λ e. absurd (false≢true (sym is ∙ ap (λ (n : ℕ). (n == 10) || list_any (λ (c : ℕ). c == 10) bytes) e)), line_codes bytes (rest (b == 10) is))
  where
    rest : (a : Bool) → (a || list_any (λ (c : ℕ). c == 10) bytes) ≡ false → list_any (λ (c : ℕ). c == 10) bytes ≡ false
    rest true e = absurd (false≢true (sym e))
    rest false e = e

line_reply : (r : Reply) → AreClean (result_words r) → IsLine (result_text (Some r))
line_reply r clean = line_rest (spaced (result_words r)) (line_words (result_words r) clean)

line_result : (o : Option Reply) → IsLine (result_text o)
line_result None = line_codes (codes "-") refl
line_result (Some r) = line_reply r (clean_result r)

lines_results : (os : List (Option Reply)) → AreLines (map result_text os)
lines_results [] = tt
lines_results (o ∷ os) = (line_result o, lines_results os)

-- ---- lines are cut in one way

abbrev first : ℕ → List ℕ → ℕ
first d [] = d
first d (x ∷ xs) = x

one_line : (l m a b : List ℕ) → IsLine l → IsLine m → l ++ 10 ∷ a ≡ m ++ 10 ∷ b → (l ≡ m) × (a ≡ b)
one_line [] [] a b one other is = (refl, ap (drop 1) is)
one_line [] (y ∷ m) a b one other is = absurd (other.0 (sym (ap (first 10) is)))
one_line (x ∷ l) [] a b one other is = absurd (one.0 (ap (first 10) is))
one_line (x ∷ l) (y ∷ m) a b one other is =
    let rest = one_line l m a b one.1 other.1 (ap (drop 1) is) in
    (ap (λ (z : ℕ). z ∷ l) (ap (first 10) is) ∙ ap (λ (zs : List ℕ). y ∷ zs) rest.0, rest.1)

few_lines : (xs ys : List (List ℕ)) (a b : List ℕ) → length xs ≡ length ys → AreLines xs → AreLines ys → as_lines xs ++ a ≡ as_lines ys ++ b → (xs ≡ ys) × (a ≡ b)
few_lines [] [] a b count one other is = (refl, is)
few_lines [] (y ∷ ys) a b count one other is = absurd (omega (arith, count))
few_lines (x ∷ xs) [] a b count one other is = absurd (omega (arith, count))
few_lines (x ∷ xs) (y ∷ ys) a b count one other is =
    let cut = one_line x y (as_lines xs ++ a) (as_lines ys ++ b) one.0 other.0 (sym (apart x xs a) ∙ (is ∙ apart y ys b)) in
    let rest = few_lines xs ys a b (omega (arith, count)) one.1 other.1 cut.1 in
    (ap (λ (l : List ℕ). l ∷ xs) cut.0 ∙ ap (λ (ls : List (List ℕ)). y ∷ ls) rest.0, rest.1)
  where
    apart : (l : List ℕ) (ls : List (List ℕ)) (c : List ℕ) → ((l ++ 10 ∷ []) ++ as_lines ls) ++ c ≡ l ++ 10 ∷ (as_lines ls ++ c)
    apart l ls c = append_assoc (l ++ 10 ∷ []) (as_lines ls) c ∙ append_assoc l (10 ∷ []) (as_lines ls ++ c)

-- ---- outcomes

length_results : (w : World) (h : List Entry) (c : ℕ × Script) → length (script_results w h c) ≡ length c.1.steps
length_results w h c = ap (λ (os : List (Option Reply)). length os) (results_are (zone_of w) c.1 (own_replies h c.0)) ∙ length-map-range_with_len _ 0 (length c.1.steps)

abbrev texts_of : World → List Entry → ℕ × Script → List (List ℕ)
texts_of w h c = map result_text (script_results w h c)

same_length : (w : World) (h k : List Entry) (c : ℕ × Script) → length (texts_of w h c) ≡ length (texts_of w k c)
same_length w h k c =
    length_map result_text (script_results w h c) ∙ (length_results w h c ∙ (sym (length_results w k c) ∙ sym (length_map result_text (script_results w k c))))

same_scripts : (w : World) (h k : List Entry) (cs : List (ℕ × Script)) (a b : List ℕ)
    → flat_map as_lines (map (map result_text) (map (script_results w h) cs)) ++ a ≡ flat_map as_lines (map (map result_text) (map (script_results w k) cs)) ++ b
    → (map (map result_text) (map (script_results w h) cs) ≡ map (map result_text) (map (script_results w k) cs)) × (a ≡ b)
same_scripts w h k [] a b is = (refl, is)
same_scripts w h k (c ∷ cs) a b is =
    let apart : (g : List Entry) (d : List ℕ) → (as_lines (texts_of w g c) ++ flat_map as_lines (map (map result_text) (map (script_results w g) cs))) ++ d
    ≡ as_lines (texts_of w g c) ++ (flat_map as_lines (map (map result_text) (map (script_results w g) cs)) ++ d) =
    λ g d. append_assoc (as_lines (texts_of w g c)) (flat_map as_lines (map (map result_text) (map (script_results w g) cs))) d in
    let cut = few_lines (texts_of w h c) (texts_of w k c) (flat_map as_lines (map (map result_text) (map (script_results w h) cs)) ++ a)
    (flat_map as_lines (map (map result_text) (map (script_results w k) cs)) ++ b)
    (same_length w h k c) (lines_results (script_results w h c)) (lines_results (script_results w k c)) (sym (apart h a) ∙ (is ∙ apart k b)) in
    let rest = same_scripts w h k cs a b cut.1 in (
      ap (λ (t : List (List ℕ)). t ∷ map (map result_text) (map (script_results w h) cs)) cut.0
          ∙ ap (λ (ts : List (List (List ℕ))). texts_of w k c ∷ ts) rest.0,
      rest.1,
    )

texts_tell : (w : World) (h k : List Entry) → text_of (outcome_of w h) ≡ text_of (outcome_of w k) → outcome_of w h ≡ outcome_of w k
texts_tell w h k is =
    let parts = same_scripts w h k (enumerate_from 0 w.scripts) (summary w h) (summary w k) is in
    ap (λ (s : List ℕ). record { summary = s; results = map (map result_text) (results w h) }) parts.1
    ∙ ap (λ (r : List (List (List ℕ))). record { summary = summary w k; results = r }) parts.0

same_test : (w : World) (h k : List Entry) → bytes_eq (text_of (outcome_of w h)) (text_of (outcome_of w k)) ≡ same_outcome (outcome_of w h) (outcome_of w k)
same_test w h k = by (bytes_eq (text_of (outcome_of w h)) (text_of (outcome_of w k))) refl (same_outcome (outcome_of w h) (outcome_of w k)) refl
  where
    by : (a : Bool) → bytes_eq (text_of (outcome_of w h)) (text_of (outcome_of w k)) ≡ a → (b : Bool) → same_outcome (outcome_of w h) (outcome_of w k) ≡ b → a ≡ b
    by true e true f = refl
    by false e false f = refl
    by true e false f =
        absurd (false≢true (sym f ∙ (ap (same_outcome (outcome_of w h)) (sym (texts_tell w h k (equal_texts (text_of (outcome_of w h)) (text_of (outcome_of w k)) e)))
        ∙ outcome_itself (outcome_of w h))))
    by false e true f =
        absurd (false≢true (sym e ∙ (ap (λ (o : RunOutcome). bytes_eq (text_of (outcome_of w h)) (text_of o)) (sym (outcomes_equal (outcome_of w h) (outcome_of w k) f))
        ∙ same_text (text_of (outcome_of w h)))))

-- whether an outcome is known, by its text
pub among_told : (w : World) (ts : List Told) (h : List Entry)
    → ((t : Told) → In t ts → (k : List Entry) × (t ≡ told_of w k))
    → is_among (map text_told ts) (text_of (outcome_of w h)) ≡ is_told ts (outcome_of w h)
among_told w [] h are = refl
among_told w (t ∷ ts) h are =
    let this = are t (inl refl) in
    ap (λ (b : Bool). b || is_among (map text_told ts) (text_of (outcome_of w h)))
    (ap (λ (u : Told). bytes_eq (text_told u) (text_of (outcome_of w h))) this.1 ∙ (same_test w this.0 h ∙ ap (λ (u : Told). same_outcome u.outcome (outcome_of w h)) (sym this.1)))
    ∙ ap (λ (b : Bool). same_outcome t.outcome (outcome_of w h) || b) (among_told w ts h (λ u there. are u (inr there)))

-- ---- keys

turned : (a b : List ℕ) → bytes_eq a b ≡ bytes_eq b a
turned a b = by (bytes_eq a b) refl (bytes_eq b a) refl
  where
    by : (x : Bool) → bytes_eq a b ≡ x → (y : Bool) → bytes_eq b a ≡ y → x ≡ y
    by true e true f = refl
    by false e false f = refl
    by true e false f = absurd (false≢true (sym f ∙ (ap (bytes_eq b) (equal_texts a b e) ∙ same_text b)))
    by false e true f = absurd (false≢true (sym e ∙ (ap (bytes_eq a) (equal_texts b a f) ∙ same_text a)))

any_seen : {Z : Type 0} (key : Vec ℕ Z) (text : List ℕ) → vec_items key ≡ text → (keys : List (Vec ℕ Z))
    → list_any (λ (k : Vec ℕ Z). bytes_eq (vec_items key) (vec_items k)) keys ≡ is_among (texts_in keys) text
any_seen key text is [] = refl
any_seen {Z} key text is (k ∷ ks) =
    ap (λ (b : Bool). b || list_any (λ (j : Vec ℕ Z). bytes_eq (vec_items key) (vec_items j)) ks)
    (ap (λ (t : List ℕ). bytes_eq t (vec_items k)) is ∙ turned text (vec_items k))
    ∙ ap (λ (b : Bool). bytes_eq (vec_items k) text || b) (any_seen key text is ks)

pub fresh_is : {Z : Type 0} (key : Vec ℕ Z) (text : List ℕ) (keys : List (Vec ℕ Z)) (fresh : Bool) → vec_items key ≡ text
    → fresh ≡ not (list_any (λ (k : Vec ℕ Z). bytes_eq (vec_items key) (vec_items k)) keys) → fresh ≡ not (is_among (texts_in keys) text)
fresh_is key text keys fresh is so = so ∙ ap not (any_seen key text is keys)

pub text_put : {Z : Type 0} (keys after : List (Vec ℕ Z)) (key : Vec ℕ Z) (text : List ℕ) → vec_items key ≡ text
    → after ≡ cond (list_any (λ (k : Vec ℕ Z). bytes_eq (vec_items key) (vec_items k)) keys) keys (keys ++ key ∷ []) → texts_in after ≡ with_text (texts_in keys) text
text_put {Z} keys after key text is put =
    ap (λ (ks : List (Vec ℕ Z)). texts_in ks) put
    ∙ (by (list_any (λ (k : Vec ℕ Z). bytes_eq (vec_items key) (vec_items k)) keys)
    ∙ ap (λ (b : Bool). cond b (texts_in keys) (texts_in keys ++ text ∷ [])) (any_seen key text is keys))
  where
    by : (b : Bool) → texts_in (cond b keys (keys ++ key ∷ [])) ≡ cond b (texts_in keys) (texts_in keys ++ text ∷ [])
    by true = refl
    by false = map-append vec_items keys (key ∷ []) ∙ ap (λ (t : List ℕ). texts_in keys ++ t ∷ []) is

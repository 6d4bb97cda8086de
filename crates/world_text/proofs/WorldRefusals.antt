-- Texts that say no world, and lines that say nothing.
use Rattle.std.proofs.Common.{◌≡◌, ℕ, ◌+◌, ◌⊎◌, inl, inr, Bool, true, false, not, ◌&&◌, ◌||◌, cond, List, [], ◌∷◌, ◌++◌, length, refl, sym, ap, subst, ◌∙◌, arith, Option, Some, None, Ok, Err, Result, append-nil, append_assoc, length-append}
use Rattle.std.specs.Prelude.{◌↔◌, codes, bytes_eq, if◌then◌else◌}
use Rattle.std.specs.List.{filter, list_all, list_any}
use Rattle.std.proofs.lemmas.Bool.{and_parts, false≢true, or_parts}
use Rattle.std.proofs.lemmas.List.Folds.{list_all-append}
use Rattle.std.proofs.lemmas.Slice.Eq.{bytes_eq-Decides}
use Rattle.net_base.specs.declared.world.World.{World}
use Rattle.net_base.specs.NdbText.{is_empty, is_newline, lines_of}
use Rattle.world_text.specs.declared.line.LineCause.{LineCause}
use Rattle.world_text.specs.declared.line.WorldLine.TheVariants as line
use Rattle.world_text.specs.LineCauses.{cause_number_of}
use Rattle.world_text.specs.VersionLines.{bad_version_line, versions_in}
use Rattle.world_text.specs.WorldLines.{Draft, opening_draft, Verdict, Goes, Begins, Bad, line_verdict}
use Rattle.world_text.specs.WorldRefusal.{LeadsToWorld, EndsLine, IsBadLineOf, IsBadBundle, IsUnended, IsTextRefused}
use Rattle.world_text.specs.WorldSpelling.{laid, is_line, speaks, IsHeaded, IsWorldText}
use Rattle.world_text.specs.WorldText.{Cut, with_first, cuts_of, with_versions, judged, missing, reading_from, world_reading}
use Rattle.world_text.proofs.WorldLists.{false-of-not}
use Rattle.world_text.proofs.WorldRead.{spelled-read}
use Rattle.world_text.proofs.LineSpelled.{spelled}
use Rattle.world_text.proofs.WorldSound.{err-ok, same-ok}
use Rattle.world_text.proofs.WorldTexts.{Shape, cuts-line, ends, headed, judged-goes, last-parts, leads-all, no-cuts, passed-goes, reading-lines, shape}

-- A text says one world at most.

pub one-world : (text : List ℕ) (v w : World) → IsWorldText text v → IsWorldText text w → v ≡ w
one-world text v w s t = same-ok v w (world_reading text) (spelled-read text v s) (spelled-read text w t)

-- From a refusal to the lines.

same-err : (p q : ℕ × ℕ) (r : Result World (ℕ × ℕ)) → r ≡ Err p → r ≡ Err q → p ≡ q
same-err p q r e f = cc

ok-err : (w : World) (p : ℕ × ℕ) → Ok w ≡ Err p → ⊥
ok-err w p e = cc

-- a line and a cause
abbrev bad_at : ℕ → ℕ → ℕ × ℕ
bad_at n c = (n, c)

abbrev refusal : ℕ → ℕ → Result World (ℕ × ℕ)
refusal n c = Err (n, c)

first-same : (m n c d : ℕ) → bad_at m c ≡ bad_at n d → m ≡ n
first-same m n c d e = ap (λ (p : ℕ × ℕ). p.0) e

second-same : (m n c d : ℕ) → bad_at m c ≡ bad_at n d → c ≡ d
second-same m n c d e = ap (λ (p : ℕ × ℕ). p.1) e

-- one line more
refused-more : (d next : Draft) (first : ℕ) (text line behind : List ℕ) (n c : ℕ) → is_line line ≡ true → text ≡ line ++ (10 ∷ behind) → line_verdict d line ≡ Goes next
    → IsTextRefused next (first + 1) behind n c → IsTextRefused d first text n c
refused-more d next first text line behind n c whole is goes (inl b) =
    inl (record {
      good = line ∷ b.good;
      line = b.line;
      rest = b.rest;
      so_far = b.so_far;
      parts = is ∙ (ap (λ (xs : List ℕ). line ++ (10 ∷ xs)) b.parts ∙ sym (append_assoc line (10 ∷ laid b.good) (b.line ++ b.rest)));
      ended = b.ended;
      whole = (let both = and_parts (is_line b.line) (list_all is_line b.good) b.whole in
          ap (λ v. v && (is_line line && list_all is_line b.good)) both.0 ∙ (ap (λ v. v && list_all is_line b.good) whole ∙ both.1));
      leads = (next, goes, b.leads);
      cause = b.cause;
      bad = b.bad;
      number = b.number;
      place = let p = b.place in omega (arith, p);
    })
refused-more d next first text line behind n c whole is goes (inr (inl b)) =
    inr (inl (record {
      good = line ∷ b.good;
      bundle = b.bundle;
      so_far = b.so_far;
      world = b.world;
      line = b.line;
      parts = headed text line behind b.good b.bundle is b.parts;
      whole = ap (λ v. v && list_all is_line b.good) whole ∙ b.whole;
      leads = (next, goes, b.leads);
      begins = b.begins;
      bad = b.bad;
      place = let p = b.place in omega (arith, p);
    }))
refused-more d next first text line behind n c whole is goes (inr (inr b)) =
    inr (inr (record {
      good = line ∷ b.good;
      so_far = b.so_far;
      parts = ended b.parts;
      whole = ap (λ v. v && list_all is_line b.good) whole ∙ b.whole;
      leads = (next, goes, b.leads);
      place = let p = b.place in omega (arith, p);
      cause = b.cause;
    }))
  where
    ended : (behind ≡ laid b.good) ⊎ ((before : List (List ℕ)) × (last : List ℕ) × (b.good ≡ before ++ last ∷ []) × (behind ≡ laid before ++ last) × (is_empty last ≡ false))
        → (text ≡ laid (line ∷ b.good)) ⊎ ((before : List (List ℕ)) × (last : List ℕ) × (line ∷ b.good ≡ before ++ last ∷ []) × (text ≡ laid before ++ last) × (is_empty last ≡ false))
    ended (inl same) = inl (is ∙ ap (λ (xs : List ℕ). line ++ (10 ∷ xs)) same)
    ended (inr (before, last, all, same, some)) =
        inr (line ∷ before, last, ap (λ (ls : List (List ℕ)). line ∷ ls) all, is ∙ (ap (λ (xs : List ℕ). line ++ (10 ∷ xs)) same ∙ sym (append_assoc line (10 ∷ laid before) last)), some)

-- a text of one bad line, and perhaps others
bad-here : (d : Draft) (first : ℕ) (text : List ℕ) (c : Cut) (cs : List Cut) (cause : LineCause) → Shape text c cs → line_verdict d c.line ≡ Bad cause → IsBadLineOf d first text first (cause_number_of cause)
bad-here d first text c cs cause s bad = by s.parts
  where
    lines : list_all is_line (c.line ∷ []) ≡ true
    lines = ap (λ v. v && true) s.whole

    by : ((text ≡ c.line ++ (10 ∷ c.behind)) × (cs ≡ cuts_of c.behind)) ⊎ ((text ≡ c.line) × (c.behind ≡ []) × (cs ≡ [])) → IsBadLineOf d first text first (cause_number_of cause)
    by (inl (is, later)) = record { good = []; line = c.line; rest = 10 ∷ c.behind; so_far = d; parts = is; ended = inr (c.behind, refl); whole = lines; leads = refl; cause = cause; bad = bad; number = refl; place = omega arith }
    by (inr (is, none, nil)) = record { good = []; line = c.line; rest = []; so_far = d; parts = is ∙ sym (append-nil c.line); ended = inl refl; whole = lines; leads = refl; cause = cause; bad = bad; number = refl; place = omega arith }

some-line : (text line : List ℕ) (c : Cut) (cs : List Cut) → cuts_of text ≡ c ∷ cs → text ≡ line → is_empty line ≡ false
some-line text [] c cs cut is = absurd (let n = ap (λ (xs : List Cut). length xs) (sym (ap cuts_of is) ∙ cut) in omega (arith, n))
some-line text (b ∷ line) c cs cut is = refl

-- the line that begins a bundle
ndb-line : (d : Draft) (text : List ℕ) (v : World) → line_verdict d text ≡ Begins v → text ≡ codes "ndb"
ndb-line d text v is = (spelled text line.Ndb ((ends d text v is).is_read)).0

bundle-here : (d : Draft) (first : ℕ) (text : List ℕ) (c : Cut) (cs : List Cut) (v : World) (n cause : ℕ) → Shape text c cs → line_verdict d c.line ≡ Begins v
    → with_versions first v c.behind (bad_version_line c.behind) ≡ Err (n, cause) → IsBadBundle d first text n cause
bundle-here d first text c cs v n cause s begins e = by (bad_version_line c.behind) refl e
  where
    is_ndb : c.line ≡ codes "ndb"
    is_ndb = ndb-line d c.line v begins

    by : (o : Option (ℕ × ℕ)) → bad_version_line c.behind ≡ o → with_versions first v c.behind o ≡ Err (n, cause) → IsBadBundle d first text n cause
    by None is f = absurd (ok-err (record v { dbs = versions_in (lines_of c.behind) }) (n, cause) f)
    by (Some bad) is f =
        let same = same-err (first + bad.0, bad.1) (n, cause) (Err (first + bad.0, bad.1)) refl f in
        let place = first-same (first + bad.0) n bad.1 cause same in
        record {
          good = [];
          bundle = c.behind;
          so_far = d;
          world = v;
          line = bad.0;
          parts = last-parts text c cs s is_ndb;
          whole = refl;
          leads = refl;
          begins = ap (line_verdict d) (sym is_ndb) ∙ begins;
          bad = is ∙ ap (λ (k : ℕ). Some (bad.0, k)) (second-same (first + bad.0) n bad.1 cause same);
          place = omega (arith, place);
        }

refused : (d : Draft) (first : ℕ) (cuts : List Cut) (text : List ℕ) (n c : ℕ) → cuts_of text ≡ cuts → reading_from d first cuts ≡ Err (n, c) → IsTextRefused d first text n c
refused d first [] text n c cut e =
    let same = same-err (first, cause_number_of (missing d)) (n, c) (Err (first, cause_number_of (missing d))) refl e in
    let place = first-same first n (cause_number_of (missing d)) c same in
    inr (inr (record { good = []; so_far = d; parts = inl (no-cuts text cut); whole = refl; leads = refl; place = omega (arith, place); cause = sym (second-same first n (cause_number_of (missing d)) c same) }))
refused d first (x ∷ xs) text n c cut e = by (line_verdict d x.line) refl e (shape text x xs cut) (λ next same f. refused next (first + 1) xs x.behind n c same f)
  where
    goes : (next : Draft) → line_verdict d x.line ≡ Goes next → reading_from next (first + 1) xs ≡ Err (n, c) → (s : Shape text x xs)
        → ((text ≡ x.line ++ (10 ∷ x.behind)) × (xs ≡ cuts_of x.behind)) ⊎ ((text ≡ x.line) × (x.behind ≡ []) × (xs ≡ []))
        → (cuts_of x.behind ≡ xs → reading_from next (first + 1) xs ≡ Err (n, c) → IsTextRefused next (first + 1) x.behind n c) → IsTextRefused d first text n c
    goes next is f s (inl (same, later)) go = refused-more d next first text x.line x.behind n c s.whole same is (go (sym later) f)
    goes next is f s (inr (same, none, nil)) go =
        let told = same-err (first + 1, cause_number_of (missing next)) (n, c) (Err (first + 1, cause_number_of (missing next))) refl (sym (ap (reading_from next (first + 1)) nil) ∙ f) in
        let place = first-same (first + 1) n (cause_number_of (missing next)) c told in
        inr (inr (record {
          good = x.line ∷ [];
          so_far = next;
          parts = inr ([], x.line, refl, same, some-line text x.line x xs cut same);
          whole = ap (λ v. v && true) s.whole;
          leads = (next, is, refl);
          place = omega (arith, place);
          cause = sym (second-same (first + 1) n (cause_number_of (missing next)) c told);
        }))

    by : (v : Verdict) → line_verdict d x.line ≡ v → judged first x.behind v (λ (next : Draft). reading_from next (first + 1) xs) ≡ Err (n, c) → Shape text x xs
        → ((next : Draft) → cuts_of x.behind ≡ xs → reading_from next (first + 1) xs ≡ Err (n, c) → IsTextRefused next (first + 1) x.behind n c) → IsTextRefused d first text n c
    by (Goes next) is f s go = goes next is f s s.parts (go next)
    by (Begins v) is f s go = inr (inl (bundle-here d first text x xs v n c s is f))
    by (Bad cause) is f s go =
        let same = same-err (first, cause_number_of cause) (n, c) (Err (first, cause_number_of cause)) refl f in
        inl (subst (λ (m : ℕ). IsBadLineOf d first text m c) (first-same first n (cause_number_of cause) c same)
        (subst (λ (k : ℕ). IsBadLineOf d first text first k) (second-same first n (cause_number_of cause) c same) (bad-here d first text x xs cause s is)))

-- From the lines to a refusal.

-- a line without a newline at the end of a text
cuts-last : (line : List ℕ) → is_empty line ≡ false → is_line line ≡ true → cuts_of line ≡ record { line = line; behind = [] } ∷ []
cuts-last [] some whole = absurd (false≢true (sym some))
cuts-last (b ∷ []) some whole =
    let none = or_parts (is_newline b) false (false-of-not (is_newline b || false) whole) in
    ap (λ v. if v then record { line = []; behind = [] } ∷ [] else record { line = b ∷ []; behind = [] } ∷ []) none.0
cuts-last (b ∷ c ∷ line) some whole =
    let none = or_parts (is_newline b) (list_any is_newline (c ∷ line)) (false-of-not (list_any is_newline (b ∷ c ∷ line)) whole) in
    ap (λ v. if v then record { line = []; behind = c ∷ line } ∷ cuts_of (c ∷ line) else with_first b (cuts_of (c ∷ line))) none.0
    ∙ ap (with_first b) (cuts-last (c ∷ line) refl (ap not none.1))

-- the first line of a text that ends there
cuts-first : (line rest : List ℕ) → is_empty line ≡ false → is_line line ≡ true → EndsLine rest → (behind : List ℕ) × (cs : List Cut) × (cuts_of (line ++ rest) ≡ record { line = line; behind = behind } ∷ cs)
cuts-first line rest some whole (inl none) = ([], [], ap (λ (xs : List ℕ). cuts_of (line ++ xs)) none ∙ (ap cuts_of (append-nil line) ∙ cuts-last line some whole))
cuts-first line rest some whole (inr (more, is)) = (more, cuts_of more, ap (λ (xs : List ℕ). cuts_of (line ++ xs)) is ∙ cuts-line line more whole)

pub goes-bad : (d : Draft) (c : LineCause) → Goes d ≡ Bad c → ⊥
goes-bad d c e = cc

bad-some : (d : Draft) (line : List ℕ) (c : LineCause) → line_verdict d line ≡ Bad c → is_empty line ≡ false
bad-some d [] c bad = absurd (goes-bad d c bad)
bad-some d (b ∷ line) c bad = refl

read-bad : (d : Draft) (first : ℕ) (text : List ℕ) (n c : ℕ) → IsBadLineOf d first text n c → reading_from d first (cuts_of text) ≡ Err (n, c)
read-bad d first text n c b =
    let both = and_parts (is_line b.line) (list_all is_line b.good) b.whole in
    let cut = cuts-first b.line b.rest (bad-some b.so_far b.line b.cause b.bad) both.0 b.ended in
    ap (λ t. reading_from d first (cuts_of t)) b.parts
    ∙ (reading-lines d b.so_far first b.good (b.line ++ b.rest) both.1 b.leads
    ∙ (ap (reading_from b.so_far (first + length b.good)) cut.2
    ∙ (ap (λ v. judged (first + length b.good) cut.0 v (λ (next : Draft). reading_from next (first + length b.good + 1) cut.1)) b.bad
    ∙ (ap (refusal (first + length b.good)) (sym b.number) ∙ ap (λ (m : ℕ). refusal m c) (sym b.place)))))

read-bundle : (d : Draft) (first : ℕ) (text : List ℕ) (n c : ℕ) → IsBadBundle d first text n c → reading_from d first (cuts_of text) ≡ Err (n, c)
read-bundle d first text n c b = by b.parts
  where
    behind : (tail : List ℕ) (cuts : List Cut) → text ≡ laid b.good ++ tail → cuts_of tail ≡ record { line = codes "ndb"; behind = b.bundle } ∷ cuts → reading_from d first (cuts_of text) ≡ Err (n, c)
    behind tail cuts is cut =
        ap (λ t. reading_from d first (cuts_of t)) is
        ∙ (reading-lines d b.so_far first b.good tail b.whole b.leads
        ∙ (ap (reading_from b.so_far (first + length b.good)) cut
        ∙ (ap (λ v. judged (first + length b.good) b.bundle v (λ (next : Draft). reading_from next (first + length b.good + 1) cuts)) b.begins
        ∙ (ap (with_versions (first + length b.good) b.world b.bundle) b.bad ∙ ap (λ (m : ℕ). refusal m c) (sym b.place)))))

    by : IsHeaded text b.good b.bundle → reading_from d first (cuts_of text) ≡ Err (n, c)
    by (inl is) = behind (codes "ndb\n" ++ b.bundle) (cuts_of b.bundle) is refl
    by (inr (is, none)) = behind (codes "ndb") [] is (ap (λ (x : List ℕ). record { line = codes "ndb"; behind = x } ∷ []) (sym none))

-- the lines before the last one
leads-front : (d e : Draft) (before : List (List ℕ)) (last : List ℕ) → LeadsToWorld d (before ++ last ∷ []) e → (so_far : Draft) × LeadsToWorld d before so_far × (line_verdict so_far last ≡ Goes e)
leads-front d e [] last h = (d, refl, h.1 ∙ ap (λ (x : Draft). Goes x) h.2)
leads-front d e (line ∷ before) last h = let r = leads-front h.0 e before last h.2 in (r.0, (h.0, h.1, r.1), r.2)

read-unended : (d : Draft) (first : ℕ) (text : List ℕ) (n c : ℕ) → IsUnended d first text n c → reading_from d first (cuts_of text) ≡ Err (n, c)
read-unended d first text n c b = by b.parts
  where
    told : refusal (first + length b.good) (cause_number_of (missing b.so_far)) ≡ refusal n c
    told = ap (λ (m : ℕ). refusal m (cause_number_of (missing b.so_far))) (sym b.place) ∙ ap (λ (k : ℕ). refusal n k) (sym b.cause)

    by : (text ≡ laid b.good) ⊎ ((before : List (List ℕ)) × (last : List ℕ) × (b.good ≡ before ++ last ∷ []) × (text ≡ laid before ++ last) × (is_empty last ≡ false)) → reading_from d first (cuts_of text) ≡ Err (n, c)
    by (inl is) = ap (λ t. reading_from d first (cuts_of t)) (is ∙ sym (append-nil (laid b.good))) ∙ (reading-lines d b.so_far first b.good [] b.whole b.leads ∙ told)
    by (inr (before, last, all, is, some)) =
        let whole = and_parts (list_all is_line before) (is_line last && true) (sym (list_all-append is_line before (last ∷ [])) ∙ (ap (list_all is_line) (sym all) ∙ b.whole)) in
        let r = leads-front d b.so_far before last (subst (λ (ls : List (List ℕ)). LeadsToWorld d ls b.so_far) all b.leads) in
        let len : length b.good ≡ length before + 1 = ap (λ (ls : List (List ℕ)). length ls) all ∙ length-append before (last ∷ []) in
        ap (λ t. reading_from d first (cuts_of t)) is
        ∙ (reading-lines d r.0 first before last whole.0 r.1
        ∙ (ap (reading_from r.0 (first + length before)) (cuts-last last some ((and_parts (is_line last) true whole.1).0))
        ∙ (judged-goes (first + length before) [] (line_verdict r.0 last) b.so_far (λ (next : Draft). reading_from next (first + length before + 1) []) r.2
        ∙ (ap (λ (m : ℕ). refusal m (cause_number_of (missing b.so_far))) (omega (arith, len)) ∙ told))))

pub refused-exactly : (text : List ℕ) (n c : ℕ) → (world_reading text ≡ Err (n, c)) ↔ IsTextRefused opening_draft 1 text n c
refused-exactly text n c = (refused opening_draft 1 (cuts_of text) text n c refl, back)
  where
    back : IsTextRefused opening_draft 1 text n c → world_reading text ≡ Err (n, c)
    back (inl b) = read-bad opening_draft 1 text n c b
    back (inr (inl b)) = read-bundle opening_draft 1 text n c b
    back (inr (inr b)) = read-unended opening_draft 1 text n c b

-- what follows a bad line changes nothing
pub bad-stays : (text more : List ℕ) (n c : ℕ) → IsBadLineOf opening_draft 1 text n c → world_reading (text ++ (10 ∷ more)) ≡ Err (n, c)
bad-stays text more n c b =
    read-bad opening_draft 1 (text ++ (10 ∷ more)) n c (record {
      good = b.good;
      line = b.line;
      rest = b.rest ++ (10 ∷ more);
      so_far = b.so_far;
      parts = ap (λ (xs : List ℕ). xs ++ (10 ∷ more)) b.parts ∙ (append_assoc (laid b.good) (b.line ++ b.rest) (10 ∷ more) ∙ ap (λ (xs : List ℕ). laid b.good ++ xs) (append_assoc b.line b.rest (10 ∷ more)));
      ended = by b.ended;
      whole = b.whole;
      leads = b.leads;
      cause = b.cause;
      bad = b.bad;
      number = b.number;
      place = b.place;
    })
  where
    by : EndsLine b.rest → EndsLine (b.rest ++ (10 ∷ more))
    by (inl none) = inr (more, ap (λ (xs : List ℕ). xs ++ (10 ∷ more)) none)
    by (inr (others, is)) = inr (others ++ (10 ∷ more), ap (λ (xs : List ℕ). xs ++ (10 ∷ more)) is)

-- Lines that say nothing.

abbrev draft-of : Verdict → Draft → Draft
draft-of (Goes d) e = d
draft-of (Begins w) e = e
draft-of (Bad c) e = e

-- lines that go on do so without those that are passed
leads-loud : (d e : Draft) (lines : List (List ℕ)) → LeadsToWorld d lines e → LeadsToWorld d (filter speaks lines) e
leads-loud d e [] h = h
leads-loud d e (line ∷ lines) h = by (speaks line) refl (leads-loud h.0 e lines h.2)
  where
    by : (v : Bool) → speaks line ≡ v → LeadsToWorld h.0 (filter speaks lines) e → LeadsToWorld d (cond v (line ∷ filter speaks lines) (filter speaks lines)) e
    by true is more = (h.0, h.1, more)
    by false is more = subst (λ (x : Draft). LeadsToWorld x (filter speaks lines) e) (ap (λ v. draft-of v d) (sym h.1 ∙ passed-goes d line is)) more

-- a world is said whatever the number of the first line
any-number : (d : Draft) (m n : ℕ) (cuts : List Cut) (w : World) → reading_from d m cuts ≡ Ok w → reading_from d n cuts ≡ Ok w
any-number d m n [] w e = absurd (err-ok (m, cause_number_of (missing d)) w e)
any-number d m n (c ∷ cs) w e = by (line_verdict d c.line) e (λ next f. any-number next (m + 1) (n + 1) cs w f)
  where
    bundle : (v : World) (o : Option (ℕ × ℕ)) → with_versions m v c.behind o ≡ Ok w → with_versions n v c.behind o ≡ Ok w
    bundle v None f = f
    bundle v (Some bad) f = absurd (err-ok (m + bad.0, bad.1) w f)

    by : (v : Verdict) → judged m c.behind v (λ (next : Draft). reading_from next (m + 1) cs) ≡ Ok w → ((next : Draft) → reading_from next (m + 1) cs ≡ Ok w → reading_from next (n + 1) cs ≡ Ok w)
        → judged n c.behind v (λ (next : Draft). reading_from next (n + 1) cs) ≡ Ok w
    by (Goes next) f go = go next f
    by (Begins v) f go = bundle v (bad_version_line c.behind) f
    by (Bad cause) f go = absurd (err-ok (m, cause_number_of cause) w f)

-- lines before `ndb` of a text that says a world
record Led (d : Draft) (lines : List (List ℕ)) (tail : List ℕ) (w : World) : Type 0 where
  pub so_far : Draft
  pub number : ℕ
  pub leads : LeadsToWorld d lines so_far
  pub reads : reading_from so_far number (cuts_of tail) ≡ Ok w

led : (d : Draft) (n : ℕ) (lines : List (List ℕ)) (tail : List ℕ) (w : World) → list_all is_line lines ≡ true → list_any (bytes_eq (codes "ndb")) lines ≡ false
    → reading_from d n (cuts_of (laid lines ++ tail)) ≡ Ok w → Led d lines tail w
led d n [] tail w all none e = record { so_far = d; number = n; leads = refl; reads = e }
led d n (line ∷ lines) tail w all none e =
    let both = and_parts (is_line line) (list_all is_line lines) all in
    let parts = or_parts (bytes_eq (codes "ndb") line) (list_any (bytes_eq (codes "ndb")) lines) none in
    let cut = ap cuts_of (append_assoc line (10 ∷ laid lines) tail) ∙ cuts-line line (laid lines ++ tail) both.0 in
    by (line_verdict d line) refl parts.0 (sym (ap (reading_from d n) cut) ∙ e) (λ next f. led next (n + 1) lines tail w both.1 parts.1 f)
  where
    by : (v : Verdict) → line_verdict d line ≡ v → bytes_eq (codes "ndb") line ≡ false
        → judged n (laid lines ++ tail) v (λ (next : Draft). reading_from next (n + 1) (cuts_of (laid lines ++ tail))) ≡ Ok w
        → ((next : Draft) → reading_from next (n + 1) (cuts_of (laid lines ++ tail)) ≡ Ok w → Led next lines tail w) → Led d (line ∷ lines) tail w
    by (Goes next) is other f go = let r = go next f in record { so_far = r.so_far; number = r.number; leads = (next, is, r.leads); reads = r.reads }
    by (Begins v) is other f go = absurd (false≢true (sym other ∙ (bytes_eq-Decides (codes "ndb") line).1 (sym (ndb-line d line v is))))
    by (Bad cause) is other f go = absurd (err-ok (n, cause_number_of cause) w f)

-- texts that differ only in lines before `ndb` that say nothing say the same world
pub same-said : (lines others : List (List ℕ)) (tail : List ℕ) (w : World) → list_all is_line lines ≡ true → list_all is_line others ≡ true → list_any (bytes_eq (codes "ndb")) lines ≡ false
    → filter speaks lines ≡ filter speaks others → world_reading (laid lines ++ tail) ≡ Ok w → world_reading (laid others ++ tail) ≡ Ok w
same-said lines others tail w all all_others none same e =
    let r = led opening_draft 1 lines tail w all none e in
    let leads = leads-all opening_draft r.so_far others (subst (λ (ls : List (List ℕ)). LeadsToWorld opening_draft ls r.so_far) same (leads-loud opening_draft r.so_far lines r.leads)) in
    reading-lines opening_draft r.so_far 1 others tail all_others leads ∙ any-number r.so_far r.number (1 + length others) (cuts_of tail) w r.reads

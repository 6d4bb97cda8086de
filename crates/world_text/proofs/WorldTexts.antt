-- A text by its lines, and what any line makes of the world so far.
use Rattle.std.proofs.Common.{◌≡◌, ℕ, ◌+◌, ◌==◌, ◌⊎◌, inl, inr, Bool, true, false, not, ◌||◌, cond, List, [], ◌∷◌, ◌++◌, length, refl, sym, ap, subst, ◌∙◌, arith, Option, Some, None, Result, Ok, Err, append_assoc}
use Rattle.std.specs.Prelude.{bytes_eq, codes, get_or, if◌then◌else◌}
use Rattle.std.specs.List.{filter, list_all, list_any}
use Rattle.std.proofs.lemmas.Bool.{and_parts, eqb-true, false≢true, or_parts, not-false}
use Rattle.std.proofs.lemmas.List.Folds.{list_all-append}
use Rattle.net_base.specs.declared.timer.Timers.{Timers}
use Rattle.net_base.specs.declared.timer.Timers.TheVariants.{Fixed, Measured}
use Rattle.net_base.specs.declared.world.World.{World}
use Rattle.net_base.specs.NdbText.{is_hash, is_newline}
use Rattle.net_base.specs.World.{is_byte}
use Rattle.world_text.specs.declared.line.LineCause.{LineCause}
use Rattle.world_text.specs.declared.line.LineCause.TheVariants as cause
use Rattle.world_text.specs.declared.line.WorldLine.{WorldLine}
use Rattle.world_text.specs.declared.line.WorldLine.TheVariants as line
use Rattle.world_text.specs.LineReading.{read_line}
use Rattle.world_text.specs.WorldLines.{Bad, Begins, Draft, Goes, Verdict, after, first_line, good_line, passes_over, judged_line, line_cause, line_verdict, ndb_cause, unless, world_of}
use Rattle.world_text.specs.WorldRefusal.{LeadsToWorld}
use Rattle.world_text.specs.WorldSpelling.{IsHeaded, is_line, laid, line_of_timers, speaks}
use Rattle.world_text.specs.WorldText.{Cut, cuts_of, judged, reading_from, with_first}
use Rattle.world_text.proofs.WorldLists.{false-of-not, no-cons}
use Rattle.net_base.proofs.Shared.{equal_texts}

-- Lines of a text.

abbrev rest : List Cut → List Cut
rest [] = []
rest (c ∷ cs) = cs

pub no-cuts : (bytes : List ℕ) → cuts_of bytes ≡ [] → bytes ≡ []
no-cuts [] e = refl
no-cuts (b ∷ bytes) e = by (is_newline b) (cuts_of bytes) e
  where
    by : (v : Bool) (cs : List Cut) → cond v (record { line = []; behind = bytes } ∷ cs) (with_first b cs) ≡ [] → b ∷ bytes ≡ []
    by true cs f = absurd (no-cons (record { line = []; behind = bytes }) cs (sym f))
    by false [] f = absurd (no-cons (record { line = b ∷ []; behind = [] }) [] (sym f))
    by false (c ∷ cs) f = absurd (no-cons (record { line = b ∷ c.line; behind = c.behind }) cs (sym f))

-- the first line of a text, and what stands behind it
pub record Shape (text : List ℕ) (c : Cut) (cs : List Cut) : Type 0 where
  pub whole : is_line c.line ≡ true
  pub parts : ((text ≡ c.line ++ (10 ∷ c.behind)) × (cs ≡ cuts_of c.behind)) ⊎ ((text ≡ c.line) × (c.behind ≡ []) × (cs ≡ []))

pub shape : (text : List ℕ) (c : Cut) (cs : List Cut) → cuts_of text ≡ c ∷ cs → Shape text c cs
shape [] c cs e = absurd (no-cons c cs e)
shape (b ∷ bytes) c cs e = by (is_newline b) (cuts_of bytes) refl refl e (shape bytes)
  where
    placed : (d : Cut) (ds : List Cut) → d ∷ ds ≡ c ∷ cs → Shape (b ∷ bytes) d ds → Shape (b ∷ bytes) c cs
    placed d ds f s = subst (λ (x : Cut). Shape (b ∷ bytes) x cs) (ap (λ (xs : List Cut). get_or xs 0 c) f) (subst (λ (xs : List Cut). Shape (b ∷ bytes) d xs) (ap rest f) s)

    more : (d : Cut) (ds : List Cut) → ((bytes ≡ d.line ++ (10 ∷ d.behind)) × (ds ≡ cuts_of d.behind)) ⊎ ((bytes ≡ d.line) × (d.behind ≡ []) × (ds ≡ []))
        → ((b ∷ bytes ≡ b ∷ (d.line ++ (10 ∷ d.behind))) × (ds ≡ cuts_of d.behind)) ⊎ ((b ∷ bytes ≡ b ∷ d.line) × (d.behind ≡ []) × (ds ≡ []))
    more d ds (inl (is, later)) = inl (ap (λ (xs : List ℕ). b ∷ xs) is, later)
    more d ds (inr (is, none, nil)) = inr (ap (λ (xs : List ℕ). b ∷ xs) is, none, nil)

    by : (v : Bool) (ds : List Cut) → is_newline b ≡ v → cuts_of bytes ≡ ds → cond v (record { line = []; behind = bytes } ∷ ds) (with_first b ds) ≡ c ∷ cs
        → ((d : Cut) (es : List Cut) → cuts_of bytes ≡ d ∷ es → Shape bytes d es) → Shape (b ∷ bytes) c cs
    by true ds is cut f later =
        placed (record { line = []; behind = bytes }) ds f (record { whole = refl; parts = inl (ap (λ (x : ℕ). x ∷ bytes) (eqb-true b 10 is), sym cut) })
    by false [] is cut f later =
        placed (record { line = b ∷ []; behind = [] }) [] f (record { whole = ap (λ v. not (v || false)) is; parts = inr (ap (λ (xs : List ℕ). b ∷ xs) (no-cuts bytes cut), refl, refl) })
    by false (d ∷ ds) is cut f later =
        let s = later d ds cut in
        placed (record { line = b ∷ d.line; behind = d.behind }) ds f (record { whole = ap (λ v. not (v || list_any is_newline d.line)) is ∙ s.whole; parts = more d ds s.parts })

-- what stands behind the first line of a text of bytes is one too
pub bytes-behind : (text : List ℕ) (c : Cut) (cs : List Cut) → Shape text c cs → list_all is_byte text ≡ true → list_all is_byte c.behind ≡ true
bytes-behind text c cs s all = by s.parts
  where
    by : ((text ≡ c.line ++ (10 ∷ c.behind)) × (cs ≡ cuts_of c.behind)) ⊎ ((text ≡ c.line) × (c.behind ≡ []) × (cs ≡ [])) → list_all is_byte c.behind ≡ true
    by (inl (is, later)) =
        (and_parts (list_all is_byte c.line) (list_all is_byte c.behind)
        (sym (list_all-append is_byte c.line (10 ∷ c.behind)) ∙ (ap (list_all is_byte) (sym is) ∙ all))).1
    by (inr (is, none, nil)) = ap (list_all is_byte) none

-- Texts up to `ndb`.

pub headed : (text line behind : List ℕ) (head : List (List ℕ)) (bundle : List ℕ) → text ≡ line ++ (10 ∷ behind) → IsHeaded behind head bundle → IsHeaded text (line ∷ head) bundle
headed text line behind head bundle is (inl parts) = inl (is ∙ (ap (λ (xs : List ℕ). line ++ (10 ∷ xs)) parts ∙ sym (append_assoc line (10 ∷ laid head) (codes "ndb\n" ++ bundle))))
headed text line behind head bundle is (inr (parts, none)) = inr (is ∙ (ap (λ (xs : List ℕ). line ++ (10 ∷ xs)) parts ∙ sym (append_assoc line (10 ∷ laid head) (codes "ndb"))), none)

-- the line `ndb`
pub last-parts : (text : List ℕ) (c : Cut) (cs : List Cut) → Shape text c cs → c.line ≡ codes "ndb" → IsHeaded text [] c.behind
last-parts text c cs s is = by s.parts
  where
    by : ((text ≡ c.line ++ (10 ∷ c.behind)) × (cs ≡ cuts_of c.behind)) ⊎ ((text ≡ c.line) × (c.behind ≡ []) × (cs ≡ [])) → IsHeaded text [] c.behind
    by (inl (same, later)) = inl (same ∙ ap (λ (l : List ℕ). l ++ (10 ∷ c.behind)) is)
    by (inr (same, none, nil)) = inr (same ∙ is, none)

-- Lines in a row.

pub leads-more : (d e f : Draft) (xs ys : List (List ℕ)) → LeadsToWorld d xs e → LeadsToWorld e ys f → LeadsToWorld d (xs ++ ys) f
leads-more d e f [] ys first rest = subst (λ (x : Draft). LeadsToWorld x ys f) (sym first) rest
leads-more d e f (x ∷ xs) ys first rest = (first.0, first.1, leads-more first.0 e f xs ys first.2 rest)

passed-is : (line : List ℕ) → speaks line ≡ false → passes_over line ≡ true
passed-is [] e = refl
passed-is (b ∷ line) e = not-false (is_hash b) e

pub passed-goes : (d : Draft) (line : List ℕ) → speaks line ≡ false → line_verdict d line ≡ Goes d
passed-goes d line e = ap (λ v. if v then Goes d else (if d.group == 0 then first_line d line else judged_line d (read_line line))) (passed-is line e)

-- lines that are passed change nothing
pub leads-all : (d e : Draft) (lines : List (List ℕ)) → LeadsToWorld d (filter speaks lines) e → LeadsToWorld d lines e
leads-all d e [] h = h
leads-all d e (line ∷ lines) h = by (speaks line) refl h (λ next. leads-all next e lines)
  where
    by : (v : Bool) → speaks line ≡ v → LeadsToWorld d (cond v (line ∷ filter speaks lines) (filter speaks lines)) e → ((next : Draft) → LeadsToWorld next (filter speaks lines) e → LeadsToWorld next lines e) → LeadsToWorld d (line ∷ lines) e
    by true is k more = (k.0, k.1, more k.0 k.2)
    by false is k more = (d, passed-goes d line is, more d k)

-- Lines that are read.

pub cuts-line : (line rest : List ℕ) → is_line line ≡ true → cuts_of (line ++ (10 ∷ rest)) ≡ record { line = line; behind = rest } ∷ cuts_of rest
cuts-line [] rest e = refl
cuts-line (b ∷ line) rest e =
    let none = or_parts (is_newline b) (list_any is_newline line) (false-of-not (list_any is_newline (b ∷ line)) e) in
    ap (λ v. if v then record { line = []; behind = line ++ (10 ∷ rest) } ∷ cuts_of (line ++ (10 ∷ rest)) else with_first b (cuts_of (line ++ (10 ∷ rest)))) none.0
    ∙ ap (with_first b) (cuts-line line rest (ap not none.1))

laid-more : (line : List ℕ) (lines : List (List ℕ)) (tail : List ℕ) → laid (line ∷ lines) ++ tail ≡ line ++ (10 ∷ (laid lines ++ tail))
laid-more line lines tail = append_assoc line (10 ∷ laid lines) tail

pub judged-goes : (n : ℕ) (behind : List ℕ) (v : Verdict) (next : Draft) (f : Draft → Result World (ℕ × ℕ)) → v ≡ Goes next → judged n behind v f ≡ f next
judged-goes n behind v next f e = ap (λ w. judged n behind w f) e

-- lines that go on are read up to what stands behind them
pub reading-lines : (d e : Draft) (n : ℕ) (lines : List (List ℕ)) (tail : List ℕ) → list_all is_line lines ≡ true → LeadsToWorld d lines e
    → reading_from d n (cuts_of (laid lines ++ tail)) ≡ reading_from e (n + length lines) (cuts_of tail)
reading-lines d e n [] tail all h = ap (λ x. reading_from x n (cuts_of tail)) h ∙ ap (λ m. reading_from e m (cuts_of tail)) (omega arith)
reading-lines d e n (line ∷ lines) tail all h =
    let both = and_parts (is_line line) (list_all is_line lines) all in
    ap (λ t. reading_from d n (cuts_of t)) (laid-more line lines tail)
    ∙ (ap (reading_from d n) (cuts-line line (laid lines ++ tail) both.0)
    ∙ (judged-goes n (laid lines ++ tail) (line_verdict d line) h.0 (λ (next : Draft). reading_from next (n + 1) (cuts_of (laid lines ++ tail))) h.1
    ∙ (reading-lines h.0 e (n + 1) lines tail both.1 h.2
    ∙ ap (λ m. reading_from e m (cuts_of tail)) (omega arith))))

-- What a line makes of the world so far.

-- the kinds of lines, with what comes of each
pub data View (d : Draft) (text : List ℕ) (v : Verdict) : Type 0 where
  Passed : speaks text ≡ false → v ≡ Goes d → View d text v
  First : (kind : Timers) → (d.group == 0) ≡ true → text ≡ line_of_timers kind → v ≡ Goes (after d (line.Networld kind)) → View d text v
  Good : (l : WorldLine) → (d.group == 0) ≡ false → read_line text ≡ Ok l → line_cause d l ≡ None → v ≡ good_line d l → View d text v
  Refused : (c : LineCause) → v ≡ Bad c → View d text v

passed-quiet : (text : List ℕ) → passes_over text ≡ true → speaks text ≡ false
passed-quiet [] e = refl
passed-quiet (b ∷ text) e = ap not e

pub view : (d : Draft) (text : List ℕ) → View d text (line_verdict d text)
view d text = by (passes_over text) refl
  where
    good : (l : WorldLine) (o : Option LineCause) → (d.group == 0) ≡ false → read_line text ≡ Ok l → line_cause d l ≡ o → View d text (unless o (good_line d l))
    good l None late is none = Good l late is none refl
    good l (Some c) late is some = Refused c refl

    read : (r : Result WorldLine LineCause) → (d.group == 0) ≡ false → read_line text ≡ r → View d text (judged_line d r)
    read (Ok l) late is = good l (line_cause d l) late is refl
    read (Err c) late is = Refused c refl

    second : (b : Bool) → (d.group == 0) ≡ true → bytes_eq text (codes "networld 2") ≡ b → View d text (if b then Goes (after d (line.Networld Measured)) else Bad cause.FirstLine)
    second true none is = First Measured none (equal_texts text (codes "networld 2") is) refl
    second false none is = Refused cause.FirstLine refl

    first : (b : Bool) → (d.group == 0) ≡ true → bytes_eq text (codes "networld 1") ≡ b
        → View d text (if b then Goes (after d (line.Networld Fixed)) else (if bytes_eq text (codes "networld 2") then Goes (after d (line.Networld Measured)) else Bad cause.FirstLine))
    first true none is = First Fixed none (equal_texts text (codes "networld 1") is) refl
    first false none is = second (bytes_eq text (codes "networld 2")) none refl

    loud : (b : Bool) → (d.group == 0) ≡ b → View d text (if b then first_line d text else judged_line d (read_line text))
    loud true e = first (bytes_eq text (codes "networld 1")) e refl
    loud false e = read (read_line text) e refl

    by : (b : Bool) → passes_over text ≡ b → View d text (if b then Goes d else (if d.group == 0 then first_line d text else judged_line d (read_line text)))
    by true is = Passed (passed-quiet text is) refl
    by false is = loud (d.group == 0) refl

pub goes-begins : (d : Draft) (w : World) → Goes d ≡ Begins w → ⊥
goes-begins d w e = cc

pub bad-begins : (c : LineCause) (w : World) → Bad c ≡ Begins w → ⊥
bad-begins c w e = cc

pub bad-goes : (c : LineCause) (d : Draft) → Bad c ≡ Goes d → ⊥
bad-goes c d e = cc

pub begins-goes : (w : World) (d : Draft) → Begins w ≡ Goes d → ⊥
begins-goes w d e = cc

pub same-goes : (d e : Draft) → Goes d ≡ Goes e → d ≡ e
same-goes d e f = cc

same-begins : (v w : World) → Begins v ≡ Begins w → v ≡ w
same-begins v w e = cc

-- the line that begins the bundle
pub record Ends (d : Draft) (text : List ℕ) (w : World) : Type 0 where
  pub is_read : read_line text ≡ Ok line.Ndb
  pub begun : (d.group == 0) ≡ false
  pub good : ndb_cause d ≡ None
  pub world : w ≡ world_of d

ends-at : (d : Draft) (text : List ℕ) (w : World) (l : WorldLine) → (d.group == 0) ≡ false → read_line text ≡ Ok l → line_cause d l ≡ None → good_line d l ≡ Begins w → Ends d text w
ends-at d text w line.Ndb late is none e = record { is_read = is; begun = late; good = none; world = sym (same-begins (world_of d) w e) }
ends-at d text w (line.Networld kind) late is none e = absurd (goes-begins (after d (line.Networld kind)) w e)
ends-at d text w (line.End m) late is none e = absurd (goes-begins (after d (line.End m)) w e)
ends-at d text w (line.Seed n) late is none e = absurd (goes-begins (after d (line.Seed n)) w e)
ends-at d text w (line.OfMedium l) late is none e = absurd (goes-begins (after d (line.OfMedium l)) w e)
ends-at d text w (line.Host called nets) late is none e = absurd (goes-begins (after d (line.Host called nets)) w e)
ends-at d text w (line.OfHost l) late is none e = absurd (goes-begins (after d (line.OfHost l)) w e)
ends-at d text w (line.Script called) late is none e = absurd (goes-begins (after d (line.Script called)) w e)
ends-at d text w (line.OfScript x) late is none e = absurd (goes-begins (after d (line.OfScript x)) w e)

pub ends : (d : Draft) (text : List ℕ) (w : World) → line_verdict d text ≡ Begins w → Ends d text w
ends d text w e = by (view d text)
  where
    by : View d text (line_verdict d text) → Ends d text w
    by (Passed quiet is) = absurd (goes-begins d w (sym is ∙ e))
    by (First kind none named is) = absurd (goes-begins (after d (line.Networld kind)) w (sym is ∙ e))
    by (Good l late is none same) = ends-at d text w l late is none (sym same ∙ e)
    by (Refused c is) = absurd (bad-begins c w (sym is ∙ e))

-- a line that goes on by what it says
abbrev pub going : WorldLine → Bool
going line.Ndb = false
going _ = true

pub goes-on : (d : Draft) (l : WorldLine) → going l ≡ true → good_line d l ≡ Goes (after d l)
goes-on d line.Ndb e = absurd (false≢true e)
goes-on d (line.Networld kind) e = refl
goes-on d (line.End m) e = refl
goes-on d (line.Seed n) e = refl
goes-on d (line.OfMedium l) e = refl
goes-on d (line.Host called nets) e = refl
goes-on d (line.OfHost l) e = refl
goes-on d (line.Script called) e = refl
goes-on d (line.OfScript x) e = refl

-- Lines without a bad one are bundles, and lines that begin versions between them; and back.
use Rattle.std.proofs.Common.{◌≡◌, ℕ, ◌+◌, ◌-◌, ◌<◌, Bool, true, false, not, ◌&&◌, ◌||◌, cond, List, [], ◌∷◌, ◌++◌, length, take, drop, map, refl, sym, ap, subst, ◌∙◌, arith, Option, Some, None, append-nil, append_assoc, length-append}
use Rattle.std.specs.Prelude.{⊤, bytes_eq, codes, filter_map, flat_map, nat_le, nat_lt, unwrap_or}
use Rattle.std.specs.List.{before_first, cons_option, last_or, list_any, prefix_len, suffix_len}
use Rattle.std.proofs.Math.Seq.{drop-append-le, drop-length}
use Rattle.std.proofs.Math.ListN.{take-append-drop}
use Rattle.std.proofs.lemmas.Bool.{and_from, and_parts, false≢true, or_parts, le-leb}
use Rattle.std.proofs.lemmas.Bool.Decides.{nat_tests}
use Rattle.std.proofs.lemmas.List.{reverse-append}
use Rattle.std.proofs.lemmas.List.Elements.{filter_map-append}
use Rattle.std.proofs.lemmas.List.Sums.{suffix_len-le-length}
use Rattle.std.proofs.lemmas.Option.{none-some}
use Rattle.std.proofs.lemmas.Slice.Eq.{bytes_eq-Decides}
use Rattle.net_base.specs.declared.world.Version.{Version}
use Rattle.net_base.specs.NdbBundle.{cause, causes_of, first_bad, has_tuple, is_file_line, least_of_causes, told_line}
use Rattle.net_base.specs.NdbText.{begins, begins_with, is_percent}
use Rattle.net_base.specs.Versions.{are_later}
use Rattle.world_text.specs.declared.line.LineCause.TheVariants as line_cause
use Rattle.world_text.specs.LineCauses.{cause_number_of}
use Rattle.world_text.specs.VersionLines.{at_causes, begins_at, first_bad_version, is_at_line, last_moment, later_versions, moment_of, own_lines, version_causes, versions_in, with_version}
use Rattle.world_text.specs.WorldSpelling.{IsGoodBundle, LaterText, line_of_moment, lines_of_later, version_said}
use Rattle.net_base.proofs.Shared.{number-back, number_in-spelled, no_cons}
use Rattle.formats.proofs.Shared.{cause-none, least-none, told-none, first-good, cause-alone, one_add}

-- Causes.

pub good-more : (own : List (List ℕ)) (line : List ℕ) (lines : List (List ℕ)) → causes_of (has_tuple own) line ≡ [] → first_bad causes_of (own ++ line ∷ []) lines ≡ None
    → first_bad causes_of own (line ∷ lines) ≡ None
good-more own line lines none rest = ap (λ (cs : List ℕ). told_line (length own + 1) (least_of_causes cs) (first_bad causes_of (own ++ line ∷ []) lines)) none ∙ rest

-- the first of lines with several bundles is good, and so are those behind it
version-line : (before : List (List ℕ)) (line : List ℕ) (lines : List (List ℕ)) → first_bad_version before (line ∷ lines) ≡ None
    → (version_causes before line ≡ []) × (first_bad_version (before ++ line ∷ []) lines ≡ None)
version-line before line lines e =
    let parts = told-none (length before + 1) (least_of_causes (version_causes before line)) (first_bad_version (before ++ line ∷ []) lines) e in
    (least-none (version_causes before line) parts.0, parts.1)

version-more : (before : List (List ℕ)) (line : List ℕ) (lines : List (List ℕ)) → version_causes before line ≡ [] → first_bad_version (before ++ line ∷ []) lines ≡ None
    → first_bad_version before (line ∷ lines) ≡ None
version-more before line lines none rest = ap (λ (cs : List ℕ). told_line (length before + 1) (least_of_causes cs) (first_bad_version (before ++ line ∷ []) lines)) none ∙ rest

-- Lines that begin versions.

at-line : (moment : ℕ) → is_at_line (line_of_moment moment) ≡ true
at-line moment = refl

-- a line that begins a version names its moment behind one blank
at-spelled : (line : List ℕ) (moment : ℕ) → is_at_line line ≡ true → moment_of line ≡ Some moment → line ≡ line_of_moment moment
at-spelled line moment at is = by (bytes_eq line (codes "%at")) refl at
  where
    by : (b : Bool) → bytes_eq line (codes "%at") ≡ b → (b || begins_with (codes "%at ") line) ≡ true → line ≡ line_of_moment moment
    by true same e =
        let none : moment_of (codes "%at") ≡ None = refl in
        absurd (none-some moment (sym none ∙ (ap moment_of (sym ((bytes_eq-Decides line (codes "%at")).0 same)) ∙ is)))
    by false other e =
        let front : codes "%at " ≡ take 4 line = (bytes_eq-Decides (codes "%at ") (take 4 line)).0 e in
        sym (take-append-drop 4 line)
        ∙ (ap (λ (f : List ℕ). f ++ drop 4 line) (sym front)
        ∙ ap (λ (word : List ℕ). codes "%at " ++ word) ((number_in-spelled 1 1000000000 (drop 4 line) moment (omega arith) is).is))

abbrev Percent : List ℕ → Type 0
Percent text = (begins is_percent text && not (is_file_line text)) ≡ true

behind-at : (rest : List ℕ) → Percent (codes "%at " ++ rest)
behind-at rest = refl

-- it begins with `%` and begins no file
at-percent : (line : List ℕ) → is_at_line line ≡ true → Percent line
at-percent line at = by (bytes_eq line (codes "%at")) refl at
  where
    by : (b : Bool) → bytes_eq line (codes "%at") ≡ b → (b || begins_with (codes "%at ") line) ≡ true → Percent line
    by true same e = subst Percent (sym ((bytes_eq-Decides line (codes "%at")).0 same)) refl
    by false other e =
        let front : codes "%at " ≡ take 4 line = (bytes_eq-Decides (codes "%at ") (take 4 line)).0 e in
        subst Percent (ap (λ (f : List ℕ). f ++ drop 4 line) front ∙ take-append-drop 4 line) (behind-at (drop 4 line))

sixth-alone : (has : Bool) (line : List ℕ) → causes_of has line ≡ [] → cause 6 (begins is_percent line && not (is_file_line line)) ≡ []
sixth-alone has line good =
    let one = cause-none 1 _ _ good in
    let two = cause-none 2 _ _ one.1 in
    let three = cause-none 3 _ _ two.1 in
    let four = cause-none 4 _ _ three.1 in
    let five = cause-none 5 _ _ four.1 in
    five.1

-- so no line of a good bundle does
not-at : (has : Bool) (line : List ℕ) → causes_of has line ≡ [] → is_at_line line ≡ false
not-at has line good = by (is_at_line line) refl
  where
    by : (b : Bool) → is_at_line line ≡ b → b ≡ false
    by false at = refl
    by true at = absurd (false≢true (sym (cause-alone 6 (begins is_percent line && not (is_file_line line)) (sixth-alone has line good)) ∙ at-percent line at))

-- none of these lines begins a version
abbrev pub Free : List (List ℕ) → Type 0
Free [] = ⊤
Free (line ∷ lines) = (is_at_line line ≡ false) × Free lines

good-free : (own lines : List (List ℕ)) → first_bad causes_of own lines ≡ None → Free lines
good-free own [] good = tt
good-free own (line ∷ lines) good =
    let parts = first-good own line lines good in
    (not-at (has_tuple own) line parts.0, good-free (own ++ line ∷ []) lines parts.1)

begins-none : (line : List ℕ) → is_at_line line ≡ false → begins_at line ≡ None
begins-none line free = ap (λ (b : Bool). cond b (moment_of line) None) free

pub begins-some : (line : List ℕ) (moment : ℕ) → is_at_line line ≡ true → moment_of line ≡ Some moment → begins_at line ≡ Some moment
begins-some line moment at is = ap (λ (b : Bool). cond b (moment_of line) None) at ∙ is

-- What stands before a line.

suffix-push : (test : List ℕ → Bool) (before : List (List ℕ)) (line : List ℕ) → suffix_len test (before ++ line ∷ []) ≡ cond (test line) (1 + suffix_len test before) 0
suffix-push test before line = ap (prefix_len test) (reverse-append before (line ∷ []))

pub own-at : (before : List (List ℕ)) (line : List ℕ) → is_at_line line ≡ true → own_lines (before ++ line ∷ []) ≡ []
own-at before line at =
    let none : suffix_len (λ x. not (is_at_line x)) (before ++ line ∷ []) ≡ 0 =
    suffix-push (λ x. not (is_at_line x)) before line ∙ ap (λ (b : Bool). cond (not b) (1 + suffix_len (λ x. not (is_at_line x)) before) 0) at in
    let all : length (before ++ line ∷ []) - suffix_len (λ x. not (is_at_line x)) (before ++ line ∷ []) ≡ length (before ++ line ∷ []) = omega (arith, none) in
    ap (λ k. drop k (before ++ line ∷ [])) all ∙ drop-length (before ++ line ∷ [])

own-more : (before : List (List ℕ)) (line : List ℕ) → is_at_line line ≡ false → own_lines (before ++ line ∷ []) ≡ own_lines before ++ line ∷ []
own-more before line free =
    let more : suffix_len (λ x. not (is_at_line x)) (before ++ line ∷ []) ≡ 1 + suffix_len (λ x. not (is_at_line x)) before =
    suffix-push (λ x. not (is_at_line x)) before line ∙ ap (λ (b : Bool). cond (not b) (1 + suffix_len (λ x. not (is_at_line x)) before) 0) free in
    let longer = length-append before (line ∷ []) in
    let within = suffix_len-le-length (λ x. not (is_at_line x)) before in
    let place : length (before ++ line ∷ []) - suffix_len (λ x. not (is_at_line x)) (before ++ line ∷ []) ≡ length before - suffix_len (λ x. not (is_at_line x)) before =
    omega (arith, more, longer, within) in
    ap (λ k. drop k (before ++ line ∷ [])) place ∙ drop-append-le (length before - suffix_len (λ x. not (is_at_line x)) before) before (line ∷ []) (omega arith)

pub last-more : (o : Option ℕ) (xs : List ℕ) (n : ℕ) → last_or o (xs ++ n ∷ []) ≡ Some n
last-more o [] n = refl
last-more o (x ∷ xs) n = last-more (Some x) xs n

last-push : (before : List (List ℕ)) (line : List ℕ) → last_moment (before ++ line ∷ []) ≡ unwrap_or (begins_at line) (last_moment before)
last-push before line =
    ap (λ (ns : List ℕ). unwrap_or (last_or None ns) 0) (filter_map-append begins_at before (line ∷ [])) ∙ by (begins_at line) (filter_map begins_at before)
  where
    by : (o : Option ℕ) (xs : List ℕ) → unwrap_or (last_or None (xs ++ cons_option o [])) 0 ≡ unwrap_or o (unwrap_or (last_or None xs) 0)
    by None xs = ap (λ (ns : List ℕ). unwrap_or (last_or None ns) 0) (append-nil xs)
    by (Some n) xs = ap (λ (o : Option ℕ). unwrap_or o 0) (last-more None xs n)

pub last-at : (before : List (List ℕ)) (line : List ℕ) (moment : ℕ) → is_at_line line ≡ true → moment_of line ≡ Some moment → last_moment (before ++ line ∷ []) ≡ moment
last-at before line moment at is = last-push before line ∙ ap (λ (o : Option ℕ). unwrap_or o (last_moment before)) (begins-some line moment at is)

last-same : (before : List (List ℕ)) (line : List ℕ) → is_at_line line ≡ false → last_moment (before ++ line ∷ []) ≡ last_moment before
last-same before line free = last-push before line ∙ ap (λ (o : Option ℕ). unwrap_or o (last_moment before)) (begins-none line free)

pub last-free : (before lines : List (List ℕ)) → Free lines → last_moment (before ++ lines) ≡ last_moment before
last-free before [] free = ap last_moment (append-nil before)
last-free before (line ∷ lines) free =
    ap last_moment (sym (append_assoc before (line ∷ []) lines)) ∙ (last-free (before ++ line ∷ []) lines free.1 ∙ last-same before line free.0)

-- What stands behind a line.

first-stop : (line : List ℕ) (lines : List (List ℕ)) → is_at_line line ≡ true → before_first is_at_line (line ∷ lines) ≡ []
first-stop line lines at = rw at refl

pub first-go : (line : List ℕ) (lines : List (List ℕ)) → is_at_line line ≡ false → before_first is_at_line (line ∷ lines) ≡ line ∷ before_first is_at_line lines
first-go line lines free = rw (free, one_add) refl

-- Moments.

lt-is : (m n : ℕ) → nat_le m n ≡ false → nat_lt n m ≡ true
lt-is m n e = grind (arith, nat_tests)

le-not : (m n : ℕ) → nat_lt n m ≡ true → nat_le m n ≡ false
le-not m n e = grind (arith, nat_tests)

some-is : (last moment : ℕ) → nat_lt last moment ≡ true → nat_le 1 moment ≡ true
some-is last moment e = grind (arith, nat_tests)

-- From lines to bundles.

abbrev pub saids : List LaterText → List Version
saids later = map (λ (v : LaterText). version_said v.moment v.bundle) later

abbrev pub AreGood : List LaterText → Type 0
AreGood [] = ⊤
AreGood (v ∷ later) = IsGoodBundle v.bundle × AreGood later

-- lines behind others are the rest of a bundle, and later versions; the moment of the last version and the bundle's own lines are what matters of the others
pub record Split (last : ℕ) (own lines : List (List ℕ)) : Type 0 where
  pub first : List (List ℕ)
  pub later : List LaterText
  pub lines_are : lines ≡ first ++ flat_map lines_of_later later
  pub first_good : first_bad causes_of own first ≡ None
  pub later_good : AreGood later
  pub rising : are_later last (saids later) ≡ true
  pub bundle_is : before_first is_at_line lines ≡ first
  pub later_are : later_versions lines ≡ saids later

-- a line that begins a version
split-at : (before : List (List ℕ)) (line : List ℕ) (lines : List (List ℕ)) (moment : ℕ) → is_at_line line ≡ true → moment_of line ≡ Some moment → nat_le moment (last_moment before) ≡ false
    → Split (last_moment (before ++ line ∷ [])) (own_lines (before ++ line ∷ [])) lines → Split (last_moment before) (own_lines before) (line ∷ lines)
split-at before line lines moment at is late s =
    let within = (number_in-spelled 1 1000000000 (drop 4 line) moment (omega arith) is).within in
    record {
      first = [];
      later = record { moment = moment; bundle = s.first } ∷ s.later;
      lines_are = ap (λ (l : List ℕ). l ∷ lines) (at-spelled line moment at is) ∙ ap (λ (ls : List (List ℕ)). line_of_moment moment ∷ ls) s.lines_are;
      first_good = refl;
      later_good = (subst (λ (own : List (List ℕ)). first_bad causes_of own s.first ≡ None) (own-at before line at) s.first_good, s.later_good);
      rising = and_from _ _ (lt-is moment (last_moment before) late)
          (and_from _ _ (le-leb moment 1000000000 within) (subst (λ (last : ℕ). are_later last (saids s.later) ≡ true) (last-at before line moment at is) s.rising));
      bundle_is = first-stop line lines at;
      later_are = ap (λ (o : Option ℕ). with_version o lines (later_versions lines)) (begins-some line moment at is)
          ∙ (ap (λ (ls : List (List ℕ)). version_said moment ls ∷ later_versions lines) s.bundle_is
          ∙ ap (λ (vs : List Version). version_said moment s.first ∷ vs) s.later_are);
    }

-- a line of a bundle
split-own : (before : List (List ℕ)) (line : List ℕ) (lines : List (List ℕ)) → is_at_line line ≡ false → causes_of (has_tuple (own_lines before)) line ≡ []
    → Split (last_moment (before ++ line ∷ [])) (own_lines (before ++ line ∷ [])) lines → Split (last_moment before) (own_lines before) (line ∷ lines)
split-own before line lines free none s = record {
  first = line ∷ s.first;
  later = s.later;
  lines_are = ap (λ (ls : List (List ℕ)). line ∷ ls) s.lines_are;
  first_good = good-more (own_lines before) line s.first none (subst (λ (own : List (List ℕ)). first_bad causes_of own s.first ≡ None) (own-more before line free) s.first_good);
  later_good = s.later_good;
  rising = subst (λ (last : ℕ). are_later last (saids s.later) ≡ true) (last-same before line free) s.rising;
  bundle_is = first-go line lines free ∙ ap (λ (ls : List (List ℕ)). line ∷ ls) s.bundle_is;
  later_are = ap (λ (o : Option ℕ). with_version o lines (later_versions lines)) (begins-none line free) ∙ s.later_are;
}

pub split : (before lines : List (List ℕ)) → first_bad_version before lines ≡ None → Split (last_moment before) (own_lines before) lines
split before [] good = record { first = []; later = []; lines_are = refl; first_good = refl; later_good = tt; rising = refl; bundle_is = refl; later_are = refl }
split before (line ∷ lines) good =
    let parts = version-line before line lines good in
    by (is_at_line line) refl parts.0 (split (before ++ line ∷ []) lines parts.1)
  where
    begins : (o : Option ℕ) → moment_of line ≡ o → is_at_line line ≡ true → at_causes (last_moment before) o ≡ []
        → Split (last_moment (before ++ line ∷ [])) (own_lines (before ++ line ∷ [])) lines → Split (last_moment before) (own_lines before) (line ∷ lines)
    begins None is at none s = absurd (no_cons (cause_number_of line_cause.WrongArgument) [] none)
    begins (Some moment) is at none s = split-at before line lines moment at is (cause-alone (cause_number_of line_cause.EarlyVersion) (nat_le moment (last_moment before)) none) s

    by : (b : Bool) → is_at_line line ≡ b → cond b (at_causes (last_moment before) (moment_of line)) (causes_of (has_tuple (own_lines before)) line) ≡ []
        → Split (last_moment (before ++ line ∷ [])) (own_lines (before ++ line ∷ [])) lines → Split (last_moment before) (own_lines before) (line ∷ lines)
    by true at none s = begins (moment_of line) refl at none s
    by false free none s = split-own before line lines free none s

-- From bundles to lines.

-- a good bundle, where what stands behind it has no bad line
bundle-back : (before bundle tail : List (List ℕ)) → first_bad causes_of (own_lines before) bundle ≡ None → first_bad_version (before ++ bundle) tail ≡ None
    → first_bad_version before (bundle ++ tail) ≡ None
bundle-back before [] tail good rest = subst (λ (ls : List (List ℕ)). first_bad_version ls tail ≡ None) (append-nil before) rest
bundle-back before (line ∷ bundle) tail good rest =
    let parts = first-good (own_lines before) line bundle good in
    let free = not-at (has_tuple (own_lines before)) line parts.0 in
    let none : version_causes before line ≡ [] =
    ap (λ (b : Bool). cond b (at_causes (last_moment before) (moment_of line)) (causes_of (has_tuple (own_lines before)) line)) free ∙ parts.0 in
    version-more before line (bundle ++ tail) none
    (bundle-back (before ++ line ∷ []) bundle tail
    (subst (λ (own : List (List ℕ)). first_bad causes_of own bundle ≡ None) (sym (own-more before line free)) parts.1)
    (subst (λ (ls : List (List ℕ)). first_bad_version ls tail ≡ None) (sym (append_assoc before (line ∷ []) bundle)) rest))

-- the moment of a later version is one that a line names
named : (last : ℕ) (v : LaterText) (later : List LaterText) → are_later last (saids (v ∷ later)) ≡ true → moment_of (line_of_moment v.moment) ≡ Some v.moment
named last v later rising =
    let one = and_parts (nat_lt last v.moment) _ rising in
    let two = and_parts (nat_le v.moment 1000000000) (are_later v.moment (saids later)) one.1 in
    number-back 1 1000000000 v.moment (omega arith) (and_from _ _ (some-is last v.moment one.0) two.0)

later-back : (before : List (List ℕ)) (later : List LaterText) → AreGood later → are_later (last_moment before) (saids later) ≡ true
    → first_bad_version before (flat_map lines_of_later later) ≡ None
later-back before [] good rising = refl
later-back before (v ∷ later) good rising =
    let line : List ℕ = line_of_moment v.moment in
    let one = and_parts (nat_lt (last_moment before) v.moment) _ rising in
    let two = and_parts (nat_le v.moment 1000000000) (are_later v.moment (saids later)) one.1 in
    let is = named (last_moment before) v later rising in
    let none : version_causes before line ≡ [] =
    ap (at_causes (last_moment before)) is ∙ ap (cause (cause_number_of line_cause.EarlyVersion)) (le-not v.moment (last_moment before) one.0) in
    let last : last_moment ((before ++ line ∷ []) ++ v.bundle) ≡ v.moment =
    last-free (before ++ line ∷ []) v.bundle (good-free [] v.bundle good.0) ∙ last-at before line v.moment (at-line v.moment) is in
    version-more before line (v.bundle ++ flat_map lines_of_later later) none
    (bundle-back (before ++ line ∷ []) v.bundle (flat_map lines_of_later later)
    (subst (λ (own : List (List ℕ)). first_bad causes_of own v.bundle ≡ None) (sym (own-at before line (at-line v.moment))) good.0)
    (later-back ((before ++ line ∷ []) ++ v.bundle) later good.1 (subst (λ (k : ℕ). are_later k (saids later) ≡ true) (sym last) two.1)))

pub back : (first : List (List ℕ)) (later : List LaterText) → IsGoodBundle first → AreGood later → are_later 0 (saids later) ≡ true
    → first_bad_version [] (first ++ flat_map lines_of_later later) ≡ None
back first later good goods rising =
    bundle-back [] first (flat_map lines_of_later later) good
    (later-back first later goods (subst (λ (k : ℕ). are_later k (saids later) ≡ true) (sym (last-free [] first (good-free [] first good))) rising))

-- Versions.

bundle-first : (bundle : List (List ℕ)) (later : List LaterText) → Free bundle → before_first is_at_line (bundle ++ flat_map lines_of_later later) ≡ bundle
bundle-first [] [] free = refl
bundle-first [] (v ∷ later) free = first-stop (line_of_moment v.moment) (v.bundle ++ flat_map lines_of_later later) (at-line v.moment)
bundle-first (line ∷ bundle) later free =
    first-go line (bundle ++ flat_map lines_of_later later) free.0 ∙ ap (λ (ls : List (List ℕ)). line ∷ ls) (bundle-first bundle later free.1)

pub free-later : (bundle tail : List (List ℕ)) → Free bundle → later_versions (bundle ++ tail) ≡ later_versions tail
free-later [] tail free = refl
free-later (line ∷ bundle) tail free =
    ap (λ (o : Option ℕ). with_version o (bundle ++ tail) (later_versions (bundle ++ tail))) (begins-none line free.0) ∙ free-later bundle tail free.1

later-said : (last : ℕ) (later : List LaterText) → AreGood later → are_later last (saids later) ≡ true → later_versions (flat_map lines_of_later later) ≡ saids later
later-said last [] good rising = refl
later-said last (v ∷ later) good rising =
    let tail : List (List ℕ) = flat_map lines_of_later later in
    let free = good-free [] v.bundle good.0 in
    let one = and_parts (nat_lt last v.moment) _ rising in
    let two = and_parts (nat_le v.moment 1000000000) (are_later v.moment (saids later)) one.1 in
    ap (λ (o : Option ℕ). with_version o (v.bundle ++ tail) (later_versions (v.bundle ++ tail))) (begins-some (line_of_moment v.moment) v.moment (at-line v.moment) (named last v later rising))
    ∙ (ap (λ (ls : List (List ℕ)). version_said v.moment ls ∷ later_versions (v.bundle ++ tail)) (bundle-first v.bundle later free)
    ∙ ap (λ (vs : List Version). version_said v.moment v.bundle ∷ vs) (free-later v.bundle tail free ∙ later-said v.moment later good.1 two.1))

pub said : (first : List (List ℕ)) (later : List LaterText) → IsGoodBundle first → AreGood later → are_later 0 (saids later) ≡ true
    → versions_in (first ++ flat_map lines_of_later later) ≡ version_said 0 first ∷ saids later
said first later good goods rising =
    let free = good-free [] first good in
    ap (λ (ls : List (List ℕ)). version_said 0 ls ∷ later_versions (first ++ flat_map lines_of_later later)) (bundle-first first later free)
    ∙ ap (λ (vs : List Version). version_said 0 first ∷ vs) (free-later first (flat_map lines_of_later later) free ∙ later-said 0 later goods rising)

-- Lines in a row, and numbers of lines.

-- what is told of lines, else of those behind them
abbrev pub or_else : Option (ℕ × ℕ) → Option (ℕ × ℕ) → Option (ℕ × ℕ)
or_else None behind = behind
or_else (Some bad) behind = Some bad

told-else : (n : ℕ) (o : Option ℕ) (a b : Option (ℕ × ℕ)) → told_line n o (or_else a b) ≡ or_else (told_line n o a) b
told-else n None a b = refl
told-else n (Some c) a b = refl

pub versions-append : (before xs ys : List (List ℕ)) → first_bad_version before (xs ++ ys) ≡ or_else (first_bad_version before xs) (first_bad_version (before ++ xs) ys)
versions-append before [] ys = ap (λ (ls : List (List ℕ)). first_bad_version ls ys) (sym (append-nil before))
versions-append before (x ∷ xs) ys =
    let n : ℕ = length before + 1 in
    let o : Option ℕ = least_of_causes (version_causes before x) in
    let front : Option (ℕ × ℕ) = first_bad_version (before ++ x ∷ []) xs in
    ap (told_line n o) (versions-append (before ++ x ∷ []) xs ys ∙ ap (λ (ls : List (List ℕ)). or_else front (first_bad_version ls ys)) (append_assoc before (x ∷ []) xs))
    ∙ told-else n o front (first_bad_version (before ++ x ∷ xs) ys)

-- a line so many lines further on
abbrev pub moved : ℕ → Option (ℕ × ℕ) → Option (ℕ × ℕ)
moved d None = None
moved d (Some bad) = Some (d + bad.0, bad.1)

told-moved : (d m n : ℕ) (o : Option ℕ) (behind : Option (ℕ × ℕ)) → m ≡ d + n → told_line m o (moved d behind) ≡ moved d (told_line n o behind)
told-moved d m n None behind e = refl
told-moved d m n (Some c) behind e = ap (λ (k : ℕ). told_line k (Some c) None) e

-- what is told of a bundle's lines, counted from the first line of all
pub bundle-told : (d : ℕ) (before own bundle : List (List ℕ)) → own_lines before ≡ own → length before ≡ d + length own → Free bundle
    → first_bad_version before bundle ≡ moved d (first_bad causes_of own bundle)
bundle-told d before own [] is len free = refl
bundle-told d before own (line ∷ bundle) is len free =
    let causes : version_causes before line ≡ causes_of (has_tuple own) line =
    ap (λ (b : Bool). cond b (at_causes (last_moment before) (moment_of line)) (causes_of (has_tuple (own_lines before)) line)) free.0
    ∙ ap (λ (ls : List (List ℕ)). causes_of (has_tuple ls) line) is in
    let one = length-append before (line ∷ []) in
    let two = length-append own (line ∷ []) in
    let later = bundle-told d (before ++ line ∷ []) (own ++ line ∷ []) bundle (own-more before line free.0 ∙ ap (λ (ls : List (List ℕ)). ls ++ line ∷ []) is)
    (omega (arith, len, one, two)) free.1 in
    ap (λ (cs : List ℕ). told_line (length before + 1) (least_of_causes cs) (first_bad_version (before ++ line ∷ []) bundle)) causes
    ∙ (ap (told_line (length before + 1) (least_of_causes (causes_of (has_tuple own) line))) later
    ∙ told-moved d (length before + 1) (length own + 1) (least_of_causes (causes_of (has_tuple own) line)) (first_bad causes_of (own ++ line ∷ []) bundle) (omega (arith, len)))

pub any-free : (lines : List (List ℕ)) → list_any is_at_line lines ≡ false → Free lines
any-free [] none = tt
any-free (line ∷ lines) none = let parts = or_parts (is_at_line line) (list_any is_at_line lines) none in (parts.0, any-free lines parts.1)

-- the bundle up to a line that begins a version, or to the end
pub before-at : (bundle : List (List ℕ)) (line : List ℕ) (tail : List (List ℕ)) → Free bundle → is_at_line line ≡ true → before_first is_at_line (bundle ++ line ∷ tail) ≡ bundle
before-at [] line tail free at = first-stop line tail at
before-at (l ∷ bundle) line tail free at =
    first-go l (bundle ++ line ∷ tail) free.0 ∙ ap (λ (ls : List (List ℕ)). l ∷ ls) (before-at bundle line tail free.1 at)

pub before-all : (bundle : List (List ℕ)) → Free bundle → before_first is_at_line bundle ≡ bundle
before-all [] free = refl
before-all (line ∷ bundle) free = first-go line bundle free.0 ∙ ap (λ (ls : List (List ℕ)). line ∷ ls) (before-all bundle free.1)

-- a line that begins a version and isn't bad
pub version-goes : (before : List (List ℕ)) (line : List ℕ) (tail : List (List ℕ)) (moment : ℕ) → is_at_line line ≡ true → moment_of line ≡ Some moment → last_moment before < moment
    → first_bad_version before (line ∷ tail) ≡ first_bad_version (before ++ line ∷ []) tail
version-goes before line tail moment at is late =
    let none : version_causes before line ≡ [] =
    ap (λ (b : Bool). cond b (at_causes (last_moment before) (moment_of line)) (causes_of (has_tuple (own_lines before)) line)) at
    ∙ (ap (at_causes (last_moment before)) is ∙ ap (cause (cause_number_of line_cause.EarlyVersion)) (not-late moment (last_moment before) late)) in
    ap (λ (cs : List ℕ). told_line (length before + 1) (least_of_causes cs) (first_bad_version (before ++ line ∷ []) tail)) none
  where
    not-late : (m n : ℕ) → n < m → nat_le m n ≡ false
    not-late m n e = grind (arith, nat_tests)

-- one that is bad for this cause
pub version-bad : (before : List (List ℕ)) (line : List ℕ) (tail : List (List ℕ)) (c : ℕ) → is_at_line line ≡ true → at_causes (last_moment before) (moment_of line) ≡ c ∷ []
    → first_bad_version before (line ∷ tail) ≡ Some (length before + 1, c)
version-bad before line tail c at is =
    ap (λ (b : Bool). told_line (length before + 1) (least_of_causes (cond b (at_causes (last_moment before) (moment_of line)) (causes_of (has_tuple (own_lines before)) line))) (first_bad_version (before ++ line ∷ []) tail)) at
    ∙ ap (λ (cs : List ℕ). told_line (length before + 1) (least_of_causes cs) (first_bad_version (before ++ line ∷ []) tail)) is

-- A line more of a text, by what is kept of its files.
use Rattle.std.proofs.Common.{◌≡◌, ℕ, ◌+◌, Bool, true, false, not, ◌&&◌, cond, List, [], ◌∷◌, ◌++◌, length, map, refl, sym, ap, subst, ◌∙◌, None}
use Rattle.std.specs.List.{list_any}
use Rattle.net_base.specs.Ndb.{NdbPair}
use Rattle.net_base.specs.NdbText.{is_white, is_percent, begins, is_empty, word_pair, pairs_of, words_of, words_behind}
use Rattle.net_base.specs.NdbBundle.{File, bundle_file, is_file_line, causes_of, least_of_causes, first_bad, unnamed_file, local_file, named_files}
use Rattle.formats.proofs.Shared.{false_true, percent_of_file}
use Rattle.ndb_reader.specs.Filed.{Filed, line_filed, gone_on, with_started, file_begun, file_grown}
use Rattle.ndb_reader.proofs.Reading.{Read, Next, read-none, read-blank, read-on, read-start, read-file, read-all}

-- so many lines are read, and no line is open
pub record Reads (lines : List (List ℕ)) (n : ℕ) (f : Filed) : Type 0 where
  pub read : Read lines n f.closed f.name f.whole f.last
  pub pairs : f.pairs ≡ []

-- a line without fault behind those
pub record Turn (lines : List (List ℕ)) (n : ℕ) (f : Filed) (line : List ℕ) (read : Filed) : Type 0 where
  pub next : Next lines n line
  pub good : least_of_causes (causes_of (not (is_empty f.last)) line) ≡ None
  pub is : read ≡ line_filed (pairs_of line) f

abbrev filed_at : List File → List ℕ → List (List (List NdbPair)) → List (List NdbPair) → List NdbPair → Filed
filed_at closed name whole last pairs = record { closed = closed; name = name; whole = whole; last = last; pairs = pairs }

pub reads-none : (lines : List (List ℕ)) (f : Filed) → f.closed ≡ [] → f.name ≡ unnamed_file → f.whole ≡ [] → f.last ≡ [] → f.pairs ≡ [] → Reads lines 0 f
reads-none lines f closed name whole last pairs =
    subst (λ (g : Filed). Reads lines 0 g)
    (ap (λ (p : List NdbPair). filed_at [] unnamed_file [] [] p) (sym pairs)
    ∙ ap (λ (l : List (List NdbPair)). filed_at [] unnamed_file [] l f.pairs) (sym last)
    ∙ ap (λ (w : List (List (List NdbPair))). filed_at [] unnamed_file w f.last f.pairs) (sym whole)
    ∙ ap (λ (a : List ℕ). filed_at [] a f.whole f.last f.pairs) (sym name)
    ∙ ap (λ (c : List File). filed_at c f.name f.whole f.last f.pairs) (sym closed))
    (record { read = read-none lines; pairs = refl })

-- the pairs of a line that was read where none was open
opened : (f read : Filed) (pairs : List NdbPair) → f.pairs ≡ [] → read ≡ line_filed pairs f → read ≡ record { closed = f.closed; name = f.name; whole = f.whole; last = f.last; pairs = pairs }
opened f read pairs none is = is ∙ ap (λ (p : List NdbPair). filed_at f.closed f.name f.whole f.last (p ++ pairs)) none

no-words : (line : List ℕ) → not (is_empty (words_of line)) ≡ false → pairs_of line ≡ []
no-words line e = by (words_of line) e
  where
    by : (words : List _) → not (is_empty words) ≡ false → map word_pair words ≡ []
    by [] e = refl
    by (word ∷ words) e = absurd (false_true (sym e))

some-words : (line : List ℕ) → not (is_empty (words_of line)) ≡ true → is_empty (pairs_of line) ≡ false
some-words line e = by (words_of line) e
  where
    by : (words : List _) → not (is_empty words) ≡ true → is_empty (map word_pair words) ≡ false
    by [] e = absurd (false_true e)
    by (word ∷ words) e = refl

file-nothing : (line : List ℕ) → is_file_line line ≡ true → pairs_of line ≡ []
file-nothing line file = by (begins is_percent line) refl
  where
    by : (b : Bool) → begins is_percent line ≡ b → pairs_of line ≡ []
    by true e = ap (λ b. map word_pair (cond b [] (words_behind 0 line))) e
    by false e = absurd (false_true (sym (ap (λ b. b && (not (is_empty (bundle_file line)) && not (list_any is_white (bundle_file line)))) (percent_of_file line e)) ∙ file))

pub turn-blank : (lines : List (List ℕ)) (n : ℕ) (line : List ℕ) (f g : Filed) → Reads lines n f → Turn lines n f line g → is_file_line line ≡ false → not (is_empty (words_of line)) ≡ false → Reads lines (n + 1) g
turn-blank lines n line f g r turn file blank =
    let none : pairs_of line ≡ [] = no-words line blank in
    subst (λ (h : Filed). Reads lines (n + 1) h)
    (sym (opened f g (pairs_of line) r.pairs turn.is ∙ ap (λ (p : List NdbPair). filed_at f.closed f.name f.whole f.last p) none))
    (record { read = read-blank lines n f.closed f.name f.whole f.last line r.read turn.next file turn.good (ap is_empty none); pairs = refl })

pub turn-on : (lines : List (List ℕ)) (n : ℕ) (line : List ℕ) (f g new : Filed) → Reads lines n f → Turn lines n f line g → is_file_line line ≡ false → not (is_empty (words_of line)) ≡ true → begins is_white line ≡ true → new ≡ gone_on g → Reads lines (n + 1) new
turn-on lines n line f g new r turn file words white is =
    subst (λ (h : Filed). Reads lines (n + 1) h)
    (sym (is ∙ ap (λ (h : Filed). gone_on h) (opened f g (pairs_of line) r.pairs turn.is)))
    (record { read = read-on lines n f.closed f.name f.whole f.last line r.read turn.next file turn.good (some-words line words) white; pairs = refl })

pub turn-start : (lines : List (List ℕ)) (n : ℕ) (line : List ℕ) (f g new : Filed) → Reads lines n f → Turn lines n f line g → is_file_line line ≡ false → not (is_empty (words_of line)) ≡ true → begins is_white line ≡ false → new ≡ with_started g → Reads lines (n + 1) new
turn-start lines n line f g new r turn file words white is =
    subst (λ (h : Filed). Reads lines (n + 1) h)
    (sym (is ∙ ap (λ (h : Filed). with_started h) (opened f g (pairs_of line) r.pairs turn.is)))
    (record { read = read-start lines n f.closed f.name f.whole f.last line r.read turn.next file turn.good (some-words line words) white; pairs = refl })

pub turn-file : (lines : List (List ℕ)) (n : ℕ) (line name : List ℕ) (f g new : Filed) → Reads lines n f → Turn lines n f line g → is_file_line line ≡ true → name ≡ bundle_file line → new ≡ file_begun name g → Reads lines (n + 1) new
turn-file lines n line name f g new r turn file named is =
    subst (λ (h : Filed). Reads lines (n + 1) h)
    (sym (is ∙ ap (λ (a : List ℕ). file_begun a g) named
    ∙ ap (λ (h : Filed). file_begun (bundle_file line) h) (opened f g (pairs_of line) r.pairs turn.is ∙ ap (λ (p : List NdbPair). filed_at f.closed f.name f.whole f.last p) (file-nothing line file))))
    (record { read = read-file lines n f.closed f.name f.whole f.last line r.read turn.next file turn.good; pairs = refl })

-- all lines are read
pub turns-end : (lines : List (List ℕ)) (n : ℕ) (f : Filed) (files : List File) → Reads lines n f → n ≡ length lines → files ≡ f.closed ++ file_grown f ∷ [] → (first_bad causes_of [] lines ≡ None) × (files ≡ local_file lines ∷ named_files lines)
turns-end lines n f files r all is =
    let both = read-all lines n f.closed f.name f.whole f.last r.read all in
    (both.0, is ∙ sym both.1)

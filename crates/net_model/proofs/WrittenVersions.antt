-- The text of the versions of a database says them.
use Rattle.std.proofs.Common.{◌≡◌, ℕ, ◌+◌, ◌<◌, ◌≤◌, ◌==◌, ◌⊎◌, inl, inr, zero, suc, Bool, true, false, cond, List, [], ◌∷◌, ◌++◌, length, refl, sym, ap, subst, ◌∙◌, arith, Option, Some, None, append-nil, append_assoc}
use Rattle.std.specs.Prelude.{⊤, codes, decimal, flat_map, is_none, nat_le, nat_lt}
use Rattle.std.specs.List.{All, before_first, onto_first}
use Rattle.std.proofs.lemmas.Bool.{and_parts, eqb-true, false≢true, leb-true}
use Rattle.std.proofs.lemmas.Option.{none-some, same_Some}
use Rattle.net_base.specs.Ndb.{NdbPair}
use Rattle.net_base.specs.declared.world.Version.{Version}
use Rattle.net_base.specs.NdbBundle.{File, bad_line, causes_of, chosen, database, bundle_file, file_of, first_bad, has_tuple, is_file_line, least_of_causes, local_file, named_files, reading, told_line}
use Rattle.net_base.specs.NdbText.{going_on, goes_on, is_newline, lines_of, pairs_of, starts_tuple, tuples_of}
use Rattle.net_base.specs.Versions.{are_later, are_timed}
use Rattle.net_base.specs.World.{IsDatabase}
use Rattle.net_base.proofs.Shared.{IsWithout, cut_at, decimal_without, without_one}
use Rattle.ndb_reader.specs.Written.{db_text, pairs_text, more_lines, tuple_text}
use Rattle.ndb_reader.proofs.Shared.{before-more, before-stop}
use Rattle.world_text.specs.WorldSpelling.{IsGoodBundle, LaterText, SaysVersions, line_of_moment, lines_of_later}
use Rattle.world_text.proofs.Shared.{AreGood, saids, all-good}
use Rattle.world_writer.specs.Written.{later_text, versions_text}
use Rattle.net_model.specs.NdbWhole.{is_file_whole}

abbrev Tuples : Type 0
Tuples = List (List (List NdbPair))

-- Texts whose last byte is a newline.

abbrev EndsLine : List ℕ → Type 0
EndsLine text = (text ≡ []) ⊎ ((front : List ℕ) × (text ≡ front ++ (10 ∷ [])))

ends-append : (a b : List ℕ) → EndsLine a → EndsLine b → EndsLine (a ++ b)
ends-append a b (inl none) ends = subst (λ (xs : List ℕ). EndsLine (xs ++ b)) (sym none) ends
ends-append a b (inr (front, is)) (inl none) = inr (front, ap (λ (xs : List ℕ). a ++ xs) none ∙ (append-nil a ∙ is))
ends-append a b (inr (front, is)) (inr (more, same)) = inr (a ++ more, ap (λ (xs : List ℕ). a ++ xs) same ∙ sym (append_assoc a more (10 ∷ [])))

-- a line of the text of a database
line-ends : (line rest : List ℕ) → EndsLine rest → EndsLine (line ++ (codes "\n" ++ rest))
line-ends line rest ends = subst EndsLine (append_assoc line (codes "\n") rest) (ends-append (line ++ codes "\n") rest (inr (line, refl)) ends)

more-ends : (lines : List (List NdbPair)) → EndsLine (more_lines lines)
more-ends [] = inl refl
more-ends (line ∷ lines) = line-ends (codes "\t" ++ pairs_text line) (more_lines lines) (more-ends lines)

tuple-ends : (tuple : List (List NdbPair)) → EndsLine (tuple_text tuple)
tuple-ends [] = inl refl
tuple-ends (line ∷ lines) = line-ends (pairs_text line) (more_lines lines) (more-ends lines)

db-ends : (db : Tuples) → EndsLine (db_text db)
db-ends [] = inl refl
db-ends (tuple ∷ db) = ends-append (tuple_text tuple) (db_text db) (tuple-ends tuple) (db-ends db)

-- Their lines.

onto-append : (b : ℕ) (xs ys : List (List ℕ)) → 0 < length xs → onto_first b (xs ++ ys) ≡ onto_first b xs ++ ys
onto-append b [] ys some = absurd (omega (arith, some))
onto-append b (x ∷ xs) ys some = refl

onto-some : (b : ℕ) (xs : List (List ℕ)) → 0 < length (onto_first b xs)
onto-some b [] = omega arith
onto-some b (x ∷ xs) = omega arith

some-lines : (text : List ℕ) → 0 < length (lines_of text)
some-lines [] = omega arith
some-lines (b ∷ text) = by (is_newline b)
  where
    by : (v : Bool) → 0 < length (cond v ([] ∷ lines_of text) (onto_first b (lines_of text)))
    by true = omega arith
    by false = onto-some b (lines_of text)

lines-append : (front rest : List ℕ) → lines_of (front ++ (10 ∷ rest)) ≡ lines_of front ++ lines_of rest
lines-append [] rest = refl
lines-append (b ∷ front) rest = by (is_newline b) (lines-append front rest)
  where
    by : (v : Bool) → lines_of (front ++ (10 ∷ rest)) ≡ lines_of front ++ lines_of rest
        → cond v ([] ∷ lines_of (front ++ (10 ∷ rest))) (onto_first b (lines_of (front ++ (10 ∷ rest)))) ≡ cond v ([] ∷ lines_of front) (onto_first b (lines_of front)) ++ lines_of rest
    by true is = ap (λ (ls : List (List ℕ)). [] ∷ ls) is
    by false is = ap (onto_first b) is ∙ onto-append b (lines_of front) (lines_of rest) (some-lines front)

-- the lines of such a text that end with a newline
record Body (text : List ℕ) : Type 0 where
  lines : List (List ℕ)
  alone : lines_of text ≡ lines ++ [] ∷ []
  before : (rest : List ℕ) → lines_of (text ++ rest) ≡ lines ++ lines_of rest

body : (text : List ℕ) → EndsLine text → Body text
body text (inl none) = record {
  lines = [];
  alone = ap lines_of none;
  before = λ rest. ap (λ (xs : List ℕ). lines_of (xs ++ rest)) none;
}
body text (inr (front, is)) = record {
  lines = lines_of front;
  alone = ap lines_of is ∙ lines-append front [];
  before = λ rest. ap (λ (xs : List ℕ). lines_of (xs ++ rest)) is ∙ (ap lines_of (append_assoc front (10 ∷ []) rest) ∙ lines-append front rest);
}

-- An empty line at the end says nothing.

padded : (lines : List (List ℕ)) → (tuples_of (before_first is_file_line (lines ++ [] ∷ [])) ≡ tuples_of (before_first is_file_line lines))
    × (going_on (before_first is_file_line (lines ++ [] ∷ [])) ≡ going_on (before_first is_file_line lines))
padded [] = (refl, refl)
padded (line ∷ lines) = by (is_file_line line) refl (padded lines)
  where
    by : (b : Bool) → is_file_line line ≡ b
        → (tuples_of (before_first is_file_line (lines ++ [] ∷ [])) ≡ tuples_of (before_first is_file_line lines)) × (going_on (before_first is_file_line (lines ++ [] ∷ [])) ≡ going_on (before_first is_file_line lines))
        → (tuples_of (before_first is_file_line (line ∷ (lines ++ [] ∷ []))) ≡ tuples_of (before_first is_file_line (line ∷ lines)))
        × (going_on (before_first is_file_line (line ∷ (lines ++ [] ∷ []))) ≡ going_on (before_first is_file_line (line ∷ lines)))
    by true at rest =
        let same = before-stop line (lines ++ [] ∷ []) at ∙ sym (before-stop line lines at) in
        (ap tuples_of same, ap going_on same)
    by false own rest =
        let one = before-more line (lines ++ [] ∷ []) own in
        let two = before-more line lines own in (
          ap tuples_of one
              ∙ (ap (λ (g : List (List NdbPair)). cond (starts_tuple line) ((pairs_of line ∷ g) ∷ tuples_of (before_first is_file_line (lines ++ [] ∷ []))) (tuples_of (before_first is_file_line (lines ++ [] ∷ [])))) rest.1
              ∙ (ap (λ (t : Tuples). cond (starts_tuple line) ((pairs_of line ∷ going_on (before_first is_file_line lines)) ∷ t) t) rest.0 ∙ ap tuples_of (sym two))),
          ap going_on one
              ∙ (ap (λ (g : List (List NdbPair)). cond (starts_tuple line) [] (cond (goes_on line) (pairs_of line ∷ g) g)) rest.1 ∙ ap going_on (sym two)),
        )

file-padded : (name : List ℕ) (lines : List (List ℕ)) → file_of name (lines ++ [] ∷ []) ≡ file_of name lines
file-padded name lines = ap (λ (t : Tuples). record { name = name; tuples = t }) (padded lines).0

named-padded : (lines : List (List ℕ)) → named_files (lines ++ [] ∷ []) ≡ named_files lines
named-padded [] = refl
named-padded (line ∷ lines) =
    ap (λ (f : File). cond (is_file_line line) (f ∷ named_files (lines ++ [] ∷ [])) (named_files (lines ++ [] ∷ []))) (file-padded (bundle_file line) lines)
    ∙ ap (λ (fs : List File). cond (is_file_line line) (file_of (bundle_file line) lines ∷ fs) fs) (named-padded lines)

database-padded : (lines : List (List ℕ)) → database (lines ++ [] ∷ []) ≡ database lines
database-padded lines =
    ap (λ (f : File). chosen f (named_files (lines ++ [] ∷ []))) (ap (λ (t : Tuples). record (local_file lines) { tuples = t }) (padded lines).0) ∙ ap (chosen (local_file lines)) (named-padded lines)

good-front : (own xs ys : List (List ℕ)) → first_bad causes_of own (xs ++ ys) ≡ None → first_bad causes_of own xs ≡ None
good-front own [] ys good = refl
good-front own (x ∷ xs) ys good = by (least_of_causes (causes_of (has_tuple own) x)) good (good-front (own ++ x ∷ []) xs ys)
  where
    by : (o : Option ℕ) → told_line (length own + 1) o (first_bad causes_of (own ++ x ∷ []) (xs ++ ys)) ≡ None → (first_bad causes_of (own ++ x ∷ []) (xs ++ ys) ≡ None → first_bad causes_of (own ++ x ∷ []) xs ≡ None)
        → told_line (length own + 1) o (first_bad causes_of (own ++ x ∷ []) xs) ≡ None
    by None rest later = later rest
    by (Some c) rest later = absurd (none-some (length own + 1, c) (sym rest))

-- a text that has a reading has no bad line, and the reading is its database
read-parts : (bad : Option (ℕ × ℕ)) (found db : Tuples) → cond (is_none bad) (Some found) None ≡ Some db → (bad ≡ None) × (found ≡ db)
read-parts None found db is = (refl, same_Some found db is)
read-parts (Some bad) found db is = absurd (none-some db is)

-- Versions.

-- lines of a database that are a bundle
record Bundle (lines : List (List ℕ)) (db : Tuples) : Type 0 where
  good : IsGoodBundle lines
  read : database lines ≡ db

-- the lines of a text that reads as its database, with the empty line at the end and without it
whole-bundle : (db : Tuples) → reading (db_text db) ≡ Some db → Bundle (lines_of (db_text db)) db
whole-bundle db is =
    let parts = read-parts (bad_line (db_text db)) (database (lines_of (db_text db))) db is in
    record { good = parts.0; read = parts.1 }

front-bundle : (db : Tuples) → reading (db_text db) ≡ Some db → (b : Body (db_text db)) → Bundle b.lines db
front-bundle db is b =
    let all = whole-bundle db is in
    record {
      good = good-front [] b.lines ([] ∷ []) (ap (first_bad causes_of []) (sym b.alone) ∙ all.good);
      read = sym (database-padded b.lines) ∙ (ap database (sym b.alone) ∙ all.read);
    }

-- each of these is read back
abbrev pub AreBack : List Version → Type 0
AreBack [] = ⊤
AreBack (v ∷ vs) = (reading (db_text v.db) ≡ Some v.db) × AreBack vs

moment-without : (moment : ℕ) → moment ≤ 1000000000 → IsWithout 10 (line_of_moment moment)
moment-without moment low =
    without_one 10 37 (97 ∷ 116 ∷ 32 ∷ decimal moment) refl
    (without_one 10 97 (116 ∷ 32 ∷ decimal moment) refl
    (without_one 10 116 (32 ∷ decimal moment) refl (without_one 10 32 (decimal moment) refl (decimal_without moment 10 (omega (arith, low)) (omega arith)))))

-- the bundle of a database, and those of later versions behind it
record Pieces (db : Tuples) (later : List Version) : Type 0 where
  first : List (List ℕ)
  texts : List LaterText
  lines_are : lines_of (db_text db ++ flat_map later_text later) ≡ first ++ flat_map lines_of_later texts
  bundle : Bundle first db
  goods : AreGood texts
  said : saids texts ≡ later

pieces : (db : Tuples) (last : ℕ) (later : List Version) → reading (db_text db) ≡ Some db → AreBack later → are_later last later ≡ true → Pieces db later
pieces db last [] is back rising = record {
  first = lines_of (db_text db);
  texts = [];
  lines_are = ap lines_of (append-nil (db_text db)) ∙ sym (append-nil (lines_of (db_text db)));
  bundle = whole-bundle db is;
  goods = tt;
  said = refl;
}
pieces db last (v ∷ later) is back rising =
    let one = and_parts (nat_lt last v.moment) _ rising in
    let two = and_parts (nat_le v.moment 1000000000) (are_later v.moment later) one.1 in
    let rest = pieces v.db v.moment later back.0 back.1 two.1 in
    let b = body (db_text db) (db-ends db) in
    let line : List ℕ = line_of_moment v.moment in
    let tail : List ℕ = db_text v.db ++ flat_map later_text later in
    let behind : later_text v ++ flat_map later_text later ≡ line ++ (10 ∷ tail) =
    append_assoc (line ++ (10 ∷ [])) (db_text v.db) (flat_map later_text later) ∙ append_assoc line (10 ∷ []) tail in
    record {
      first = b.lines;
      texts = record { moment = v.moment; bundle = rest.first } ∷ rest.texts;
      lines_are = b.before (later_text v ++ flat_map later_text later)
          ∙ ap (λ (ls : List (List ℕ)). b.lines ++ ls)
          (ap lines_of behind ∙ cut_at 10 line tail (rest.first ++ flat_map lines_of_later rest.texts) (moment-without v.moment (leb-true v.moment 1000000000 two.0)) rest.lines_are);
      bundle = front-bundle db is b;
      goods = (rest.bundle.good, rest.goods);
      said = ap (λ (d : Tuples). record { moment = v.moment; db = d } ∷ saids rest.texts) rest.bundle.read ∙ ap (λ (vs : List Version). v ∷ vs) rest.said;
    }

pub written-says : (dbs : List Version) → are_timed dbs ≡ true → AreBack dbs → SaysVersions (versions_text dbs) dbs
written-says [] timed back = absurd (false≢true timed)
written-says (v ∷ later) timed back =
    let parts = and_parts (v.moment == 0) (are_later 0 later) timed in
    let p = pieces v.db 0 later back.0 back.1 parts.1 in
    record {
      first = p.first;
      later = p.texts;
      lines_are = p.lines_are;
      first_good = p.bundle.good;
      later_good = all-good p.texts p.goods;
      said = sym (ap (λ (d : Tuples). record { moment = 0; db = d } ∷ saids p.texts) p.bundle.read
          ∙ (ap (λ (m : ℕ). record { moment = m; db = v.db } ∷ saids p.texts) (sym (eqb-true v.moment 0 parts.0)) ∙ ap (λ (vs : List Version). v ∷ vs) p.said));
    }

-- databases that are whole are read back
module _ (back : (text : List ℕ) (db : Tuples) → reading text ≡ Some db → is_file_whole db ≡ true → reading (db_text db) ≡ Some db) where
  pub are-back : (dbs : List Version) → All (λ (v : Version). IsDatabase v.db) dbs → All (λ (v : Version). is_file_whole v.db ≡ true) dbs → AreBack dbs
  are-back [] databases whole = tt
  are-back (v ∷ dbs) databases whole =
      let text = databases zero v (omega arith) in (
        back text.0 v.db text.2 (whole zero v (omega arith)),
        are-back dbs (λ k d lt. databases (suc k) d (omega (arith, lt))) (λ k d lt. whole (suc k) d (omega (arith, lt))),
      )

-- A text without a bad line says its versions, which a world may have; and a text that says versions is read as them.
use Rattle.std.proofs.Common.{◌≡◌, ℕ, ◌==◌, zero, suc, Bool, true, false, cond, List, [], ◌∷◌, ◌++◌, refl, sym, ap, subst, ◌∙◌, arith, Option, Some, None}
use Rattle.std.specs.Prelude.{⊤, flat_map, is_none}
use Rattle.std.specs.List.{All, join_with_byte, list_all, onto_first}
use Rattle.std.proofs.lemmas.Bool.{and_from, and_parts}
use Rattle.std.proofs.lemmas.List.Elements.{All-nil}
use Rattle.std.proofs.lemmas.List.Folds.{list_all-append}
use Rattle.net_base.specs.declared.world.Version.{Version}
use Rattle.net_base.specs.NdbBundle.{bad_line, causes_of, database, first_bad, reading}
use Rattle.net_base.specs.NdbText.{lines_of}
use Rattle.net_base.specs.Versions.{are_later, are_timed}
use Rattle.net_base.specs.World.{IsDatabase, is_byte}
use Rattle.net_base.proofs.Shared.{IsWithout, cut_at, one_part, without_one}
use Rattle.world_text.specs.VersionLines.{bad_version_line, first_bad_version, later_versions, versions_in}
use Rattle.world_text.specs.WorldSpelling.{IsGoodBundle, LaterText, SaysVersions, lines_of_later, version_said}
use Rattle.world_text.proofs.VersionCuts.{AreGood, Split, back, said, saids, split}

pub all-good : (later : List LaterText) → AreGood later → All (λ (v : LaterText). IsGoodBundle v.bundle) later
all-good [] good k d lt = absurd (omega (arith, lt))
all-good (v ∷ later) good zero d lt = good.0
all-good (v ∷ later) good (suc k) d lt = all-good later good.1 k d (omega (arith, lt))

good-all : (later : List LaterText) → All (λ (v : LaterText). IsGoodBundle v.bundle) later → AreGood later
good-all [] all = tt
good-all (v ∷ later) all = (all zero v (omega arith), good-all later (λ k d lt. all (suc k) d (omega (arith, lt))))

-- the bundles of a text without a bad line
bundles : (text : List ℕ) → bad_version_line text ≡ None → Split 0 [] (lines_of text)
bundles text good = split [] (lines_of text) good

pub versions-say : (text : List ℕ) → bad_version_line text ≡ None → SaysVersions text (versions_in (lines_of text))
versions-say text good =
    let s = bundles text good in
    record {
      first = s.first;
      later = s.later;
      lines_are = s.lines_are;
      first_good = s.first_good;
      later_good = all-good s.later s.later_good;
      said = ap (λ (ls : List (List ℕ)). version_said 0 ls ∷ later_versions (lines_of text)) s.bundle_is ∙ ap (λ (vs : List Version). version_said 0 s.first ∷ vs) s.later_are;
    }

pub versions-timed : (text : List ℕ) → bad_version_line text ≡ None → are_timed (versions_in (lines_of text)) ≡ true
versions-timed text good = let s = bundles text good in ap (are_later 0) s.later_are ∙ s.rising

-- From versions to their reading.

pub versions-back : (text : List ℕ) (vs : List Version) → SaysVersions text vs → are_timed vs ≡ true → (bad_version_line text ≡ None) × (vs ≡ versions_in (lines_of text))
versions-back text vs s timed =
    let goods = good-all s.later s.later_good in
    let rising : are_later 0 (saids s.later) ≡ true = ap are_timed (sym s.said) ∙ timed in (
      ap (first_bad_version []) s.lines_are ∙ back s.first s.later s.first_good goods rising,
      s.said ∙ (sym (said s.first s.later s.first_good goods rising) ∙ ap versions_in (sym s.lines_are)),
    )

-- Bytes.

-- bytes on one line
abbrev IsBare : List ℕ → Type 0
IsBare [] = ⊤
IsBare (b ∷ bytes) = (is_byte b ≡ true) × ((b == 10) ≡ false) × IsBare bytes

abbrev AreBare : List (List ℕ) → Type 0
AreBare [] = ⊤
AreBare (line ∷ lines) = IsBare line × AreBare lines

onto-bare : (b : ℕ) (lines : List (List ℕ)) → is_byte b ≡ true → (b == 10) ≡ false → AreBare lines → AreBare (onto_first b lines)
onto-bare b [] byte other bare = ((byte, other, tt), tt)
onto-bare b (line ∷ lines) byte other bare = ((byte, other, bare.0), bare.1)

lines-bare : (text : List ℕ) → list_all is_byte text ≡ true → AreBare (lines_of text)
lines-bare [] all = (tt, tt)
lines-bare (b ∷ text) all =
    let parts = and_parts (is_byte b) (list_all is_byte text) all in
    by (b == 10) refl parts.0 (lines-bare text parts.1)
  where
    by : (v : Bool) → (b == 10) ≡ v → is_byte b ≡ true → AreBare (lines_of text) → AreBare (cond v ([] ∷ lines_of text) (onto_first b (lines_of text)))
    by true is byte bare = (tt, bare)
    by false other byte bare = onto-bare b (lines_of text) byte other bare

bare-split : (xs ys : List (List ℕ)) → AreBare (xs ++ ys) → AreBare xs × AreBare ys
bare-split [] ys bare = (tt, bare)
bare-split (x ∷ xs) ys bare = let rest = bare-split xs ys bare.1 in ((bare.0, rest.0), rest.1)

bare-without : (line : List ℕ) → IsBare line → IsWithout 10 line
bare-without [] bare = All-nil (λ (x : ℕ). (x == 10) ≡ false)
bare-without (b ∷ line) bare = without_one 10 b line bare.1 (bare-without line bare.2)

bare-bytes : (line : List ℕ) → IsBare line → list_all is_byte line ≡ true
bare-bytes [] bare = refl
bare-bytes (b ∷ line) bare = and_from _ _ bare.0 (bare-bytes line bare.2)

-- lines, joined and cut again
joined-lines : (line : List ℕ) (lines : List (List ℕ)) → IsBare line → AreBare lines → lines_of (join_with_byte 10 (line ∷ lines)) ≡ line ∷ lines
joined-lines line [] bare rest = one_part 10 line (bare-without line bare)
joined-lines line (next ∷ lines) bare rest =
    cut_at 10 line (join_with_byte 10 (next ∷ lines)) (next ∷ lines) (bare-without line bare) (joined-lines next lines rest.0 rest.1)

joined-bytes : (line : List ℕ) (lines : List (List ℕ)) → IsBare line → AreBare lines → list_all is_byte (join_with_byte 10 (line ∷ lines)) ≡ true
joined-bytes line [] bare rest = bare-bytes line bare
joined-bytes line (next ∷ lines) bare rest =
    list_all-append is_byte line (10 ∷ join_with_byte 10 (next ∷ lines)) ∙ and_from _ _ (bare-bytes line bare) (joined-bytes next lines rest.0 rest.1)

-- Databases.

-- a database that is read
database-read : (text : List ℕ) → bad_line text ≡ None → reading text ≡ Some (database (lines_of text))
database-read text good = ap (λ (bad : Option (ℕ × ℕ)). cond (is_none bad) (Some (database (lines_of text))) None) good

-- a bundle of a text is one of a text of its own
bundle-database : (bundle : List (List ℕ)) → AreBare bundle → IsGoodBundle bundle → IsDatabase (database bundle)
bundle-database [] bare good = ([], refl, refl)
bundle-database (line ∷ lines) bare good =
    let text : List ℕ = join_with_byte 10 (line ∷ lines) in
    let same : lines_of text ≡ line ∷ lines = joined-lines line lines bare.0 bare.1 in (
      text,
      joined-bytes line lines bare.0 bare.1,
      database-read text (ap (first_bad causes_of []) same ∙ good) ∙ ap (λ (ls : List (List ℕ)). Some (database ls)) same,
    )

abbrev AreDatabases : List Version → Type 0
AreDatabases [] = ⊤
AreDatabases (v ∷ vs) = IsDatabase v.db × AreDatabases vs

later-databases : (later : List LaterText) → AreGood later → AreBare (flat_map lines_of_later later) → AreDatabases (saids later)
later-databases [] good bare = tt
later-databases (v ∷ later) good bare =
    let parts = bare-split (lines_of_later v) (flat_map lines_of_later later) bare in
    (bundle-database v.bundle parts.0.1 good.0, later-databases later good.1 parts.1)

all-databases : (vs : List Version) → AreDatabases vs → All (λ (v : Version). IsDatabase v.db) vs
all-databases [] each k d lt = absurd (omega (arith, lt))
all-databases (v ∷ vs) each zero d lt = each.0
all-databases (v ∷ vs) each (suc k) d lt = all-databases vs each.1 k d (omega (arith, lt))

pub versions-databases : (text : List ℕ) → list_all is_byte text ≡ true → bad_version_line text ≡ None → All (λ (v : Version). IsDatabase v.db) (versions_in (lines_of text))
versions-databases text all good =
    let s = versions-say text good in
    let parts = bare-split s.first (flat_map lines_of_later s.later) (subst AreBare s.lines_are (lines-bare text all)) in
    subst (λ (vs : List Version). All (λ (v : Version). IsDatabase v.db) vs) (sym s.said)
    (all-databases (version_said 0 s.first ∷ saids s.later)
    (bundle-database s.first parts.0 s.first_good, later-databases s.later (good-all s.later s.later_good) parts.1))

-- The least cause of a line, by tests in a row.
use Rattle.std.proofs.Common.{◌≡◌, ℕ, Bool, true, false, not, ◌&&◌, cond, List, ◌++◌, refl, sym, ap, ◌∙◌, Option, Some, None}
use Rattle.std.specs.List.{list_any}
use Rattle.net_base.specs.NdbText.{is_white, is_percent, is_zero, begins, is_empty, Word, words_of, goes_on}
use Rattle.net_base.specs.NdbBundle.{cause, causes_of, least_of_causes, is_nameless, is_file_line}
use Rattle.ndb_reader.specs.declared.words.Words.{Words}
use Rattle.ndb_reader.specs.Told.{AreWords}

-- the first of the tests that holds
abbrev pub picked : Bool → Bool → Bool → Bool → Bool → Bool → Option ℕ
picked alone unclosed nameless followed zeros directive =
    cond alone (Some 1) (cond unclosed (Some 2) (cond nameless (Some 3) (cond followed (Some 4) (cond zeros (Some 5) (cond directive (Some 6) None)))))

-- the causes by their tests
abbrev rising : Bool → Bool → Bool → Bool → Bool → Bool → List ℕ
rising alone unclosed nameless followed zeros directive =
    cause 1 alone ++ (cause 2 unclosed ++ (cause 3 nameless ++ (cause 4 followed ++ (cause 5 zeros ++ cause 6 directive))))

least-picked : (a u n f z d : Bool) → least_of_causes (rising a u n f z d) ≡ picked a u n f z d
least-picked true u n f z d = refl
least-picked false true n f z d = refl
least-picked false false true f z d = refl
least-picked false false false true z d = refl
least-picked false false false false true d = refl
least-picked false false false false false true = refl
least-picked false false false false false false = refl

and-three : (a b c : Bool) → ((a && b) && c) ≡ (a && (b && c))
and-three true b c = refl
and-three false b c = refl

-- what the tests of a line and its words pick is its least cause
pub picked-least : (has : Bool) (line : List ℕ) (kept : Words) (a u n f z d : Bool)
    → AreWords kept (words_of line)
    → (kept.some && (begins is_white line && not has)) ≡ a
    → kept.unclosed ≡ u
    → kept.nameless ≡ n
    → kept.followed ≡ f
    → list_any is_zero line ≡ z
    → (begins is_percent line && not (is_file_line line)) ≡ d
    → picked a u n f z d ≡ least_of_causes (causes_of has line)
picked-least has line kept a u n f z d are ea eu en ef ez ed =
    let words : List Word = words_of line in
    let alone : (goes_on line && not has) ≡ a =
    and-three (not (is_empty words)) (begins is_white line) (not has)
    ∙ ap (λ b. b && (begins is_white line && not has)) (sym are.some) ∙ ea in
    let nameless : list_any is_nameless words ≡ n =
    sym are.nameless ∙ en in
    let unclosed : list_any (λ (word : Word). word.unclosed) words ≡ u = sym are.unclosed ∙ eu in
    let followed : list_any (λ (word : Word). word.followed) words ≡ f = sym are.followed ∙ ef in
    sym (least-picked _ _ _ _ _ _
    ∙ ap (λ x. picked x (list_any (λ (word : Word). word.unclosed) words) (list_any is_nameless words) (list_any (λ (word : Word). word.followed) words) (list_any is_zero line) (begins is_percent line && not (is_file_line line))) alone
    ∙ ap (λ x. picked a x (list_any is_nameless words) (list_any (λ (word : Word). word.followed) words) (list_any is_zero line) (begins is_percent line && not (is_file_line line))) unclosed
    ∙ ap (λ x. picked a u x (list_any (λ (word : Word). word.followed) words) (list_any is_zero line) (begins is_percent line && not (is_file_line line))) nameless
    ∙ ap (λ x. picked a u n x (list_any is_zero line) (begins is_percent line && not (is_file_line line))) followed
    ∙ ap (λ x. picked a u n f x (begins is_percent line && not (is_file_line line))) ez
    ∙ ap (λ x. picked a u n f z x) ed)

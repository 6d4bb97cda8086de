-- The words that a program is called with. Word 0 is the program's path.
use Rattle.std.specs.Prelude.{◌≡◌, ℕ, ◌≤◌, List, [], drop, length, Option, Some, slice_get, IfSome, IsUtf8}
use Rattle.std.specs.List.{AllByRecursion}

-- if the words are told, this one is at the place
abbrev pub IsWordAt : Option (List (List ℕ)) → ℕ → List ℕ → Type 0
IsWordAt words place word = IfSome words (λ ws. slice_get ws place ≡ Some word)

-- if the words are told, none is at the place
abbrev pub HasNoWordAt : Option (List (List ℕ)) → ℕ → Type 0
HasNoWordAt words place = IfSome words (λ ws. length ws ≤ place)

-- all words after the path, if each of them is UTF-8, and otherwise none
pub record AreWordsAfterPath (words : List (List ℕ)) (read : List (List ℕ)) : Type 0 where
  pub all : AllByRecursion IsUtf8 (drop 1 words) → read ≡ drop 1 words
  pub none : ¬ (AllByRecursion IsUtf8 (drop 1 words)) → read ≡ []

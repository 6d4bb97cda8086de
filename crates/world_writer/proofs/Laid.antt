-- Lines laid one behind another, and words with a blank before each.
use Rattle.std.proofs.Common.{◌≡◌, ℕ, ◌≤◌, List, length, drop, Result, Ok, Err, OnOk, [], ◌∷◌, ◌++◌, refl, sym, ◌∙◌, ap, append_assoc}
use Rattle.std.specs.Prelude.{flat_map}
use Rattle.std.proofs.lemmas.List.{append-nil, drop_all}
use Rattle.world_text.specs.WorldSpelling.{laid, spaced_line}
use Rattle.world_writer.specs.Written.{written_behind, parts_laid}

pub laid_append : (xs ys : List (List ℕ)) → laid (xs ++ ys) ≡ laid xs ++ laid ys
laid_append [] ys = refl
laid_append (x ∷ xs) ys = ap (λ rest. x ++ (10 ∷ rest)) (laid_append xs ys) ∙ sym (append_assoc x (10 ∷ laid xs) (laid ys))

pub laid_parts : {X : Type 0} (lines : X → List (List ℕ)) (parts : List X) → laid (flat_map lines parts) ≡ parts_laid lines parts
laid_parts lines [] = refl
laid_parts lines (part ∷ parts) =
    laid_append (lines part) (flat_map lines parts) ∙ ap (λ rest. laid (lines part) ++ rest) (laid_parts lines parts)

pub laid_three : (xs ys zs : List (List ℕ)) → laid (xs ++ (ys ++ zs)) ≡ laid xs ++ (laid ys ++ laid zs)
laid_three xs ys zs = laid_append xs (ys ++ zs) ∙ ap (λ rest. laid xs ++ rest) (laid_append ys zs)

-- words behind one that stands first
pub spaced_first : (word : List ℕ) (words : List (List ℕ)) → spaced_line (word ∷ words) ≡ word ++ written_behind words
spaced_first word [] = sym (append-nil word)
spaced_first word (next ∷ words) = ap (λ rest. word ++ (32 ∷ rest)) (spaced_first next words)

-- Texts that were added one after the other.

pub two_added : {T E : Type 0} (r : Result T E) (out front all one two text : List ℕ) → front ≡ out ++ one → one ++ two ≡ text → OnOk r (all ≡ front ++ two) → OnOk r (all ≡ out ++ text)
two_added (Ok _) out front all one two text first same second =
    second ∙ ap (λ t. t ++ two) first ∙ append_assoc out one two ∙ ap (λ t. out ++ t) same
two_added (Err _) out front all one two text first same second = tt

pub three_added : {T E : Type 0} (r : Result T E) (out front middle all one two three text : List ℕ) → front ≡ out ++ one → middle ≡ front ++ two → one ++ (two ++ three) ≡ text → OnOk r (all ≡ middle ++ three) → OnOk r (all ≡ out ++ text)
three_added r out front middle all one two three text first second same third =
    two_added r out front all one (two ++ three) text first same (two_added r front middle all two three (two ++ three) second refl third)

-- the lines of all parts were added
pub parts_added : {X : Type 0} (lines : X → List (List ℕ)) (parts : List X) (i : ℕ) (out all : List ℕ) → out ++ parts_laid lines parts ≡ all ++ parts_laid lines (drop i parts) → length parts ≤ i → all ≡ out ++ laid (flat_map lines parts)
parts_added lines parts i out all kept end =
    sym (kept ∙ ap (λ rest. all ++ parts_laid lines rest) (drop_all i parts end) ∙ append-nil all) ∙ ap (λ text. out ++ text) (sym (laid_parts lines parts))

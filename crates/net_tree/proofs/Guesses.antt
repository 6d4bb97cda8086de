-- The parts of a path, and the node that they would name.
use Rattle.std.proofs.Common.{◌≡◌, ◌≢◌, ℕ, ◌<◌, Bool, true, false, ◌==◌, ◌&&◌, List, [], ◌∷◌, ◌++◌, length, Option, Some, None, bytes_eq, codes, if◌then◌else◌, refl, sym, ap, ◌∙◌, subst, arith, append_assoc}
use Rattle.std.specs.List.{slice_split}
use Rattle.std.proofs.lemmas.Bool.Decides.{same_from_decides, nat_tests}
use Rattle.std.proofs.lemmas.List.{append_cancel_left, append-nil}
use Rattle.std.proofs.lemmas.List.Splits.{length-slice_split}
use Rattle.std.proofs.lemmas.Option.{none-some, same_Some}
use Rattle.std.proofs.lemmas.Slice.Eq.{bytes_eq-Decides}
use Rattle.net_base.specs.declared.address.Proto.{Proto}
use Rattle.net_base.specs.declared.names.FileName.{FileName}
use Rattle.net_base.specs.declared.names.Node.{Node}
use Rattle.net_base.specs.declared.names.Node.TheVariants as node
use Rattle.net_base.specs.Paths.{proto_named, node_in_range, node_of, checked_node, walk, path_of, file_name}
use Rattle.net_tree.specs.Guess.{kept_node, under_proto}

abbrev parts : List ℕ → List (List ℕ)
parts path = slice_split (λ b. b == 47) path

-- there is always a part
some_part : (path : List ℕ) → 0 < length (parts path)
some_part path = omega (arith, length-slice_split (λ b. b == 47) path)

-- Guesses.

node_under_parts : (root net name : List ℕ) (p : Proto) (ps : List (List ℕ)) → 0 < length ps → proto_named name ≡ Some p → node_of (root ∷ net ∷ name ∷ ps) ≡ under_proto p ps
node_under_parts root net name p [] more is = absurd (omega (arith, more))
node_under_parts root net name p (n ∷ []) more is = rw is refl
node_under_parts root net name p (n ∷ f ∷ []) more is = rw is refl
node_under_parts root net name p (n ∷ f ∷ g ∷ ps) more is = refl

-- behind a protocol and a slash
pub node_under : (root net name rest path : List ℕ) (p : Proto) → parts path ≡ name ∷ parts rest → proto_named name ≡ Some p
    → kept_node (under_proto p (parts rest)) ≡ kept_node (node_of (root ∷ net ∷ parts path))
node_under root net name rest path p cut is =
    sym (ap (λ ps. kept_node (node_of (root ∷ net ∷ ps))) cut ∙ ap kept_node (node_under_parts root net name p (parts rest) (some_part rest) is))

no_node_under_parts : (root net name : List ℕ) (ps : List (List ℕ)) → 0 < length ps → proto_named name ≡ None → node_of (root ∷ net ∷ name ∷ ps) ≡ None
no_node_under_parts root net name [] more is = absurd (omega (arith, more))
no_node_under_parts root net name (n ∷ []) more is = rw is refl
no_node_under_parts root net name (n ∷ f ∷ []) more is = rw is refl
no_node_under_parts root net name (n ∷ f ∷ g ∷ ps) more is = refl

-- behind another name
pub no_node_under : (root net name rest path : List ℕ) → parts path ≡ name ∷ parts rest → proto_named name ≡ None
    → None ≡ kept_node (node_of (root ∷ net ∷ parts path))
no_node_under root net name rest path cut is =
    sym (ap (λ ps. kept_node (node_of (root ∷ net ∷ ps))) cut ∙ ap kept_node (no_node_under_parts root net name (parts rest) (some_part rest) is))

too_many : (p : Proto) (a b : List ℕ) (ps : List (List ℕ)) → 0 < length ps → under_proto p (a ∷ b ∷ ps) ≡ None
too_many p a b [] more = absurd (omega (arith, more))
too_many p a b (c ∷ ps) more = refl

-- behind the file of a slot and a slash
pub no_node_behind : (p : Proto) (path rest more a b : List ℕ) → parts path ≡ a ∷ parts rest → parts rest ≡ b ∷ parts more → None ≡ kept_node (under_proto p (parts path))
no_node_behind p path rest more a b first second =
    sym (ap (λ ps. kept_node (under_proto p ps)) (first ∙ ap (λ ps. a ∷ ps) second) ∙ ap kept_node (too_many p a b (parts more) (some_part more)))

-- Checks.

kept_fits : (o : Option Node) (n : Node) → kept_node o ≡ Some n → node_in_range n ≡ true
kept_fits None n is = absurd (none-some n is)
kept_fits (Some m) n is = by (node_in_range m) refl is
  where
    by : (b : Bool) → node_in_range m ≡ b → (if b then Some m else None) ≡ Some n → node_in_range n ≡ true
    by true fits same = subst (λ (x : Node). node_in_range x ≡ true) (same_Some m n same) fits
    by false fits same = absurd (none-some n same)

checked_kept : (path : List ℕ) (o : Option Node) → checked_node path (kept_node o) ≡ checked_node path o
checked_kept path None = refl
checked_kept path (Some n) = by (node_in_range n) refl
  where
    by : (b : Bool) → node_in_range n ≡ b → checked_node path (if b then Some n else None) ≡ (if b && bytes_eq path (path_of n) then Some n else None)
    by true fits = rw fits refl
    by false fits = refl

-- what is guessed is kept where its path is the path
pub walk_kept : (path : List ℕ) (n : Node) → kept_node (node_of (parts path)) ≡ Some n → walk path ≡ (if bytes_eq path (path_of n) then Some n else None)
walk_kept path n is =
    sym (checked_kept path (node_of (parts path)))
    ∙ (ap (λ o. checked_node path o) is ∙ ap (λ b. if b && bytes_eq path (path_of n) then Some n else None) (kept_fits (node_of (parts path)) n is))

-- Fronts.

-- what stands behind the front decides
goes_on : (text front rest ys : List ℕ) → text ≡ front ++ rest → bytes_eq text (front ++ ys) ≡ bytes_eq rest ys
goes_on text front rest ys is =
    same_from_decides _ _
    (λ e. append_cancel_left front rest ys (sym is ∙ (bytes_eq-Decides text (front ++ ys)).0 e), λ e. (bytes_eq-Decides text (front ++ ys)).1 (is ∙ ap (λ (xs : List ℕ). front ++ xs) e))
    (bytes_eq-Decides rest ys)

-- it doesn't begin with the front
goes_wrong : (text front ys : List ℕ) → ((rest : List ℕ) → text ≢ front ++ rest) → bytes_eq text (front ++ ys) ≡ false
goes_wrong text front ys no_front = by (bytes_eq text (front ++ ys)) refl
  where
    by : (b : Bool) → bytes_eq text (front ++ ys) ≡ b → b ≡ false
    by false e = refl
    by true e = absurd (no_front ys ((bytes_eq-Decides text (front ++ ys)).0 e))

dir_front : (p : Proto) (n : ℕ) → path_of (node.Dir p n) ≡ path_of (node.Dir p n) ++ []
dir_front p n = sym (append-nil (path_of (node.Dir p n)))

file_front : (p : Proto) (n : ℕ) (f : FileName) → path_of (node.File p n f) ≡ path_of (node.Dir p n) ++ (codes "/" ++ file_name f)
file_front p n f = simp append_assoc refl

empty_is : (rest : List ℕ) → (length rest == 0) ≡ bytes_eq rest []
empty_is [] = refl
empty_is (b ∷ rest) = grind (arith, nat_tests)

pub is_dir : (path rest : List ℕ) (p : Proto) (n : ℕ) → path ≡ path_of (node.Dir p n) ++ rest → (length rest == 0) ≡ bytes_eq path (path_of (node.Dir p n))
is_dir path rest p n is = empty_is rest ∙ sym (ap (bytes_eq path) (dir_front p n) ∙ goes_on path (path_of (node.Dir p n)) rest [] is)

pub is_no_dir : (path : List ℕ) (p : Proto) (n : ℕ) → ((rest : List ℕ) → path ≢ path_of (node.Dir p n) ++ rest) → false ≡ bytes_eq path (path_of (node.Dir p n))
is_no_dir path p n lacks = sym (ap (bytes_eq path) (dir_front p n) ∙ goes_wrong path (path_of (node.Dir p n)) [] lacks)

pub is_file : (path rest : List ℕ) (p : Proto) (n : ℕ) (f : FileName) → path ≡ path_of (node.Dir p n) ++ rest → bytes_eq rest (codes "/" ++ file_name f) ≡ bytes_eq path (path_of (node.File p n f))
is_file path rest p n f is = sym (ap (bytes_eq path) (file_front p n f) ∙ goes_on path (path_of (node.Dir p n)) rest (codes "/" ++ file_name f) is)

pub is_no_file : (path : List ℕ) (p : Proto) (n : ℕ) (f : FileName) → ((rest : List ℕ) → path ≢ path_of (node.Dir p n) ++ rest) → false ≡ bytes_eq path (path_of (node.File p n f))
is_no_file path p n f lacks = sym (ap (bytes_eq path) (file_front p n f) ∙ goes_wrong path (path_of (node.Dir p n)) (codes "/" ++ file_name f) lacks)

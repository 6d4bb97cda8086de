-- A path that names a node is walked to it, and no other is.
use Rattle.std.proofs.Common.{◌≡◌, ℕ, ◌<◌, ◌==◌, zero, Bool, true, false, List, [], ◌∷◌, ◌++◌, Option, Some, None, refl, sym, subst, append_assoc, arith}
use Rattle.std.specs.Prelude.{decimal, codes, bytes_eq, ◌↔◌, if◌then◌else◌}
use Rattle.std.specs.List.{slice_split}
use Rattle.std.proofs.lemmas.Bool.{ltb-true, and_parts}
use Rattle.std.proofs.lemmas.Option.{none-some, same_Some}
use Rattle.std.proofs.lemmas.Slice.Eq.{bytes_eq-Decides}
use Rattle.net_base.specs.declared.address.Proto.{Proto}
use Rattle.net_base.specs.declared.address.Proto.TheVariants as proto
use Rattle.net_base.specs.declared.names.FileName.{FileName}
use Rattle.net_base.specs.declared.names.FileName.TheVariants as file
use Rattle.net_base.specs.declared.names.Node.{Node}
use Rattle.net_base.specs.declared.names.Node.TheVariants as node
use Rattle.net_base.specs.Paths.{proto_name, file_name, path_of, node_in_range, NamesNode, proto_named, file_named, node_of, is_named, checked_node, walk}
use Rattle.net_base.proofs.Tests.{same_text}
use Rattle.net_base.proofs.Texts.{IsWithout, decimal_without, decimal_without_letter, one_part, cut_at, value_of}

abbrev parts : List ℕ → List (List ℕ)
parts path = slice_split (λ b. b == 47) path

not_clone : (text : List ℕ) → IsWithout 99 text → bytes_eq text (codes "clone") ≡ false
not_clone [] all = refl
not_clone (b ∷ bs) all = rw (all zero 0 (omega arith)) refl

pub proto_back : (p : Proto) → proto_named (proto_name p) ≡ Some p
proto_back proto.Il = refl
proto_back proto.Udp = refl

file_back : (f : FileName) → (file_named (file_name f) ≡ Some f) × (parts (file_name f) ≡ file_name f ∷ [])
file_back file.Ctl = (refl, refl)
file_back file.Data = (refl, refl)
file_back file.Err = (refl, refl)
file_back file.Listen = (refl, refl)
file_back file.Local = (refl, refl)
file_back file.Remote = (refl, refl)
file_back file.Status = (refl, refl)

dir_back : (p : Proto) (n : ℕ) → n < 32 → node_of (codes "" ∷ codes "net" ∷ proto_name p ∷ decimal n ∷ []) ≡ Some (node.Dir p n)
dir_back p n low =
    rw (proto_back p) (rw (not_clone (decimal n) (decimal_without_letter n 99 (omega (arith, low)) (omega arith))) (rw (value_of n (omega (arith, low))) refl))

file_node_back : (p : Proto) (n : ℕ) (f : FileName) → n < 32 → node_of (codes "" ∷ codes "net" ∷ proto_name p ∷ decimal n ∷ file_name f ∷ []) ≡ Some (node.File p n f)
file_node_back p n f low = rw (proto_back p) (rw ((file_back f).0) (rw (value_of n (omega (arith, low))) refl))

number_part : (n : ℕ) → n < 32 → parts (decimal n) ≡ decimal n ∷ []
number_part n low = one_part 47 (decimal n) (decimal_without n 47 (omega (arith, low)) (omega arith))

file_parts : (n : ℕ) (f : FileName) → n < 32 → parts (decimal n ++ (47 ∷ file_name f)) ≡ decimal n ∷ file_name f ∷ []
file_parts n f low = cut_at 47 (decimal n) (file_name f) _ (decimal_without n 47 (omega (arith, low)) (omega arith)) ((file_back f).1)

node_back : (n : Node) → node_in_range n ≡ true → node_of (parts (path_of n)) ≡ Some n
node_back node.Root is = refl
node_back node.Cs is = refl
node_back (node.Proto proto.Il) is = refl
node_back (node.Proto proto.Udp) is = refl
node_back (node.Clone proto.Il) is = refl
node_back (node.Clone proto.Udp) is = refl
node_back (node.Dir proto.Il n) is = let low = ltb-true n 32 is in rw (number_part n low) (dir_back proto.Il n low)
node_back (node.Dir proto.Udp n) is = let low = ltb-true n 32 is in rw (number_part n low) (dir_back proto.Udp n low)
node_back (node.File proto.Il n f) is =
    let low = ltb-true n 32 is in
    let nested : path_of (node.File proto.Il n f) ≡ codes "/net/il/" ++ (decimal n ++ (47 ∷ file_name f)) = simp append_assoc refl in
    subst (λ (path : List ℕ). node_of (parts path) ≡ Some (node.File proto.Il n f)) (sym nested) (rw (file_parts n f low) (file_node_back proto.Il n f low))
node_back (node.File proto.Udp n f) is =
    let low = ltb-true n 32 is in
    let nested : path_of (node.File proto.Udp n f) ≡ codes "/net/udp/" ++ (decimal n ++ (47 ∷ file_name f)) = simp append_assoc refl in
    subst (λ (path : List ℕ). node_of (parts path) ≡ Some (node.File proto.Udp n f)) (sym nested) (rw (file_parts n f low) (file_node_back proto.Udp n f low))

named : (path : List ℕ) (n : Node) → NamesNode path n → walk path ≡ Some n
named path n (fits, is) = rw is (rw (node_back n fits) (rw fits (rw (same_text (path_of n)) refl)))

checked_is : (path : List ℕ) (o : Option Node) (n : Node) → checked_node path o ≡ Some n → NamesNode path n
checked_is path None n is = absurd (none-some n is)
checked_is path (Some m) n is = by (is_named path m) refl is
  where
    by : (b : Bool) → is_named path m ≡ b → (if b then Some m else None) ≡ Some n → NamesNode path n
    by false no_name none = absurd (none-some n none)
    by true name some =
        let both = and_parts _ _ name in
        subst (λ (k : Node). NamesNode path k) (same_Some m n some) (both.0, (bytes_eq-Decides path (path_of m)).0 both.1)

pub walks_exactly : (path : List ℕ) (n : Node) → NamesNode path n ↔ (walk path ≡ Some n)
walks_exactly path n = (named path n, checked_is path (node_of (parts path)) n)

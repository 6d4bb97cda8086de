-- What the first file of a bundle chooses.
use Rattle.std.proofs.Common.{◌≡◌, ℕ, ◌<◌, ◌-◌, List, [], ◌∷◌, length, take, get_or, Vec, refl, sym, ap, ◌∙◌, arith, append-nil}
use Rattle.std.specs.List.{flat_map}
use Rattle.net_base.specs.NdbBundle.{File, tuples_named, tuples_chosen, names_of, choosing, chosen}
use Rattle.ndb_reader.specs.declared.files.FileEnd.{FileEnd}
use Rattle.ndb_reader.specs.Filed.{files_ended, tuples_of}
use Rattle.ndb_reader.specs.Names.{names_seen}
use Rattle.ndb_reader.proofs.Filing.{Tuples}

-- the first file has the first tuples
local-tuples : (ends : List FileEnd) (names : List ℕ) (db : Tuples) (end : FileEnd) (local : File) (others : List File) → 0 < length ends → end ≡ get_or ends 0 end → files_ended 0 0 ends names db ≡ local ∷ others → local.tuples ≡ take end.tuple db
local-tuples [] names db end local others some is files = absurd (omega (arith, some))
local-tuples (e ∷ ends) names db end local others some is files =
    let none : e.tuple - 0 ≡ e.tuple = omega arith in
    ap (λ (fs : List File). first fs) (sym files) ∙ ap (λ (n : ℕ). take n db) none ∙ ap (λ (f : FileEnd). take f.tuple db) (sym is)
  where
    first : List File → Tuples
    first [] = []
    first (f ∷ fs) = f.tuples

choosing-same : (ends : List FileEnd) (names : List ℕ) (db : Tuples) (seen : List (List ℕ)) (end : FileEnd) (local : File) (others : List File) → 0 < length ends → end ≡ get_or ends 0 end → files_ended 0 0 ends names db ≡ local ∷ others → seen ≡ names_of (choosing (take end.tuple db)) → names_of (choosing local.tuples) ≡ seen
choosing-same ends names db seen end local others some is files named = ap (λ (ts : Tuples). names_of (choosing ts)) (local-tuples ends names db end local others some is files) ∙ sym named

-- no name is given
pub own-chosen : (ends : List FileEnd) (names : List ℕ) (db own : Tuples) (seen : List (List ℕ)) (end : FileEnd) (local : File) (others : List File) → 0 < length ends → end ≡ get_or ends 0 end → files_ended 0 0 ends names db ≡ local ∷ others
    → seen ≡ names_of (choosing (take end.tuple db)) → seen ≡ [] → own ≡ tuples_of (take 1 (files_ended 0 0 ends names db)) → own ≡ chosen local others
own-chosen ends names db own seen end local others some is files named none own_is =
    own_is ∙ ap (λ (fs : List File). tuples_of (take 1 fs)) files ∙ append-nil local.tuples
    ∙ sym (ap (tuples_chosen local others) (choosing-same ends names db seen end local others some is files named ∙ none))

-- some names are given
pub names-chosen : {Z : Type 0} (ends : List FileEnd) (names : List ℕ) (db all : Tuples) (keys : List (Vec ℕ Z)) (end : FileEnd) (local : File) (others : List File) → 0 < length ends → end ≡ get_or ends 0 end → files_ended 0 0 ends names db ≡ local ∷ others
    → names_seen keys ≡ names_of (choosing (take end.tuple db)) → (length keys ≡ 0 → ⊥) → all ≡ flat_map (tuples_named (files_ended 0 0 ends names db)) (names_seen keys) → all ≡ chosen local others
names-chosen {Z = Z} ends names db all keys end local others some is files named any all_is =
    all_is ∙ ap (λ (fs : List File). flat_map (tuples_named fs) (names_seen keys)) files
    ∙ by keys any
    ∙ sym (ap (tuples_chosen local others) (choosing-same ends names db (names_seen keys) end local others some is files named))
  where
    by : (ks : List (Vec ℕ Z)) → (length ks ≡ 0 → ⊥) → flat_map (tuples_named (local ∷ others)) (names_seen ks) ≡ tuples_chosen local others (names_seen ks)
    by [] any = absurd (any refl)
    by (k ∷ ks) any = refl

-- Files that stand one behind the other, by where they end: what is added behind them.
use Rattle.std.proofs.Common.{◌≡◌, ℕ, ◌-◌, ◌≤◌, ◌<◌, List, [], ◌∷◌, ◌++◌, length, drop, get_or, refl, sym, ap, subst, ◌∙◌, arith, append-nil, length-append}
use Rattle.std.specs.Prelude.{zero, suc, slice_range}
use Rattle.std.proofs.lemmas.List.{drop-append-le}
use Rattle.net_base.specs.Ndb.{NdbPair}
use Rattle.net_base.specs.NdbBundle.{File}
use Rattle.net_base.specs.Store.{Grown, tuple_ended}
use Rattle.net_base.proofs.Shared.{slice-more, slice-rest, drop-all}
use Rattle.ndb_reader.specs.declared.files.FileEnd.{FileEnd}
use Rattle.ndb_reader.specs.Filed.{files_ended, file_begins_at, tuple_at, last_name, last_tuple, FilesRise, tuple_of, Filed, filed_by, last_ended, file_begun}

abbrev pub Tuples : Type 0
Tuples = List (List (List NdbPair))

pub rise-starts : (name tuple : ℕ) (ends : List FileEnd) (bytes count : ℕ) → FilesRise name tuple ends bytes count → (name ≤ bytes) × (tuple ≤ count)
rise-starts name tuple [] bytes count rise = rise
rise-starts name tuple (end ∷ ends) bytes count rise =
    let behind = rise-starts end.name end.tuple ends bytes count rise.2 in
    (omega (arith, rise.0, behind.0), omega (arith, rise.1, behind.1))

pub rise-lasts : (name tuple : ℕ) (ends : List FileEnd) (bytes count : ℕ) → FilesRise name tuple ends bytes count → (last_name name ends ≤ bytes) × (last_tuple tuple ends ≤ count)
rise-lasts name tuple [] bytes count rise = rise
rise-lasts name tuple (end ∷ ends) bytes count rise = rise-lasts end.name end.tuple ends bytes count rise.2

pub rise-grown : (name tuple : ℕ) (ends : List FileEnd) (bytes count more others : ℕ) → bytes ≤ more → count ≤ others → FilesRise name tuple ends bytes count → FilesRise name tuple ends more others
rise-grown name tuple [] bytes count more others one two rise = (omega (arith, rise.0, one), omega (arith, rise.1, two))
rise-grown name tuple (end ∷ ends) bytes count more others one two rise = (rise.0, rise.1, rise-grown end.name end.tuple ends bytes count more others one two rise.2)

-- the end of a file where so many bytes and tuples end
abbrev pub end_at : ℕ → ℕ → FileEnd
end_at bytes count = record { name = bytes; tuple = count }

pub rise-push : (name tuple : ℕ) (ends : List FileEnd) (bytes count : ℕ) → FilesRise name tuple ends bytes count → FilesRise name tuple (ends ++ end_at bytes count ∷ []) bytes count
rise-push name tuple [] bytes count rise = (rise.0, rise.1, (omega arith, omega arith))
rise-push name tuple (end ∷ ends) bytes count rise = (rise.0, rise.1, rise-push end.name end.tuple ends bytes count rise.2)

pub last_name-push : (name : ℕ) (ends : List FileEnd) (end : FileEnd) → last_name name (ends ++ end ∷ []) ≡ end.name
last_name-push name [] end = refl
last_name-push name (e ∷ ends) end = last_name-push e.name ends end

pub last_tuple-push : (tuple : ℕ) (ends : List FileEnd) (end : FileEnd) → last_tuple tuple (ends ++ end ∷ []) ≡ end.tuple
last_tuple-push tuple [] end = refl
last_tuple-push tuple (e ∷ ends) end = last_tuple-push e.tuple ends end

abbrev pub file_at : List ℕ → Tuples → File
file_at name tuples = record { name = name; tuples = tuples }

pub files-tuples : (name tuple : ℕ) (ends : List FileEnd) (names : List ℕ) (tuples more : Tuples) → FilesRise name tuple ends (length names) (length tuples) → files_ended name tuple ends names (tuples ++ more) ≡ files_ended name tuple ends names tuples
files-tuples name tuple [] names tuples more rise = refl
files-tuples name tuple (end ∷ ends) names tuples more rise =
    ap (λ (ts : Tuples). file_at (slice_range names name end.name) ts ∷ files_ended end.name end.tuple ends names (tuples ++ more))
    (slice-more tuples more tuple end.tuple rise.1 (rise-starts end.name end.tuple ends (length names) (length tuples) rise.2).1)
    ∙ ap (λ (fs : List File). file_at (slice_range names name end.name) (slice_range tuples tuple end.tuple) ∷ fs) (files-tuples end.name end.tuple ends names tuples more rise.2)

pub files-names : (name tuple : ℕ) (ends : List FileEnd) (names more : List ℕ) (tuples : Tuples) → FilesRise name tuple ends (length names) (length tuples) → files_ended name tuple ends (names ++ more) tuples ≡ files_ended name tuple ends names tuples
files-names name tuple [] names more tuples rise = refl
files-names name tuple (end ∷ ends) names more tuples rise =
    ap (λ (n : List ℕ). file_at n (slice_range tuples tuple end.tuple) ∷ files_ended end.name end.tuple ends (names ++ more) tuples)
    (slice-more names more name end.name rise.0 (rise-starts end.name end.tuple ends (length names) (length tuples) rise.2).0)
    ∙ ap (λ (fs : List File). file_at (slice_range names name end.name) (slice_range tuples tuple end.tuple) ∷ fs) (files-names end.name end.tuple ends names more tuples rise.2)

pub files-push : (name tuple : ℕ) (ends : List FileEnd) (end : FileEnd) (names : List ℕ) (tuples : Tuples) → files_ended name tuple (ends ++ end ∷ []) names tuples ≡ files_ended name tuple ends names tuples ++ record { name = slice_range names (last_name name ends) end.name; tuples = slice_range tuples (last_tuple tuple ends) end.tuple } ∷ []
files-push name tuple [] end names tuples = refl
files-push name tuple (e ∷ ends) end names tuples =
    ap (λ (fs : List File). file_at (slice_range names name e.name) (slice_range tuples tuple e.tuple) ∷ fs) (files-push e.name e.tuple ends end names tuples)

-- Which file has a number.

name-is : (start : ℕ) (ends : List FileEnd) (i : ℕ) (d : FileEnd) → i < length ends → file_begins_at start ends (suc i) ≡ (get_or ends i d).name
name-is start [] i d h = absurd (omega (arith, h))
name-is start (end ∷ []) zero d h = refl
name-is start (end ∷ e ∷ ends) zero d h = refl
name-is start (end ∷ ends) (suc i) d h = name-is end.name ends i d (omega (arith, h))

tuple-is : (start : ℕ) (ends : List FileEnd) (i : ℕ) (d : FileEnd) → i < length ends → tuple_at start ends (suc i) ≡ (get_or ends i d).tuple
tuple-is start [] i d h = absurd (omega (arith, h))
tuple-is start (end ∷ []) zero d h = refl
tuple-is start (end ∷ e ∷ ends) zero d h = refl
tuple-is start (end ∷ ends) (suc i) d h = tuple-is end.tuple ends i d (omega (arith, h))

pub name_begins : (ends : List FileEnd) (number : ℕ) (d : FileEnd) → (number ≡ 0 → ⊥) → number ≤ length ends → (get_or ends (number - 1) d).name ≡ file_begins_at 0 ends number
name_begins ends zero d some within = absurd (some refl)
name_begins ends (suc i) d some within =
    let e : suc i - 1 ≡ i = omega arith in
    ap (λ (k : ℕ). (get_or ends k d).name) e ∙ sym (name-is 0 ends i d (omega (arith, within)))

pub tuple_begins : (ends : List FileEnd) (number : ℕ) (d : FileEnd) → (number ≡ 0 → ⊥) → number ≤ length ends → (get_or ends (number - 1) d).tuple ≡ tuple_at 0 ends number
tuple_begins ends zero d some within = absurd (some refl)
tuple_begins ends (suc i) d some within =
    let e : suc i - 1 ≡ i = omega arith in
    ap (λ (k : ℕ). (get_or ends k d).tuple) e ∙ sym (tuple-is 0 ends i d (omega (arith, within)))

pub files-length : (name tuple : ℕ) (ends : List FileEnd) (names : List ℕ) (tuples : Tuples) → length (files_ended name tuple ends names tuples) ≡ length ends
files-length name tuple [] names tuples = refl
files-length name tuple (end ∷ ends) names tuples = ap suc (files-length end.name end.tuple ends names tuples)

-- the file with this number, by the end that it has
pub file-found : (name tuple : ℕ) (ends : List FileEnd) (names : List ℕ) (tuples : Tuples) (i : ℕ) (end : FileEnd) (d : File) → i < length ends → end ≡ get_or ends i end
    → file_at (slice_range names (file_begins_at name ends i) end.name) (slice_range tuples (tuple_at tuple ends i) end.tuple) ≡ get_or (files_ended name tuple ends names tuples) i d
file-found name tuple [] names tuples i end d h is = absurd (omega (arith, h))
file-found name tuple (e ∷ ends) names tuples zero end d h is =
    ap (λ (f : FileEnd). file_at (slice_range names name f.name) (slice_range tuples tuple f.tuple)) is
file-found name tuple (e ∷ ends) names tuples (suc i) end d h is = file-found e.name e.tuple ends names tuples i end d (omega (arith, h)) is

pub file-within : (name tuple : ℕ) (ends : List FileEnd) (bytes count i : ℕ) (end : FileEnd) → FilesRise name tuple ends bytes count → i < length ends → end ≡ get_or ends i end
    → (file_begins_at name ends i ≤ end.name) × (end.name ≤ bytes) × (tuple_at tuple ends i ≤ end.tuple) × (end.tuple ≤ count)
file-within name tuple [] bytes count i end rise h is = absurd (omega (arith, h))
file-within name tuple (e ∷ ends) bytes count zero end rise h is =
    let behind = rise-starts e.name e.tuple ends bytes count rise.2 in
    let same : (end.name ≡ e.name) × (end.tuple ≡ e.tuple) = (ap (λ (f : FileEnd). f.name) is, ap (λ (f : FileEnd). f.tuple) is) in
    (omega (arith, rise.0, same.0), omega (arith, behind.0, same.0), omega (arith, rise.1, same.1), omega (arith, behind.1, same.1))
file-within name tuple (e ∷ ends) bytes count (suc i) end rise h is = file-within e.name e.tuple ends bytes count i end rise.2 (omega (arith, h)) is

-- the first file's tuples are within them all
pub first-within : (ends : List FileEnd) (bytes count : ℕ) (end : FileEnd) → 0 < length ends → FilesRise 0 0 ends bytes count → end ≡ get_or ends 0 end → end.tuple ≤ count
first-within ends bytes count end some rise is = (file-within 0 0 ends bytes count 0 end rise some is).3

-- What is shown.

-- the last tuple ends
pub tuple-filed : (ends : List FileEnd) (names : List ℕ) (g new : Grown) → FilesRise 0 0 ends (length names) (length g.tuples) → (length g.lines ≡ 0 → ⊥) → new ≡ tuple_ended g → filed_by ends names new ≡ last_ended (filed_by ends names g)
tuple-filed ends names g new rise some is = ap (λ (n : Grown). filed_by ends names n) is ∙ by g.lines some
  where
    by : (lines : List (List NdbPair)) → (length lines ≡ 0 → ⊥) → filed_by ends names (record { tuples = g.tuples ++ lines ∷ []; lines = []; pairs = g.pairs }) ≡ last_ended (filed_by ends names (record { tuples = g.tuples; lines = lines; pairs = g.pairs }))
    by [] some = absurd (some refl)
    by (line ∷ lines) some =
        ap (λ (fs : List File). record { closed = fs; name = drop (last_name 0 ends) names; whole = drop (last_tuple 0 ends) (g.tuples ++ (line ∷ lines) ∷ []); last = []; pairs = g.pairs }) (files-tuples 0 0 ends names g.tuples ((line ∷ lines) ∷ []) rise)
        ∙ ap (λ (ts : Tuples). record { closed = files_ended 0 0 ends names g.tuples; name = drop (last_name 0 ends) names; whole = ts; last = []; pairs = g.pairs }) (drop-append-le (last_tuple 0 ends) g.tuples ((line ∷ lines) ∷ []) (rise-lasts 0 0 ends (length names) (length g.tuples) rise).1)

pub tuple-rise : (ends : List FileEnd) (names : List ℕ) (g new : Grown) → FilesRise 0 0 ends (length names) (length g.tuples) → new ≡ tuple_ended g → FilesRise 0 0 ends (length names) (length new.tuples)
tuple-rise ends names g new rise is =
    rise-grown 0 0 ends (length names) (length g.tuples) (length names) (length new.tuples) (omega arith) (omega (arith, ap (λ (n : Grown). length n.tuples) is, length-append g.tuples (g.lines ∷ []))) rise

-- the file that grows ends
pub file-filed : (ends new : List FileEnd) (names : List ℕ) (g : Grown) (bytes count : ℕ) → g.lines ≡ [] → bytes ≡ length names → count ≡ length g.tuples → new ≡ ends ++ end_at bytes count ∷ [] → filed_by new names g ≡ file_begun [] (filed_by ends names g)
file-filed ends new names g bytes count none eb ec is =
    let end = end_at (length names) (length g.tuples) in
    let ends_are : new ≡ ends ++ end ∷ [] = is ∙ ap (λ (b : ℕ). ends ++ end_at b count ∷ []) eb ∙ ap (λ (c : ℕ). ends ++ end_at (length names) c ∷ []) ec in
    let name : List ℕ = drop (last_name 0 ends) names in
    let whole : Tuples = drop (last_tuple 0 ends) g.tuples in
    let by : List File → List ℕ → Tuples → List (List NdbPair) → Filed = λ closed n w last. record { closed = closed; name = n; whole = w; last = last; pairs = g.pairs } in
    ap (λ (es : List FileEnd). filed_by es names g) ends_are
    ∙ ap (λ (fs : List File). by fs (drop (last_name 0 (ends ++ end ∷ [])) names) (drop (last_tuple 0 (ends ++ end ∷ [])) g.tuples) g.lines)
    (files-push 0 0 ends end names g.tuples
    ∙ ap (λ (n : List ℕ). files_ended 0 0 ends names g.tuples ++ file_at n (slice_range g.tuples (last_tuple 0 ends) (length g.tuples)) ∷ []) (slice-rest names (last_name 0 ends))
    ∙ ap (λ (ts : Tuples). files_ended 0 0 ends names g.tuples ++ file_at name ts ∷ []) (slice-rest g.tuples (last_tuple 0 ends) ∙ sym (append-nil whole))
    ∙ ap (λ (ls : List (List NdbPair)). files_ended 0 0 ends names g.tuples ++ file_at name (whole ++ tuple_of ls) ∷ []) (sym none))
    ∙ ap (λ (n : List ℕ). by (files_ended 0 0 ends names g.tuples ++ file_at name (whole ++ tuple_of g.lines) ∷ []) n (drop (last_tuple 0 (ends ++ end ∷ [])) g.tuples) g.lines)
    (ap (λ (k : ℕ). drop k names) (last_name-push 0 ends end) ∙ drop-all names)
    ∙ ap (λ (w : Tuples). by (files_ended 0 0 ends names g.tuples ++ file_at name (whole ++ tuple_of g.lines) ∷ []) [] w g.lines)
    (ap (λ (k : ℕ). drop k g.tuples) (last_tuple-push 0 ends end) ∙ drop-all g.tuples)
    ∙ ap (λ (ls : List (List NdbPair)). by (files_ended 0 0 ends names g.tuples ++ file_at name (whole ++ tuple_of g.lines) ∷ []) [] [] ls) none

pub file-rise : (ends new : List FileEnd) (bytes count bytes' count' : ℕ) → FilesRise 0 0 ends bytes' count' → bytes ≡ bytes' → count ≡ count' → new ≡ ends ++ end_at bytes count ∷ [] → FilesRise 0 0 new bytes' count'
file-rise ends new bytes count bytes' count' rise eb ec is =
    subst (λ (es : List FileEnd). FilesRise 0 0 es bytes' count') (sym (is ∙ ap (λ (b : ℕ). ends ++ end_at b count ∷ []) eb ∙ ap (λ (c : ℕ). ends ++ end_at bytes' c ∷ []) ec))
    (rise-push 0 0 ends bytes' count' rise)

-- the file that grows gets a name
pub name-filed : (ends : List FileEnd) (names new name : List ℕ) (g : Grown) (f : Filed) → FilesRise 0 0 ends (length names) (length g.tuples) → new ≡ names ++ name → filed_by ends names g ≡ file_begun [] (last_ended f) → filed_by ends new g ≡ file_begun name f
name-filed ends names new name g f rise is so =
    let with_name : Filed → Filed = λ h. record { closed = h.closed; name = h.name ++ name; whole = h.whole; last = h.last; pairs = h.pairs } in
    ap (λ (ns : List ℕ). filed_by ends ns g) is
    ∙ ap (λ (fs : List File). record { closed = fs; name = drop (last_name 0 ends) (names ++ name); whole = drop (last_tuple 0 ends) g.tuples; last = g.lines; pairs = g.pairs }) (files-names 0 0 ends names name g.tuples rise)
    ∙ ap (λ (n : List ℕ). record { closed = files_ended 0 0 ends names g.tuples; name = n; whole = drop (last_tuple 0 ends) g.tuples; last = g.lines; pairs = g.pairs }) (drop-append-le (last_name 0 ends) names name (rise-lasts 0 0 ends (length names) (length g.tuples) rise).0)
    ∙ ap with_name so
    ∙ ap (λ (ts : Tuples). record { closed = f.closed ++ record { name = f.name; tuples = ts } ∷ []; name = name; whole = []; last = []; pairs = f.pairs }) (append-nil (f.whole ++ tuple_of f.last))

pub name-rise : (ends : List FileEnd) (names new name : List ℕ) (count : ℕ) → FilesRise 0 0 ends (length names) count → new ≡ names ++ name → FilesRise 0 0 ends (length new) count
name-rise ends names new name count rise is =
    rise-grown 0 0 ends (length names) count (length new) count (omega (arith, ap length is, length-append names name)) (omega arith) rise

-- The canonical lines of a world say it.
use Rattle.std.proofs.Common.{◌≡◌, ℕ, ◌+◌, ◌==◌, Bool, true, false, not, ◌&&◌, ◌||◌, List, [], ◌∷◌, ◌++◌, map, get_or, refl, sym, ap, subst, ◌∙◌, Some, None, append-nil, append_assoc}
use Rattle.std.specs.Prelude.{bytes_eq, codes, decimal, filter_map, flat_map, if◌then◌else◌}
use Rattle.std.specs.List.{cons_option, list_any}
use Rattle.std.proofs.lemmas.Bool.{and_parts, eqb-true, or_parts}
use Rattle.std.proofs.lemmas.Grind.{flat_map-append}
use Rattle.std.proofs.lemmas.List.{map-append}
use Rattle.std.proofs.lemmas.List.Elements.{filter_map-append}
use Rattle.std.proofs.lemmas.List.Folds.{list_any-append}
use Rattle.net_base.specs.declared.world.FateRange.{FateRange}
use Rattle.net_base.specs.declared.world.MediumSpec.{MediumSpec}
use Rattle.net_base.specs.World.{all_apart, are_media, is_medium}
use Rattle.world_text.specs.declared.line.Frames.{Frames}
use Rattle.world_text.specs.declared.line.Frames.TheVariants as frames
use Rattle.world_text.specs.declared.line.MediumLine.{MediumLine}
use Rattle.world_text.specs.declared.line.MediumLine.TheVariants as medium
use Rattle.world_text.specs.declared.line.WorldLine.TheVariants as line
use Rattle.world_text.specs.WorldLines.{range_of}
use Rattle.world_text.specs.WorldSpelling.{EachBehind, IsBehindMedium, Rates, SaysMedium, fate_on, fate_word, line_of_fate, lines_of_medium, lines_of_rates, media_named, media_said, medium_names, medium_said, name_said, no_rates, rated_name, rates_on, rates_said, spaced_line, line_spelling}
use Rattle.world_text.proofs.WorldLists.{any-insert, apart-insert, each-none, each-push, false-of-not, same-bytes}
use Rattle.world_text.proofs.WorldMedia.{named-front, names}
use Rattle.world_text.proofs.WorldLed.{of_media}
use Rattle.net_base.proofs.Shared.{same_text}

-- Media.

abbrev frames_of_range : FateRange → Frames
frames_of_range f = if f.first == f.last then frames.One f.first else frames.Range f.first f.last

abbrev fate_line : List ℕ → FateRange → MediumLine
fate_line called f = medium.Fate called (frames_of_range f) f.fate

abbrev fate_lines : List ℕ → List FateRange → List MediumLine
fate_lines called fs = map (fate_line called) fs

abbrev is_still : MediumSpec → Bool
is_still s = (s.loss == 0) && ((s.twice == 0) && (s.later == 0))

abbrev rates_lines : MediumSpec → List MediumLine
rates_lines s = if is_still s then [] else medium.Rates s.name s.loss s.twice s.later ∷ []

abbrev medium_lines : MediumSpec → List MediumLine
medium_lines s = medium.Medium s.name s.mtu ∷ (rates_lines s ++ fate_lines s.name s.fates)

abbrev pub media_lines : List MediumSpec → List MediumLine
media_lines ms = flat_map medium_lines ms

-- their spelling

spelled-fates : (called : List ℕ) (fs : List FateRange) → map line_spelling (of_media (fate_lines called fs)) ≡ map (line_of_fate called) fs
spelled-fates called [] = refl
spelled-fates called (f ∷ fs) = by (f.first == f.last) (spelled-fates called fs)
  where
    by : (b : Bool) → map line_spelling (of_media (fate_lines called fs)) ≡ map (line_of_fate called) fs
        → line_spelling (line.OfMedium (medium.Fate called (if b then frames.One f.first else frames.Range f.first f.last) f.fate)) ∷ map line_spelling (of_media (fate_lines called fs))
        ≡ spaced_line (codes "fate" ∷ called ∷ (if b then decimal f.first else decimal f.first ++ (codes "-" ++ decimal f.last)) ∷ fate_word f.fate ∷ []) ∷ map (line_of_fate called) fs
    by true h = ap (λ ls. line_spelling (line.OfMedium (medium.Fate called (frames.One f.first) f.fate)) ∷ ls) h
    by false h = ap (λ ls. line_spelling (line.OfMedium (medium.Fate called (frames.Range f.first f.last) f.fate)) ∷ ls) h

spelled-rates : (s : MediumSpec) → map line_spelling (of_media (rates_lines s)) ≡ lines_of_rates s
spelled-rates s = by (is_still s)
  where
    by : (b : Bool) → map line_spelling (of_media (if b then [] else medium.Rates s.name s.loss s.twice s.later ∷ []))
        ≡ (if b then [] else spaced_line (codes "rates" ∷ s.name ∷ decimal s.loss ∷ decimal s.twice ∷ decimal s.later ∷ []) ∷ [])
    by true = refl
    by false = refl

spelled-append : (xs ys : List MediumLine) → map line_spelling (of_media (xs ++ ys)) ≡ map line_spelling (of_media xs) ++ map line_spelling (of_media ys)
spelled-append xs ys = ap (map line_spelling) (map-append (λ (l : MediumLine). line.OfMedium l) xs ys) ∙ map-append line_spelling (of_media xs) (of_media ys)

spelled-medium : (s : MediumSpec) → map line_spelling (of_media (medium_lines s)) ≡ lines_of_medium s
spelled-medium s =
    ap (λ ls. line_spelling (line.OfMedium (medium.Medium s.name s.mtu)) ∷ ls)
    (spelled-append (rates_lines s) (fate_lines s.name s.fates)
    ∙ (ap (λ ls. ls ++ map line_spelling (of_media (fate_lines s.name s.fates))) (spelled-rates s) ∙ ap (λ ls. lines_of_rates s ++ ls) (spelled-fates s.name s.fates)))

spelled-media : (ms : List MediumSpec) → map line_spelling (of_media (media_lines ms)) ≡ flat_map lines_of_medium ms
spelled-media [] = refl
spelled-media (s ∷ ms) =
    spelled-append (medium_lines s) (media_lines ms)
    ∙ (ap (λ ls. ls ++ map line_spelling (of_media (media_lines ms))) (spelled-medium s) ∙ ap (λ ls. lines_of_medium s ++ ls) (spelled-media ms))

-- what they say

range-same : (f : FateRange) → range_of (frames_of_range f) f.fate ≡ f
range-same f = by (f.first == f.last) refl
  where
    by : (b : Bool) → (f.first == f.last) ≡ b → range_of (if b then frames.One f.first else frames.Range f.first f.last) f.fate ≡ f
    by true is = ap (λ n. record { first = f.first; last = n; fate = f.fate }) (eqb-true f.first f.last is)
    by false is = refl

fates-of-fates : (called name : List ℕ) (fs : List FateRange) → filter_map (fate_on called) (fate_lines name fs) ≡ (if bytes_eq called name then fs else [])
fates-of-fates called name [] = by (bytes_eq called name)
  where
    by : (b : Bool) → ◌≡◌ {A = List FateRange} [] (if b then [] else [])
    by true = refl
    by false = refl
fates-of-fates called name (f ∷ fs) = by (bytes_eq called name) (fates-of-fates called name fs)
  where
    by : (b : Bool) → filter_map (fate_on called) (fate_lines name fs) ≡ (if b then fs else [])
        → cons_option (if b then Some (range_of (frames_of_range f) f.fate) else None) (filter_map (fate_on called) (fate_lines name fs)) ≡ (if b then f ∷ fs else [])
    by true h = ap (λ g. g ∷ filter_map (fate_on called) (fate_lines name fs)) (range-same f) ∙ ap (λ gs. f ∷ gs) h
    by false h = h

fates-of-rates : (called : List ℕ) (s : MediumSpec) → filter_map (fate_on called) (rates_lines s) ≡ []
fates-of-rates called s = by (is_still s)
  where
    by : (b : Bool) → filter_map (fate_on called) (if b then [] else medium.Rates s.name s.loss s.twice s.later ∷ []) ≡ []
    by true = refl
    by false = refl

fates-of-medium : (called : List ℕ) (s : MediumSpec) → filter_map (fate_on called) (medium_lines s) ≡ (if bytes_eq called s.name then s.fates else [])
fates-of-medium called s =
    filter_map-append (fate_on called) (rates_lines s) (fate_lines s.name s.fates)
    ∙ (ap (λ fs. fs ++ filter_map (fate_on called) (fate_lines s.name s.fates)) (fates-of-rates called s) ∙ fates-of-fates called s.name s.fates)

rates-of-fates : (called name : List ℕ) (fs : List FateRange) → filter_map (rates_on called) (fate_lines name fs) ≡ []
rates-of-fates called name [] = refl
rates-of-fates called name (f ∷ fs) = rates-of-fates called name fs

-- the lines of a medium with another name say no rates
other-rates : (called : List ℕ) (s : MediumSpec) → bytes_eq called s.name ≡ false → filter_map (rates_on called) (medium_lines s) ≡ []
other-rates called s other =
    filter_map-append (rates_on called) (rates_lines s) (fate_lines s.name s.fates)
    ∙ (ap (λ rs. filter_map (rates_on called) (rates_lines s) ++ rs) (rates-of-fates called s.name s.fates)
    ∙ (append-nil (filter_map (rates_on called) (rates_lines s)) ∙ by (is_still s)))
  where
    by : (b : Bool) → filter_map (rates_on called) (if b then [] else medium.Rates s.name s.loss s.twice s.later ∷ []) ≡ []
    by true = refl
    by false = ap (λ v. cons_option (if v then Some (record { loss = s.loss; twice = s.twice; later = s.later }) else None) []) other

-- what the lines say behind which only other names stand
abbrev rates_then : MediumSpec → List Rates → List Rates
rates_then s rest = if is_still s then rest else record { loss = s.loss; twice = s.twice; later = s.later } ∷ rest

own-rates : (s : MediumSpec) (rest : List Rates) → filter_map (rates_on s.name) (medium_lines s) ++ rest ≡ rates_then s rest
own-rates s rest =
    ap (λ rs. rs ++ rest)
    (filter_map-append (rates_on s.name) (rates_lines s) (fate_lines s.name s.fates)
    ∙ (ap (λ rs. filter_map (rates_on s.name) (rates_lines s) ++ rs) (rates-of-fates s.name s.name s.fates) ∙ append-nil (filter_map (rates_on s.name) (rates_lines s))))
    ∙ by (is_still s)
  where
    by : (b : Bool) → filter_map (rates_on s.name) (if b then [] else medium.Rates s.name s.loss s.twice s.later ∷ []) ++ rest
        ≡ (if b then rest else record { loss = s.loss; twice = s.twice; later = s.later } ∷ rest)
    by true = refl
    by false = ap (λ v. cons_option (if v then Some (record { loss = s.loss; twice = s.twice; later = s.later }) else None) [] ++ rest) (same_text s.name)

-- lines of media with other names
none-named : (called : List ℕ) (ms : List MediumSpec) → list_any (bytes_eq called) (medium_names ms) ≡ false
    → (filter_map (fate_on called) (media_lines ms) ≡ []) × (filter_map (rates_on called) (media_lines ms) ≡ [])
none-named called [] none = (refl, refl)
none-named called (s ∷ ms) none =
    let parts = or_parts (bytes_eq called s.name) (list_any (bytes_eq called) (medium_names ms)) none in
    let later = none-named called ms parts.1 in (
      filter_map-append (fate_on called) (medium_lines s) (media_lines ms)
          ∙ (ap (λ fs. fs ++ filter_map (fate_on called) (media_lines ms)) (fates-of-medium called s ∙ ap (λ v. if v then s.fates else []) parts.0) ∙ later.0),
      filter_map-append (rates_on called) (medium_lines s) (media_lines ms)
          ∙ (ap (λ rs. rs ++ filter_map (rates_on called) (media_lines ms)) (other-rates called s parts.0) ∙ later.1),
    )

-- a medium among others with other names
said-there : (before : List MediumSpec) (s : MediumSpec) (rest : List MediumSpec) → list_any (bytes_eq s.name) (medium_names before) ≡ false → list_any (bytes_eq s.name) (medium_names rest) ≡ false
    → (filter_map (fate_on s.name) (media_lines (before ++ s ∷ rest)) ≡ s.fates) × (filter_map (rates_on s.name) (media_lines (before ++ s ∷ rest)) ≡ rates_then s [])
said-there before s rest front back =
    let split : media_lines (before ++ s ∷ rest) ≡ media_lines before ++ (medium_lines s ++ media_lines rest) = flat_map-append medium_lines before (s ∷ rest) in
    let f = none-named s.name before front in
    let b = none-named s.name rest back in (
      ap (filter_map (fate_on s.name)) split
          ∙ (filter_map-append (fate_on s.name) (media_lines before) (medium_lines s ++ media_lines rest)
          ∙ (ap (λ fs. fs ++ filter_map (fate_on s.name) (medium_lines s ++ media_lines rest)) f.0
          ∙ (filter_map-append (fate_on s.name) (medium_lines s) (media_lines rest)
          ∙ (ap (λ fs. fs ++ filter_map (fate_on s.name) (media_lines rest)) (fates-of-medium s.name s ∙ ap (λ v. if v then s.fates else []) (same_text s.name))
          ∙ (ap (λ fs. s.fates ++ fs) b.0 ∙ append-nil s.fates))))),
      ap (filter_map (rates_on s.name)) split
          ∙ (filter_map-append (rates_on s.name) (media_lines before) (medium_lines s ++ media_lines rest)
          ∙ (ap (λ rs. rs ++ filter_map (rates_on s.name) (medium_lines s ++ media_lines rest)) f.1
          ∙ (filter_map-append (rates_on s.name) (medium_lines s) (media_lines rest)
          ∙ (ap (λ rs. filter_map (rates_on s.name) (medium_lines s) ++ rs) b.1 ∙ own-rates s [])))),
    )

-- rates that aren't written are 0
still-rates : (s : MediumSpec) → get_or (rates_then s []) 0 no_rates ≡ record { loss = s.loss; twice = s.twice; later = s.later }
still-rates s = by (is_still s) refl
  where
    by : (b : Bool) → is_still s ≡ b → get_or (if b then [] else record { loss = s.loss; twice = s.twice; later = s.later } ∷ []) 0 no_rates ≡ record { loss = s.loss; twice = s.twice; later = s.later }
    by false is = refl
    by true is =
        let first = and_parts (s.loss == 0) ((s.twice == 0) && (s.later == 0)) is in
        let second = and_parts (s.twice == 0) (s.later == 0) first.1 in
        sym (ap (λ n. record { loss = n; twice = s.twice; later = s.later }) (eqb-true s.loss 0 first.0)
        ∙ (ap (λ n. record { loss = 0; twice = n; later = s.later }) (eqb-true s.twice 0 second.0) ∙ ap (λ n. record { loss = 0; twice = 0; later = n }) (eqb-true s.later 0 second.1)))

abbrev medium_with : ℕ → List ℕ → ℕ → Rates → List FateRange → MediumSpec
medium_with n called mtu r fs = record { number = n; name = called; mtu = mtu; loss = r.loss; twice = r.twice; later = r.later; fates = fs }

medium-same : (all : List MediumLine) (n : ℕ) (s : MediumSpec) → s.number ≡ n → filter_map (fate_on s.name) all ≡ s.fates → filter_map (rates_on s.name) all ≡ rates_then s [] → medium_said all n s.name s.mtu ≡ s
medium-same all n s number fates rates =
    ap (λ fs. medium_with n s.name s.mtu (rates_said s.name all) fs) fates
    ∙ (ap (λ r. medium_with n s.name s.mtu r s.fates) (ap (λ rs. get_or rs 0 no_rates) rates ∙ still-rates s)
    ∙ ap (λ k. medium_with k s.name s.mtu (record { loss = s.loss; twice = s.twice; later = s.later }) s.fates) (sym number))

fates-quiet : (all : List MediumLine) (n : ℕ) (called : List ℕ) (fs : List FateRange) (rest : List MediumLine) → media_named all n (fate_lines called fs ++ rest) ≡ media_named all n rest
fates-quiet all n called [] rest = refl
fates-quiet all n called (f ∷ fs) rest = fates-quiet all n called fs rest

rates-quiet : (all : List MediumLine) (n : ℕ) (s : MediumSpec) (rest : List MediumLine) → media_named all n (rates_lines s ++ rest) ≡ media_named all n rest
rates-quiet all n s rest = by (is_still s)
  where
    by : (b : Bool) → media_named all n ((if b then [] else medium.Rates s.name s.loss s.twice s.later ∷ []) ++ rest) ≡ media_named all n rest
    by true = refl
    by false = refl

-- the lines of media name each of them
named-lines : (all : List MediumLine) (n : ℕ) (s : MediumSpec) (rest : List MediumLine) → media_named all n (medium_lines s ++ rest) ≡ medium_said all n s.name s.mtu ∷ media_named all (n + 1) rest
named-lines all n s rest =
    ap (λ ss. medium_said all n s.name s.mtu ∷ ss)
    (ap (media_named all (n + 1)) (append_assoc (rates_lines s) (fate_lines s.name s.fates) rest)
    ∙ (rates-quiet all (n + 1) s (fate_lines s.name s.fates ++ rest) ∙ fates-quiet all (n + 1) s.name s.fates rest))

media-same : (all : List MediumLine) (n : ℕ) (before rest : List MediumSpec) → all ≡ media_lines (before ++ rest) → are_media n rest ≡ true → all_apart bytes_eq (medium_names (before ++ rest)) ≡ true
    → media_named all n (media_lines rest) ≡ rest
media-same all n before [] e fit apart = refl
media-same all n before (s ∷ rest) e fit apart =
    let parts = and_parts (is_medium n s) (are_media (n + 1) rest) fit in
    let number = eqb-true s.number n (and_parts (s.number == n) _ parts.0).0 in
    let split : all_apart bytes_eq (medium_names before ++ s.name ∷ medium_names rest) ≡ true = ap (all_apart bytes_eq) (sym (map-append (λ (m : MediumSpec). m.name) before (s ∷ rest))) ∙ apart in
    let others = and_parts (not (list_any (bytes_eq s.name) (medium_names before ++ medium_names rest))) _ (sym (apart-insert bytes_eq same-bytes (medium_names before) s.name (medium_names rest)) ∙ split) in
    let none = or_parts (list_any (bytes_eq s.name) (medium_names before)) (list_any (bytes_eq s.name) (medium_names rest))
    (sym (list_any-append (bytes_eq s.name) (medium_names before) (medium_names rest)) ∙ false-of-not _ others.0) in
    let said = said-there before s rest none.0 none.1 in
    let same : (before ++ s ∷ []) ++ rest ≡ before ++ s ∷ rest = append_assoc before (s ∷ []) rest in
    named-lines all n s (media_lines rest)
    ∙ (ap (λ m. m ∷ media_named all (n + 1) (media_lines rest)) (medium-same all n s number (ap (filter_map (fate_on s.name)) e ∙ said.0) (ap (filter_map (rates_on s.name)) e ∙ said.1))
    ∙ ap (λ ss. s ∷ ss) (media-same all (n + 1) (before ++ s ∷ []) rest (e ∙ ap media_lines (sym same)) parts.1 (ap (λ ms. all_apart bytes_eq (medium_names ms)) same ∙ apart)))

-- in their order

fates-behind : (called : List ℕ) (lines : List MediumLine) (fs : List FateRange) → EachBehind IsBehindMedium lines → SaysMedium called lines → EachBehind IsBehindMedium (lines ++ fate_lines called fs)
fates-behind called lines [] each says = subst (EachBehind IsBehindMedium) (sym (append-nil lines)) each
fates-behind called lines (f ∷ fs) each says =
    subst (EachBehind IsBehindMedium) (append_assoc lines (fate_line called f ∷ []) (fate_lines called fs))
    (fates-behind called (lines ++ fate_line called f ∷ []) fs (each-push IsBehindMedium lines (fate_line called f) each says)
    (named-front called (lines ++ fate_line called f ∷ []) lines (fate_line called f ∷ []) refl says))

rates-behind : (s : MediumSpec) (lines : List MediumLine) → EachBehind IsBehindMedium lines → SaysMedium s.name lines → list_any (bytes_eq s.name) (filter_map rated_name lines) ≡ false
    → EachBehind IsBehindMedium (lines ++ rates_lines s) × SaysMedium s.name (lines ++ rates_lines s)
rates-behind s lines each says once = by (is_still s)
  where
    by : (b : Bool) → EachBehind IsBehindMedium (lines ++ (if b then [] else medium.Rates s.name s.loss s.twice s.later ∷ []))
        × SaysMedium s.name (lines ++ (if b then [] else medium.Rates s.name s.loss s.twice s.later ∷ []))
    by true = (subst (EachBehind IsBehindMedium) (sym (append-nil lines)) each, named-front s.name (lines ++ []) lines [] refl says)
    by false = (
      each-push IsBehindMedium lines (medium.Rates s.name s.loss s.twice s.later) each (says, once),
      named-front s.name (lines ++ medium.Rates s.name s.loss s.twice s.later ∷ []) lines (medium.Rates s.name s.loss s.twice s.later ∷ []) refl says,
    )

-- names of rates are names of media
rated-named : (called : List ℕ) (ms : List MediumSpec) → list_any (bytes_eq called) (medium_names ms) ≡ false → list_any (bytes_eq called) (filter_map rated_name (media_lines ms)) ≡ false
rated-named called [] none = refl
rated-named called (s ∷ ms) none =
    let parts = or_parts (bytes_eq called s.name) (list_any (bytes_eq called) (medium_names ms)) none in
    ap (list_any (bytes_eq called)) (filter_map-append rated_name (medium_lines s) (media_lines ms))
    ∙ (list_any-append (bytes_eq called) (filter_map rated_name (medium_lines s)) (filter_map rated_name (media_lines ms))
    ∙ (ap (λ b. b || list_any (bytes_eq called) (filter_map rated_name (media_lines ms))) (own s parts.0) ∙ rated-named called ms parts.1))
  where
    of_fates : (name : List ℕ) (fs : List FateRange) → filter_map rated_name (fate_lines name fs) ≡ []
    of_fates name [] = refl
    of_fates name (f ∷ fs) = of_fates name fs

    of_rates : (m : MediumSpec) → bytes_eq called m.name ≡ false → list_any (bytes_eq called) (filter_map rated_name (rates_lines m)) ≡ false
    of_rates m other = by (is_still m)
      where
        by : (b : Bool) → list_any (bytes_eq called) (filter_map rated_name (if b then [] else medium.Rates m.name m.loss m.twice m.later ∷ [])) ≡ false
        by true = refl
        by false = ap (λ v. v || false) other

    own : (m : MediumSpec) → bytes_eq called m.name ≡ false → list_any (bytes_eq called) (filter_map rated_name (medium_lines m)) ≡ false
    own m other =
        ap (list_any (bytes_eq called)) (filter_map-append rated_name (rates_lines m) (fate_lines m.name m.fates)
        ∙ (ap (λ ns. filter_map rated_name (rates_lines m) ++ ns) (of_fates m.name m.fates) ∙ append-nil (filter_map rated_name (rates_lines m))))
        ∙ of_rates m other

media-behind : (before rest : List MediumSpec) → EachBehind IsBehindMedium (media_lines before) → all_apart bytes_eq (medium_names (before ++ rest)) ≡ true → EachBehind IsBehindMedium (media_lines (before ++ rest))
media-behind before [] each apart = subst (λ (ms : List MediumSpec). EachBehind IsBehindMedium (media_lines ms)) (sym (append-nil before)) each
media-behind before (s ∷ rest) each apart =
    let split : all_apart bytes_eq (medium_names before ++ s.name ∷ medium_names rest) ≡ true = ap (all_apart bytes_eq) (sym (map-append (λ (m : MediumSpec). m.name) before (s ∷ rest))) ∙ apart in
    let others = and_parts (not (list_any (bytes_eq s.name) (medium_names before ++ medium_names rest))) _ (sym (apart-insert bytes_eq same-bytes (medium_names before) s.name (medium_names rest)) ∙ split) in
    let none = (or_parts (list_any (bytes_eq s.name) (medium_names before)) (list_any (bytes_eq s.name) (medium_names rest))
    (sym (list_any-append (bytes_eq s.name) (medium_names before) (medium_names rest)) ∙ false-of-not _ others.0)).0 in
    let head : MediumLine = medium.Medium s.name s.mtu in
    let first = each-push IsBehindMedium (media_lines before) head each tt in
    let says : SaysMedium s.name (media_lines before ++ head ∷ []) =
    ap (list_any (bytes_eq s.name)) (filter_map-append name_said (media_lines before) (head ∷ []))
    ∙ (any-insert (bytes_eq s.name) (names (media_lines before)) s.name [] ∙ ap (λ b. b || list_any (bytes_eq s.name) (names (media_lines before) ++ [])) (same_text s.name)) in
    let once : list_any (bytes_eq s.name) (filter_map rated_name (media_lines before ++ head ∷ [])) ≡ false =
    ap (list_any (bytes_eq s.name)) (filter_map-append rated_name (media_lines before) (head ∷ []) ∙ append-nil (filter_map rated_name (media_lines before))) ∙ rated-named s.name before none in
    let second = rates-behind s (media_lines before ++ head ∷ []) first says once in
    let third = fates-behind s.name ((media_lines before ++ head ∷ []) ++ rates_lines s) s.fates second.0 second.1 in
    let lines : ((media_lines before ++ head ∷ []) ++ rates_lines s) ++ fate_lines s.name s.fates ≡ media_lines (before ++ s ∷ []) =
    append_assoc (media_lines before ++ head ∷ []) (rates_lines s) (fate_lines s.name s.fates)
    ∙ (append_assoc (media_lines before) (head ∷ []) (rates_lines s ++ fate_lines s.name s.fates)
    ∙ (ap (λ ls. media_lines before ++ ls) (sym (append-nil (medium_lines s))) ∙ sym (flat_map-append medium_lines before (s ∷ [])))) in
    let same : (before ++ s ∷ []) ++ rest ≡ before ++ s ∷ rest = append_assoc before (s ∷ []) rest in
    subst (λ (ms : List MediumSpec). EachBehind IsBehindMedium (media_lines ms)) same
    (media-behind (before ++ s ∷ []) rest (subst (EachBehind IsBehindMedium) lines third) (ap (λ ms. all_apart bytes_eq (medium_names ms)) same ∙ apart))

pub record CanonMedia (ms : List MediumSpec) : Type 0 where
  pub spelled : map line_spelling (of_media (media_lines ms)) ≡ flat_map lines_of_medium ms
  pub said : ms ≡ media_said (media_lines ms)
  pub behind : EachBehind IsBehindMedium (media_lines ms)

pub canon-media : (ms : List MediumSpec) → are_media 0 ms ≡ true → all_apart bytes_eq (medium_names ms) ≡ true → CanonMedia ms
canon-media ms fit apart = record {
  spelled = spelled-media ms;
  said = sym (media-same (media_lines ms) 0 [] ms refl fit apart);
  behind = media-behind [] ms (each-none IsBehindMedium) apart;
}

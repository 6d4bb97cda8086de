-- The media of a world are those that lines say which fit, and the other way round.
use Rattle.std.proofs.Common.{◌≡◌, ℕ, ◌+◌, ◌^◌, ◌≤◌, ◌==◌, Bool, true, false, ◌&&◌, ◌||◌, List, [], ◌∷◌, ◌++◌, length, refl, sym, ap, ◌∙◌, arith, Option, Some, None}
use Rattle.std.specs.Prelude.{bytes_eq, filter_map, get_or, nat_le, nat_lt, if◌then◌else◌}
use Rattle.std.specs.List.{cons_option, list_all, list_any}
use Rattle.std.proofs.lemmas.Bool.{and_parts, false≢true, and_from}
use Rattle.std.proofs.lemmas.Bool.Decides.{nat_tests}
use Rattle.std.proofs.lemmas.List.Elements.{filter_map-append}
use Rattle.std.proofs.lemmas.List.Folds.{list_all-append}
use Rattle.net_base.specs.declared.world.Fate.{Fate}
use Rattle.net_base.specs.declared.world.MediumSpec.{MediumSpec}
use Rattle.net_base.specs.World.{all_apart, are_media, is_medium, is_name, is_range, is_within, overlap}
use Rattle.world_text.specs.declared.line.Frames.{Frames}
use Rattle.world_text.specs.declared.line.Frames.TheVariants as frames
use Rattle.world_text.specs.declared.line.MediumLine.{MediumLine}
use Rattle.world_text.specs.declared.line.MediumLine.TheVariants as medium
use Rattle.world_text.specs.WorldLines.{range_of}
use Rattle.world_text.specs.WorldSpelling.{EachBehind, IsBehindMedium, Rates, SaysMedium, fate_on, media_named, media_said, medium_names, medium_said, no_rates, rated_name, rates_on, rates_said}
use Rattle.world_text.specs.LineFit.{fit_frames, fit_medium_line, is_frame, is_rate}
use Rattle.world_text.proofs.WorldLists.{all-if}
use Rattle.world_text.proofs.WorldMedia.{FineMedia, count-named, has_sum, named-front, names, names-media, unfated, unrated}
use Rattle.net_base.proofs.Shared.{number_itself, same_text, equal_texts}

-- From lines to media.

frame-range : (n : ℕ) → is_frame n ≡ true → (nat_le 1 n && (nat_le n n && nat_lt n (2 ^ 64))) ≡ true
frame-range n e =
    let parts = and_parts (nat_le 1 n) (nat_le n 18446744073709551615) e in
    and_from (nat_le 1 n) (nat_le n n && nat_lt n (2 ^ 64)) parts.0 (and_from (nat_le n n) (nat_lt n (2 ^ 64)) (itself n) (below n parts.1))
  where
    itself : (m : ℕ) → nat_le m m ≡ true
    itself m = grind (arith, nat_tests)

    below : (m : ℕ) → nat_le m 18446744073709551615 ≡ true → nat_lt m (2 ^ 64) ≡ true
    below m h = grind (arith, nat_tests)

range-range : (m n : ℕ) → (is_frame m && (is_frame n && nat_le m n)) ≡ true → (nat_le 1 m && (nat_le m n && nat_lt n (2 ^ 64))) ≡ true
range-range m n e =
    let first = and_parts (is_frame m) (is_frame n && nat_le m n) e in
    let last = and_parts (is_frame n) (nat_le m n) first.1 in
    let low = and_parts (nat_le 1 m) (nat_le m 18446744073709551615) first.0 in
    let high = and_parts (nat_le 1 n) (nat_le n 18446744073709551615) last.0 in
    and_from (nat_le 1 m) (nat_le m n && nat_lt n (2 ^ 64)) low.0 (and_from (nat_le m n) (nat_lt n (2 ^ 64)) last.1 (below n high.1))
  where
    below : (k : ℕ) → nat_le k 18446744073709551615 ≡ true → nat_lt k (2 ^ 64) ≡ true
    below k h = grind (arith, nat_tests)

range-fits : (f : Frames) (x : Fate) → fit_frames f ≡ true → is_range (range_of f x) ≡ true
range-fits (frames.One n) x e = frame-range n e
range-fits (frames.Range m n) x e = range-range m n e

ranges-fit : (called : List ℕ) (lines : List MediumLine) → list_all fit_medium_line lines ≡ true → list_all is_range (filter_map (fate_on called) lines) ≡ true
ranges-fit called [] fit = refl
ranges-fit called (medium.Medium other mtu ∷ lines) fit = ranges-fit called lines ((and_parts (fit_medium_line (medium.Medium other mtu)) (list_all fit_medium_line lines) fit).1)
ranges-fit called (medium.Rates other loss twice later ∷ lines) fit =
    ranges-fit called lines ((and_parts (fit_medium_line (medium.Rates other loss twice later)) (list_all fit_medium_line lines) fit).1)
ranges-fit called (medium.Fate other f x ∷ lines) fit =
    let parts = and_parts (fit_medium_line (medium.Fate other f x)) (list_all fit_medium_line lines) fit in
    let own = and_parts (is_name other) (fit_frames f) parts.0 in
    by (bytes_eq called other) (range-fits f x own.1) (ranges-fit called lines parts.1)
  where
    by : (b : Bool) → is_range (range_of f x) ≡ true → list_all is_range (filter_map (fate_on called) lines) ≡ true
        → list_all is_range (cons_option (if b then Some (range_of f x) else None) (filter_map (fate_on called) lines)) ≡ true
    by true here later = and_from (is_range (range_of f x)) (list_all is_range (filter_map (fate_on called) lines)) here later
    by false here later = later

abbrev fits_sum : Rates → Bool
fits_sum r = nat_le (r.loss + r.twice + r.later) 1000

sum-fits : (called : List ℕ) (lines : List MediumLine) → list_all has_sum lines ≡ true → fits_sum (rates_said called lines) ≡ true
sum-fits called [] sums = refl
sum-fits called (medium.Medium other mtu ∷ lines) sums = sum-fits called lines sums
sum-fits called (medium.Fate other f x ∷ lines) sums = sum-fits called lines sums
sum-fits called (medium.Rates other loss twice later ∷ lines) sums =
    let parts = and_parts (nat_le (loss + twice + later) 1000) (list_all has_sum lines) sums in by (bytes_eq called other) parts.0 (sum-fits called lines parts.1)
  where
    by : (b : Bool) → nat_le (loss + twice + later) 1000 ≡ true → fits_sum (rates_said called lines) ≡ true
        → fits_sum (get_or (cons_option (if b then Some (record { loss = loss; twice = twice; later = later }) else None) (filter_map (rates_on called) lines)) 0 no_rates) ≡ true
    by true here rest = here
    by false here rest = rest

medium-fits : (all : List MediumLine) (n : ℕ) (called : List ℕ) (mtu : ℕ) → FineMedia all → fit_medium_line (medium.Medium called mtu) ≡ true → is_medium n (medium_said all n called mtu) ≡ true
medium-fits all n called mtu k fit =
    let own = and_parts (is_name called) (is_within 576 16384 mtu) fit in
    let m : MediumSpec = medium_said all n called mtu in
    let fates : Bool = list_all is_range m.fates && all_apart overlap m.fates in
    let sum : Bool = nat_le (m.loss + m.twice + m.later) 1000 in
    and_from (n == n) (is_name called && (is_within 576 16384 mtu && (sum && fates))) (number_itself n)
    (and_from (is_name called) (is_within 576 16384 mtu && (sum && fates)) own.0
    (and_from (is_within 576 16384 mtu) (sum && fates) own.1
    (and_from sum fates (sum-fits called all k.sums)
    (and_from (list_all is_range m.fates) (all_apart overlap m.fates) (ranges-fit called all k.fit) (k.fated called)))))

media-fit : (all : List MediumLine) (n : ℕ) (lines : List MediumLine) → FineMedia all → list_all fit_medium_line lines ≡ true → are_media n (media_named all n lines) ≡ true
media-fit all n [] k fit = refl
media-fit all n (medium.Medium called mtu ∷ lines) k fit =
    let parts = and_parts (fit_medium_line (medium.Medium called mtu)) (list_all fit_medium_line lines) fit in
    and_from (is_medium n (medium_said all n called mtu)) (are_media (n + 1) (media_named all (n + 1) lines)) (medium-fits all n called mtu k parts.0) (media-fit all (n + 1) lines k parts.1)
media-fit all n (medium.Rates called loss twice later ∷ lines) k fit = media-fit all n lines k ((and_parts (fit_medium_line (medium.Rates called loss twice later)) (list_all fit_medium_line lines) fit).1)
media-fit all n (medium.Fate called f x ∷ lines) k fit = media-fit all n lines k ((and_parts (fit_medium_line (medium.Fate called f x)) (list_all fit_medium_line lines) fit).1)

-- what a world's media are
pub record AreMedia (media : List MediumSpec) : Type 0 where
  pub media_fit : are_media 0 media ≡ true
  pub named : all_apart bytes_eq (medium_names media) ≡ true
  pub few : length media ≤ 4

pub media-of-lines : (lines : List MediumLine) → FineMedia lines → AreMedia (media_said lines)
media-of-lines lines k = record {
  media_fit = media-fit lines 0 lines k k.fit;
  named = ap (all_apart bytes_eq) (names-media lines 0 lines) ∙ k.apart;
  few = let count = count-named lines 0 lines in let few = k.few in omega (arith, count, few);
}

-- From media to lines.

-- a medium that lines name
record There (all : List MediumLine) (called : List ℕ) : Type 0 where
  pub number : ℕ
  pub mtu : ℕ
  pub fits : is_medium number (medium_said all number called mtu) ≡ true

there : (all : List MediumLine) (called : List ℕ) (n : ℕ) (lines : List MediumLine) → SaysMedium called lines → are_media n (media_named all n lines) ≡ true → There all called
there all called n [] says fit = absurd (false≢true says)
there all called n (medium.Rates other loss twice later ∷ lines) says fit = there all called n lines says fit
there all called n (medium.Fate other f x ∷ lines) says fit = there all called n lines says fit
there all called n (medium.Medium other mtu ∷ lines) says fit =
    let parts = and_parts (is_medium n (medium_said all n other mtu)) (are_media (n + 1) (media_named all (n + 1) lines)) fit in
    by (bytes_eq called other) refl says parts.0 (λ says_so. there all called (n + 1) lines says_so parts.1)
  where
    by : (b : Bool) → bytes_eq called other ≡ b → (b || list_any (bytes_eq called) (names lines)) ≡ true → is_medium n (medium_said all n other mtu) ≡ true
        → (SaysMedium called lines → There all called) → There all called
    by true is says_so here later = record { number = n; mtu = mtu; fits = ap (λ c. is_medium n (medium_said all n c mtu)) (equal_texts called other is) ∙ here }
    by false is says_so here later = later says_so

-- the parts of a medium that fits
record Parts (all : List MediumLine) (called : List ℕ) (mtu : ℕ) : Type 0 where
  pub name : is_name called ≡ true
  pub size : is_within 576 16384 mtu ≡ true
  pub sum : fits_sum (rates_said called all) ≡ true
  pub ranges : list_all is_range (filter_map (fate_on called) all) ≡ true
  pub fated : all_apart overlap (filter_map (fate_on called) all) ≡ true

parts-of : (all : List MediumLine) (called : List ℕ) (t : There all called) → Parts all called t.mtu
parts-of all called t =
    let m : MediumSpec = medium_said all t.number called t.mtu in
    let fates : Bool = list_all is_range m.fates && all_apart overlap m.fates in
    let sum : Bool = nat_le (m.loss + m.twice + m.later) 1000 in
    let a = and_parts (t.number == t.number) (is_name called && (is_within 576 16384 t.mtu && (sum && fates))) t.fits in
    let b = and_parts (is_name called) (is_within 576 16384 t.mtu && (sum && fates)) a.1 in
    let c = and_parts (is_within 576 16384 t.mtu) (sum && fates) b.1 in
    let d = and_parts sum fates c.1 in
    let e = and_parts (list_all is_range m.fates) (all_apart overlap m.fates) d.1 in
    record { name = b.0; size = c.0; sum = d.0; ranges = e.0; fated = e.1 }

-- what holds of all that is found holds of what is found at a place
pub all-found : {A B : Type 0} (p : B → Bool) (g : A → Option B) (xs before : List A) (x : A) (rest : List A) (y : B) → xs ≡ before ++ x ∷ rest → g x ≡ Some y → list_all p (filter_map g xs) ≡ true → p y ≡ true
all-found p g xs before x rest y e is all =
    let same : filter_map g xs ≡ filter_map g before ++ y ∷ filter_map g rest =
    ap (filter_map g) e ∙ (filter_map-append g before (x ∷ rest) ∙ ap (λ o. filter_map g before ++ cons_option o (filter_map g rest)) is) in
    let parts = and_parts (list_all p (filter_map g before)) (p y && list_all p (filter_map g rest))
    (sym (list_all-append p (filter_map g before) (y ∷ filter_map g rest)) ∙ (ap (list_all p) (sym same) ∙ all)) in
    (and_parts (p y) (list_all p (filter_map g rest)) parts.1).0

range-frames : (f : Frames) (x : Fate) → is_range (range_of f x) ≡ true → fit_frames f ≡ true
range-frames (frames.One n) x e =
    let a = and_parts (nat_le 1 n) (nat_le n n && nat_lt n (2 ^ 64)) e in
    let b = and_parts (nat_le n n) (nat_lt n (2 ^ 64)) a.1 in
    and_from (nat_le 1 n) (nat_le n 18446744073709551615) a.0 (upto n b.1)
  where
    upto : (m : ℕ) → nat_lt m (2 ^ 64) ≡ true → nat_le m 18446744073709551615 ≡ true
    upto m h = grind (arith, nat_tests)
range-frames (frames.Range m n) x e =
    let a = and_parts (nat_le 1 m) (nat_le m n && nat_lt n (2 ^ 64)) e in
    let b = and_parts (nat_le m n) (nat_lt n (2 ^ 64)) a.1 in
    and_from (is_frame m) (is_frame n && nat_le m n) (and_from (nat_le 1 m) (nat_le m 18446744073709551615) a.0 (below m n b.0 b.1))
    (and_from (is_frame n) (nat_le m n) (and_from (nat_le 1 n) (nat_le n 18446744073709551615) (above m n a.0 b.0) (upto n b.1)) b.0)
  where
    upto : (k : ℕ) → nat_lt k (2 ^ 64) ≡ true → nat_le k 18446744073709551615 ≡ true
    upto k h = grind (arith, nat_tests)

    below : (j k : ℕ) → nat_le j k ≡ true → nat_lt k (2 ^ 64) ≡ true → nat_le j 18446744073709551615 ≡ true
    below j k g h = grind (arith, nat_tests)

    above : (j k : ℕ) → nat_le 1 j ≡ true → nat_le j k ≡ true → nat_le 1 k ≡ true
    above j k g h = grind (arith, nat_tests)

-- rates whose sum fits are below 2^32
rates-small : (a b c : ℕ) → nat_le (a + b + c) 1000 ≡ true → (is_rate a && (is_rate b && is_rate c)) ≡ true
rates-small a b c e =
    and_from (is_rate a) (is_rate b && is_rate c) (and_from (nat_le 0 a) (nat_le a 4294967295) (zero a) (first a b c e))
    (and_from (is_rate b) (is_rate c) (and_from (nat_le 0 b) (nat_le b 4294967295) (zero b) (second a b c e)) (and_from (nat_le 0 c) (nat_le c 4294967295) (zero c) (third a b c e)))
  where
    zero : (n : ℕ) → nat_le 0 n ≡ true
    zero n = grind (arith, nat_tests)

    first : (x y z : ℕ) → nat_le (x + y + z) 1000 ≡ true → nat_le x 4294967295 ≡ true
    first x y z h = grind (arith, nat_tests)

    second : (x y z : ℕ) → nat_le (x + y + z) 1000 ≡ true → nat_le y 4294967295 ≡ true
    second x y z h = grind (arith, nat_tests)

    third : (x y z : ℕ) → nat_le (x + y + z) 1000 ≡ true → nat_le z 4294967295 ≡ true
    third x y z h = grind (arith, nat_tests)

-- the rates of a medium are those of its line
own-rates : (called : List ℕ) (loss twice later : ℕ) (lines before rest : List MediumLine) → lines ≡ before ++ medium.Rates called loss twice later ∷ rest
    → list_any (bytes_eq called) (filter_map rated_name before) ≡ false → rates_said called lines ≡ record { loss = loss; twice = twice; later = later }
own-rates called loss twice later lines before rest e once =
    ap (λ rs. get_or rs 0 no_rates)
    (ap (filter_map (rates_on called)) e
    ∙ (filter_map-append (rates_on called) before (medium.Rates called loss twice later ∷ rest)
    ∙ (ap (λ rs. rs ++ filter_map (rates_on called) (medium.Rates called loss twice later ∷ rest)) (unrated called before once)
    ∙ ap (λ b. cons_option (if b then Some (record { loss = loss; twice = twice; later = later }) else None) (filter_map (rates_on called) rest)) (same_text called))))

module _ (lines : List MediumLine) (behind : EachBehind IsBehindMedium lines) (are : AreMedia (media_said lines)) where
  at : (called : List ℕ) → SaysMedium called lines → (t : There lines called) × Parts lines called t.mtu
  at called says = let t = there lines called 0 lines says are.media_fit in (t, parts-of lines called t)

  medium-line : (called : List ℕ) (mtu : ℕ) (before rest : List MediumLine) → lines ≡ before ++ medium.Medium called mtu ∷ rest → fit_medium_line (medium.Medium called mtu) ≡ true
  medium-line called mtu before rest e = whole lines 0 before e are.media_fit
    where
      whole : (ls : List MediumLine) (n : ℕ) (front : List MediumLine) → ls ≡ front ++ medium.Medium called mtu ∷ rest → are_media n (media_named lines n ls) ≡ true → fit_medium_line (medium.Medium called mtu) ≡ true
      whole ls n [] f fit =
          let first = and_parts (is_medium n (medium_said lines n called mtu)) (are_media (n + 1) (media_named lines (n + 1) rest)) (ap (λ xs. are_media n (media_named lines n xs)) (sym f) ∙ fit) in
          let p = parts-of lines called (record { number = n; mtu = mtu; fits = first.0 }) in
          and_from (is_name called) (is_within 576 16384 mtu) p.name p.size
      whole ls n (medium.Medium other size ∷ front) f fit =
          whole (front ++ medium.Medium called mtu ∷ rest) (n + 1) front refl
          ((and_parts (is_medium n (medium_said lines n other size)) (are_media (n + 1) (media_named lines (n + 1) (front ++ medium.Medium called mtu ∷ rest))) (ap (λ xs. are_media n (media_named lines n xs)) (sym f) ∙ fit)).1)
      whole ls n (medium.Rates other a b c ∷ front) f fit = whole (front ++ medium.Medium called mtu ∷ rest) n front refl (ap (λ xs. are_media n (media_named lines n xs)) (sym f) ∙ fit)
      whole ls n (medium.Fate other g y ∷ front) f fit = whole (front ++ medium.Medium called mtu ∷ rest) n front refl (ap (λ xs. are_media n (media_named lines n xs)) (sym f) ∙ fit)

  line-fits : (before : List MediumLine) (x : MediumLine) (rest : List MediumLine) → lines ≡ before ++ x ∷ rest → fit_medium_line x ≡ true
  line-fits before (medium.Medium called mtu) rest e = medium-line called mtu before rest e
  line-fits before (medium.Rates called loss twice later) rest e =
      let here = behind before (medium.Rates called loss twice later) rest e in
      let p = at called (named-front called lines before (medium.Rates called loss twice later ∷ rest) e here.0) in
      and_from (is_name called) (is_rate loss && (is_rate twice && is_rate later)) p.1.name
      (rates-small loss twice later (ap fits_sum (sym (own-rates called loss twice later lines before rest e here.1)) ∙ p.1.sum))
  line-fits before (medium.Fate called f x) rest e =
      let here = behind before (medium.Fate called f x) rest e in
      let p = at called (named-front called lines before (medium.Fate called f x ∷ rest) e here) in
      and_from (is_name called) (fit_frames f) p.1.name
      (range-frames f x (all-found is_range (fate_on called) lines before (medium.Fate called f x) rest (range_of f x) e (ap (λ v. if v then Some (range_of f x) else None) (same_text called)) p.1.ranges))

  sum-there : (before : List MediumLine) (x : MediumLine) (rest : List MediumLine) → lines ≡ before ++ x ∷ rest → has_sum x ≡ true
  sum-there before (medium.Medium called mtu) rest e = refl
  sum-there before (medium.Fate called f x) rest e = refl
  sum-there before (medium.Rates called loss twice later) rest e =
      let here = behind before (medium.Rates called loss twice later) rest e in
      let p = at called (named-front called lines before (medium.Rates called loss twice later ∷ rest) e here.0) in
      ap fits_sum (sym (own-rates called loss twice later lines before rest e here.1)) ∙ p.1.sum

  fated-there : (called : List ℕ) (b : Bool) → list_any (bytes_eq called) (names lines) ≡ b → all_apart overlap (filter_map (fate_on called) lines) ≡ true
  fated-there called true says = (at called says).1.fated
  fated-there called false none = ap (all_apart overlap) (unfated called lines behind none)

  pub lines-of-media : FineMedia lines
  lines-of-media = record {
    fit = all-if fit_medium_line lines line-fits;
    sums = all-if has_sum lines sum-there;
    behind = behind;
    apart = ap (all_apart bytes_eq) (sym (names-media lines 0 lines)) ∙ are.named;
    few = let count = count-named lines 0 lines in let few = are.few in omega (arith, count, few);
    fated = λ called. fated-there called (list_any (bytes_eq called) (names lines)) refl;
  }

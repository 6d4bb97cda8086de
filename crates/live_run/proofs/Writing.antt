-- What is written grows by the lines that are said.
use Rattle.std.proofs.Common.{◌≡◌, ℕ, zero, suc, ◌+◌, ◌<◌, Bool, true, false, List, [], ◌∷◌, ◌++◌, length, take, Option, refl, sym, ap, subst, ◌∙◌, arith}
use Rattle.std.proofs.KnownBytes.{Appends-trans}
use Rattle.std.specs.Io.KnownBytes.{Appends}
use Rattle.std.proofs.lemmas.List.{append_assoc, append-nil, length-append, take-append-le}
use Rattle.net_base.specs.declared.world.World.{World}
use Rattle.outside.specs.Streams.{AppendsPart}
use Rattle.live_answers.specs.Lines.{Line, line_text, lines_text}
use Rattle.live_answers.specs.Speech.{GrowsAs, IsWritten, Says, Speech, Writes}
use Rattle.live_run.specs.Heard.{AreOfPlaces, IsOfPlace}

take_past : (t u : List ℕ) (n m : ℕ) → m ≡ length t + n → take m (t ++ u) ≡ t ++ take n u
take_past [] u n m is = ap (λ (k : ℕ). take k u) (omega (arith, is))
take_past (x ∷ t) u n zero is = absurd (omega (arith, is))
take_past (x ∷ t) u n (suc m) is = ap (λ (ys : List ℕ). x ∷ ys) (take_past t u n m (omega (arith, is)))

grows_more : (f g : Bool) (b x y : Option (List ℕ)) (t u : List ℕ) → GrowsAs f b x t → Writes f g x y u → GrowsAs g b y (t ++ u)
grows_more false false b x y t u grew wrote = Appends-trans b x y t u grew wrote
grows_more false true b x y t u grew wrote =
    let less : length t + wrote.0 < length (t ++ u) = omega (arith, wrote.1, length-append t u) in
    (length t + wrote.0, less, subst (Appends b y) (sym (take_past t u wrote.0 (length t + wrote.0) refl)) (Appends-trans b x y t (take wrote.0 u) grew wrote.2))
grows_more true g b x y t u grew wrote =
    let less : grew.0 < length (t ++ u) = omega (arith, grew.1, length-append t u) in
    let same : take grew.0 t ≡ take grew.0 (t ++ u) = sym (take-append-le grew.0 t u (omega (arith, grew.1))) in
    let part : AppendsPart b x (t ++ u) = (grew.0, less, subst (Appends b x) same grew.2) in
    subst (λ (f : Bool). GrowsAs f b y (t ++ u)) (sym wrote.0) (subst (λ (z : Option (List ℕ)). AppendsPart b z (t ++ u)) (sym wrote.1) part)

text_more : (ls : List Line) (l : Line) → lines_text (ls ++ l ∷ []) ≡ lines_text ls ++ line_text l
text_more [] l = append-nil (line_text l)
text_more (k ∷ ls) l = ap (λ (t : List ℕ). line_text k ++ t) (text_more ls l) ∙ sym (append_assoc (line_text k) (lines_text ls) (line_text l))

pub written_on : (before : Option (List ℕ)) (s t : Speech) (l : Line) → Says s t l → IsWritten before s → IsWritten before t
written_on before s t l says written =
    subst (GrowsAs t.failed before t.held) (sym (ap lines_text says.lines ∙ text_more s.lines l))
    (grows_more s.failed t.failed before s.held t.held (lines_text s.lines) (line_text l) written says.writes)

-- All answers are those of places.

places_more : (first : World) (ls : List Line) (l : Line) → AreOfPlaces first ls → IsOfPlace first l → AreOfPlaces first (ls ++ l ∷ [])
places_more first [] l are is = (is, tt)
places_more first (k ∷ ls) l are is = (are.0, places_more first ls l are.1 is)

pub of_places_on : (first : World) (s t : Speech) (l : Line) → Says s t l → AreOfPlaces first s.lines → IsOfPlace first l → AreOfPlaces first t.lines
of_places_on first s t l says are is = subst (AreOfPlaces first) (sym says.lines) (places_more first s.lines l are is)

-- What a line makes of the scripts so far, and how `session HOST` is read.
use Rattle.std.proofs.Common.{◌≡◌, ℕ, ◌==◌, Bool, true, false, List, [], ◌∷◌, ◌++◌, map, refl, sym, ap, subst, ◌∙◌, Option, Some, None, Ok, append-nil}
use Rattle.std.specs.Prelude.{bytes_eq, codes, if◌then◌else◌}
use Rattle.std.specs.List.{join_with_byte}
use Rattle.std.proofs.lemmas.Bool.{false≢true}
use Rattle.std.proofs.lemmas.List.{map-append}
use Rattle.std.proofs.lemmas.List.Splits.{join_with_byte-slice_split}
use Rattle.net_base.specs.declared.world.Script.{Script}
use Rattle.net_base.specs.World.{is_name}
use Rattle.net_base.proofs.Shared.{cut_at, equal_texts}
use Rattle.world_text.specs.declared.line.MediumLine.{MediumLine}
use Rattle.world_text.specs.declared.line.MediumLine.TheVariants as medium
use Rattle.world_text.specs.declared.line.WorldLine.{WorldLine}
use Rattle.world_text.specs.declared.line.WorldLine.TheVariants as line
use Rattle.world_text.specs.LineReading.{argued, read_line, script_of, words_line}
use Rattle.world_text.specs.WorldLines.{Draft, Goes, after, at_last, good_line, host_number, passes_over, line_verdict, with_step, world_of}
use Rattle.world_text.specs.WorldWords.{words_in_line}
use Rattle.world_text.proofs.Shared.{without-none, First, Good, Passed, Refused, View, bad-goes, begins-goes, same-goes, view}
use Rattle.world_file.specs.SessionText.{Feeds, OpensSession, Other, Passes, as_script, row_by, session_row}

-- ---- scripts

abbrev pub hosts_of : List Script → List ℕ
hosts_of scripts = map (λ (s : Script). s.host) scripts

pub map-at_last : {A B : Type 0} (g : A → B) (f : A → A) → ((x : A) → g (f x) ≡ g x) → (xs : List A) → map g (at_last f xs) ≡ map g xs
map-at_last g f same [] = refl
map-at_last g f same (x ∷ []) = ap (λ y. y ∷ []) (same x)
map-at_last g f same (x ∷ y ∷ xs) = ap (λ ys. g x ∷ ys) (map-at_last g f same (y ∷ xs))

-- the scripts so far stay where they are, with their hosts
abbrev pub Grows : Draft → Draft → Type 0
Grows d e = (more : List ℕ) × (hosts_of e.scripts ≡ hosts_of d.scripts ++ more)

stays : (d e : Draft) → e.scripts ≡ d.scripts → Grows d e
stays d e is = ([], ap hosts_of is ∙ sym (append-nil (hosts_of d.scripts)))

medium-stays : (d : Draft) (l : MediumLine) → Grows d (after d (line.OfMedium l))
medium-stays d (medium.Medium called mtu) = stays d (after d (line.OfMedium (medium.Medium called mtu))) refl
medium-stays d (medium.Rates called loss twice later) = stays d (after d (line.OfMedium (medium.Rates called loss twice later))) refl
medium-stays d (medium.Fate called f x) = stays d (after d (line.OfMedium (medium.Fate called f x))) refl

grows-after : (d : Draft) (l : WorldLine) → Grows d (after d l)
grows-after d (line.Networld kind) = stays d (after d (line.Networld kind)) refl
grows-after d (line.End m) = stays d (after d (line.End m)) refl
grows-after d (line.Seed n) = stays d (after d (line.Seed n)) refl
grows-after d (line.OfMedium l) = medium-stays d l
grows-after d (line.Host called nets) = stays d (after d (line.Host called nets)) refl
grows-after d (line.OfHost l) = stays d (after d (line.OfHost l)) refl
grows-after d (line.Script called) = (host_number called d ∷ [], map-append (λ (s : Script). s.host) d.scripts _)
grows-after d (line.OfScript x) = ([], map-at_last (λ (s : Script). s.host) (with_step x) (λ s. refl) d.scripts ∙ sym (append-nil (hosts_of d.scripts)))
grows-after d line.Ndb = stays d d refl

good-goes : (d e : Draft) (l : WorldLine) → good_line d l ≡ Goes e → after d l ≡ e
good-goes d e line.Ndb f = absurd (begins-goes (world_of d) e f)
good-goes d e (line.Networld kind) f = same-goes (after d (line.Networld kind)) e f
good-goes d e (line.End m) f = same-goes (after d (line.End m)) e f
good-goes d e (line.Seed n) f = same-goes (after d (line.Seed n)) e f
good-goes d e (line.OfMedium l) f = same-goes (after d (line.OfMedium l)) e f
good-goes d e (line.Host called nets) f = same-goes (after d (line.Host called nets)) e f
good-goes d e (line.OfHost l) f = same-goes (after d (line.OfHost l)) e f
good-goes d e (line.Script called) f = same-goes (after d (line.Script called)) e f
good-goes d e (line.OfScript x) f = same-goes (after d (line.OfScript x)) e f

-- a line that goes on takes no script away
pub grows : (d e : Draft) (text : List ℕ) → line_verdict d text ≡ Goes e → Grows d e
grows d e text goes = by (view d text)
  where
    by : View d text (line_verdict d text) → Grows d e
    by (Passed quiet is) = subst (Grows d) (same-goes d e (sym is ∙ goes)) (stays d d refl)
    by (First kind none named is) = subst (Grows d) (same-goes (after d (line.Networld kind)) e (sym is ∙ goes)) (grows-after d (line.Networld kind))
    by (Good l late is none same) = subst (Grows d) (good-goes d e l (sym same ∙ goes)) (grows-after d l)
    by (Refused c is) = absurd (bad-goes c e (sym is ∙ goes))

-- ---- the line of a session

pub record Opens (d : Draft) (text : List ℕ) : Type 0 where
  pub begun : (d.group == 0) ≡ false
  pub args : List (List ℕ)
  pub words : words_in_line text ≡ codes "session" ∷ args

pub opens : (d : Draft) (text : List ℕ) → session_row d text ≡ OpensSession → Opens d text
opens d text is = by (passes_over text) (d.group == 0) (words_in_line text) refl refl is
  where
    named : (b : Bool) (word : List ℕ) (args : List (List ℕ)) → bytes_eq word (codes "session") ≡ b → (d.group == 0) ≡ false → words_in_line text ≡ word ∷ args → (if b then OpensSession else Other) ≡ OpensSession → Opens d text
    named true word args same late are e = record { begun = late; args = args; words = are ∙ ap (λ (w : List ℕ). w ∷ args) (equal_texts word (codes "session") same) }
    named false word args same late are e = absurd (cc)

    first : (b : Bool) (word : List ℕ) (args : List (List ℕ)) (fed : Option (List ℕ)) → (d.group == 0) ≡ false → words_in_line text ≡ word ∷ args
        → (if b then Feeds fed else (if bytes_eq word (codes "session") then OpensSession else Other)) ≡ OpensSession → Opens d text
    first true word args fed late are e = absurd (cc)
    first false word args fed late are e = named (bytes_eq word (codes "session")) word args refl late are e

    words : (ws : List (List ℕ)) → (d.group == 0) ≡ false → words_in_line text ≡ ws → row_by ws ≡ OpensSession → Opens d text
    words [] late are e = absurd (cc)
    words (word ∷ args) late are e = first (bytes_eq word (codes "feed")) word args _ late are e

    by : (b first : Bool) (ws : List (List ℕ)) → (d.group == 0) ≡ first → words_in_line text ≡ ws → (if b then Passes else (if first then Other else row_by ws)) ≡ OpensSession → Opens d text
    by true first ws late are e = absurd (cc)
    by false true ws late are e = absurd (cc)
    by false false ws late are e = words ws late are e

-- its first word is another, and the others stay
as-script-words : (text : List ℕ) (args : List (List ℕ)) → words_in_line text ≡ codes "session" ∷ args → (others : List (List ℕ)) × (words_in_line (as_script text) ≡ codes "script" ∷ others)
as-script-words text args are = by args (sym (join_with_byte-slice_split 32 text) ∙ ap (join_with_byte 32) are)
  where
    by : (args : List (List ℕ)) → text ≡ join_with_byte 32 (codes "session" ∷ args) → (others : List (List ℕ)) × (words_in_line (as_script text) ≡ codes "script" ∷ others)
    by [] is = ([], ap (λ (t : List ℕ). words_in_line (as_script t)) is)
    by (a ∷ more) is = (
      words_in_line (join_with_byte 32 (a ∷ more)),
      ap (λ (t : List ℕ). words_in_line (as_script t)) is ∙ cut_at 32 (codes "script") (join_with_byte 32 (a ∷ more)) (words_in_line (join_with_byte 32 (a ∷ more))) (without-none 32 (codes "script") refl) refl,
    )

-- so it adds a script without steps
argued-is : (o : Option WorldLine) (l : WorldLine) → argued o ≡ Ok l → o ≡ Some l
argued-is None l e = absurd (cc)
argued-is (Some k) l e = cc

script-is : (args : List (List ℕ)) (l : WorldLine) → script_of args ≡ Some l → (called : List ℕ) × (l ≡ line.Script called)
script-is [] l e = absurd (cc)
script-is (a ∷ []) l e = by (is_name a) e
  where
    by : (b : Bool) → (if b then Some (line.Script a) else None) ≡ Some l → (called : List ℕ) × (l ≡ line.Script called)
    by true f = (a, cc)
    by false f = absurd (cc)
script-is (a ∷ b ∷ rest) l e = absurd (cc)

pub opened : (d e : Draft) (text : List ℕ) → Opens d text → line_verdict d (as_script text) ≡ Goes e → (called : List ℕ) × (e ≡ after d (line.Script called))
opened d e text o goes = by (view d (as_script text))
  where
    w : (others : List (List ℕ)) × (words_in_line (as_script text) ≡ codes "script" ∷ others)
    w = as-script-words text o.args o.words

    good : (l : WorldLine) → read_line (as_script text) ≡ Ok l → good_line d l ≡ Goes e → (called : List ℕ) × (e ≡ after d (line.Script called))
    good l is f =
        let s = script-is w.0 l (argued-is (script_of w.0) l (sym (ap words_line w.1) ∙ is)) in
        (s.0, sym (good-goes d e l f) ∙ ap (after d) s.1)

    by : View d (as_script text) (line_verdict d (as_script text)) → (called : List ℕ) × (e ≡ after d (line.Script called))
    by (Passed quiet is) = absurd (false≢true (sym quiet))
    by (First kind none named is) = absurd (false≢true (sym o.begun ∙ none))
    by (Good l late is none same) = good l is (sym same ∙ goes)
    by (Refused c is) = absurd (bad-goes c e (sym is ∙ goes))

-- What is read of the words of a step is what it spells.
use Rattle.std.proofs.Common.{◌≡◌, ℕ, ◌^◌, Bool, true, false, List, [], ◌∷◌, ◌++◌, refl, sym, ap, ◌∙◌, Option, Some, None}
use Rattle.std.specs.Prelude.{bytes_eq, codes, option_map, if◌then◌else◌}
use Rattle.std.specs.Option.{option_and_then}
use Rattle.std.proofs.lemmas.Bool.{and_parts, and_from, ltb-true}
use Rattle.std.proofs.lemmas.Option.{none-some, same_Some}
use Rattle.net_base.specs.declared.names.Mode.{Mode}
use Rattle.net_base.specs.declared.names.Mode.TheVariants as mode
use Rattle.net_base.specs.declared.world.Step.{Step}
use Rattle.net_base.specs.Paths.{mode_named}
use Rattle.net_base.specs.Transcript.{mode_word}
use Rattle.net_base.proofs.Shared.{equal_texts, hex-spelled, number_in-spelled}
use Rattle.world_text.specs.WorldWords.{words_left}
use Rattle.net_base.specs.StepWords.{WordKind, AName, AWord, ARemotePath, ANumber, AMode, PerhapsMode, HexBytes, ADatagram, TheRest, TheRestOf, Value, value_fits, ValuesOf, values_fit, StepMaker, StepRow, Worded, worded, step_rows, is_step}
use Rattle.world_text.specs.LineReading.{value_guessed, value_kept, read_value, read_values, read_word, row_by_word, row_read, step_in_line, step_where_none, whole_step}
use Rattle.world_text.specs.WorldSpelling.{spaced_line, spelled_value, spelled_values, words_of_step}
use Rattle.world_text.proofs.StepRows.{applied, are_readable, known, row_with, stands_before}

pub then-some : {A B : Type 0} (f : A → Option B) (o : Option A) (y : B) → option_and_then f o ≡ Some y → (x : A) × (o ≡ Some x) × (f x ≡ Some y)
then-some f None y e = absurd (none-some y e)
then-some f (Some x) y e = (x, refl, e)

-- Values.

mode-is : (word : List ℕ) (m : Mode) → mode_named word ≡ Some m → word ≡ mode_word m
mode-is word m e = by (bytes_eq word (codes "r")) refl (bytes_eq word (codes "w")) refl (bytes_eq word (codes "rw")) refl e
  where
    by : (a : Bool) → bytes_eq word (codes "r") ≡ a → (b : Bool) → bytes_eq word (codes "w") ≡ b → (c : Bool) → bytes_eq word (codes "rw") ≡ c
        → (if a then Some mode.Read else (if b then Some mode.Write else (if c then Some mode.Both else None))) ≡ Some m → word ≡ mode_word m
    by true ea b eb c ec f = equal_texts word (codes "r") ea ∙ ap mode_word (same_Some mode.Read m f)
    by false ea true eb c ec f = equal_texts word (codes "w") eb ∙ ap mode_word (same_Some mode.Write m f)
    by false ea false eb true ec f = equal_texts word (codes "rw") ec ∙ ap mode_word (same_Some mode.Both m f)
    by false ea false eb false ec f = absurd (none-some m f)

guessed-is : (k : WordKind) (ks : List WordKind) (word : List ℕ) (value : Value k) → stands_before k ks ≡ true → value_guessed k word ≡ Some value → word ∷ [] ≡ spelled_value k value
guessed-is AName ks word value stands e = ap (λ (w : List ℕ). w ∷ []) (same_Some word value e)
guessed-is AWord ks word value stands e = ap (λ (w : List ℕ). w ∷ []) (same_Some word value e)
guessed-is ARemotePath ks word value stands e = ap (λ (w : List ℕ). w ∷ []) (same_Some word value e)
guessed-is (ANumber least most) ks word n stands e = ap (λ (w : List ℕ). w ∷ []) ((number_in-spelled least most word n (ltb-true most (2 ^ 64) stands) e).is)
guessed-is AMode ks word m stands e = ap (λ (w : List ℕ). w ∷ []) (mode-is word m e)
guessed-is PerhapsMode ks word value stands e = by (mode_named word) refl e
  where
    by : (o : Option Mode) → mode_named word ≡ o → option_map (λ (m : Mode). Some m) o ≡ Some value → word ∷ [] ≡ spelled_value PerhapsMode value
    by None is f = absurd (none-some value f)
    by (Some m) is f = ap (λ (w : List ℕ). w ∷ []) (mode-is word m is) ∙ ap (spelled_value PerhapsMode) (same_Some (Some m) value f)
guessed-is HexBytes ks word bytes stands e = ap (λ (w : List ℕ). w ∷ []) (hex-spelled word bytes e)
guessed-is ADatagram ks word bytes stands e = ap (λ (w : List ℕ). w ∷ []) (hex-spelled word bytes e)
guessed-is TheRest ks word value stands e = ap (λ (w : List ℕ). w ∷ []) (same_Some word value e)
guessed-is (TheRestOf least most) ks word value stands e = ap (λ (w : List ℕ). w ∷ []) (same_Some word value e)

abbrev kept_so : (k : WordKind) → Bool → List (List ℕ) → Value k → Option (Value k × List (List ℕ))
kept_so k fit behind value = if fit then Some (value, behind) else None

-- a value that fits, the word that spells it, and what stands behind it
record IsOfWord (k : WordKind) (word : List ℕ) (value : Value k) : Type 0 where
  pub fit : value_fits k value ≡ true
  pub is : word ∷ [] ≡ spelled_value k value

word-is : (k : WordKind) (ks : List WordKind) (word : List ℕ) (behind : List (List ℕ)) (value : Value k) (rest : List (List ℕ)) → stands_before k ks ≡ true
    → read_word k word behind ≡ Some (value, rest) → IsOfWord k word value × (behind ≡ rest)
word-is k ks word behind value rest stands e =
    let t = then-some (value_kept k behind) (value_guessed k word) (value, rest) e in by t.0 (guessed-is k ks word t.0 stands t.1) (value_fits k t.0) refl t.2
  where
    by : (v : Value k) → word ∷ [] ≡ spelled_value k v → (b : Bool) → value_fits k v ≡ b → kept_so k b behind v ≡ Some (value, rest) → IsOfWord k word value × (behind ≡ rest)
    by v is true fit f =
        let same = same_Some (v, behind) (value, rest) f in (
          record { fit = ap (value_fits k) (sym (ap (λ (r : Value k × List (List ℕ)). r.0) same)) ∙ fit; is = is ∙ ap (spelled_value k) (ap (λ (r : Value k × List (List ℕ)). r.0) same) },
          ap (λ (r : Value k × List (List ℕ)). r.1) same,
        )
    by v is false fit f = absurd (none-some (value, rest) f)

-- words say the same as others, whichever word stands before them
abbrev SayAlike : List (List ℕ) → List (List ℕ) → Type 0
SayAlike words others = (word : List ℕ) → words_left (word ∷ words) ≡ words_left (word ∷ others)

alike-behind : (words : List (List ℕ)) (xs ys : List (List ℕ)) → SayAlike xs ys → SayAlike (words ++ xs) (words ++ ys)
alike-behind [] xs ys same word = same word
alike-behind (next ∷ words) xs ys same word = ap (λ (t : List ℕ). word ++ (32 ∷ t)) (alike-behind words xs ys same next)

record IsRead (k : WordKind) (words : List (List ℕ)) (value : Value k) (rest : List (List ℕ)) : Type 0 where
  pub fit : value_fits k value ≡ true
  pub is : SayAlike words (spelled_value k value ++ rest)

one-read : (k : WordKind) (ks : List WordKind) (word : List ℕ) (words : List (List ℕ)) (value : Value k) (rest : List (List ℕ)) → stands_before k ks ≡ true
    → read_word k word words ≡ Some (value, rest) → IsRead k (word ∷ words) value rest
one-read k ks word words value rest stands e =
    let of = word-is k ks word words value rest stands e in
    record { fit = of.0.fit; is = λ before. ap (λ (ws : List (List ℕ)). words_left (before ∷ word ∷ ws)) of.1 ∙ ap (λ (ws : List (List ℕ)). words_left (before ∷ (ws ++ rest))) of.0.is }

-- a text that is read of all words
all-read : (k : WordKind) (ks : List WordKind) (word : List ℕ) (words : List (List ℕ)) (value : Value k) (rest : List (List ℕ)) → stands_before k ks ≡ true
    → read_word k (words_left (word ∷ words)) [] ≡ Some (value, rest) → IsRead k (word ∷ words) value rest
all-read k ks word words value rest stands e =
    let of = one-read k ks (words_left (word ∷ words)) [] value rest stands e in record { fit = of.fit; is = λ before. of.is before }

value-read : (k : WordKind) (ks : List WordKind) (words : List (List ℕ)) (value : Value k) (rest : List (List ℕ)) → stands_before k ks ≡ true
    → read_value k words ≡ Some (value, rest) → IsRead k words value rest
value-read PerhapsMode ks [] value rest stands e =
    let same = same_Some (None, []) (value, rest) e in
    record {
      fit = refl;
      is = λ word. ap (λ (r : Option Mode × List (List ℕ)). words_left (word ∷ (spelled_value PerhapsMode r.0 ++ r.1))) same;
    }
value-read k ks [] value rest stands e = absurd (none-some (value, rest) e)
value-read TheRest ks (word ∷ words) value rest stands e = all-read TheRest ks word words value rest stands e
value-read (TheRestOf least most) ks (word ∷ words) value rest stands e = all-read (TheRestOf least most) ks word words value rest stands e
value-read k ks (word ∷ words) value rest stands e = one-read k ks word words value rest stands e

record AreRead (ks : List WordKind) (make : StepMaker ks) (words : List (List ℕ)) (s : Step) (rest : List (List ℕ)) : Type 0 where
  pub values : ValuesOf ks
  pub made : applied ks make values ≡ s
  pub fit : values_fit ks values ≡ true
  pub is : SayAlike words (spelled_values ks values ++ rest)

fit-from : (k : WordKind) (ks : List WordKind) (values : ValuesOf (k ∷ ks)) → value_fits k values.first ≡ true → values_fit ks values.rest ≡ true → values_fit (k ∷ ks) values ≡ true
fit-from k [] values first rest = first
fit-from k (l ∷ ks) values first rest = and_from (value_fits k values.first) (values_fit (l ∷ ks) values.rest) first rest

append_alike : (xs ys zs : List (List ℕ)) → SayAlike (xs ++ (ys ++ zs)) ((xs ++ ys) ++ zs)
append_alike [] ys zs word = refl
append_alike (x ∷ xs) ys zs word = ap (λ (t : List ℕ). word ++ (32 ∷ t)) (append_alike xs ys zs x)

values-read : (ks : List WordKind) (make : StepMaker ks) (words : List (List ℕ)) (s : Step) (rest : List (List ℕ)) → are_readable ks ≡ true
    → read_values ks make words ≡ Some (s, rest) → AreRead ks make words s rest
values-read [] made words s rest readable e =
    let same = same_Some (made, words) (s, rest) e in
    record {
      values = tt;
      made = ap (λ (r : Step × List (List ℕ)). r.0) same;
      fit = refl;
      is = λ word. ap (λ (r : Step × List (List ℕ)). words_left (word ∷ r.1)) same;
    }
values-read (k ∷ ks) make words s rest readable e =
    let both = and_parts (stands_before k ks) (are_readable ks) readable in
    let t = then-some (λ (read : Value k × List (List ℕ)). read_values ks (make read.0) read.1) (read_value k words) (s, rest) e in
    let first = value-read k ks words t.0.0 t.0.1 both.0 t.1 in
    let behind = values-read ks (make t.0.0) t.0.1 s rest both.1 t.2 in
    record {
      values = record { first = t.0.0; rest = behind.values };
      made = behind.made;
      fit = fit-from k ks (record { first = t.0.0; rest = behind.values }) first.fit behind.fit;
      is = λ word. first.is word ∙ (alike-behind (spelled_value k t.0.0) t.0.1 (spelled_values ks behind.values ++ rest) behind.is word
          ∙ append_alike (spelled_value k t.0.0) (spelled_values ks behind.values) rest word);
    }

-- Steps.

abbrev says_all : Worded → List (List ℕ)
says_all at = at.row.word ∷ spelled_values at.row.kinds at.values

abbrev says_fit : Worded → Bool
says_fit at = values_fit at.row.kinds at.values

pub record SpellsStep (words : List (List ℕ)) (s : Step) : Type 0 where
  pub is : words_left words ≡ spaced_line (words_of_step s)
  pub fit : is_step s ≡ true

-- without words behind them
alone : (xs : List (List ℕ)) (word : List ℕ) → words_left (word ∷ (xs ++ [])) ≡ words_left (word ∷ xs)
alone [] word = refl
alone (x ∷ xs) word = ap (λ (t : List ℕ). word ++ (32 ∷ t)) (alone xs x)

abbrev read_so : Step → List (List ℕ) → Option (Step × List (List ℕ))
read_so s words = Some (s, words)

whole-is : (read : Option (Step × List (List ℕ))) (s : Step) → whole_step read ≡ Some s → read ≡ read_so s []
whole-is None s e = absurd (none-some s e)
whole-is (Some r) s e = by r.0 r.1 e
  where
    by : (t : Step) (words : List (List ℕ)) → step_where_none t words ≡ Some s → read_so t words ≡ read_so s []
    by t [] f = ap (λ (u : Step). read_so u []) (same_Some t s f)
    by t (word ∷ words) f = absurd (none-some s f)

pub step-spelled : (word : List ℕ) (args : List (List ℕ)) (s : Step) → step_in_line word args ≡ Some (Some s) → SpellsStep (word ∷ args) s
step-spelled word args s e = by (row_by_word word step_rows) refl e
  where
    by : (o : Option StepRow) → row_by_word word step_rows ≡ o → option_map whole_step (option_map (row_read args) o) ≡ Some (Some s) → SpellsStep (word ∷ args) s
    by None is f = absurd (none-some (Some s) f)
    by (Some row) is f =
        let named = row_with word row is in
        let read = values-read row.kinds row.make args s [] named.stands.readable (whole-is (read_values row.kinds row.make args) s (same_Some _ (Some s) f)) in
        let says : worded s ≡ record { row = row; values = read.values } = ap worded (sym read.made) ∙ named.stands.says read.values in
        record {
          is = read.is word ∙ (alone (spelled_values row.kinds read.values) word
              ∙ (ap (λ (w : List ℕ). words_left (w ∷ spelled_values row.kinds read.values)) named.is
              ∙ (ap (λ (at : Worded). words_left (says_all at)) (sym says) ∙ ap (λ (words : List (List ℕ)). words_left words) (sym (known s).words))));
          fit = (known s).fits ∙ (ap says_fit says ∙ read.fit);
        }

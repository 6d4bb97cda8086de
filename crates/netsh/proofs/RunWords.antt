-- The words of a run.
use Rattle.std.proofs.Common.{◌≡◌, ◌&&◌, [], ◌∷◌, ℕ, ◌≤◌, Bool, true, false, nat_le, List, Option, Some, None, if◌then◌else◌, refl, ap, arith}
use Rattle.std.specs.Prelude.{bytes_eq, codes}
use Rattle.std.specs.Option.{option_and_then, option_map}
use Rattle.std.proofs.lemmas.Bool.Decides.{nat_tests}
use Rattle.net_base.specs.Addresses.{is_padded, read_digits, within}
use Rattle.net_model.specs.Words.{Check, Command, Cs, Query, Dns, Run, Make, Big, Export, Translate, is_message, is_any_word, messages_in_words, workers_in, command_of}

-- The workers of a command.

abbrev on_workers : Command → Option ℕ
on_workers (Cs sys query) = None
on_workers (Query attr value other) = None
on_workers (Dns word) = None
on_workers (Run workers) = Some workers
on_workers (Make messages) = None
on_workers (Big messages) = None
on_workers Check = None
on_workers (Export workers) = Some workers
on_workers Translate = None

-- the workers that words ask for
abbrev asks : Option Command → Option ℕ
asks asked = option_and_then on_workers asked

-- What a chain of tests gives.

nothing : (n : ℕ) → None ≡ Some n → ⊥
nothing n same = cc

two_run : (b c d x e : Bool) (n m : Option ℕ) (word : List ℕ) (workers : ℕ)
    → asks (if b then option_map Run n else (if c then option_map Make m else (if d then option_map Big m else (if x then option_map Export n else (if e then Some (Dns word) else None))))) ≡ Some workers
    → n ≡ Some workers
two_run true c d x e (Some k) m word workers is = is
two_run true c d x e None m word workers is = absurd (nothing workers is)
two_run false true d x e n (Some k) word workers is = absurd (nothing workers is)
two_run false true d x e n None word workers is = absurd (nothing workers is)
two_run false false true x e n (Some k) word workers is = absurd (nothing workers is)
two_run false false true x e n None word workers is = absurd (nothing workers is)
two_run false false false true e (Some k) m word workers is = is
two_run false false false true e None m word workers is = absurd (nothing workers is)
two_run false false false false true n m word workers is = absurd (nothing workers is)
two_run false false false false false n m word workers is = absurd (nothing workers is)

three_run : (b c d : Bool) (sys query : List ℕ) (workers : ℕ) → asks (if b then (if c then Some (Cs sys query) else (if d then Some (Query sys query None) else None)) else None) ≡ Some workers → ⊥
three_run true true d sys query workers is = nothing workers is
three_run true false true sys query workers is = nothing workers is
three_run true false false sys query workers is = nothing workers is
three_run false c d sys query workers is = nothing workers is

four_run : (b : Bool) (attr value other : List ℕ) (workers : ℕ) → asks (if b then Some (Query attr value (Some other)) else None) ≡ Some workers → ⊥
four_run true attr value other workers is = nothing workers is
four_run false attr value other workers is = nothing workers is

one_run : (b c : Bool) (workers : ℕ) → asks (if b then Some Check else (if c then Some Translate else None)) ≡ Some workers → ⊥
one_run true c workers is = nothing workers is
one_run false true workers is = nothing workers is
one_run false false workers is = nothing workers is

-- a number within bounds
is_within : (least greatest k workers : ℕ) → within least greatest k ≡ Some workers → (least ≤ workers) × (workers ≤ greatest)
is_within least greatest k workers is = by (nat_le least k) (nat_le k greatest) (grind (arith, nat_tests)) (grind (arith, nat_tests)) is
  where
    by : (a b : Bool) → (a ≡ true → least ≤ k) → (b ≡ true → k ≤ greatest) → (if a && b then Some k else None) ≡ Some workers → (least ≤ workers) × (workers ≤ greatest)
    by true true above below same = let is_k : k ≡ workers = cc in (omega (arith, is_k, above refl), omega (arith, is_k, below refl))
    by true false above below same = absurd (nothing workers same)
    by false b above below same = absurd (nothing workers same)

-- the number of workers that a word says
said_within : (word : List ℕ) (workers : ℕ) → workers_in word ≡ Some workers → (1 ≤ workers) × (workers ≤ 16)
unfolding workers_in
said_within word workers is = by (is_padded word) (read_digits 20 word) is
  where
    by : (padded : Bool) (digits : Option ℕ) → (if padded then None else option_and_then (within 1 16) digits) ≡ Some workers → (1 ≤ workers) × (workers ≤ 16)
    by true digits same = absurd (nothing workers same)
    by false None same = absurd (nothing workers same)
    by false (Some k) same = is_within 1 16 k workers same

-- the number of workers that words say
said_words : (words : List (List ℕ)) (workers : ℕ) → asks (command_of words) ≡ Some workers → (1 ≤ workers) × (workers ≤ 16)
said_words [] workers is = absurd (nothing workers is)
said_words (name ∷ []) workers is = absurd (one_run (bytes_eq name (codes "check")) (bytes_eq name (codes "translate")) workers is)
said_words (name ∷ number ∷ []) workers is =
    said_within number workers
    (two_run (bytes_eq name (codes "run")) (bytes_eq name (codes "make")) (bytes_eq name (codes "big")) (bytes_eq name (codes "export")) (bytes_eq name (codes "dns") && is_message number)
    (workers_in number) (messages_in_words number) number workers is)
said_words (name ∷ sys ∷ query ∷ []) workers is =
    absurd (three_run (is_any_word sys && is_any_word query) (bytes_eq name (codes "cs")) (bytes_eq name (codes "query")) sys query workers is)
said_words (name ∷ attr ∷ value ∷ other ∷ []) workers is =
    absurd (four_run (bytes_eq name (codes "query") && is_any_word attr && is_any_word value && is_any_word other) attr value other workers is)
said_words (name ∷ attr ∷ value ∷ other ∷ more ∷ words) workers is = absurd (nothing workers is)

pub workers_within : (words : List (List ℕ)) (workers : ℕ) → command_of words ≡ Some (Run workers) → (1 ≤ workers) × (workers ≤ 16)
workers_within words workers is = said_words words workers (ap asks is)

-- .. of a run with sessions
pub export_within : (words : List (List ℕ)) (workers : ℕ) → command_of words ≡ Some (Export workers) → (1 ≤ workers) × (workers ≤ 16)
export_within words workers is = said_words words workers (ap asks is)

-- Words that have no blank, and none that have a newline.
use Rattle.std.proofs.Common.{◌≡◌, ℕ, ◌<◌, ◌≤◌, ◌^◌, ◌==◌, true, false, not, ◌&&◌, ◌||◌, List, [], ◌∷◌, ◌++◌, length, map, refl, ap, ◌∙◌, arith}
use Rattle.std.specs.Prelude.{⊤, codes, decimal, nat_le, nat_lt}
use Rattle.std.specs.List.{list_all}
use Rattle.std.proofs.lemmas.Bool.{and_parts, false≢true, ltb-true, leb-true}
use Rattle.std.proofs.lemmas.List.Elements.{All-append, All-nil}
use Rattle.net_base.specs.declared.address.Proto.{Proto}
use Rattle.net_base.specs.declared.address.Proto.TheVariants as proto
use Rattle.net_base.specs.declared.names.Mode.{Mode}
use Rattle.net_base.specs.declared.names.Mode.TheVariants as mode
use Rattle.net_base.specs.Addresses.{parts_at}
use Rattle.net_base.specs.ControlWords.{dotted}
use Rattle.net_base.specs.Paths.{proto_name}
use Rattle.net_base.specs.Transcript.{mode_word}
use Rattle.net_base.specs.World.{is_address, is_byte, is_letter, is_name, is_name_byte, is_text, is_within, is_word}
use Rattle.net_base.proofs.Shared.{IsWithout, cut_at, decimal_without, one_part, without_one}
use Rattle.world_text.specs.WorldSpelling.{spaced_line}
use Rattle.world_text.proofs.Controls.{dotted_is_without}
use Rattle.world_text.proofs.WorldLists.{list-without}

-- Words without a byte.

-- a byte that no word has
pub record Apart (s : ℕ) : Type 0 where
  pub low : s < 45
  pub letter : is_letter s ≡ false
  pub name : is_name_byte s ≡ false
  pub path : (path : List ℕ) → is_word path ≡ true → IsWithout s path

run-free : (s : ℕ) → (is_byte s && not ((s == 32) || (s == 10))) ≡ false → (path : List ℕ) → is_word path ≡ true → IsWithout s path
run-free s none [] is = absurd (false≢true is)
run-free s none (b ∷ path) is = list-without (λ c. is_byte c && not ((c == 32) || (c == 10))) s (b ∷ path) none is

pub apart-blank : Apart 32
apart-blank = record { low = omega arith; letter = refl; name = refl; path = run-free 32 refl }

pub apart-newline : Apart 10
apart-newline = record { low = omega arith; letter = refl; name = refl; path = run-free 10 refl }

abbrev pub AreFree : ℕ → List (List ℕ) → Type 0
AreFree s [] = ⊤
AreFree s (word ∷ words) = IsWithout s word × AreFree s words

pub letters-free : (s : ℕ) → Apart s → (word : List ℕ) → list_all is_letter word ≡ true → IsWithout s word
letters-free s p word all = list-without is_letter s word p.letter all

pub name-free : (s : ℕ) → Apart s → (word : List ℕ) → is_name word ≡ true → IsWithout s word
name-free s p [] is = absurd (false≢true is)
name-free s p (c ∷ word) is =
    let first = and_parts (is_letter c) (list_all is_name_byte word && nat_lt (length word) 27) is in
    let rest = and_parts (list_all is_name_byte word) (nat_lt (length word) 27) first.1 in
    list-without is_name_byte s (c ∷ word) p.name (ap (λ v. (v || (is_within 48 57 c || (c == 45))) && list_all is_name_byte word) first.0 ∙ rest.0)

decimal-free : (s : ℕ) → Apart s → (n : ℕ) → n < 2 ^ 64 → IsWithout s (decimal n)
decimal-free s p n small = let low = p.low in decimal_without n s small (omega (arith, low))

pub within-high : (least most n : ℕ) → is_within least most n ≡ true → n ≤ most
within-high least most n e = leb-true n most ((and_parts (nat_le least n) (nat_le n most) e).1)

pub number-free : (s : ℕ) → Apart s → (least most n : ℕ) → most < 2 ^ 64 → is_within least most n ≡ true → IsWithout s (decimal n)
number-free s p least most n bound e = let high = within-high least most n e in decimal-free s p n (omega (arith, high, bound))

pub address-free : (s : ℕ) → Apart s → (ip : ℕ) → is_address ip ≡ true → IsWithout s (dotted ip)
address-free s p ip e = let low = p.low in dotted_is_without s ip (omega (arith, low)) (ltb-true ip (2 ^ 32) e)

pub nets-free : (s : ℕ) → Apart s → (nets : List Proto) → AreFree s (map proto_name nets)
nets-free s p [] = tt
nets-free s p (proto.Il ∷ nets) = (letters-free s p (codes "il") refl, nets-free s p nets)
nets-free s p (proto.Udp ∷ nets) = (letters-free s p (codes "udp") refl, nets-free s p nets)

pub mode-free : (s : ℕ) → Apart s → (m : Mode) → IsWithout s (mode_word m)
mode-free s p mode.Read = letters-free s p (codes "r") refl
mode-free s p mode.Write = letters-free s p (codes "w") refl
mode-free s p mode.Both = letters-free s p (codes "rw") refl

pub text-free : (text : List ℕ) → is_text text ≡ true → IsWithout 10 text
text-free text is = list-without (λ b. is_byte b && not (b == 10)) 10 text refl is

-- words that are free, one list behind another
pub free-append : (s : ℕ) (xs ys : List (List ℕ)) → AreFree s xs → AreFree s ys → AreFree s (xs ++ ys)
free-append s [] ys fx fy = fy
free-append s (x ∷ xs) ys fx fy = (fx.0, free-append s xs ys fx.1 fy)

-- Words that are joined and split.

pub split-back : (word : List ℕ) (words : List (List ℕ)) → AreFree 32 (word ∷ words) → parts_at 32 (spaced_line (word ∷ words)) ≡ word ∷ words
split-back word [] free = one_part 32 word free.0
split-back word (next ∷ words) free = cut_at 32 word (spaced_line (next ∷ words)) (next ∷ words) free.0 (split-back next words free.1)

pub spaced-free : (words : List (List ℕ)) → AreFree 10 words → IsWithout 10 (spaced_line words)
spaced-free [] free = All-nil (λ (x : ℕ). (x == 10) ≡ false)
spaced-free (word ∷ []) free = free.0
spaced-free (word ∷ next ∷ words) free =
    All-append (λ (x : ℕ). (x == 10) ≡ false) word (32 ∷ spaced_line (next ∷ words)) free.0 (without_one 10 32 (spaced_line (next ∷ words)) refl (spaced-free (next ∷ words) free.1))

-- The words of a reply: few and short ones have room in the text of an error.
use Rattle.std.proofs.Common.{◌≡◌, ◌≤◌, ℕ, ◌*◌, ◌&&◌, Bool, true, false, List, [], ◌∷◌, length, nat_le, refl, arith, length-append}
use Rattle.std.proofs.lemmas.Bool.Decides.{nat_tests}
use Rattle.std.proofs.lemmas.List.{length-drop}
use Rattle.std.specs.List.{list_all}
use Rattle.net_base.specs.declared.reply.Reply.{Reply}
use Rattle.net_base.specs.Transcript.{reply_words, spaced}
use Rattle.net_base.specs.SessionAnswers.{longest_error, printed}

abbrev pub is_short : List ℕ → Bool
is_short word = nat_le (length word) 100

short : (n : ℕ) → nat_le n 100 ≡ true → n ≤ 100
short n told = grind (arith, nat_tests)

spaced_few : (words : List (List ℕ)) → list_all is_short words ≡ true → length (spaced words) ≤ 101 * length words
spaced_few [] all = omega arith
spaced_few (word ∷ words) all = by (is_short word) refl all (λ rest. spaced_few words rest)
  where
    by : (v : Bool) → is_short word ≡ v → (v && list_all is_short words) ≡ true
        → (list_all is_short words ≡ true → length (spaced words) ≤ 101 * length words)
        → length (spaced (word ∷ words)) ≤ 101 * length (word ∷ words)
    by true is rest few = omega (arith, short (length word) is, few rest, length-append (32 ∷ word) (spaced words))
    by false is rest few = absurd (cc)

pub has_room : (x : Reply) → list_all is_short (reply_words x) ≡ true → length (reply_words x) ≤ 80 → length (printed x) ≤ longest_error
has_room x all few = omega (arith, few, spaced_few (reply_words x) all, length-drop 1 (spaced (reply_words x)))

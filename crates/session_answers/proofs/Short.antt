-- A brief reply is short: a number has at most 20 digits.
use Rattle.std.proofs.Common.{◌≡◌, ◌≤◌, ◌<◌, ℕ, zero, suc, ◌+◌, ◌/◌, ◌%◌, ◌^◌, true, List, [], ◌∷◌, ◌++◌, length, refl, sym, ap, subst, ◌∙◌, arith, append_assoc, length-append}
use Rattle.std.specs.Prelude.{codes}
use Rattle.std.specs.Int.Digits.{digits_of}
use Rattle.std.specs.List.{list_all}
use Rattle.std.proofs.lemmas.Bool.Decides.{nat_tests}
use Rattle.std.proofs.lemmas.Int.Digits.{length-digits_of-le}
use Rattle.std.proofs.lemmas.Bool.{and_from}
use Rattle.net_base.specs.declared.address.Addr.{Addr}
use Rattle.net_base.specs.declared.address.Pair.{Pair}
use Rattle.net_base.specs.declared.il.Cause.{Cause}
use Rattle.net_base.specs.declared.il.Cause.TheVariants as cause
use Rattle.net_base.specs.declared.reply.Reply.{Reply}
use Rattle.net_base.specs.declared.reply.Reply.TheVariants as reply
use Rattle.net_base.specs.Numeral.{numeral}
use Rattle.net_base.specs.Transcript.{addr_word, cause_number, ip_word, reply_words}
use Rattle.net_base.specs.SessionAnswers.{longest_error, printed}
use Rattle.session_script.proofs.Shared.{has_room, is_short, length_shown}
use Rattle.transcript.proofs.Shared.{address_is}

few_shown : (k n : ℕ) → length (digits_of 10 (suc n)) ≤ k → length (numeral (suc n)) ≤ k
unfolding numeral
few_shown k n few = subst (λ (m : ℕ). m ≤ k) (sym (length_shown (digits_of 10 (suc n)))) few

none_shown : (k : ℕ) → 0 < k → length (numeral zero) ≤ k
unfolding numeral
none_shown k some = omega (arith, some)

few_digits : (k n : ℕ) → 0 < k → n < 10 ^ k → length (numeral n) ≤ k
few_digits k zero some lt = none_shown k some
few_digits k (suc n) some lt = few_shown k n (length-digits_of-le 10 k (suc n) (omega arith) lt)

short_word : (word : List ℕ) → length word ≤ 100 → is_short word ≡ true
short_word word few = grind (arith, nat_tests)

number_short : (n : ℕ) → n < 2 ^ 64 → is_short (numeral n) ≡ true
number_short n lt = short_word (numeral n) (omega (arith, few_digits 20 n (omega arith) (omega (arith, lt))))

ten_digits : (n : ℕ) → n < 2 ^ 32 → length (numeral n) ≤ 10
ten_digits n lt = few_digits 10 n (omega arith) (omega (arith, lt))

-- ---- addresses

dotted : (a b c d : List ℕ) → length a ≤ 10 → length b ≤ 10 → length c ≤ 10 → length d ≤ 10 → length (a ++ 46 ∷ (b ++ 46 ∷ (c ++ 46 ∷ d))) ≤ 43
dotted a b c d one two three four =
    omega (arith, one, two, three, four, length-append c (46 ∷ d), length-append b (46 ∷ (c ++ 46 ∷ d)), length-append a (46 ∷ (b ++ 46 ∷ (c ++ 46 ∷ d))))

ip_few : (ip : ℕ) → ip < 2 ^ 32 → length (ip_word ip) ≤ 43
ip_few ip lt =
    subst (λ (word : List ℕ). length word ≤ 43) (sym (address_is ip))
    (dotted (numeral (ip / 2 ^ 24)) (numeral (ip / 2 ^ 16 % 256)) (numeral (ip / 2 ^ 8 % 256)) (numeral (ip % 256))
    (ten_digits (ip / 2 ^ 24) (omega (arith, lt))) (ten_digits (ip / 2 ^ 16 % 256) (omega arith)) (ten_digits (ip / 2 ^ 8 % 256) (omega arith)) (ten_digits (ip % 256) (omega arith)))

addr_is : (a : Addr) → addr_word a ≡ ip_word a.ip ++ 33 ∷ numeral a.port
unfolding addr_word
addr_is a = simp append_assoc refl

addr_short : (a : Addr) → a.ip < 2 ^ 32 → a.port < 2 ^ 16 → is_short (addr_word a) ≡ true
addr_short a ip port =
    subst (λ (word : List ℕ). is_short word ≡ true) (sym (addr_is a))
    (short_word (ip_word a.ip ++ 33 ∷ numeral a.port) (omega (arith, ip_few a.ip ip, ten_digits a.port (omega (arith, port)), length-append (ip_word a.ip) (33 ∷ numeral a.port))))

-- ---- replies

-- one number behind a word
pub one_number : (x : Reply) (n : ℕ) (word : List ℕ) → reply_words x ≡ word ∷ numeral n ∷ [] → is_short word ≡ true → n < 2 ^ 64 → length (printed x) ≤ longest_error
one_number x n word is short lt =
    has_room x
    (ap (λ (ws : List (List ℕ)). list_all is_short ws) is ∙ and_from (is_short word) _ short (and_from (is_short (numeral n)) true (number_short n lt) refl))
    (omega (arith, ap (λ (ws : List (List ℕ)). length ws) is))

pub two_numbers : (x : Reply) (n m : ℕ) (word : List ℕ) → reply_words x ≡ word ∷ numeral n ∷ numeral m ∷ [] → is_short word ≡ true → n < 2 ^ 64 → m < 2 ^ 64
    → length (printed x) ≤ longest_error
two_numbers x n m word is short one two =
    has_room x
    (ap (λ (ws : List (List ℕ)). list_all is_short ws) is
    ∙ and_from (is_short word) _ short (and_from (is_short (numeral n)) _ (number_short n one) (and_from (is_short (numeral m)) true (number_short m two) refl)))
    (omega (arith, ap (λ (ws : List (List ℕ)). length ws) is))

pub grant_short : (pair : Pair) (start limit : ℕ) → pair.local.ip < 2 ^ 32 → pair.local.port < 2 ^ 16 → pair.remote.ip < 2 ^ 32 → pair.remote.port < 2 ^ 16
    → start < 2 ^ 64 → limit < 2 ^ 64 → length (printed (reply.Granted pair start limit)) ≤ longest_error
grant_short pair start limit a b c d e f =
    has_room (reply.Granted pair start limit)
    (and_from (is_short (addr_word pair.local)) _ (addr_short pair.local a b)
    (and_from (is_short (addr_word pair.remote)) _ (addr_short pair.remote c d)
    (and_from (is_short (numeral start)) _ (number_short start e) (and_from (is_short (numeral limit)) true (number_short limit f) refl))))
    (omega arith)

pub hungup_short : (c : Cause) → length (printed (reply.Hungup c)) ≤ longest_error
hungup_short c = one_number (reply.Hungup c) (cause_number c) (codes "hungup") refl refl (few c)
  where
    few : (k : Cause) → cause_number k < 2 ^ 64
    few cause.Refused = omega arith
    few cause.TimedOut = omega arith
    few cause.Hungup = omega arith
    few cause.ByPeer = omega arith

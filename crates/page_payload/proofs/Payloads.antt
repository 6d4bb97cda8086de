-- Payloads.
use Rattle.std.proofs.Common.{◌≡◌, ℕ, List, [], ◌∷◌, ◌++◌, refl, ap, ◌∙◌, append_assoc}
use Rattle.std.specs.Prelude.{codes, count_by}
use Rattle.std.proofs.lemmas.List.{append-nil}
use Rattle.net_base.specs.Numeral.{numeral}
use Rattle.net_base.specs.Transcript.{spaced}
use Rattle.page_payload.specs.Encoding.{encoded}
use Rattle.page_payload.specs.Parts.{ReadsBack, part, payload_of}
use Rattle.page_payload.specs.PlainText.{AreBytes, IsPlain, is_newline}
use Rattle.page_payload.proofs.Plainness.{input_plain, plain_both, plain_numeral, plain_one}
use Rattle.page_payload.proofs.ReadBack.{lines_back}

pub plain_word : (word : List ℕ) → IsPlain word → IsPlain (spaced (word ∷ []))
plain_word word plain = plain_one 32 (word ++ []) refl (plain_both word [] plain refl)

plain_part : (name lines : List ℕ) → IsPlain name → IsPlain lines → IsPlain (part name lines)
plain_part name lines named plain =
    let count = numeral (count_by is_newline lines) in
    plain_both (codes "%" ++ name ++ spaced (count ∷ [])) (10 ∷ lines)
    (plain_both (codes "%" ++ name) (spaced (count ∷ [])) (plain_one 37 name refl named) (plain_word count (plain_numeral (count_by is_newline lines))))
    (plain_one 10 lines refl plain)

pub payload_plain : (input packets steps ends : List ℕ) → AreBytes input → IsPlain packets → IsPlain steps → IsPlain ends
    → IsPlain (payload_of input packets steps ends)
payload_plain input packets steps ends are p q r =
    let one = codes "page 1\n" in
    let two = part (codes "input") (encoded input) in
    let three = part (codes "packets") packets in
    let four = part (codes "steps") steps in
    plain_both (one ++ two ++ three ++ four) (part (codes "ends") ends)
    (plain_both (one ++ two ++ three) four
    (plain_both (one ++ two) three
    (plain_both one two refl (plain_part (codes "input") (encoded input) refl (input_plain input are)))
    (plain_part (codes "packets") packets refl p))
    (plain_part (codes "steps") steps refl q))
    (plain_part (codes "ends") ends refl r)

-- a number, a line and what follows it
split_up : (digits lines a b c behind : List ℕ) → ((((digits ++ []) ++ lines) ++ a) ++ b) ++ c ++ behind ≡ digits ++ (lines ++ (a ++ (b ++ (c ++ behind))))
split_up digits lines a b c behind =
    ap (λ (xs : List ℕ). (((xs ++ lines) ++ a) ++ b) ++ c ++ behind) (append-nil digits)
    ∙ append_assoc (((digits ++ lines) ++ a) ++ b) c behind
    ∙ append_assoc ((digits ++ lines) ++ a) b (c ++ behind)
    ∙ append_assoc (digits ++ lines) a (b ++ (c ++ behind))
    ∙ append_assoc digits lines (a ++ (b ++ (c ++ behind)))

pub payload_back : (input packets steps ends behind : List ℕ) → ReadsBack (payload_of input packets steps ends ++ behind) input
payload_back input packets steps ends behind =
    let count = count_by is_newline (encoded input) in
    let a = part (codes "packets") packets in
    let b = part (codes "steps") steps in
    let c = part (codes "ends") ends in record {
      lines = count;
      behind = encoded input ++ (a ++ (b ++ (c ++ behind)));
      begins = ap (λ (xs : List ℕ). codes "page 1\n%input " ++ xs) (split_up (numeral count) (10 ∷ encoded input) a b c behind);
      reads = lines_back input (a ++ (b ++ (c ++ behind)));
    }

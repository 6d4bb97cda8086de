-- The question that is found is the one that is spelled.
use Rattle.std.proofs.Common.{◌≡◌, ℕ, ◌+◌, ◌≤◌, ◌==◌, Bool, true, false, cond, ◌&&◌, List, ◌++◌, length, take, drop, Option, Some, None, refl, sym, ap, ◌∙◌, arith, subst}
use Rattle.std.specs.Prelude.{nat_le, option_and_then}
use Rattle.std.proofs.lemmas.Bool.{and_parts, and_from, leb-true, le-leb, eqb-true, eq-eqb}
use Rattle.std.proofs.lemmas.List.{take_at, take-append-drop}
use Rattle.std.proofs.lemmas.Option.{none-some, same_Some}
use Rattle.net_base.specs.Bytes.{word_at}
use Rattle.net_base.specs.declared.question.Question.{Question}
use Rattle.net_base.specs.DomainNames.{Ended, Pointed, PointsBack, ReadsName, Spells, StandAt, is_domain_name, name_bytes, name_text}
use Rattle.net_base.specs.DomainQuestions.{HasDomainHeader, ReadsQuestion, name_at_front, question_named, question_of}
use Rattle.formats.proofs.Found.{name_begins, name_found}

-- ---- a name at the first place behind a header, to which no pointer leads

-- what is spelled there
pub record IsAtFront (message : List ℕ) (labels : List (List ℕ)) (end : ℕ) : Type 0 where
  pub found : name_at_front (drop 12 message) ≡ Some labels
  pub past : end ≡ 12 + length (name_bytes labels)

no_pointer : (place target : ℕ) → place ≡ 12 → PointsBack place target → ⊥
no_pointer place target is_twelve back = omega (arith, is_twelve, back.behind_header, back.back)

pub stands : (place : ℕ) (message front : List ℕ) → StandAt place front message → drop place message ≡ front ++ drop (length front) (drop place message)
stands place message front stand =
    sym (take-append-drop (length front) (drop place message)) ∙ ap (λ (xs : List ℕ). xs ++ drop (length front) (drop place message)) stand

at_place : (message : List ℕ) (place end : ℕ) (labels : List (List ℕ)) → place ≡ 12 → is_domain_name labels ≡ true → StandAt place (name_bytes labels) message → end ≡ place + length (name_bytes labels) → IsAtFront message labels end
at_place message place end labels is_twelve name stand past = record {
  found =
      ap (λ (n : ℕ). name_at_front (drop n message)) (sym is_twelve)
      ∙ ap name_at_front (stands place message (name_bytes labels) stand)
      ∙ name_found labels (drop (length (name_bytes labels)) (drop place message)) name;
  past = omega (arith, is_twelve, past);
}

at_front : {message : List ℕ} {place end : ℕ} {labels : List (List ℕ)} → Spells message place labels end → place ≡ 12 → is_domain_name labels ≡ true → IsAtFront message labels end
at_front {message = m} (Ended place labels end stand past) is_twelve name = at_place m place end labels is_twelve name stand past
at_front {message = m} (Pointed place target past front rest labels end valid stand back behind are ends) is_twelve name = absurd (no_pointer place target is_twelve back)

pub read_at_front : (message text : List ℕ) (end : ℕ) → (name : ReadsName message 12 text end) → IsAtFront message name.labels end
read_at_front message text end name = at_front name.spelled refl name.name

-- what is found there is spelled
pub front_is_read : (message : List ℕ) (labels : List (List ℕ)) → name_at_front (drop 12 message) ≡ Some labels → ReadsName message 12 (name_text labels) (12 + length (name_bytes labels))
front_is_read message labels e =
    let found = name_begins (drop 12 message) labels e in
    let rest = found.1.0 in
    let stand : StandAt 12 (name_bytes labels) message =
    ap (take (length (name_bytes labels))) found.1.1 ∙ take_at (name_bytes labels) rest (length (name_bytes labels)) refl
    in record {
      labels = labels;
      name = found.0;
      spelled = Ended 12 labels (12 + length (name_bytes labels)) stand refl;
      told = refl;
    }

-- ---- the question

-- two questions with the same parts are the same
same_question : (q : Question) (message text : List ℕ) (behind : ℕ) → q.id ≡ word_at 0 message → q.flags ≡ word_at 2 message → q.name ≡ text → q.kind ≡ word_at behind message → q.class ≡ word_at (behind + 2) message → q.end ≡ behind + 4
    → q ≡ record { id = word_at 0 message; flags = word_at 2 message; name = text; kind = word_at behind message; class = word_at (behind + 2) message; end = behind + 4 }
same_question q message text behind id flags name kind class end =
    λ i. record { id = id i; flags = flags i; name = name i; kind = kind i; class = class i; end = end i }

whole_named : (message : List ℕ) (labels : List (List ℕ)) (behind : ℕ) → behind ≡ 12 + length (name_bytes labels) → behind + 4 ≤ length message
    → question_named message labels ≡ Some (record { id = word_at 0 message; flags = word_at 2 message; name = name_text labels; kind = word_at behind message; class = word_at (behind + 2) message; end = behind + 4 })
whole_named message labels behind is whole =
    let size = 12 + length (name_bytes labels) in
    ap (λ (b : Bool). cond b (Some (record { id = word_at 0 message; flags = word_at 2 message; name = name_text labels; kind = word_at size message; class = word_at (size + 2) message; end = size + 4 })) None) (le-leb (size + 4) (length message) (omega (arith, is, whole)))
    ∙ ap (λ (n : ℕ). Some (record { id = word_at 0 message; flags = word_at 2 message; name = name_text labels; kind = word_at n message; class = word_at (n + 2) message; end = n + 4 })) (sym is)

pub is_found : (message : List ℕ) (q : Question) → ReadsQuestion message q → question_of message ≡ Some q
is_found message q reads =
    let front = read_at_front message q.name reads.behind reads.name in
    ap (λ (b : Bool). cond b (option_and_then (question_named message) (name_at_front (drop 12 message))) None)
    (and_from (nat_le 12 (length message)) (word_at 4 message == 1) (le-leb 12 (length message) reads.header) (eq-eqb (word_at 4 message) 1 reads.one))
    ∙ ap (option_and_then (question_named message)) front.found
    ∙ whole_named message reads.name.labels reads.behind front.past (omega (arith, reads.past, reads.whole))
    ∙ ap Some (sym (same_question q message (name_text reads.name.labels) reads.behind reads.id reads.flags reads.name.told reads.kind reads.class reads.past))

named_is_read : (message : List ℕ) (q : Question) (labels : List (List ℕ)) → HasDomainHeader message → word_at 4 message ≡ 1 → name_at_front (drop 12 message) ≡ Some labels → question_named message labels ≡ Some q → ReadsQuestion message q
named_is_read message q labels header one front e = by (nat_le (12 + length (name_bytes labels) + 4) (length message)) refl e
  where
    by : (whole : Bool) → nat_le (12 + length (name_bytes labels) + 4) (length message) ≡ whole → cond whole (Some (record { id = word_at 0 message; flags = word_at 2 message; name = name_text labels; kind = word_at (12 + length (name_bytes labels)) message; class = word_at (12 + length (name_bytes labels) + 2) message; end = 12 + length (name_bytes labels) + 4 })) None ≡ Some q → ReadsQuestion message q
    by false is e = absurd (none-some q e)
    by true is e =
        subst (ReadsQuestion message) (same_Some (record { id = word_at 0 message; flags = word_at 2 message; name = name_text labels; kind = word_at (12 + length (name_bytes labels)) message; class = word_at (12 + length (name_bytes labels) + 2) message; end = 12 + length (name_bytes labels) + 4 }) q e)
        (record {
          header = header;
          one = one;
          id = refl;
          flags = refl;
          behind = 12 + length (name_bytes labels);
          name = front_is_read message labels front;
          kind = refl;
          class = refl;
          past = refl;
          whole = leb-true (12 + length (name_bytes labels) + 4) (length message) is;
        })

found_is_read : (message : List ℕ) (q : Question) → HasDomainHeader message → word_at 4 message ≡ 1 → (front : Option (List (List ℕ))) → name_at_front (drop 12 message) ≡ front → option_and_then (question_named message) front ≡ Some q → ReadsQuestion message q
found_is_read message q header one None front e = absurd (none-some q e)
found_is_read message q header one (Some labels) front e = named_is_read message q labels header one front e

pub is_read : (message : List ℕ) (q : Question) → question_of message ≡ Some q → ReadsQuestion message q
is_read message q e = by (nat_le 12 (length message) && word_at 4 message == 1) refl e
  where
    by : (asks : Bool) → (nat_le 12 (length message) && word_at 4 message == 1) ≡ asks → cond asks (option_and_then (question_named message) (name_at_front (drop 12 message))) None ≡ Some q → ReadsQuestion message q
    by false is e = absurd (none-some q e)
    by true is e =
        let parts = and_parts (nat_le 12 (length message)) (word_at 4 message == 1) is in
        found_is_read message q (leb-true 12 (length message) parts.0) (eqb-true (word_at 4 message) 1 parts.1) (name_at_front (drop 12 message)) refl e

-- The question of a message (RFC 1035, sections 4.1.1 and 4.1.2): behind a header of twelve bytes a name, a type and a class.
use Rattle.std.specs.Prelude.{◌≡◌, ◌≤◌, ℕ, zero, suc, ◌+◌, ◌==◌, ◌&&◌, nat_le, List, [], ◌∷◌, length, take, drop, Option, Some, None, option_map, option_and_then, if◌then◌else◌}
use Rattle.net_base.specs.Bytes.{word_at}
use Rattle.net_base.specs.declared.question.Question.{Question}
use Rattle.net_base.specs.DomainNames.{ReadsName, is_label, is_domain_name, name_bytes, name_text}

-- ---- the grammar

-- a message has a header
abbrev pub HasDomainHeader : List ℕ → Type 0
HasDomainHeader message = 12 ≤ length message

-- a message asks one question, and this is it
pub record ReadsQuestion (message : List ℕ) (q : Question) : Type 0 where
  pub header : HasDomainHeader message
  pub one : word_at 4 message ≡ 1
  pub id : q.id ≡ word_at 0 message
  pub flags : q.flags ≡ word_at 2 message
  pub behind : ℕ
  pub name : ReadsName message 12 q.name behind
  pub kind : q.kind ≡ word_at behind message
  pub class : q.class ≡ word_at (behind + 2) message
  pub past : q.end ≡ behind + 4
  pub whole : q.end ≤ length message

-- ---- the same, found

-- the labels that bytes begin with up to a zero byte, at most so many
abbrev pub labels_in : ℕ → List ℕ → Option (List (List ℕ))
labels_in zero bytes = None
labels_in (suc most) [] = None
labels_in (suc most) (count ∷ bytes) =
    if count == 0 then Some []
    else (if is_label (take count bytes) && length (take count bytes) == count
    then option_map (λ labels. take count bytes ∷ labels) (labels_in most (drop count bytes)) else None)

-- the labels of a name that bytes begin with: 255 bytes hold no more than 127
abbrev pub name_at_front : List ℕ → Option (List (List ℕ))
name_at_front bytes =
    option_and_then (λ labels. if is_domain_name labels then Some labels else None) (labels_in 128 bytes)

-- the question of this name, where its type and class are there; nothing stands before it to which a pointer may point
abbrev pub question_named : List ℕ → List (List ℕ) → Option Question
question_named message labels =
    let behind = 12 + length (name_bytes labels) in
    if nat_le (behind + 4) (length message)
    then Some (record {
      id = word_at 0 message;
      flags = word_at 2 message;
      name = name_text labels;
      kind = word_at behind message;
      class = word_at (behind + 2) message;
      end = behind + 4;
    })
    else None

-- the one question of a message, where it asks one
abbrev pub question_of : List ℕ → Option Question
question_of message =
    if nat_le 12 (length message) && word_at 4 message == 1
    then option_and_then (question_named message) (name_at_front (drop 12 message)) else None

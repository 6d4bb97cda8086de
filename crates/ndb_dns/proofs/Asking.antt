-- The question of a message, by the name that is read behind its header.
use Rattle.std.proofs.Common.{◌≡◌, ℕ, ◌+◌, ◌<◌, ◌≤◌, List, length, Option, Some, None, refl, arith, inl, inr}
use Rattle.net_base.specs.Bytes.{word_at}
use Rattle.net_base.specs.declared.question.Question.{Question}
use Rattle.net_base.specs.DomainNames.{ReadsName}
use Rattle.net_base.specs.DomainQuestions.{HasDomainHeader, question_of}
use Rattle.formats.proofs.Shared.{name_short, is_found, is_read, read_at_front}
use Rattle.ndb_dns.specs.declared.fault.DnsError.{DnsError}
use Rattle.ndb_dns.specs.Runs.{IsRunRefused}
use Rattle.ndb_dns.proofs.Spelling.{name_once}

pub asks : (message : List ℕ) (q : Question) (behind : ℕ) → HasDomainHeader message → word_at 4 message ≡ 1 → q.id ≡ word_at 0 message → q.flags ≡ word_at 2 message → ReadsName message 12 q.name behind → q.kind ≡ word_at behind message → q.class ≡ word_at (behind + 2) message → q.end ≡ behind + 4 → behind + 4 ≤ length message → question_of message ≡ Some q
asks message q behind header one id flags name kind class past whole =
    is_found message q (record {
      header = header;
      one = one;
      id = id;
      flags = flags;
      behind = behind;
      name = name;
      kind = kind;
      class = class;
      past = past;
      whole = omega (arith, past, whole);
    })

none_from : {A : Type 0} (o : Option A) → ((x : A) → o ≡ Some x → ⊥) → o ≡ None
none_from None never = refl
none_from (Some x) never = absurd (never x refl)

-- no name stands there
pub asks_no_name : (message : List ℕ) → ((text : List ℕ) (end : ℕ) → ReadsName message 12 text end → ⊥) → question_of message ≡ None
asks_no_name message none =
    none_from (question_of message) (λ (q : Question) (e : question_of message ≡ Some q). let reads = is_read message q e in none q.name reads.behind reads.name)

-- its type or its class isn't whole
pub asks_half : (message text : List ℕ) (behind : ℕ) → ReadsName message 12 text behind → length message < behind + 4 → question_of message ≡ None
asks_half message text behind name half =
    none_from (question_of message)
    (λ (q : Question) (e : question_of message ≡ Some q).
    let reads = is_read message q e in
    let same = name_once message 12 text q.name behind reads.behind name reads.name in
    omega (arith, half, same.1, reads.past, reads.whole))

-- where the name of a question ends
pub name_within : (message text : List ℕ) (behind : ℕ) → ReadsName message 12 text behind → (12 ≤ behind) × (behind ≤ 267)
name_within message text behind name =
    let front = read_at_front message text behind name in
    let short = name_short name.labels name.name in
    (omega (arith, front.past), omega (arith, front.past, short))

-- ---- refusals

pub refused_so : (e : DnsError) (P Q : Type 0) → (P → Q) → IsRunRefused e P → IsRunRefused e Q
refused_so e P Q so (inl memory) = inl memory
refused_so e P Q so (inr format) = inr (format.0, so format.1)

-- The answer of a server whose zone is the database (RFC 1035, sections 3.2 to 3.4 and 4.1): header, question and records.
use Rattle.std.specs.Prelude.{ℕ, ◌+◌, ◌-◌, ◌*◌, ◌/◌, ◌%◌, ◌==◌, Bool, true, not, ◌&&◌, ◌||◌, nat_lt, nat_le, List, [], ◌∷◌, ◌++◌, length, map, filter_map, flat_map, take, drop, Option, Some, None, is_none, option_map, option_and_then, if◌then◌else◌, bytes_eq, codes}
use Rattle.std.specs.Int.{bytes_high_first}
use Rattle.net_base.specs.Ndb.{NdbPair}
use Rattle.net_base.specs.Addresses.{parts_at, read_address}
use Rattle.net_base.specs.Cs.{once_each}
use Rattle.net_base.specs.NdbBundle.{each_once}
use Rattle.net_base.specs.NdbText.{is_empty}
use Rattle.net_base.specs.Networks.{first_of}
use Rattle.net_base.specs.Search.{all_beside, or_where_empty, tuples_with}
use Rattle.net_base.specs.Bytes.{word_at}
use Rattle.net_base.specs.declared.question.Question.{Question}
use Rattle.net_base.specs.DomainNames.{name_in, bytes_of_name}
use Rattle.net_base.specs.DomainQuestions.{question_of}

-- ---- types of records

abbrev pub host_address : ℕ
host_address = 1

abbrev pub canonical_name : ℕ
canonical_name = 5

abbrev pub domain_pointer : ℕ
domain_pointer = 12

-- ---- records

-- a record of the class IN, which may be kept for an hour
abbrev pub record_bytes : List ℕ → ℕ → List ℕ → List ℕ
record_bytes owner kind told =
    owner ++ (bytes_high_first 2 kind
    ++ (bytes_high_first 2 1
    ++ (bytes_high_first 4 3600 ++ (bytes_high_first 2 (length told) ++ told))))

-- the name of the question, by a pointer to its place
abbrev pub asked : List ℕ
asked = 192 ∷ 12 ∷ []

abbrev pub address_record : List ℕ → ℕ → List ℕ
address_record owner ip = record_bytes owner host_address (bytes_high_first 4 ip)

-- a record of the question's name that tells a name, which has no pointers
abbrev pub naming_record : ℕ → List ℕ → List ℕ
naming_record kind name = record_bytes asked kind (bytes_of_name name)

-- ---- what the database says of a name

-- the addresses of a name, each once
abbrev pub addresses_named : List ℕ → List (List (List NdbPair)) → List ℕ
addresses_named name db = once_each (filter_map read_address (all_beside (codes "dom") name (codes "ip") db))

-- the names beside a pair, each once
abbrev pub names_beside : List ℕ → List ℕ → List ℕ → List (List (List NdbPair)) → List (List ℕ)
names_beside attr value other db = each_once (filter_map name_in (all_beside attr value other db))

-- the name for which a name stands: the first that it is given
abbrev pub alias_of : List ℕ → List (List (List NdbPair)) → Option (List ℕ)
alias_of name db = first_of (names_beside (codes "dom") name (codes "cname") db)

-- the record of an alias, and the addresses of what it stands for; it is followed once
abbrev pub alias_records : List (List (List NdbPair)) → Option (List ℕ) → List (List ℕ)
alias_records db None = []
alias_records db (Some name) =
    naming_record canonical_name name ∷ map (address_record (bytes_of_name name)) (addresses_named name db)

-- a name's addresses, or else those of its alias
abbrev pub address_records : List (List (List NdbPair)) → List ℕ → List (List ℕ)
address_records db name =
    or_where_empty (map (address_record asked) (addresses_named name db)) (alias_records db (alias_of name db))

-- ---- the reverse

-- four numbers below in-addr.arpa (section 3.5), from the last to the first, with dots between them
abbrev pub turned_round : List (List ℕ) → Option (List ℕ)
turned_round (d ∷ c ∷ b ∷ a ∷ zone ∷ top ∷ []) =
    if bytes_eq zone (codes "in-addr") && bytes_eq top (codes "arpa")
    then Some (a ++ codes "." ++ b ++ codes "." ++ c ++ codes "." ++ d) else None
turned_round _ = None

abbrev pub where_address : List ℕ → Option (List ℕ)
where_address word = if is_none (read_address word) then None else Some word

-- the address that a name stands for, where it is below in-addr.arpa
abbrev pub reverse_of : List ℕ → Option (List ℕ)
reverse_of name = option_and_then where_address (turned_round (parts_at 46 name))

-- ---- what is searched for, and what is found

-- an attribute with a value
pub record ZoneKey : Type 0 where
  pub attr : List ℕ
  pub value : List ℕ

abbrev pub key_of : Question → Option ZoneKey
key_of q =
    if q.kind == domain_pointer
    then option_map (λ word. record { attr = codes "ip"; value = word }) (reverse_of q.name)
    else Some (record { attr = codes "dom"; value = q.name })

-- no tuple has the pair
abbrev pub is_unknown : List (List (List NdbPair)) → Option ZoneKey → Bool
is_unknown db None = true
is_unknown db (Some key) = is_empty (tuples_with key.attr key.value db)

-- the records of a type beside a pair
abbrev pub records_beside : List (List (List NdbPair)) → ℕ → List ℕ → List ℕ → List (List ℕ)
records_beside db kind attr value =
    if kind == host_address then address_records db value
    else (if kind == canonical_name then map (naming_record canonical_name) (names_beside attr value (codes "cname") db)
    else map (naming_record domain_pointer) (names_beside attr value (codes "dom") db))

-- the records of a type beside a pair, where a tuple has it
abbrev pub records_found : List (List (List NdbPair)) → ℕ → Option ZoneKey → List (List ℕ)
records_found db kind None = []
records_found db kind (Some key) =
    if is_unknown db (Some key) then [] else records_beside db kind key.attr key.value

-- ---- the reply

-- what kind of query it is; 0 is a standard one
abbrev pub opcode_of : ℕ → ℕ
opcode_of flags = flags / 2048 % 16

-- whether recursion is desired
abbrev pub recursion_of : ℕ → ℕ
recursion_of flags = flags / 256 % 2

-- a kind of query, a class or a type that isn't answered
abbrev pub is_not_implemented : Question → Bool
is_not_implemented q =
    not (opcode_of q.flags == 0) || not (q.class == 1)
    || not (q.kind == host_address || q.kind == canonical_name || q.kind == domain_pointer)

-- how a question is answered: 4 where it isn't implemented, 3 where the name doesn't exist
abbrev pub rcode_of : List (List (List NdbPair)) → Question → ℕ
rcode_of db q = if is_not_implemented q then 4 else (if is_unknown db (key_of q) then 3 else 0)

abbrev pub records_of : List (List (List NdbPair)) → Question → List (List ℕ)
records_of db q = if is_not_implemented q then [] else records_found db q.kind (key_of q)

-- the longest list of first records that have no more bytes than this
abbrev pub fitting : ℕ → List (List ℕ) → List (List ℕ)
fitting room [] = []
fitting room (r ∷ records) = if nat_le (length r) room then r ∷ fitting (room - length r) records else []

-- a response with authority, whose kind of query and desire of recursion are as sent
abbrev pub reply_flags : ℕ → Bool → ℕ → ℕ
reply_flags sent is_cut rcode =
    32768 + opcode_of sent * 2048 + 1024 + (if is_cut then 512 else 0) + recursion_of sent * 256 + rcode

-- a header: its number, its flags, and how many questions and answers follow
abbrev pub header_bytes : ℕ → ℕ → ℕ → ℕ → List ℕ
header_bytes id flags questions answers =
    bytes_high_first 2 id ++ (bytes_high_first 2 flags
    ++ (bytes_high_first 2 questions ++ (bytes_high_first 2 answers ++ (0 ∷ 0 ∷ 0 ∷ 0 ∷ []))))

-- a header, the question as it stands, and the records that fit in 512 bytes
abbrev pub reply_of : List ℕ → Question → ℕ → List (List ℕ) → List ℕ
reply_of message q rcode records =
    let fit = fitting (512 - q.end) records in
    header_bytes q.id (reply_flags q.flags (nat_lt (length fit) (length records)) rcode) 1 (length fit)
    ++ (take (q.end - 12) (drop 12 message) ++ flat_map (λ r. r) fit)

-- the reply to a message that is no question: a header alone
abbrev pub format_reply : List ℕ → List ℕ
format_reply message = header_bytes (word_at 0 message) 32769 0 0

abbrev pub answer_question : List (List (List NdbPair)) → List ℕ → Option Question → List ℕ
answer_question db message None = format_reply message
answer_question db message (Some q) = reply_of message q (rcode_of db q) (records_of db q)

-- a message that is answered: it has a header, and is no response
abbrev pub is_answered : List ℕ → Bool
is_answered message = nat_le 12 (length message) && nat_lt (word_at 2 message) 32768

-- what a message is answered
abbrev pub dns_answer : List (List (List NdbPair)) → List ℕ → Option (List ℕ)
dns_answer db message = if is_answered message then Some (answer_question db message (question_of message)) else None

-- How many tuples an answer looks at, at most.
use Rattle.std.specs.Prelude.{ℕ, ◌+◌, ◌*◌, ◌==◌, List, Option, Some, None, codes, if◌then◌else◌}
use Rattle.std.specs.Option.{option_map_or}
use Rattle.net_base.specs.Ndb.{NdbPair}
use Rattle.ndb_index.specs.Index.{found}
use Rattle.net_base.specs.declared.question.Question.{Question}
use Rattle.net_base.specs.DomainAnswers.{ZoneKey, alias_of, host_address, key_of}
use Rattle.net_base.specs.DomainQuestions.{question_of}

-- the tuples of the name for which a name stands
abbrev pub alias_looks : List (List (List NdbPair)) → Option (List ℕ) → ℕ
alias_looks db None = 0
alias_looks db (Some alias) = found (codes "dom") alias db

-- those with the pair; for addresses those of the name, again where it may have an alias, and those of the alias
abbrev pub looks_beside : List (List (List NdbPair)) → ℕ → List ℕ → List ℕ → ℕ
looks_beside db kind attr value =
    if kind == host_address
    then 2 * found (codes "dom") value db + alias_looks db (alias_of value db) else found attr value db

abbrev pub looks_for : List (List (List NdbPair)) → ℕ → Option ZoneKey → ℕ
looks_for db kind None = 0
looks_for db kind (Some key) = looks_beside db kind key.attr key.value

abbrev pub looks_of : List (List (List NdbPair)) → Question → ℕ
looks_of db q = looks_for db q.kind (key_of q)

abbrev pub most_looks : List (List (List NdbPair)) → List ℕ → ℕ
most_looks db message = option_map_or (looks_of db) (question_of message) 0

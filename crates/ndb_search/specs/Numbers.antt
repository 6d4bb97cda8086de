-- The numbers that the resolver takes out of the database: values of one kind, as they are read.
use Rattle.std.specs.Prelude.{ℕ, List, filter_map, Option, None, if◌then◌else◌, codes}
use Rattle.net_base.specs.Ndb.{NdbPair}
use Rattle.net_base.specs.Addresses.{read_address, read_port}
use Rattle.net_base.specs.Networks as networks
use Rattle.net_base.specs.Search.{has_attr, values_on, values_in, or_where_empty, beside, all_beside}
use Rattle.ndb_search.specs.declared.tuple_numbers.Kind.{Kind}
use Rattle.ndb_search.specs.declared.tuple_numbers.Kind.TheVariants.{Address, Mask, Port}

-- the attribute whose values are of this kind
abbrev pub attr_of : Kind → List ℕ
attr_of Address = codes "ip"
attr_of Mask = codes "ipmask"
attr_of Port = codes "port"

-- the number that a value of this kind spells
abbrev pub number_read_of : Kind → List ℕ → Option ℕ
number_read_of Address = read_address
number_read_of Mask = networks.read_mask
number_read_of Port = read_port

-- the number of a kind that a pair holds
unfoldable pub pair_number : Kind → NdbPair → Option ℕ
pair_number kind pair = if has_attr (attr_of kind) pair then number_read_of kind pair.value else None

-- the numbers of a kind on a line
abbrev pub numbers_on : Kind → List NdbPair → List ℕ
numbers_on kind line = filter_map (number_read_of kind) (values_on (attr_of kind) line)

-- the numbers of a kind in a tuple
abbrev pub numbers_in : Kind → List (List NdbPair) → List ℕ
numbers_in kind tuple = filter_map (number_read_of kind) (values_in (attr_of kind) tuple)

-- the numbers of a kind beside a pair that stands on this line of a tuple first
abbrev pub numbers_near : Kind → List NdbPair → List (List NdbPair) → List ℕ
numbers_near kind line tuple =
    filter_map (number_read_of kind) (or_where_empty (values_on (attr_of kind) line) (values_in (attr_of kind) tuple))

-- the numbers of a kind beside a pair in a tuple
abbrev pub numbers_beside : List ℕ → List ℕ → Kind → List (List NdbPair) → List ℕ
numbers_beside attr value kind tuple = filter_map (number_read_of kind) (beside attr value (attr_of kind) tuple)

-- the numbers of a kind beside a pair in all tuples that contain it
abbrev pub numbers_found : List ℕ → List ℕ → Kind → List (List (List NdbPair)) → List ℕ
numbers_found attr value kind db = filter_map (number_read_of kind) (all_beside attr value (attr_of kind) db)

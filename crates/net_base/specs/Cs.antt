-- The connection server, cs of ndb(8): from a dial string to the clone files and addresses to try, in order.
use Rattle.std.specs.Prelude.{ℕ, Bool, false, not, ◌&&◌, ◌||◌, ◌==◌, List, [], ◌∷◌, ◌++◌, map, drop, filter, filter_map, flat_map, Option, Some, None, option_to_list, if◌then◌else◌, bytes_eq, codes, decimal}
use Rattle.std.specs.List.{list_any, list_all}
use Rattle.std.specs.Char.{is_ascii_digit, is_ascii_alphabetic}
use Rattle.std.specs.Option.{option_map_or}
use Rattle.net_base.specs.Ndb.{NdbPair}
use Rattle.net_base.specs.declared.address.Proto.{Proto}
pub use Rattle.net_base.specs.Paths.{proto_name}
use Rattle.net_base.specs.Search.{all_beside}
use Rattle.net_base.specs.Addresses.{parts_at, read_address, read_port, address_text}
use Rattle.net_base.specs.Networks.{own_networks, is_on, is_filled, closest}

-- the answer to a query: its lines, or the number of what is wrong with it
pub data CsAnswer : Type 0 where
  Lines : List (List ℕ) → CsAnswer
  Refused : ℕ → CsAnswer

-- what is asked for: a net, a host and a service
pub record Query : Type 0 where
  pub net : List ℕ
  pub host : List ℕ
  pub service : List ℕ

-- the query of three parts, none of which is empty
abbrev pub query_of : List (List ℕ) → Option Query
query_of (net ∷ host ∷ service ∷ []) =
    if is_filled net && is_filled host && is_filled service
    then Some (record { net = net; host = host; service = service }) else None
query_of _ = None

-- a query is written NET!HOST!SERVICE
abbrev pub read_query : List ℕ → Option Query
read_query text = query_of (parts_at 33 text)

-- the nets that a word names: `net` all that the host has, else the one of that name
abbrev pub nets_of : List Proto → List ℕ → List Proto
nets_of nets word = filter (λ net. bytes_eq word (codes "net") || bytes_eq word (proto_name net)) nets

-- the host is an attribute to look up, `$attr`
abbrev pub is_attribute : List ℕ → Bool
is_attribute [] = false
is_attribute (byte ∷ attr) = byte == 36

-- the words that name the host: for `$attr` the values closest to the asker, else the host itself
abbrev pub host_words : List (List (List NdbPair)) → List ℕ → List ℕ → List (List ℕ)
host_words db me host = if is_attribute host then closest (drop 1 host) me db else host ∷ []

-- the word has digits and dots alone
abbrev pub is_numeric : List ℕ → Bool
is_numeric word = list_all (λ byte. is_ascii_digit byte || byte == 46) word

-- the word is a domain's name, with a letter and a dot
abbrev pub is_domain : List ℕ → Bool
is_domain word = list_any is_ascii_alphabetic word && list_any (λ byte. byte == 46) word

-- the attribute by which a word that is no address is searched
abbrev pub name_attr : List ℕ → List ℕ
name_attr word = if is_domain word then codes "dom" else codes "sys"

-- the addresses of a word: the one that it spells, or those beside it in the database
abbrev pub word_addresses : List (List (List NdbPair)) → List ℕ → List ℕ
word_addresses db word =
    if is_numeric word then option_to_list (read_address word)
    else filter_map read_address (all_beside (name_attr word) word (codes "ip") db)

-- each number once, where it stands first
abbrev pub once_each : List ℕ → List ℕ
once_each [] = []
once_each (n ∷ ns) = n ∷ filter (λ m. not (m == n)) (once_each ns)

-- addresses on the asker's own networks, and then the others, each in order
abbrev pub own_first : List ℕ → List (List (List NdbPair)) → List ℕ → List ℕ
own_first me db ips =
    filter (is_on (own_networks me db)) ips ++ filter (λ ip. not (is_on (own_networks me db) ip)) ips

-- the addresses of all the host's words together
abbrev pub host_addresses : List (List (List NdbPair)) → List ℕ → List ℕ → List ℕ
host_addresses db me host = own_first me db (once_each (flat_map (word_addresses db) (host_words db me host)))

-- the host is any address of the asker's, `*`
abbrev pub is_any : List ℕ → Bool
is_any host = bytes_eq host (codes "*")

-- the addresses as they are written
abbrev pub address_texts : List (List (List NdbPair)) → List ℕ → List ℕ → List (List ℕ)
address_texts db me host = if is_any host then host ∷ [] else map address_text (host_addresses db me host)

-- the ports beside the service of a net
abbrev pub named_ports : List (List (List NdbPair)) → List ℕ → Proto → List ℕ
named_ports db service net =
    once_each (filter_map read_port (all_beside (proto_name net) service (codes "port") db))

-- the ports of a service on a net: the one that it spells, or those beside it in the database
abbrev pub ports_of : List (List (List NdbPair)) → List ℕ → Proto → List ℕ
ports_of db service net =
    option_map_or (λ port. port ∷ []) (read_port service) (named_ports db service net)

-- a clone file and what to connect there, `/net/NET/clone ADDRESS!PORT`
abbrev pub cs_line : Proto → List ℕ → ℕ → List ℕ
cs_line net address port =
    codes "/net/" ++ proto_name net ++ codes "/clone " ++ address ++ codes "!" ++ decimal port

-- the lines of a net: for each address, each port
abbrev pub address_lines : List (List (List NdbPair)) → List ℕ → List (List ℕ) → Proto → List (List ℕ)
address_lines db service addresses net =
    flat_map (λ address. map (cs_line net address) (ports_of db service net)) addresses

-- the answer, refused by this number where the list is empty
abbrev pub refused_where_empty : {X : Type 0} → ℕ → List X → CsAnswer → CsAnswer
refused_where_empty number [] answer = Refused number
refused_where_empty number (x ∷ xs) answer = answer

-- the first that is missing of nets (2), values (5), addresses (3) and ports (4), or else the lines
abbrev pub answer_query : List (List (List NdbPair)) → List ℕ → List Proto → Query → CsAnswer
answer_query db me nets query =
    refused_where_empty 2 (nets_of nets query.net)
    (refused_where_empty 5 (host_words db me query.host)
    (refused_where_empty 3 (address_texts db me query.host)
    (refused_where_empty 4 (flat_map (ports_of db query.service) (nets_of nets query.net))
    (Lines (flat_map (address_lines db query.service (address_texts db me query.host))
    (nets_of nets query.net))))))

-- the answer to what was read, or that it is no query (1)
abbrev pub answer_read : List (List (List NdbPair)) → List ℕ → List Proto → Option Query → CsAnswer
answer_read db me nets None = Refused 1
answer_read db me nets (Some query) = answer_query db me nets query

-- what a host with these nets is answered to a query, by its name in the database
abbrev pub cs_list : List (List (List NdbPair)) → List ℕ → List Proto → List ℕ → CsAnswer
cs_list db me nets text = answer_read db me nets (read_query text)

-- A small network with systems more, for bounds that are worked by hand.
use Rattle.std.specs.Prelude.{◌≡◌, ℕ, true, not, ◌&&◌, List, [], ◌∷◌, map, bytes_eq, codes}
use Rattle.std.specs.List.{list_all}
use Rattle.net_base.specs.Ndb.{NdbPair}

-- an attribute with its value
abbrev pub worked_pair : List ℕ → List ℕ → NdbPair
worked_pair attr value = record { attr = attr; value = value }

-- two networks, three systems and two services
abbrev pub worked_db : List (List (List NdbPair))
worked_db =
    ((worked_pair (codes "ipnet") (codes "astro") ∷ worked_pair (codes "ip") (codes "135.104.0.0")
    ∷ worked_pair (codes "ipmask") (codes "255.255.0.0") ∷ [])
    ∷ (worked_pair (codes "auth") (codes "bootes") ∷ []) ∷ [])
    ∷ ((worked_pair (codes "ipnet") (codes "astro9") ∷ worked_pair (codes "ip") (codes "135.104.9.0")
    ∷ worked_pair (codes "ipmask") (codes "255.255.255.0") ∷ [])
    ∷ (worked_pair (codes "auth") (codes "helix") ∷ []) ∷ [])
    ∷ ((worked_pair (codes "sys") (codes "anna") ∷ worked_pair (codes "ip") (codes "135.104.9.6") ∷ [])
    ∷ (worked_pair (codes "dom") (codes "anna.example.com") ∷ []) ∷ [])
    ∷ ((worked_pair (codes "sys") (codes "helix") ∷ worked_pair (codes "dom") (codes "helix.example.com") ∷ [])
    ∷ (worked_pair (codes "ip") (codes "10.0.0.31") ∷ [])
    ∷ (worked_pair (codes "ip") (codes "135.104.9.31") ∷ []) ∷ [])
    ∷ ((worked_pair (codes "sys") (codes "bootes") ∷ [])
    ∷ (worked_pair (codes "ip") (codes "135.104.50.2") ∷ []) ∷ [])
    ∷ ((worked_pair (codes "il") (codes "9fs") ∷ worked_pair (codes "port") (codes "17008") ∷ []) ∷ [])
    ∷ ((worked_pair (codes "udp") (codes "echo") ∷ worked_pair (codes "port") (codes "7") ∷ []) ∷ []) ∷ []

-- a system of this name, with an address
abbrev pub system : List ℕ → List (List NdbPair)
system name = (worked_pair (codes "sys") name ∷ worked_pair (codes "ip") (codes "10.1.0.1") ∷ []) ∷ []

-- systems of these names
abbrev pub systems : List (List ℕ) → List (List (List NdbPair))
systems names = map system names

-- the names are neither anna's nor helix's
abbrev pub AreOthers : List (List ℕ) → Type 0
AreOthers names =
    list_all (λ name. not (bytes_eq name (codes "anna")) && not (bytes_eq name (codes "helix"))) names ≡ true

-- A small database, and what the system anna of it is answered.
use Rattle.std.specs.Prelude.{ℕ, List, [], ◌∷◌, codes}
use Rattle.net_base.specs.Ndb.{NdbPair}
use Rattle.net_base.specs.declared.address.Proto.TheVariants.{Il, Udp}
use Rattle.net_base.specs.Cs.{CsAnswer, cs_list}

-- an attribute with its value
abbrev pub example_pair : List ℕ → List ℕ → NdbPair
example_pair attr value = record { attr = attr; value = value }

-- a small network: two nets, three systems and two services
abbrev pub example_db : List (List (List NdbPair))
example_db =
    ((example_pair (codes "ipnet") (codes "astro") ∷ example_pair (codes "ip") (codes "135.104.0.0")
    ∷ example_pair (codes "ipmask") (codes "255.255.0.0") ∷ [])
    ∷ (example_pair (codes "auth") (codes "bootes") ∷ []) ∷ [])
    ∷ ((example_pair (codes "ipnet") (codes "astro9") ∷ example_pair (codes "ip") (codes "135.104.9.0")
    ∷ example_pair (codes "ipmask") (codes "255.255.255.0") ∷ [])
    ∷ (example_pair (codes "auth") (codes "helix") ∷ []) ∷ [])
    ∷ ((example_pair (codes "sys") (codes "anna") ∷ example_pair (codes "ip") (codes "135.104.9.6") ∷ [])
    ∷ (example_pair (codes "dom") (codes "anna.example.com") ∷ []) ∷ [])
    ∷ ((example_pair (codes "sys") (codes "helix") ∷ example_pair (codes "dom") (codes "helix.example.com") ∷ [])
    ∷ (example_pair (codes "ip") (codes "10.0.0.31") ∷ [])
    ∷ (example_pair (codes "ip") (codes "135.104.9.31") ∷ []) ∷ [])
    ∷ ((example_pair (codes "sys") (codes "bootes") ∷ [])
    ∷ (example_pair (codes "ip") (codes "135.104.50.2") ∷ []) ∷ [])
    ∷ ((example_pair (codes "il") (codes "9fs") ∷ example_pair (codes "port") (codes "17008") ∷ []) ∷ [])
    ∷ ((example_pair (codes "udp") (codes "echo") ∷ example_pair (codes "port") (codes "7") ∷ []) ∷ []) ∷ []

-- what anna is answered, who has both nets
abbrev pub anna_gets : List ℕ → CsAnswer
anna_gets query = cs_list example_db (codes "anna") (Il ∷ Udp ∷ []) query

-- A system's own networks of one length.
use Rattle.std.specs.Prelude.{ℕ, ◌==◌, List, filter}
use Rattle.std.specs.List.{list_any}
use Rattle.net_base.specs.Networks.{Network, contains_address}

-- the networks with so many bits that contain one of the addresses
abbrev pub own_at : ℕ → List ℕ → List Network → List Network
own_at bits ips all = filter (λ network. network.bits == bits) (filter (λ network. list_any (contains_address network) ips) all)

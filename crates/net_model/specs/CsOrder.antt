-- What the order of the lines of cs keeps.
use Rattle.std.specs.Prelude.{◌≡◌, ℕ, ◌^◌, ◌<◌, true, List, AllPairs}
use Rattle.net_base.specs.declared.address.Proto.{Proto}
use Rattle.net_base.specs.Addresses.{address_text}
use Rattle.net_base.specs.Networks.{Network, is_on}
use Rattle.net_base.specs.Cs.{cs_line}

-- the line tells to connect to this address on this net
abbrev pub Dials : List ℕ → Proto → ℕ → Type 0
Dials line net ip =
    (ip < 2 ^ 32) × ((port : ℕ) × (port < 2 ^ 16) × (line ≡ cs_line net (address_text ip) port))

-- of two addresses of one net, the later is on the networks only where the earlier is
abbrev pub MayPrecede : List Network → List ℕ → List ℕ → Type 0
MayPrecede networks line later =
    (net : Proto) (ip other : ℕ) → Dials line net ip → Dials later net other
    → is_on networks other ≡ true → is_on networks ip ≡ true

-- within each net, addresses on the networks stand before all others
abbrev pub OnFirst : List Network → List (List ℕ) → Type 0
OnFirst networks lines = AllPairs (MayPrecede networks) lines

-- Tests of equality of addresses and pairs.
use Rattle.std.specs.Prelude.{ℕ, ◌==◌, Bool, true, false, ◌&&◌, Option, Some, None}
use Rattle.net_base.specs.declared.address.Addr.{Addr}
use Rattle.net_base.specs.declared.address.Pair.{Pair}

abbrev pub same_addr : Addr → Addr → Bool
same_addr a b = (a.ip == b.ip) && (a.port == b.port)

abbrev pub same_pair : Pair → Pair → Bool
same_pair p q = same_addr p.local q.local && same_addr p.remote q.remote

abbrev pub same_option : Option ℕ → Option ℕ → Bool
same_option None None = true
same_option (Some a) (Some b) = a == b
same_option _ _ = false

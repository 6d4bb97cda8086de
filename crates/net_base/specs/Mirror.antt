-- Both addresses of a conversation, as the other end sees them.
use Rattle.net_base.specs.declared.address.Pair.{Pair}

-- the local and the remote address exchanged
abbrev pub mirror : Pair → Pair
mirror p = record { local = p.remote; remote = p.local }

-- The numbers of the actors of a world: its desks, its directories, its conversations, its media, its clock. Of a host those of IL come first.
use Rattle.std.specs.Prelude.{ℕ, ◌+◌, ◌*◌, Bool, true, ◌&&◌, length, nat_lt}
use Rattle.net_base.specs.declared.actor.ActorName.{ActorName}
use Rattle.net_base.specs.declared.actor.ActorName.TheVariants as name
use Rattle.net_base.specs.declared.address.Proto.{Proto}
use Rattle.net_base.specs.declared.address.Proto.TheVariants as proto
use Rattle.net_base.specs.declared.world.World.{World}

abbrev pub number_of_proto : Proto → ℕ
number_of_proto proto.Il = 0
number_of_proto proto.Udp = 1

-- where there are so many hosts and media
abbrev pub number_of : ℕ → ℕ → ActorName → ℕ
number_of hosts media (name.Desk h) = h
number_of hosts media (name.Dir h p) = hosts + 2 * h + number_of_proto p
number_of hosts media (name.Conv h p n) = 3 * hosts + 64 * h + 32 * number_of_proto p + n
number_of hosts media (name.Medium m) = 67 * hosts + m
number_of hosts media name.Clock = 67 * hosts + media

-- how many actors there are
abbrev pub actor_count : ℕ → ℕ → ℕ
actor_count hosts media = 67 * hosts + media + 1

-- it is one of them
abbrev pub is_actor_among : ℕ → ℕ → ActorName → Bool
is_actor_among hosts media (name.Desk h) = nat_lt h hosts
is_actor_among hosts media (name.Dir h p) = nat_lt h hosts
is_actor_among hosts media (name.Conv h p n) = nat_lt h hosts && nat_lt n 32
is_actor_among hosts media (name.Medium m) = nat_lt m media
is_actor_among hosts media name.Clock = true

-- the number of an actor of the world
abbrev pub number_in_world : World → ActorName → ℕ
number_in_world w a = number_of (length w.hosts) (length w.media) a

abbrev pub count_in : World → ℕ
count_in w = actor_count (length w.hosts) (length w.media)

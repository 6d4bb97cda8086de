-- UDP ends.
use Rattle.std.specs.Prelude.{◌≡◌, ℕ, Bool, true, false, List, [], ◌∷◌, ◌++◌, length, drop, nat_lt, if◌then◌else◌}
use Rattle.net_base.specs.declared.il.StateName.{StateName}
use Rattle.net_base.specs.declared.il.StateName.TheVariants as name
use Rattle.net_base.specs.declared.udp.UdpState.{UdpState}
use Rattle.net_base.specs.declared.udp.UdpState.TheVariants.{Fresh, Listening, Open, HungUp}

pub record UdpEnd : Type 0 where
  pub state : UdpState
  -- at most 64 datagrams, oldest first
  pub unread : List (List ℕ)

abbrev pub fresh_udp : UdpEnd
fresh_udp = record { state = Fresh; unread = [] }

-- it was never connected or announced
abbrev pub is_fresh_udp : UdpState → Bool
is_fresh_udp Fresh = true
is_fresh_udp _ = false

abbrev pub is_hung_up : UdpState → Bool
is_hung_up HungUp = true
is_hung_up _ = false

-- the state as it is printed
abbrev pub udp_state_name : UdpState → StateName
udp_state_name Listening = name.Listening
udp_state_name Open = name.Open
udp_state_name _ = name.Closed

-- Datagrams come.

-- it takes a datagram that comes
abbrev pub takes_datagram : UdpState → ℕ → Bool
takes_datagram HungUp n = false
takes_datagram _ n = nat_lt n 64

abbrev pub datagram_comes : List ℕ → UdpEnd → UdpEnd
datagram_comes text e =
    if takes_datagram e.state (length e.unread)
    then record e { unread = e.unread ++ text ∷ [] }
    else e

-- The first datagram is read.

-- the first datagram, or nothing
abbrev pub first_datagram : List (List ℕ) → List ℕ
first_datagram [] = []
first_datagram (text ∷ texts) = text

-- a read has an answer: a datagram, or that the end is hung up
abbrev pub udp_reads_now : UdpState → List (List ℕ) → Bool
udp_reads_now HungUp texts = true
udp_reads_now _ [] = false
udp_reads_now _ (text ∷ texts) = true

-- nothing waits to be read, and nothing will come
pub record IsDrained (e : UdpEnd) : Type 0 where
  pub nothing_unread : e.unread ≡ []
  pub hung_up : e.state ≡ HungUp

-- a datagram is read, and what wasn't taken of it is lost
abbrev pub datagram_read : UdpEnd → UdpEnd
datagram_read e = record e { unread = drop 1 e.unread }

-- The end is connected, announced and hung up.

abbrev pub udp_connects : UdpEnd → UdpEnd
udp_connects e = record e { state = Open }

abbrev pub udp_announced : UdpEnd → UdpEnd
udp_announced e = record e { state = Listening }

-- the state after a hangup, which changes nothing where the end was never connected
abbrev pub hung_up_from : UdpState → UdpState
hung_up_from Fresh = Fresh
hung_up_from _ = HungUp

abbrev pub udp_hangs_up : UdpEnd → UdpEnd
udp_hangs_up e = record e { state = hung_up_from e.state }

-- What is read was written, in order, whatever media lose, repeat or delay.
use Rattle.std.specs.Prelude.{ℕ, ◌≡◌, ◌<◌, ◌≤◌, List, [], ◌++◌, length, take, filter, None, Some}
use Rattle.net_base.specs.declared.address.Proto.TheVariants.{Il, Udp}
use Rattle.net_base.specs.declared.history.Entry.{Entry}
use Rattle.net_base.specs.declared.world.World.{World}
use Rattle.net_base.specs.Networks.{is_filled}
use Rattle.net_base.specs.Written.{Conversation, HasClosed, IsRead, IsWrite, peer, written_texts, read_texts, joined_texts, stood}

abbrev pub IsPrefix : {A : Type 0} → List A → List A → Type 0
IsPrefix {A} xs ys = (rest : List A) × (xs ++ rest ≡ ys)

-- every read that replied bytes had room for the longest message
abbrev pub HaveRoom : List Entry → Conversation → Type 0
HaveRoom h e = (k count : ℕ) (text : List ℕ) → IsRead h e k count text → 8192 ≤ count

-- the entry k reads no bytes
abbrev pub IsEndOfFile : List Entry → Conversation → ℕ → Type 0
IsEndOfFile h e k = (count : ℕ) × IsRead h e k count []

-- what holds of an IL conversation e and its peer f
pub record InOrder (w : World) (h : List Entry) (e f : Conversation) : Type 0 where
  -- the bytes that were read begin those that were written
  pub bytes : IsPrefix (joined_texts (read_texts h e)) (joined_texts (written_texts h f))
  -- where the reads had room, the messages that were read begin those that were written, one by one
  pub messages : HaveRoom h e → IsPrefix (filter is_filled (read_texts h e)) (written_texts h f)
  -- an end of file comes after a close of the peer, and what was read before it is all that the peer writes, later too
  pub closed : (k : ℕ) → IsEndOfFile h e k → HasClosed w (take k h) f
  pub all_read : (k : ℕ) → IsEndOfFile h e k → joined_texts (read_texts (take k h) e) ≡ joined_texts (written_texts h f)
  -- the end has got what its peer sent, and counts as acknowledged what its peer has got
  pub got : IsPrefix (stood w h e).got (stood w h f).sent
  pub acked : (stood w h e).acked ≤ length (stood w h f).got

-- what holds of an IL conversation that has no peer
pub record Alone (w : World) (h : List Entry) (e : Conversation) : Type 0 where
  -- it has got nothing, no read replies bytes, and nothing counts as acknowledged
  pub got : (stood w h e).got ≡ []
  pub unread : read_texts h e ≡ []
  pub unacked : (stood w h e).acked ≡ 0

-- the text is the first bytes, so many at most, of a datagram that the conversation's peer wrote before the entry k
pub record WasWritten (w : World) (h : List Entry) (e : Conversation) (k count : ℕ) (text : List ℕ) : Type 0 where
  pub by : Conversation
  pub peer_is : peer w h e ≡ Some by
  pub at : ℕ
  pub datagram : List ℕ
  pub written : IsWrite h by at datagram
  pub earlier : at < k
  pub text_is : text ≡ take count datagram

-- what holds of every conversation
pub record KeepsPrefixes (w : World) (h : List Entry) : Type 0 where
  -- each IL conversation and its peer, and one that has none
  pub in_order : (e f : Conversation) → e.proto ≡ Il → peer w h e ≡ Some f → InOrder w h e f
  pub alone : (e : Conversation) → e.proto ≡ Il → peer w h e ≡ None → Alone w h e
  -- each read at a UDP conversation
  pub datagrams : (e : Conversation) (k count : ℕ) (text : List ℕ) → e.proto ≡ Udp → IsRead h e k count text → WasWritten w h e k count text

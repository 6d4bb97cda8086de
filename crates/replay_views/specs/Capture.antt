-- What a history laid on its media, and the capture file of it.
--     frames        every frame that was laid, in the order of stamps
--     laid_at       where an entry laid one
--     capture       the file of them, or of those on one medium
use Rattle.std.specs.Prelude.{◌≡◌, ℕ, ◌==◌, Bool, true, List, [], ◌∷◌, ◌++◌, filter, map, Option, Some, None}
use Rattle.std.specs.Option.{option_map}
use Rattle.net_base.specs.declared.actor.ActorName.{ActorName}
use Rattle.net_base.specs.declared.actor.ActorName.TheVariants as name
use Rattle.net_base.specs.declared.history.Entry.{Entry}
use Rattle.net_base.specs.declared.history.With.{With}
use Rattle.net_base.specs.declared.history.With.TheVariants as given
use Rattle.net_base.specs.declared.packet.Packet.{Packet}
use Rattle.net_base.specs.declared.reply.Reply.{Reply}
use Rattle.net_base.specs.declared.reply.Reply.TheVariants as reply
use Rattle.net_base.specs.declared.world.World.{World}
use Rattle.net_base.specs.Net.{Net, next_net, opening_net, with_of}
use Rattle.formats.specs.Datagram.{IsPacket, datagram_packet, packet_spelling}
use Rattle.replay_views.specs.Savefile.{Seen, savefile, seen_at_moment}

-- a frame: the moment at which it was laid, in ms, the number of its medium, and the packet in it
pub record Frame : Type 0 where
  pub moment : ℕ
  pub medium : ℕ
  pub packet : Packet

-- the medium that laid a frame, as its reply tells
abbrev pub medium_of : ActorName → Reply → Option ℕ
medium_of (name.Medium m) (reply.Laid k) = Some m
medium_of _ _ = None

-- the packet that is given
abbrev pub given_packet : With → Option Packet
given_packet (given.Packet p) = Some p
given_packet _ = None

-- a medium that was given a packet and laid it
abbrev pub frame_of : Option ℕ → ℕ → Option Packet → List Frame
frame_of (Some m) moment (Some p) = record { moment = moment; medium = m; packet = p } ∷ []
frame_of (Some m) moment None = []
frame_of None moment p = []

-- the frame that an entry laid, if it did, where the net stood so before it: of the packet that its caller's first duty gave
abbrev pub frames_laid : Net → Entry → List Frame
frames_laid net x = frame_of (medium_of x.actor x.reply) x.moment (given_packet (with_of (net.owed x.caller)))

-- the frames that entries laid, one after the other
abbrev pub laid_from : World → Net → List Entry → List Frame
laid_from w net [] = []
laid_from w net (x ∷ xs) = frames_laid net x ++ laid_from w (next_net w net x) xs

-- every frame of a history
abbrev pub frames : World → List Entry → List Frame
frames w h = laid_from w (opening_net w) h

-- when a frame was laid, and on which medium
pub record Place : Type 0 where
  pub moment : ℕ
  pub medium : ℕ

abbrev pub capture_place : ℕ → ℕ → Place
capture_place moment medium = record { moment = moment; medium = medium }

abbrev pub frame_place : Frame → Place
frame_place f = capture_place f.moment f.medium

-- where an entry laid a frame, as it is printed
abbrev pub laid_at : Entry → Option Place
laid_at x = option_map (capture_place x.moment) (medium_of x.actor x.reply)

-- all media are shown, or the one of this number
abbrev pub is_shown : Option ℕ → Frame → Bool
is_shown None f = true
is_shown (Some m) f = f.medium == m

abbrev pub shown_frames : World → List Entry → Option ℕ → List Frame
shown_frames w h medium = filter (is_shown medium) (frames w h)

-- a frame in the file: the bytes of its packet, at its moment
abbrev pub seen : Frame → Seen
seen f = seen_at_moment f.moment (packet_spelling f.packet)

-- the capture file of a history
unfoldable pub capture : World → List Entry → Option ℕ → List ℕ
capture w h medium = savefile (map seen (shown_frames w h medium))

-- the packet that was sent is one that has a spelling, and the bytes of the frame in the file read back as it
pub record IsReadBack (f : Frame) : Type 0 where
  pub fits : IsPacket f.packet
  pub again : datagram_packet (seen f).bytes ≡ f.packet

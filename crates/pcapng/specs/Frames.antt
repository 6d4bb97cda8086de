-- The frames of a history with the stamps of the entries that accepted them, and the file of them.
use Rattle.std.specs.Prelude.{ℕ, ◌+◌, List, [], ◌∷◌, ◌++◌, codes, flat_map, map}
use Rattle.net_base.specs.declared.history.Entry.{Entry}
use Rattle.net_base.specs.declared.reply.Reply.{Reply}
use Rattle.net_base.specs.declared.reply.Reply.TheVariants as reply
use Rattle.net_base.specs.declared.world.MediumSpec.{MediumSpec}
use Rattle.net_base.specs.declared.world.World.{World}
use Rattle.net_base.specs.Net.{Net, next_net, opening_net}
use Rattle.net_base.specs.Numeral.{numeral}
use Rattle.formats.specs.Datagram.{packet_spelling}
use Rattle.replay_views.specs.Capture.{Frame, frames_laid}
use Rattle.pcapng.specs.Blocks.{Shown, interface_block, packet_block, section_block}
use Rattle.pcapng.specs.Copies.{Copies, copies_at, copies_in, fate_text}

-- a frame, the stamp of the entry that accepted it, and its number on its link
pub record StampedFrame : Type 0 where
  pub stamp : ℕ
  pub number : ℕ
  pub frame : Frame

-- the number of the frame, as the reply has it
abbrev pub number_in : Reply → ℕ
number_in (reply.Laid k) = k
number_in _ = 0

abbrev pub with_stamp : ℕ → ℕ → Frame → StampedFrame
with_stamp stamp number f = record { stamp = stamp; number = number; frame = f }

abbrev pub stamped_at : Net → ℕ → Entry → List StampedFrame
stamped_at net stamp x = map (with_stamp stamp (number_in x.reply)) (frames_laid net x)

-- the frames that entries accepted, of which the first has this stamp
abbrev pub stamped_from : World → Net → ℕ → List Entry → List StampedFrame
stamped_from w net stamp [] = []
stamped_from w net stamp (x ∷ xs) = stamped_at net stamp x ++ stamped_from w (next_net w net x) (stamp + 1) xs

abbrev pub stamped_frames : World → List Entry → List StampedFrame
stamped_frames w h = stamped_from w (opening_net w) 0 h

-- the comment on a frame: the stamp of its entry, and what became of it
unfoldable pub comment_on : Copies → ℕ → ℕ → ℕ → List ℕ
comment_on copies stamp medium number =
    codes "stamp " ++ numeral stamp ++ fate_text (copies_at copies (medium, number))

-- a frame in the file: on the interface with the number of its link, at its moment in ms
abbrev pub shown_frame : Copies → StampedFrame → Shown
shown_frame copies s = record {
  interface = s.frame.medium;
  moment = s.frame.moment;
  bytes = packet_spelling s.frame.packet;
  comment = comment_on copies s.stamp s.frame.medium s.number;
}

abbrev pub frame_block : Copies → StampedFrame → List ℕ
frame_block copies s = packet_block (shown_frame copies s)

abbrev pub medium_block : MediumSpec → List ℕ
medium_block m = interface_block m.name

-- the section, an interface for each link, and a block for each frame in the order of stamps
unfoldable pub pcapng : World → List Entry → List ℕ
pcapng w h = section_block ++ flat_map medium_block w.media ++ flat_map (frame_block (copies_in h)) (stamped_frames w h)

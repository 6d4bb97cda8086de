-- Frames as they were laid: from which host and to which, and what their packets' headers show.
use Rattle.std.specs.Prelude.{ℕ, ◌==◌, ◌&&◌, Bool, List, Option, Some, None, option_map, slice_get}
use Rattle.std.specs.Map.{lookup}
use Rattle.std.specs.Option.{option_and_then}
use Rattle.net_base.specs.declared.history.Entry.{Entry}
use Rattle.net_base.specs.declared.packet.Header.{Header}
use Rattle.net_chart.specs.declared.frame.Frame.{Frame}
use Rattle.net_chart.specs.declared.frame.Source.{Source}
use Rattle.net_chart.specs.declared.sight.Sight.{Sight}
use Rattle.net_chart.specs.declared.sight.Sight.TheVariants.{Came}
use Rattle.net_chart.specs.Sights.{host_of, sight_of}

-- both are of one medium and have one number
abbrev pub same_frame : ℕ × ℕ → ℕ × ℕ → Bool
same_frame a b = (a.0 == b.0) && (a.1 == b.1)

-- frames by medium and number
abbrev pub Laid_frames : Type 0
Laid_frames = List ((ℕ × ℕ) × Frame)

abbrev pub frame_at : Laid_frames → ℕ × ℕ → Option Frame
frame_at frames key = lookup (same_frame key) frames

abbrev pub source_from : Option ℕ → Option Header → Option Source
source_from (Some h) (Some header) = Some (record { host = h; header = header })
source_from (Some h) None = None
source_from None header = None

-- the host whose actor emitted a packet, with the packet's header
abbrev pub emitted_by : Entry → Option Source
emitted_by x = source_from (host_of x.actor) x.emits

-- the station for which a frame was laid sends its packet on
abbrev pub sent_on : Frame → Option Source
sent_on f = option_map (λ (s : Source). record s { host = f.to }) f.source

abbrev pub passed_on : Option Frame → Option Source
passed_on f = option_and_then sent_on f

-- where the packet of a put comes from, by the entry that owed it: it was emitted there, or came by an earlier frame
abbrev pub source_by : Option Source → Sight → Laid_frames → Option Source
source_by (Some s) sight frames = Some s
source_by None (Came m k) frames = passed_on (frame_at frames (m, k))
source_by None _ frames = None

abbrev pub source_of : Laid_frames → Entry → Option Source
source_of frames y = source_by (emitted_by y) (sight_of y) frames

-- the entry that owed this one
abbrev pub owner_of : List Entry → Option ℕ → Option Entry
owner_of h cites = option_and_then (slice_get h) cites

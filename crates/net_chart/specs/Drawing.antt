-- The things of a history as they are drawn on their page.
use Rattle.std.specs.Prelude.{ℕ, ◌+◌, ◌-◌, ◌*◌, ◌==◌, List, [], ◌++◌, length, Option, Some, None, codes, flat_map, nat_le, nat_lt, if◌then◌else◌}
use Rattle.net_base.specs.declared.event.Event.{Event}
use Rattle.net_base.specs.declared.event.Event.TheVariants as event
use Rattle.net_base.specs.declared.history.Entry.{Entry}
use Rattle.net_base.specs.declared.il.IlKind.{IlKind}
use Rattle.net_base.specs.declared.packet.BodyHeader.{BodyHeader}
use Rattle.net_base.specs.declared.packet.BodyHeader.TheVariants as body
use Rattle.net_base.specs.declared.reply.Reply.{Reply}
use Rattle.net_base.specs.declared.reply.Reply.TheVariants as reply
use Rattle.net_base.specs.declared.world.HostSpec.{HostSpec}
use Rattle.history_words.specs.Labels.{event_label, reply_label}
use Rattle.net_base.specs.Numeral.{numeral}
use Rattle.net_base.specs.Transcript.{kind_word}
use Rattle.net_chart.specs.declared.frame.Frame.{Frame}
use Rattle.net_chart.specs.declared.frame.Source.{Source}
use Rattle.net_chart.specs.declared.place.Page.{Page}
use Rattle.net_chart.specs.declared.place.Place.{Place}
use Rattle.net_chart.specs.declared.thing.Thing.{Thing}
use Rattle.net_chart.specs.declared.thing.Thing.TheVariants.{Arrow, Cross, Operation}
use Rattle.net_chart.specs.Places.{bounded, height_of, hides, is_drawn, is_first_row}
use Rattle.net_chart.specs.Svg.{svg_escaped, svg_line_text, path_end, path_start, path_text, svg_quoted, svg_text_end, text_start}
use Rattle.net_chart.specs.Things.{Drawn}

-- Columns.

-- the column of a host, by its number
abbrev pub column_at : ℕ → ℕ
column_at host = 260 + 320 * bounded host

-- the middle between the columns of two hosts
abbrev pub middle_of : ℕ → ℕ → ℕ
middle_of a b = 260 + 160 * (bounded a + bounded b)

unfoldable pub column_text : ℕ → ℕ × HostSpec → List ℕ
column_text bottom host =
    text_start (codes "host") [] (column_at host.0) 30
    ++ svg_escaped host.1.name
    ++ svg_text_end
    ++ svg_line_text (codes "life") (column_at host.0) 40 (column_at host.0) bottom

-- Labels.

-- a number behind its name
abbrev pub named_number : List ℕ → ℕ → List ℕ
named_number name n = name ++ numeral n

abbrev pub il_label : IlKind → ℕ → ℕ → ℕ → List ℕ
il_label kind id ack length =
    kind_word kind ++ named_number (codes " id ") id ++ named_number (codes " ack ") ack ++ named_number (codes " len ") length

-- what a header shows beside its addresses
abbrev pub body_label : BodyHeader → List ℕ
body_label (body.Il kind spec id ack length) = il_label kind id ack length
body_label (body.Udp length) = named_number (codes "udp len ") length

abbrev pub source_label : Option Source → List ℕ
source_label None = codes "?"
source_label (Some s) = body_label s.header.body

-- the frame's number on its medium, and its packet's kind, ids and length
abbrev pub frame_label : Frame → List ℕ
frame_label f = numeral f.number ++ codes ": " ++ source_label f.source

-- the text that a write has
abbrev pub written_text : Event → List ℕ
written_text (event.Write g text) = svg_quoted text
written_text _ = []

-- the text that a read gives
abbrev pub read_text : Reply → List ℕ
read_text (reply.Bytes bytes) = svg_quoted bytes
read_text _ = []

abbrev pub operation_label : Entry → List ℕ
operation_label x = event_label x.event ++ written_text x.event ++ codes " = " ++ reply_label x.reply ++ read_text x.reply

-- Arrows.

-- the host from which a frame comes; where none is known, the one that it goes to
abbrev pub drawn_start : Option Source → ℕ → ℕ
drawn_start None to = to
drawn_start (Some s) to = s.host

abbrev pub frame_start : Frame → ℕ
frame_start f = drawn_start f.source f.to

-- a text at the side to which an arrow goes
abbrev pub label_start : Frame → ℕ → List ℕ
label_start f y =
    if nat_le (frame_start f) f.to
    then text_start (codes "right") (codes " dx='10' dy='-3'") (column_at (frame_start f)) y
    else text_start (codes "left") (codes " dx='-10' dy='-3'") (column_at (frame_start f)) y

unfoldable pub label_text : Page → Frame → List ℕ
label_text page f = label_start f (height_of page f.at) ++ frame_label f ++ svg_text_end

-- the head of an arrow that comes from the left, or from the right
abbrev pub head_strokes : Frame → List ℕ
head_strokes f = if nat_lt (frame_start f) f.to then codes "m-8-4l8 4l-8 4" else codes "m8-4l-8 4l8 4"

abbrev pub head_text : List ℕ → Frame → ℕ → List ℕ
head_text class f y = path_text class (column_at f.to) y (head_strokes f)

-- out of a column and back to it
abbrev pub round_text : List ℕ → ℕ → ℕ → ℕ → List ℕ
round_text class x y to_y = path_start class x y ++ codes "h30V" ++ numeral to_y ++ codes "h-30" ++ path_end

-- its shaft; a host's frame to itself goes round
abbrev pub shaft_text : List ℕ → Frame → ℕ → ℕ → List ℕ
shaft_text class f y to_y =
    if frame_start f == f.to
    then round_text class (column_at f.to) y to_y
    else svg_line_text class (column_at (frame_start f)) y (column_at f.to) to_y

-- an arrow of this look from the place where the frame was laid down to this height
abbrev pub drawn_arrow : Page → List ℕ → Frame → ℕ → List ℕ
drawn_arrow page class f to_y = shaft_text class f (height_of page f.at) to_y ++ head_text class f to_y

-- how far a copy that has no row of its own comes below its frame's: the first one, or a later one
abbrev pub drop_of : Frame → ℕ
drop_of f = if f.came then 28 else 12

-- where it ends: on a brief page its copy has no row of its own
abbrev pub end_height : Page → Frame → Place → ℕ
end_height page f at = if page.brief then height_of page f.at + drop_of f else height_of page at

-- the first copy of a frame, with its label, or a later one
abbrev pub arrow_text : Page → Frame → Place → List ℕ
arrow_text page f at =
    if f.came
    then drawn_arrow page (codes "again") f (end_height page f at)
    else drawn_arrow page (codes "frame") f (end_height page f at) ++ label_text page f

-- half an arrow from a column on, with a cross at its end
unfoldable pub half_text : ℕ → ℕ → ℕ → List ℕ
half_text x y to_x =
    svg_line_text (codes "lost") x y to_x (y + 8) ++ path_text (codes "lost") to_x (y + 8) (codes "m-5-5l10 10m0-10l-10 10")

abbrev pub cross_text : Page → Frame → List ℕ
cross_text page f = half_text (column_at (frame_start f)) (height_of page f.at) (middle_of (frame_start f) f.to) ++ label_text page f

-- Operations.

-- at the outer side of the first column, and at the right of the others
abbrev pub operation_start : ℕ → ℕ → List ℕ
operation_start host y =
    if host == 0
    then text_start (codes "left op") (codes " dx='-6' dy='3'") (column_at host) y
    else text_start (codes "right op") (codes " dx='6' dy='3'") (column_at host) y

abbrev pub operation_text : Page → Entry → ℕ → Place → List ℕ
operation_text page x host at = operation_start host (height_of page at) ++ operation_label x ++ svg_text_end

-- Things.

abbrev pub thing_text : Page → Entry → Thing → List ℕ
thing_text page x (Arrow f at) = if is_drawn page f.at then arrow_text page f at else []
thing_text page x (Cross f) = if is_drawn page f.at then cross_text page f else []
thing_text page x (Operation host at) = if page.brief then [] else operation_text page x host at

abbrev pub drawn_text : Page → Drawn → List ℕ
drawn_text page d = thing_text page d.entry d.thing

-- all things, one after the other
abbrev pub drawing_of : Page → List Drawn → List ℕ
drawing_of page things = flat_map (drawn_text page) things

-- Moments.

-- a line across the page, and the moment below it
unfoldable pub when_text : ℕ → ℕ → ℕ → List ℕ
when_text width y moment =
    svg_line_text (codes "moment") 0 (y - 16) width (y - 16) ++ text_start (codes "when") [] 4 (y - 5) ++ numeral moment ++ codes " ms" ++ svg_text_end

-- the moment of a band, above its first row
abbrev pub moment_text : Page → ℕ → Place → List ℕ
moment_text page width p =
    if is_first_row p
    then when_text width (height_of page p) p.moment
    else []

-- how many frames of a moment aren't drawn, above its last one
unfoldable pub count_text : Page → Place → List ℕ
count_text page p =
    if hides page p
    then text_start (codes "when") [] 4 (height_of page p - 16) ++ numeral (p.row - p.first - 1) ++ codes " between" ++ svg_text_end
    else []

abbrev pub band_text : Page → ℕ → Place → List ℕ
band_text page width p = moment_text page width p ++ count_text page p

-- The chart of a history by its conversations.
use Rattle.std.specs.Prelude.{ℕ, ◌+◌, ◌*◌, List, [], ◌++◌, length, Option, Some, None, codes, flat_map, slice_get}
use Rattle.std.specs.List.{enumerate_from}
use Rattle.net_base.specs.declared.actor.ActorName.{ActorName}
use Rattle.net_base.specs.declared.actor.ActorName.TheVariants as name
use Rattle.net_base.specs.declared.history.Entry.{Entry}
use Rattle.net_base.specs.declared.address.Proto.{Proto}
use Rattle.net_base.specs.declared.world.HostSpec.{HostSpec}
use Rattle.net_base.specs.declared.world.World.{World}
use Rattle.net_base.specs.Numeral.{numeral}
use Rattle.net_base.specs.Paths.{proto_name}
use Rattle.net_chart.specs.declared.place.Page.{Page}
use Rattle.net_chart.specs.Chart.{page_end, page_start}
use Rattle.net_chart.specs.Drawing.{band_text, column_at, drawing_of}
use Rattle.net_chart.specs.Places.{bottom_of, bounded, page_of}
use Rattle.net_chart.specs.Svg.{svg_escaped, svg_line_text, svg_text_end, text_start}
use Rattle.net_chart.specs.Talks.{Talks, talks_drawn, talks_of}

abbrev pub talk_width : Talks → ℕ
talk_width t = 200 + 320 * bounded (length t.columns)

abbrev pub host_text : Option HostSpec → List ℕ
host_text None = codes "?"
host_text (Some host) = svg_escaped host.name

unfoldable pub slot_text : Proto → ℕ → List ℕ
slot_text p n = codes " " ++ proto_name p ++ codes "/" ++ numeral n

-- the name of a host with the protocol and the number of its conversation
abbrev pub talk_name : World → ActorName → List ℕ
talk_name w (name.Conv h p n) = host_text (slice_get w.hosts h) ++ slot_text p n
talk_name w _ = []

unfoldable pub talk_column : World → ℕ → ℕ × ActorName → List ℕ
talk_column w bottom talk =
    text_start (codes "host") [] (column_at talk.0) 30
    ++ talk_name w talk.1
    ++ svg_text_end
    ++ svg_line_text (codes "life") (column_at talk.0) 40 (column_at talk.0) bottom

abbrev pub talks_charted : World → List Entry → Page → Talks → List ℕ
talks_charted w h page t =
    page_start (talk_width t) (bottom_of page)
    ++ flat_map (talk_column w (bottom_of page)) (enumerate_from 0 t.columns)
    ++ flat_map (band_text page (talk_width t)) page.places
    ++ drawing_of page (talks_drawn page.brief h t)
    ++ page_end

-- the chart of a history with a column for each conversation
abbrev pub talk_chart : World → List Entry → List ℕ
talk_chart w h = talks_charted w h (page_of h) (talks_of h)

-- The chart of a history: a page with a column for each host, time downwards, and what is drawn of the history.
use Rattle.std.specs.Prelude.{ℕ, ◌+◌, ◌*◌, List, ◌++◌, length, codes, flat_map}
use Rattle.std.specs.List.{enumerate_from}
use Rattle.net_base.specs.declared.history.Entry.{Entry}
use Rattle.net_base.specs.declared.world.World.{World}
use Rattle.net_base.specs.Numeral.{numeral}
use Rattle.net_chart.specs.declared.place.Page.{Page}
use Rattle.net_chart.specs.Drawing.{band_text, column_text, drawing_of}
use Rattle.net_chart.specs.Places.{bottom_of, bounded, page_of}
use Rattle.net_chart.specs.Svg.{attribute, svg_newline}
use Rattle.net_chart.specs.Things.{things_of}

abbrev pub chart_width : World → ℕ
chart_width w = 200 + 320 * bounded (length w.hosts)

-- two numbers behind the beginning of an attribute
unfoldable pub svg_pair_text : List ℕ → ℕ → ℕ → List ℕ
svg_pair_text name a b = name ++ numeral a ++ codes " " ++ numeral b

unfoldable pub opening_end : List ℕ
opening_end = codes "'>" ++ svg_newline

-- how large a page is
unfoldable pub size_text : ℕ → ℕ → List ℕ
size_text width bottom = attribute (codes "width") width ++ attribute (codes "height") bottom

unfoldable pub view_name : List ℕ
view_name = codes " viewBox='0 0 "

-- all of it is shown
unfoldable pub view_text : ℕ → ℕ → List ℕ
view_text width bottom = svg_pair_text view_name width bottom ++ opening_end

unfoldable pub opening_text : List ℕ
opening_text = codes "<svg xmlns='http://www.w3.org/2000/svg'"

-- how the page looks: the classes of its elements, and a white ground
unfoldable pub style_text : List ℕ
style_text =
    codes "<style>\n"
    ++ codes "text{font:10px monospace;fill:#222}\n"
    ++ codes "line,path{stroke:#357;fill:none}\n"
    ++ codes ".host{font:bold 14px sans-serif;text-anchor:middle}\n"
    ++ codes ".life{stroke:#bbb}\n"
    ++ codes ".moment{stroke:#ddd}\n"
    ++ codes ".when{fill:#888}\n"
    ++ codes ".right{text-anchor:start}\n"
    ++ codes ".left{text-anchor:end}\n"
    ++ codes ".again{stroke:#a60}\n"
    ++ codes "line.again{stroke-dasharray:5 3}\n"
    ++ codes ".lost{stroke:#c22}\n"
    ++ codes ".op{fill:#262}\n"
    ++ codes "</style>\n"
    ++ codes "<rect width='100%' height='100%' fill='#fff'/>\n"

unfoldable pub page_start : ℕ → ℕ → List ℕ
page_start width bottom = opening_text ++ size_text width bottom ++ view_text width bottom ++ style_text

abbrev pub page_end : List ℕ
page_end = codes "</svg>" ++ svg_newline

-- the chart on a page
abbrev pub charted : World → List Entry → Page → List ℕ
charted w h page =
    page_start (chart_width w) (bottom_of page)
    ++ flat_map (column_text (bottom_of page)) (enumerate_from 0 w.hosts)
    ++ flat_map (band_text page (chart_width w)) page.places
    ++ drawing_of page (things_of page.brief h)
    ++ page_end

-- the chart of a history
abbrev pub chart : World → List Entry → List ℕ
chart w h = charted w h (page_of h)

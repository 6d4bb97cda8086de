-- Elements of an SVG page. Numbers are pixels.
use Rattle.std.specs.Prelude.{ℕ, ◌==◌, ◌&&◌, List, [], ◌∷◌, ◌++◌, codes, flat_map, take, nat_le, if◌then◌else◌}
use Rattle.net_base.specs.Numeral.{numeral}

abbrev pub svg_newline : List ℕ
svg_newline = 10 ∷ []

-- an attribute with a number
unfoldable pub attribute : List ℕ → ℕ → List ℕ
attribute name n = codes " " ++ name ++ codes "='" ++ numeral n ++ codes "'"

abbrev pub class_text : List ℕ → List ℕ
class_text class = codes " class='" ++ class ++ codes "'"

-- a line between two points
unfoldable pub svg_line_text : List ℕ → ℕ → ℕ → ℕ → ℕ → List ℕ
svg_line_text class x y to_x to_y =
    codes "<line"
    ++ class_text class
    ++ attribute (codes "x1") x
    ++ attribute (codes "y1") y
    ++ attribute (codes "x2") to_x
    ++ attribute (codes "y2") to_y
    ++ codes "/>"
    ++ svg_newline

-- strokes from a point on
unfoldable pub path_start : List ℕ → ℕ → ℕ → List ℕ
path_start class x y = codes "<path" ++ class_text class ++ codes " d='M " ++ numeral x ++ codes " " ++ numeral y

unfoldable pub path_end : List ℕ
path_end = codes "'/>" ++ svg_newline

abbrev pub path_text : List ℕ → ℕ → ℕ → List ℕ → List ℕ
path_text class x y strokes = path_start class x y ++ strokes ++ path_end

-- a text near a point, which other attributes shift
unfoldable pub text_start : List ℕ → List ℕ → ℕ → ℕ → List ℕ
text_start class shift x y = codes "<text" ++ class_text class ++ shift ++ attribute (codes "x") x ++ attribute (codes "y") y ++ codes ">"

unfoldable pub svg_text_end : List ℕ
svg_text_end = codes "</text>" ++ svg_newline

-- a byte as XML takes it between tags: what isn't printed there is a dot
abbrev pub escaped_byte : ℕ → List ℕ
escaped_byte b =
    if b == 38
    then codes "&amp;"
    else (if b == 60
    then codes "&lt;"
    else (if b == 62
    then codes "&gt;"
    else (if nat_le 32 b && nat_le b 126 then b ∷ [] else codes ".")))

abbrev pub svg_escaped : List ℕ → List ℕ
svg_escaped bytes = flat_map escaped_byte bytes

-- the beginning of a text in quotes
unfoldable pub svg_quoted : List ℕ → List ℕ
svg_quoted text = codes " '" ++ svg_escaped (take 16 text) ++ codes "'"

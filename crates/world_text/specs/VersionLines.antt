-- What stands behind the line `ndb`: bundles, the first of which is read from the moment 0 on, and each other one from the moment
-- on that the line `%at M` before it names. Each bundle is by itself.
--     is_at_line, moment_of      a line `%at M`, and its moment
--     bad_version_line           the first bad line, and its least cause
--     versions_in                the versions that lines make
use Rattle.std.specs.Prelude.{ℕ, ◌+◌, Bool, ◌||◌, List, [], ◌∷◌, ◌++◌, length, drop, filter_map, codes, bytes_eq, Option, Some, None, unwrap_or, nat_le, if◌then◌else◌}
use Rattle.std.specs.List.{last_or, before_first, after_last}
use Rattle.net_base.specs.declared.world.Version.{Version}
use Rattle.net_base.specs.Addresses.{number_in}
use Rattle.net_base.specs.NdbBundle.{cause, causes_of, database, has_tuple, least_of_causes, told_line}
use Rattle.net_base.specs.NdbText.{begins_with, lines_of}
use Rattle.world_text.specs.declared.line.LineCause.TheVariants as line_cause
use Rattle.world_text.specs.LineCauses.{cause_number_of}

-- Lines that begin a version.

-- the word `%at` alone, or before a blank
abbrev pub is_at_line : List ℕ → Bool
is_at_line line = bytes_eq line (codes "%at") || begins_with (codes "%at ") line

-- the moment that such a line names: all that stands behind the blank is a number from 1 to 1,000,000,000
abbrev pub moment_of : List ℕ → Option ℕ
moment_of line = number_in 1 1000000000 (drop 4 line)

-- the moment that a line begins a version from, if it does
abbrev pub begins_at : List ℕ → Option ℕ
begins_at line = if is_at_line line then moment_of line else None

-- Bad lines.

-- the moment of the last version that these lines begin, or 0
abbrev pub last_moment : List (List ℕ) → ℕ
last_moment before = unwrap_or (last_or None (filter_map begins_at before)) 0

-- the lines of the bundle in which a line behind these stands
abbrev pub own_lines : List (List ℕ) → List (List ℕ)
own_lines before = after_last is_at_line before

-- the causes of a line that begins a version, behind one from that moment on: it names no moment, or none that is above
abbrev pub at_causes : ℕ → Option ℕ → List ℕ
at_causes last None = cause_number_of line_cause.WrongArgument ∷ []
at_causes last (Some moment) = cause (cause_number_of line_cause.EarlyVersion) (nat_le moment last)

-- the causes for which a line is bad behind these, in rising order: a line of a bundle has those of its bundle
abbrev pub version_causes : List (List ℕ) → List ℕ → List ℕ
version_causes before line =
    if is_at_line line
    then at_causes (last_moment before) (moment_of line)
    else causes_of (has_tuple (own_lines before)) line

-- the first line with a cause among the lines that come after these, by its number from 1, and its least cause
abbrev pub first_bad_version : List (List ℕ) → List (List ℕ) → Option (ℕ × ℕ)
first_bad_version before [] = None
first_bad_version before (line ∷ lines) =
    told_line (length before + 1) (least_of_causes (version_causes before line)) (first_bad_version (before ++ line ∷ []) lines)

-- the first bad line of a text, and its least cause
abbrev pub bad_version_line : List ℕ → Option (ℕ × ℕ)
bad_version_line text = first_bad_version [] (lines_of text)

-- Versions.

-- the version from this moment on whose bundle begins these lines: it goes on to the next line that begins a version
abbrev pub version_from : ℕ → List (List ℕ) → Version
version_from moment lines = record { moment = moment; db = database (before_first is_at_line lines) }

-- a version that the line before these begins, if it does, and others
abbrev pub with_version : Option ℕ → List (List ℕ) → List Version → List Version
with_version None lines versions = versions
with_version (Some moment) lines versions = version_from moment lines ∷ versions

-- the versions that lines begin
abbrev pub later_versions : List (List ℕ) → List Version
later_versions [] = []
later_versions (line ∷ lines) = with_version (begins_at line) lines (later_versions lines)

-- the version that is read first, and those that lines begin
abbrev pub versions_in : List (List ℕ) → List Version
versions_in lines = version_from 0 lines ∷ later_versions lines

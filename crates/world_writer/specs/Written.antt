-- The file of a world, as it is written.
use Rattle.std.specs.Prelude.{ℕ, List, [], ◌∷◌, ◌++◌, map, flat_map, codes}
use Rattle.net_base.specs.declared.world.HostSpec.{HostSpec}
use Rattle.net_base.specs.declared.world.Iface.{Iface}
use Rattle.net_base.specs.declared.world.MediumSpec.{MediumSpec}
use Rattle.net_base.specs.declared.world.RouteLine.{RouteLine}
use Rattle.net_base.specs.declared.world.Script.{Script}
use Rattle.net_base.specs.declared.world.Version.{Version}
use Rattle.net_base.specs.declared.world.World.{World}
use Rattle.ndb_reader.specs.Written.{db_text}
use Rattle.world_text.specs.WorldSpelling.{laid, line_of_iface, line_of_route, line_of_moment, line_of_start, lines_of_host, lines_of_medium, lines_of_script, lines_of_world, host_names, medium_names}

-- words with a blank before each
abbrev pub written_behind : List (List ℕ) → List ℕ
written_behind [] = []
written_behind (word ∷ words) = 32 ∷ (word ++ written_behind words)

-- the lines under the line of a host
abbrev pub lines_under : List (List ℕ) → List Iface → List RouteLine → List ℕ → List (List ℕ)
lines_under media ifaces routes starts = map (line_of_iface media) ifaces ++ (map line_of_route routes ++ map line_of_start starts)

-- the lines of each part laid, part by part
abbrev pub parts_laid : {X : Type 0} → (X → List (List ℕ)) → List X → List ℕ
parts_laid lines [] = []
parts_laid lines (part ∷ parts) = laid (lines part) ++ parts_laid lines parts

-- the lines of media, hosts and scripts
abbrev pub lines_of_parts : List MediumSpec → List HostSpec → List Script → List (List ℕ)
lines_of_parts media hosts scripts =
    flat_map lines_of_medium media
    ++ (flat_map (lines_of_host (medium_names media)) hosts
    ++ flat_map (lines_of_script (host_names hosts)) scripts)

-- a later version: the line `%at M`, and the text of its database, which may be empty
abbrev pub later_text : Version → List ℕ
later_text v = laid (line_of_moment v.moment ∷ []) ++ db_text v.db

-- the text of the first version, and the later ones
abbrev pub versions_text : List Version → List ℕ
versions_text [] = []
versions_text (first ∷ later) = db_text first.db ++ flat_map later_text later

-- its lines, `ndb`, and the text of its versions
abbrev pub world_file_text : World → List ℕ
world_file_text w = laid (lines_of_world w) ++ (codes "ndb\n" ++ versions_text w.dbs)

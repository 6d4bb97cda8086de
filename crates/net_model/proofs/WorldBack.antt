-- The file of a world says it.
use Rattle.std.proofs.Common.{◌≡◌, ℕ, zero, suc, List, [], ◌∷◌, ◌++◌, Some, None, true, arith}
use Rattle.std.specs.Prelude.{codes}
use Rattle.std.specs.List.{All}
use Rattle.net_base.specs.Ndb.{NdbPair}
use Rattle.net_base.specs.declared.world.Version.{Version}
use Rattle.net_base.specs.declared.world.World.{World}
use Rattle.net_base.specs.NdbBundle.{reading}
use Rattle.net_base.specs.NdbText.{lines_of}
use Rattle.net_base.specs.World.{IsWorld}
use Rattle.net_model.specs.NdbWhole.{is_file_whole}
use Rattle.ndb_reader.specs.Written.{db_text}
use Rattle.world_text.specs.VersionLines.{bad_version_line, versions_in}
use Rattle.world_text.specs.WorldSpelling.{IsWorldText, laid, lines_of_world}
use Rattle.world_text.proofs.Shared.{versions-back}
use Rattle.world_writer.specs.Written.{world_file_text, versions_text}
use Rattle.net_model.proofs.WrittenVersions.{are-back, written-says}

-- one version, whose database is whole
pub only-whole : (v : Version) → is_file_whole v.db ≡ true → All (λ (u : Version). is_file_whole u.db ≡ true) (v ∷ [])
only-whole v whole zero d lt = whole
only-whole v whole (suc k) d lt = absurd (omega (arith, lt))

-- what the laws of databases and of worlds say
module _
    (back : (text : List ℕ) (db : List (List (List NdbPair))) → reading text ≡ Some db → is_file_whole db ≡ true → reading (db_text db) ≡ Some db)
    (says : (w : World) (bundle : List ℕ) → IsWorld w → bad_version_line bundle ≡ None → w.dbs ≡ versions_in (lines_of bundle) → IsWorldText (laid (lines_of_world w) ++ (codes "ndb\n" ++ bundle)) w)
  where
    pub spelled : (w : World) → IsWorld w → All (λ (v : Version). is_file_whole v.db ≡ true) w.dbs → IsWorldText (world_file_text w) w
    spelled w world whole =
        let said = written-says w.dbs world.versions_timed (are-back back w.dbs world.versions whole) in
        let read = versions-back (versions_text w.dbs) w.dbs said world.versions_timed in
        says w (versions_text w.dbs) world read.0 read.1

-- The fids for which a file is open, and the requests of an exporting step's messages.
use Rattle.std.specs.Prelude.{ℕ, List, [], ◌∷◌, Option, Some, None}
use Rattle.net_base.specs.Exports.{dotted}
use Rattle.net_export.specs.declared.open_fids.OpenFids.{OpenFids}
use Rattle.net_base.specs.declared.request.Request.{Request}
use Rattle.net_base.specs.declared.request.Request.TheVariants as request

-- in ascending order
abbrev pub rising : OpenFids → List ℕ
rising o = o.fids.items

abbrev pub first_number : List ℕ → Option ℕ
first_number [] = None
first_number (n ∷ ns) = Some n

-- `.N` in place of `fN`
abbrev pub dotted_request : Request → Request
dotted_request (request.Open called path m) = request.Open (dotted called) path m
dotted_request (request.Read called count) = request.Read (dotted called) count
dotted_request (request.Write called text) = request.Write (dotted called) text
dotted_request (request.Close called) = request.Close (dotted called)
dotted_request q = q

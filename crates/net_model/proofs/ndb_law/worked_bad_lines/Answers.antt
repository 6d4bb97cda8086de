use Rattle.std.proofs.Common.{refl}
use Rattle.net_model.proofs.ndb_law.worked_bad_lines.Goals as goal

pub returns : goal.returns
returns c = record {
  unclosed = refl;
  nameless = refl;
  least_of_three = refl;
  followed = refl;
  two_names = refl;
  file_without_tuple = refl;
}

use Rattle.std.proofs.Common.{refl}
use Rattle.net_model.proofs.Carried.{all_exported, all_imported, calling_is_met, calls_are, carried_is_a_world, carried_is_legal, replies_are}
use Rattle.net_model.proofs.import_cases.a_call_carries_files.Goals as goal

pub returns : goal.returns
returns c = record {
  call = (carried_is_a_world, carried_is_legal, calling_is_met);
  near = (refl, all_imported);
  far = (refl, all_exported);
  calls = calls_are;
  replies = replies_are;
}

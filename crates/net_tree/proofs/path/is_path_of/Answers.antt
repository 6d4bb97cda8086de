use Rattle.std.proofs.Common.{◌∙◌}
use Rattle.net_tree.proofs.Guesses.{is_dir, is_no_dir, is_file, is_no_file}
use Rattle.net_tree.proofs.path.is_path_of.Goals as goal

pub returns-in-Some : goal.returns-in-Some
returns-in-Some c = rw c.in-Dir.is (c.is_empty.ensures ∙ is_dir c.args.path.now c.in-Some.rest.now c.in-Dir.proto c.in-Dir.slot c.in-Some.ensures)

pub returns-in-None : goal.returns-in-None
returns-in-None c = rw c.in-Dir.is (is_no_dir c.args.path.now c.in-Dir.proto c.in-Dir.slot c.in-None.ensures)

pub returns-in-Some-behind_slot : goal.returns-in-Some-behind_slot
returns-in-Some-behind_slot c =
    rw c.in-File.is (c.is_file_of.ensures ∙ is_file c.args.path.now c.in-Some-behind_slot.rest.now c.in-File.proto c.in-File.slot c.in-File.file c.in-Some-behind_slot.ensures)

pub returns-in-None-behind_slot : goal.returns-in-None-behind_slot
returns-in-None-behind_slot c = rw c.in-File.is (is_no_file c.args.path.now c.in-File.proto c.in-File.slot c.in-File.file c.in-None-behind_slot.ensures)

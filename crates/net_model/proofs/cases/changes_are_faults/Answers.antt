use Rattle.net_model.proofs.CasesFaults.{another_text_is_a_fault, another_moment_is_a_fault, another_cite_is_a_fault, another_event_is_a_fault, taken_too_early_is_a_fault, moved_too_early_is_a_fault, moved_too_far_is_a_fault, sent_as_data_is_a_fault, read_too_early_is_a_fault, refused_otherwise_is_a_fault, not_ended_is_a_fault}
use Rattle.net_model.proofs.cases.changes_are_faults.Goals as goal

pub returns : goal.returns
returns c = record { another_text = another_text_is_a_fault; another_moment = another_moment_is_a_fault; another_cite = another_cite_is_a_fault; another_event = another_event_is_a_fault; taken_too_early = taken_too_early_is_a_fault; moved_too_early = moved_too_early_is_a_fault; moved_too_far = moved_too_far_is_a_fault; sent_as_data = sent_as_data_is_a_fault; read_too_early = read_too_early_is_a_fault; refused_otherwise = refused_otherwise_is_a_fault; not_ended = not_ended_is_a_fault }

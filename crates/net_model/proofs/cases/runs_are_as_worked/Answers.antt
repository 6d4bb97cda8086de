use Rattle.net_model.proofs.CasesRuns.{hello_texts_read, hello_moves, early_close_texts_read, early_close_moves, early_close_kinds, repeated_texts_read, wrapping_texts_read, wrapping_data_ids, cut_texts_read, nobody_moves, nobody_kinds, hello_is_done, early_close_is_done, repeated_is_done, wrapping_is_done, cut_is_done, nobody_is_done, lost_moves, lost_is_stopped, dropped_texts_read, dropped_is_stopped, two_calls_texts_read, two_calls_is_done}
use Rattle.net_model.proofs.cases.runs_are_as_worked.Goals as goal

pub returns : goal.returns
returns c = record { hello_texts_read = hello_texts_read; hello_moves = hello_moves; early_close_texts_read = early_close_texts_read; early_close_moves = early_close_moves; early_close_kinds = early_close_kinds; repeated_texts_read = repeated_texts_read; wrapping_texts_read = wrapping_texts_read; wrapping_data_ids = wrapping_data_ids; cut_texts_read = cut_texts_read; nobody_moves = nobody_moves; nobody_kinds = nobody_kinds; hello_is_done = hello_is_done; early_close_is_done = early_close_is_done; repeated_is_done = repeated_is_done; wrapping_is_done = wrapping_is_done; cut_is_done = cut_is_done; nobody_is_done = nobody_is_done; lost_moves = lost_moves; lost_is_stopped = lost_is_stopped; dropped_texts_read = dropped_texts_read; dropped_is_stopped = dropped_is_stopped; two_calls_texts_read = two_calls_texts_read; two_calls_is_done = two_calls_is_done }

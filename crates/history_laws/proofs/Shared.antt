-- What other crates cite of these proofs.

-- the own entries of a caller that plays a task are what that asks for, in order
pub use Rattle.history_laws.proofs.Asked.{one_own, own_push}
-- what holds of each event that the steps over calls record, and so of each event of a script
pub use Rattle.history_laws.proofs.CallEvents.{next_event}
-- each caller by itself
pub use Rattle.history_laws.proofs.Callers.{stands_still}
-- a directory's list of pairs only grows, and a pair that it grants or that is born there wasn't in it
pub use Rattle.history_laws.proofs.DirPairs.{in_last}
-- what holds of histories: pushing an entry, beginnings, induction, and the fold of one actor
pub use Rattle.history_laws.proofs.Histories.{after_push, at_push, before_push, by_entries, fault_is_not_legal, in_pushed, legal_push, legal_take, next_other, next_same, one_more, slice_get_take, state_is_fold, take_before, timed_push, timed_take}
-- the rules on known callers and on room, and when a run is limited
pub use Rattle.history_laws.proofs.Limits.{known, nobody, within}
-- relations between the elements of a list and the later ones, by recursion on the list
pub use Rattle.history_laws.proofs.Ordered.{Each, Later, all_at, each_any, each_append, each_both, each_filter, each_filter_map, each_flat_map, each_from_get, each_map, each_passes, each_weaker, in_range, later_append, later_filter, later_flat_map, later_from_pairs, later_map, pairs_from_later}
-- what holds of the duties of entries: each that is owed cites an earlier entry of its caller
pub use Rattle.history_laws.proofs.Owed.{cites_its_own, duties_each, owed_each, past_after}
-- at one directory a pair is granted or born at most once
pub use Rattle.history_laws.proofs.PairsOnce.{once}
-- a legal history is short: each caller has so many entries, and there are few callers
pub use Rattle.history_laws.proofs.Short.{legal_short}
-- what holds of each event that a script records, where its replies are of a kind
pub use Rattle.history_laws.proofs.StepEvents.{Fits, IsExporting, IsNamed, IsNextEvent, IsOpened, IsOther, IsOwn, Records, Says, own_other}
-- which slots are found, and what holds of who takes a packet
pub use Rattle.history_laws.proofs.Takers.{TakerFound, slot_found, taker_found}
-- each step of an actor is that of a row
pub use Rattle.history_laws.proofs.ActorTable.{actor_rows, desk_rows, mapped, shown_reply, table_rows}
-- each step of a conversation is that of a row
pub use Rattle.history_laws.proofs.ConvTable.{conv_rows, map_some}
-- every step gives its reply twice
pub use Rattle.history_laws.proofs.Copies.{conv_copies, table_copies}
-- what holds of all ends of a protocol, if of one, stays so of a conversation's end
pub use Rattle.history_laws.proofs.Cores.{core_stays}
-- each step of a directory is that of a row
pub use Rattle.history_laws.proofs.DirTable.{dir_rows}
-- what holds of the calls that wait at the slots of a directory holds after each of its steps, and of the calls that the step tells
pub use Rattle.history_laws.proofs.Waiting.{slots_stay, waiting_at, waiting_stays, waiting_told}
-- where no caller could record the net is calm, and else it isn't
pub use Rattle.history_laws.proofs.Calming.{Kind, OfClock, OfCourier, OfScript, clock_is, clock_waits, courier_is, is_busy, is_calm, kind_of}
-- after each legal history what is owed is as it should be
pub use Rattle.history_laws.proofs.Always.{steady_after}
-- what is kept of duties: each is of kind, cites rise in a queue, and the birth of each generation that a conversation still lacks is owed
pub use Rattle.history_laws.proofs.Duties.{IsKind, OfKind}

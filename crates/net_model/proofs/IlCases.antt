-- Worked calls on one IL end. Moments are in ms.
use Rattle.std.proofs.Common.{◌≡◌, ℕ, zero, suc, ◌+◌, true, false, List, [], ◌∷◌, length, Some, None, codes, refl}
use Rattle.net_base.specs.declared.timer.Timers.TheVariants.{Fixed}
use Rattle.net_base.specs.declared.il.Cause.TheVariants as cause
use Rattle.net_base.specs.declared.il.IlKind.TheVariants.{Sync, Data, DataQuery, Ack, Query, State, Close}
use Rattle.net_base.specs.declared.il.IlState.TheVariants.{Closed, Established}
use Rattle.net_base.specs.Number.{number}
use Rattle.net_base.specs.IlEnd.{End, fresh_end, message}
use Rattle.net_base.specs.IlTable.{connects, is_born, announced, arrives, writes, reads, first_unread, may_write, may_read, hangs_up, ticks}

-- A handshake, a lost sync, and two messages.

abbrev hello : List ℕ
hello = codes "hello"

abbrev syncer : End
syncer = (connects 0 1 (fresh_end Fixed)).end

pub it_connects : (connects 0 1 (fresh_end Fixed)).emits ≡ Some (message Sync 1 0 [])
unfolding number
it_connects = refl

pub too_early : ticks 499 syncer ≡ record { end = syncer; emits = None }
unfolding number
too_early = refl

abbrev asked : End
asked = (ticks 500 syncer).end

pub it_asks_again : (ticks 500 syncer).emits ≡ Some (message Sync 1 0 [])
unfolding number
it_asks_again = refl

pub it_waits_longer : asked.timer.due ≡ Some 1500
unfolding number
it_waits_longer = refl

abbrev joined : End
joined = (arrives 600 (message Sync 100 1 []) asked).end

pub it_joins : (arrives 600 (message Sync 100 1 []) asked).emits ≡ Some (message Ack 1 100 [])
unfolding number
it_joins = refl

pub it_is_established : joined.state ≡ Established
unfolding number
it_is_established = refl

pub it_waits_for_nothing : joined.timer.due ≡ None
unfolding number
it_waits_for_nothing = refl

abbrev wrote : End
wrote = (writes 600 hello joined).end

pub it_writes : (writes 600 hello joined).emits ≡ Some (message Data 2 100 hello)
unfolding number
it_writes = refl

pub it_waits_for_the_ack : wrote.timer.due ≡ Some 1100
unfolding number
it_waits_for_the_ack = refl

abbrev acknowledged : End
acknowledged = (arrives 640 (message Ack 100 2 []) wrote).end

pub an_ack_emits_nothing : (arrives 640 (message Ack 100 2 []) wrote).emits ≡ None
unfolding number
an_ack_emits_nothing = refl

pub all_is_acknowledged : acknowledged.timer.due ≡ None
unfolding number
all_is_acknowledged = refl

pub it_writes_again : (writes 700 (codes "x") acknowledged).emits ≡ Some (message Data 3 100 (codes "x"))
unfolding number
it_writes_again = refl

pub it_waits_again : (writes 700 (codes "x") acknowledged).end.timer.due ≡ Some 1200
unfolding number
it_waits_again = refl

-- a close with spec 1 changes nothing in Established
pub established_stays : arrives 650 (record { kind = Close; spec = 1; id = 100; ack = 1; text = [] }) joined ≡ record { end = joined; emits = None }
unfolding number
established_stays = refl

-- Ids that wrap.

pub the_third_id_is_one : number 4294967294 1 2 ≡ Some 3
unfolding number
the_third_id_is_one = refl

pub an_old_id_has_no_number : number 4294967294 4294967295 30 ≡ None
unfolding number
an_old_id_has_no_number = refl

-- What the other end hears: born at 0 from that sync, with 100 as its start.

abbrev syncee : End
syncee = (is_born 0 100 1 (fresh_end Fixed)).end

pub it_is_born : (is_born 0 100 1 (fresh_end Fixed)).emits ≡ Some (message Sync 100 1 [])
unfolding number
it_is_born = refl

pub the_same_sync : (arrives 10 (message Sync 1 0 []) syncee).emits ≡ Some (message Sync 100 1 [])
unfolding number
the_same_sync = refl

-- the first data may come before the ack, and out of order
abbrev late : End
late = (arrives 20 (message Data 3 100 (codes "b")) syncee).end

pub an_early_message_is_no_news : (arrives 20 (message Data 3 100 (codes "b")) syncee).emits ≡ Some (message Ack 100 1 [])
unfolding number
an_early_message_is_no_news = refl

pub an_early_message_is_not_read : may_read late ≡ false
unfolding number
an_early_message_is_not_read = refl

abbrev both : End
both = (arrives 30 (message Data 2 100 (codes "a")) late).end

pub both_are_acknowledged : (arrives 30 (message Data 2 100 (codes "a")) late).emits ≡ Some (message Ack 100 3 [])
unfolding number
both_are_acknowledged = refl

pub both_are_in_order : both.got ≡ codes "a" ∷ codes "b" ∷ []
unfolding number
both_are_in_order = refl

pub a_repeat_changes_nothing : (arrives 30 (message Data 2 100 (codes "a")) both).end.got ≡ codes "a" ∷ codes "b" ∷ []
unfolding number
a_repeat_changes_nothing = refl

-- a message of no bytes is none
pub an_empty_message_is_none : arrives 40 (message Data 4 100 []) both ≡ record { end = both; emits = None }
unfolding number
an_empty_message_is_none = refl

-- a close that came before the last message ends nothing; the one after it does
pub a_close_too_soon : (arrives 40 (message Close 4 100 []) both).emits ≡ Some (message State 100 3 [])
unfolding number
a_close_too_soon = refl

abbrev over : End
over = (arrives 50 (message Close 3 100 []) both).end

pub the_end_closes : (arrives 50 (message Close 3 100 []) both).emits ≡ Some (message Close 100 3 [])
unfolding number
the_end_closes = refl

pub by_its_peer : over.cause ≡ Some cause.ByPeer
unfolding number
by_its_peer = refl

pub what_came_is_read : first_unread over ≡ codes "a"
unfolding number
what_came_is_read = refl

pub a_close_again : (arrives 60 (message Close 3 100 []) over).emits ≡ Some (message Close 100 3 [])
unfolding number
a_close_again = refl

-- a message is read in two pieces
pub a_piece_is_read : first_unread (reads 2 ((arrives 20 (message Data 2 100 hello) syncee).end)) ≡ codes "llo"
unfolding number
a_piece_is_read = refl

-- Closing, refusing, giving up.

pub a_syncer_hangs_up : hangs_up 5 syncer ≡ record { end = record syncer { state = Closed; cause = Some cause.Hungup; timer = record syncer.timer { due = None } }; emits = None }
unfolding number
a_syncer_hangs_up = refl

pub a_syncee_hangs_up : (hangs_up 5 syncee).emits ≡ Some (message Close 100 1 [])
unfolding number
a_syncee_hangs_up = refl

pub a_listener_hangs_up : (hangs_up 5 (announced (fresh_end Fixed))).end.cause ≡ Some cause.Hungup
unfolding number
a_listener_hangs_up = refl

pub a_fresh_end_hangs_up : hangs_up 5 (fresh_end Fixed) ≡ record { end = fresh_end Fixed; emits = None }
unfolding number
a_fresh_end_hangs_up = refl

abbrev closing : End
closing = (hangs_up 700 wrote).end

pub closing_resends : (arrives 800 (message State 100 1 []) closing).emits ≡ Some (message DataQuery 2 100 hello)
unfolding number
closing_resends = refl

pub closing_closes_again : (ticks 1200 closing).emits ≡ Some (message Close 2 100 [])
unfolding number
closing_closes_again = refl

pub closing_is_closed : (arrives 800 (message Close 100 2 []) closing).end.state ≡ Closed
unfolding number
closing_is_closed = refl

pub a_sync_is_refused : (arrives 5 (record { kind = Close; spec = 1; id = 0; ack = 1; text = [] }) syncer).end.cause ≡ Some cause.Refused
unfolding number
a_sync_is_refused = refl

pub established_asks : (ticks 1100 wrote).emits ≡ Some (message Query 2 100 [])
unfolding number
established_asks = refl

-- a syncer asks six times, each time twice as long after, and at last gives up
abbrev tired : End
tired = (ticks 23500 (ticks 15500 (ticks 7500 (ticks 3500 (ticks 1500 asked).end).end).end).end).end

pub it_gives_up_at : tired.timer.due ≡ Some 30000
unfolding number
it_gives_up_at = refl

pub it_gave_up : (ticks 30000 tired).end.cause ≡ Some cause.TimedOut
unfolding number
it_gave_up = refl

-- The window of 20, and the room of 64.

-- so many messages more were written
abbrev wrote_more : ℕ → End → End
wrote_more zero e = e
wrote_more (suc n) e = wrote_more n (writes 600 (codes "x") e).end

pub nineteen_may_write : may_write Established (wrote_more 19 joined) ≡ true
unfolding number
nineteen_may_write = refl

pub twenty_may_not : may_write Established (wrote_more 20 joined) ≡ false
unfolding number
twenty_may_not = refl

-- so many messages came in order, the last of them with the id
abbrev heard_more : ℕ → ℕ → End → End
heard_more zero id e = e
heard_more (suc n) id e = heard_more n (id + 1) (arrives 20 (message Data (id + 1) 100 (codes "x")) e).end

pub sixty_four_have_room : length (heard_more 64 1 syncee).got ≡ 64
unfolding number
sixty_four_have_room = refl

pub one_more_has_none : length (heard_more 65 1 syncee).got ≡ 64
unfolding number
one_more_has_none = refl

-- a question that finds no room is answered by an ack, since it may come again; one that finds room by a state
pub a_question_without_room : (arrives 30 (message DataQuery 66 100 (codes "x")) (heard_more 64 1 syncee)).emits ≡ Some (message Ack 100 65 [])
unfolding number
a_question_without_room = refl

pub a_question_with_room : (arrives 30 (message DataQuery 65 100 (codes "x")) (heard_more 63 1 syncee)).emits ≡ Some (message State 100 65 [])
unfolding number
a_question_with_room = refl

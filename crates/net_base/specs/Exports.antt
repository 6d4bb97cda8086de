-- Exporting over a call: a request is read, served and answered, again and again.
use Rattle.std.specs.Prelude.{ℕ, zero, suc, ◌==◌, Bool, true, false, not, List, [], ◌∷◌, ◌++◌, Option, Some, None, option_map, filter, drop, codes, nat_le, if◌then◌else◌}
use Rattle.net_base.specs.declared.ninep.Rmsg.TheVariants as r
use Rattle.net_base.specs.declared.ninep.Tmsg.{Tmsg}
use Rattle.net_base.specs.declared.ninep.Tmsg.TheVariants as t
use Rattle.net_base.specs.declared.reply.Reply.{Reply}
use Rattle.net_base.specs.declared.reply.Reply.TheVariants as reply
use Rattle.net_base.specs.declared.world.Step.{Step}
use Rattle.net_base.specs.declared.world.Step.TheVariants as step
use Rattle.net_base.specs.Asks as asked
use Rattle.net_base.specs.NinepMessages.{r_bytes}
use Rattle.net_base.specs.NinepReading.{read_t}
use Rattle.net_base.specs.Numeral.{numeral}
use Rattle.net_base.specs.Server.{Doing, Does, Gives, Server}
use Rattle.net_base.specs.Session.{State, first, serves_by}
use Rattle.net_base.specs.SessionScript.{message_step}
use Rattle.net_base.specs.SessionTable.{opening}
use Rattle.net_base.specs.Steps.{Ask, Names, Play, Asks, Ends, bytes_in, fid_of, is_accepted, no_names, play_of, uses}

-- ---- plays

-- what a step asks on the file of a call
pub record Own : Type 0 where
  pub reads : Ask
  pub writes : List ℕ → Ask

-- on the file that the name is bound to
abbrev pub own_of : ℕ → List ℕ → Names → Own
own_of h called names = record { reads = asked.read_ask h called 8192 (fid_of called names); writes = λ (text : List ℕ). asked.write h called text (fid_of called names) }

abbrev pub asks_on : Ask → (Reply → Play) → Play
asks_on ask next = Asks ask.actor ask.event next

-- a play, and then another by the names that are bound
abbrev pub and_then : Play → (Names → Play) → Play
and_then (Ends names) go_on = go_on names
and_then (Asks a e next) go_on = Asks a e (λ (r : Reply). and_then (next r) go_on)

-- the events of a request, and the play that goes on by its answer
abbrev pub then_play : {S : Type 0} → Doing S → (List ℕ → S → Play) → Play
then_play (Does ask next) go_on = asks_on ask (λ (r : Reply). then_play (next r) go_on)
then_play (Gives answer s) go_on = go_on answer s

-- by a text that is there
abbrev pub by_text : {A : Type 0} → List ℕ → A → (List ℕ → A) → A
by_text [] none some = none
by_text (b ∷ bs) none some = some (b ∷ bs)

-- So many requests are served, and then nothing more: where a read is refused or empty, or a write refused, the closing follows.
abbrev pub exports : {S : Type 0} → Server S (List ℕ) → Own → ℕ → S → Play
exports {S} v own zero s = Ends (v.names s)
exports {S} v own (suc n) s =
    asks_on own.reads (λ (r : Reply). by_text (bytes_in r) (v.closes s) (λ (text : List ℕ).
    then_play (v.serves s text) (λ (answer : List ℕ) (later : S).
    asks_on (own.writes answer) (λ (written : Reply). if is_accepted written then exports v own n later else v.closes later))))

-- A caller records at most 131,072 entries, two or more for a request, so no history reaches the end of so many.
unfoldable pub most_requests : ℕ
most_requests = 131072

-- ---- the session of an exporting step

-- its messages are no longer
abbrev pub longest_exported : ℕ
longest_exported = 512

-- `.N` in place of `fN`
abbrev pub dotted : List ℕ → List ℕ
dotted called = codes "." ++ drop 1 called

abbrev pub dotted_step : Step → Step
dotted_step (step.Open called path m) = step.Open (dotted called) path m
dotted_step (step.Read called count) = step.Read (dotted called) count
dotted_step (step.Writex called text) = step.Writex (dotted called) text
dotted_step (step.Close called) = step.Close (dotted called)
dotted_step s = s

-- the name of a fid's file
abbrev pub dotted_fid : ℕ → List ℕ
dotted_fid n = codes "." ++ numeral n

-- the answer to bytes that are no T-message
abbrev pub bad_message : List ℕ
bad_message = r_bytes (r.Error 65535 (codes "bad message"))

-- a number in its place among rising ones
abbrev pub put_in : ℕ → List ℕ → List ℕ
put_in n [] = n ∷ []
put_in n (m ∷ ms) = if nat_le n m then n ∷ m ∷ ms else m ∷ put_in n ms

abbrev pub without_number : ℕ → List ℕ → List ℕ
without_number n ns = filter (λ (m : ℕ). not (m == n)) ns

-- the replies that open a file
abbrev pub opens_file : Reply → Bool
opens_file (reply.Slot n g) = true
opens_file (reply.Call n g) = true
opens_file (reply.Opened g) = true
opens_file _ = false

-- a session, and the fids for which a file is open, in ascending order
pub record Sharing : Type 0 where
  pub session : State
  pub opened : List ℕ

-- a file is open for a fid from a Topen that opens it to its Tclunk, or Tremove, whatever these are replied
abbrev pub open_by : List ℕ → Tmsg → Reply → List ℕ
open_by opened (t.Open tag fid mode) x = if opens_file x then put_in fid opened else opened
open_by opened (t.Clunk tag fid) x = without_number fid opened
open_by opened (t.Remove tag fid) x = without_number fid opened
open_by opened _ x = opened

-- by the last reply to the events of the message's step, if it has one
abbrev pub open_after : List ℕ → Tmsg → Option Reply → List ℕ
open_after opened m None = opened
open_after opened m (Some x) = open_by opened m x

-- what a message does, where a file is open for these before it
abbrev pub sharing : List ℕ → Tmsg → Option Reply → Doing State → Doing Sharing
sharing opened m last (Does ask next) = Does ask (λ (r : Reply). sharing opened m (Some r) (next r))
sharing opened m last (Gives answer s) = Gives answer (record { session = s; opened = open_after opened m last })

abbrev pub serves_text : ℕ → Sharing → Option Tmsg → Doing Sharing
serves_text h s None = Gives bad_message s
serves_text h s (Some m) = sharing s.opened m None (serves_by h s.session m (option_map dotted_step (message_step s.session.table m)))

-- their files are closed one after another, whatever the replies
abbrev pub closes_each : ℕ → List ℕ → Names → Play
closes_each h [] names = Ends names
closes_each h (n ∷ ns) names = and_then (play_of h names (step.Close (dotted_fid n))) (closes_each h ns)

-- nothing was heard yet, and these names are bound
abbrev pub unheard : Names → Sharing
unheard names = record { session = record first { table = record opening { msize = longest_exported }; names = names }; opened = [] }

-- the session of a step of a host
abbrev pub exported : ℕ → Server Sharing (List ℕ)
exported h =
    record {
      opening = unheard (no_names []);
      names = λ (s : Sharing). s.session.names;
      serves = λ (s : Sharing) (text : List ℕ). serves_text h s (read_t text);
      closes = λ (s : Sharing). closes_each h s.opened s.session.names;
    }

-- so the names of these files begin, and none that a world says
abbrev pub is_dotted : List ℕ → Bool
is_dotted [] = false
is_dotted (b ∷ bs) = b == 46

-- the play of the step; a name with a dot is asked for alone
abbrev pub export_play : ℕ → List ℕ → Names → Play
export_play h called names = if is_dotted called then uses h called names else exports (exported h) (own_of h called names) most_requests (unheard names)

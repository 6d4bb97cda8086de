-- How a step ended: answered or refused, at which moment, and by which reply.
use Rattle.std.specs.Prelude.{ℕ, ◌+◌, ◌==◌, ◌&&◌, Bool, true, false, not, List, Option, Some, None, slice_get, min, if◌then◌else◌}
use Rattle.std.specs.Option.{option_and_then}
use Rattle.net_base.specs.declared.event.Event.{Event}
use Rattle.net_base.specs.declared.event.Event.TheVariants as event
use Rattle.net_base.specs.declared.history.Entry.{Entry}
use Rattle.net_base.specs.declared.world.Step.{Step}
use Rattle.net_base.specs.declared.world.Step.TheVariants as step
use Rattle.net_base.specs.Imports.{is_open}
use Rattle.net_base.specs.Steps.{bytes_in, is_accepted}
use Rattle.replay_views.specs.declared.ending.Ending.{Ending}
use Rattle.replay_views.specs.declared.ending.StepKind.{StepKind}
use Rattle.replay_views.specs.declared.ending.StepKind.TheVariants as kind
use Rattle.replay_views.specs.declared.recorded.Latest.{Latest}

-- ---- steps of the host's own files

abbrev pub is_refused : Option Entry → Bool
is_refused None = false
is_refused (Some x) = not (is_accepted x.reply)

-- the entry that was refused, if one of these was: the last one, the one before it, or the last one that closes no file. A step that
-- gives up, and an export that ends, close their files at the end
abbrev pub refusal_of : List Entry → Latest → Option ℕ
refusal_of h l =
    if is_refused (slice_get h l.last) then Some l.last
    else if is_refused (option_and_then (slice_get h) l.before) then l.before
    else if is_refused (option_and_then (slice_get h) l.deed) then l.deed
    else None

abbrev pub ending_with : Entry → ℕ → Option ℕ → Ending
ending_with x last (Some reply) = record { refused = true; moment = x.moment; reply = reply }
ending_with x last None = record { refused = false; moment = x.moment; reply = last }

-- the moment is that of the last entry, x
abbrev pub local_ending : List Entry → Entry → Latest → Ending
local_ending h x l = ending_with x l.last (refusal_of h l)

-- ---- steps over a call

-- the type of a message of 9P is its fifth byte
abbrev pub is_type : ℕ → Option ℕ → Bool
is_type kind None = false
is_type kind (Some byte) = byte == kind

abbrev pub is_message : ℕ → List ℕ → Bool
is_message kind text = is_type kind (slice_get text 4)

abbrev pub sends_message : ℕ → Event → Bool
sends_message kind (event.Write g text) = is_message kind text
sends_message kind _ = false

-- the type of an R-message is one more than that of its T-message, and that of Rerror is 107, which answers none
abbrev pub answer_type : ℕ → ℕ
answer_type kind = min (kind + 1) 255

-- the last entry, x, has the answer to the message that the one before it sent
abbrev pub is_answered : ℕ → Entry → Option Entry → Bool
is_answered kind x None = false
is_answered kind x (Some y) = sends_message kind y.event && is_message (answer_type kind) (bytes_in x.reply)

-- so of the message that opens a file
abbrev pub has_opened : Entry → Option Entry → Bool
has_opened x None = false
has_opened x (Some y) = sends_message 112 y.event && is_open (bytes_in x.reply)

abbrev pub remote_ending : Bool → Entry → ℕ → Ending
remote_ending answered x last = record { refused = not answered; moment = x.moment; reply = last }

-- ---- any step

-- the last messages of steps over a call are Tattach, Tread, Twrite and Tclunk
abbrev pub kind_of : Option Step → StepKind
kind_of (Some (step.Import called)) = kind.Remote 104
kind_of (Some (step.Ropen called call path m)) = kind.Ropen
kind_of (Some (step.Rread called count)) = kind.Remote 116
kind_of (Some (step.Rwrite called text)) = kind.Remote 118
kind_of (Some (step.Rclose called)) = kind.Remote 120
kind_of _ = kind.Local

abbrev pub ending_by : StepKind → List Entry → Entry → Latest → Ending
ending_by kind.Local h x l = local_ending h x l
ending_by (kind.Remote sent) h x l = remote_ending (is_answered sent x (option_and_then (slice_get h) l.before)) x l.last
ending_by kind.Ropen h x l = remote_ending (has_opened x (option_and_then (slice_get h) l.before)) x l.last

abbrev pub ending_from : StepKind → List Entry → Option Entry → Latest → Option Ending
ending_from k h None l = None
ending_from k h (Some x) l = Some (ending_by k h x l)

-- by the entries that it recorded
abbrev pub ending_of : StepKind → List Entry → Option Latest → Option Ending
ending_of k h None = None
ending_of k h (Some l) = ending_from k h (slice_get h l.last) l

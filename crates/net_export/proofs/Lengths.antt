-- How many events an entry owes, where it neither takes a copy nor moves the clock: as many as what it shows brings.
use Rattle.std.proofs.Common.{◌≡◌, ℕ, ◌+◌, Bool, true, false, List, [], ◌++◌, length, Option, Some, None, refl, subst, ◌∙◌, length-append, arith}
use Rattle.std.specs.Prelude.{IfSome}
use Rattle.std.specs.Option.{option_map}
use Rattle.std.proofs.lemmas.List.{length-map}
use Rattle.std.proofs.lemmas.Option.{none-some}
use Rattle.net_base.specs.declared.actor.ActorName.{ActorName}
use Rattle.net_base.specs.declared.actor.ActorName.TheVariants as name
use Rattle.net_base.specs.declared.actor.Call.{Call}
use Rattle.net_base.specs.declared.address.Addr.{Addr}
use Rattle.net_base.specs.declared.address.Proto.{Proto}
use Rattle.net_base.specs.declared.event.Event.{Event}
use Rattle.net_base.specs.declared.event.Event.TheVariants as event
use Rattle.net_base.specs.declared.history.Taken.{Taken}
use Rattle.net_base.specs.declared.history.With.{With}
use Rattle.net_base.specs.declared.history.With.TheVariants as given
use Rattle.net_base.specs.declared.history.Work.{Work}
use Rattle.net_base.specs.declared.packet.Packet.{Packet}
use Rattle.net_base.specs.declared.reply.Reply.{Reply}
use Rattle.net_base.specs.declared.reply.Reply.TheVariants as reply
use Rattle.net_base.specs.declared.world.MediumSpec.{MediumSpec}
use Rattle.net_base.specs.declared.world.World.{World}
use Rattle.net_base.specs.ActorStep.{Step}
use Rattle.net_base.specs.Actors.{Actor, IsConv, actor_step}
use Rattle.net_base.specs.Directory.{Dir}
use Rattle.net_base.specs.Duties.{Duty, duties, put_by, emitted_put, close_calls, follow_up, courier_duty, owed_ticks, release}
use Rattle.net_base.specs.Headers.{header}
use Rattle.net_base.specs.Medium.{Medium}
use Rattle.net_base.specs.Routes.{Way, way}
use Rattle.net_export.specs.Counted.{if_way, counts_put, due_at_directory, at_conversation, follow_ups, releases}
use Rattle.history_laws.specs.ActorRows.{ActorRow, AtDesk, AtDir, AtConv, AtMedium, AtClock, MediumRow, Takes, TakesHeld}
use Rattle.history_laws.specs.DirRows.{DirRow, slot_in}
use Rattle.history_laws.specs.DirRows as dir_row
use Rattle.history_laws.proofs.Shared.{actor_rows}
use Rattle.net_export.proofs.FreeEvents.{IsFree}

-- The put of what it emits.

put_length : (o : Option Way) (s : ℕ) (p : Packet) → length (put_by o s p) ≡ if_way o
put_length None s p = refl
put_length (Some out) s p = refl

emitted_length : (w : World) (a : ActorName) (s : ℕ) (o : Option Packet) → length (emitted_put w a s o) ≡ counts_put w a (option_map header o)
emitted_length w (name.Dir h p) s (Some packet) = put_length (way w h packet.dst.ip) s packet
emitted_length w (name.Conv h p n) s (Some packet) = put_length (way w h packet.dst.ip) s packet
emitted_length w (name.Dir h p) s None = refl
emitted_length w (name.Conv h p n) s None = refl
emitted_length w (name.Desk h) s o = refl
emitted_length w (name.Medium m) s o = refl
emitted_length w name.Clock s o = refl

-- What follows its reply.

-- a packet is given to what arrives
abbrev IsGiven : Event → With → Type 0
IsGiven event.Arrive (given.Packet packet) = Unit {0}
IsGiven event.Arrive _ = ⊥
IsGiven _ gift = Unit {0}

closed : (h s : ℕ) (p : Proto) (calls : List Call) → length (close_calls h p s calls) ≡ length calls
closed h s p calls = length-map calls _

module _ (h s : ℕ) (p : Proto) where
  abbrev Counts : Event → With → Reply → Type 0
  Counts e gift r = length (follow_up (name.Dir h p) s e gift r) ≡ due_at_directory e r

  reserved : (gift : With) (r : Reply) → Counts event.Reserve gift r
  reserved gift (reply.Slot n g) = refl
  reserved gift _ = refl

  announced : (n g : ℕ) (ip port : Option ℕ) (gift : With) (r : Reply) → Counts (event.Announce n g ip port) gift r
  announced n g ip port gift reply.Ok = refl
  announced n g ip port gift _ = refl

  bound : (n g port : ℕ) (gift : With) (r : Reply) → Counts (event.Bind n g port) gift r
  bound n g port gift reply.Ok = refl
  bound n g port gift _ = refl

  listened : (n : ℕ) (gift : With) (r : Reply) → Counts (event.Listen n) gift r
  listened n gift (reply.Call m g) = refl
  listened n gift _ = refl

  withdrawn : (n g : ℕ) (gift : With) (r : Reply) → Counts (event.Withdraw n g) gift r
  withdrawn n g gift (reply.Calls calls) = closed h s p calls
  withdrawn n g gift _ = refl

  released : (n g : ℕ) (gift : With) (r : Reply) → Counts (event.Release n g) gift r
  released n g gift (reply.Calls calls) = closed h s p calls
  released n g gift _ = refl

  arrived : (packet : Packet) (r : Reply) → Counts event.Arrive (given.Packet packet) r
  arrived packet (reply.To n g) = refl
  arrived packet (reply.Born n g start limit) = refl
  arrived packet _ = refl

  granted : (n g : ℕ) (remote : Addr) (port : Option ℕ) (gift : With) (r : Reply) → Counts (event.Grant n g remote port) gift r
  granted n g remote port gift (reply.Granted pair start limit) = refl
  granted n g remote port gift _ = refl

  dir_length : (e : Event) (gift : With) (r : Reply) → IsGiven e gift → Counts e gift r
  dir_length event.Reserve gift r is = reserved gift r
  dir_length (event.Grant n g remote port) gift r is = granted n g remote port gift r
  dir_length (event.Announce n g ip port) gift r is = announced n g ip port gift r
  dir_length (event.Bind n g port) gift r is = bound n g port gift r
  dir_length (event.Listen n) gift r is = listened n gift r
  dir_length (event.Withdraw n g) gift r is = withdrawn n g gift r
  dir_length (event.Release n g) gift r is = released n g gift r
  dir_length event.Arrive (given.Packet packet) r is = arrived packet r
  dir_length event.Arrive _ r is = absurd is
  dir_length _ gift r is = refl

conv_length : (h s : ℕ) (p : Proto) (n : ℕ) (e : Event) (gift : With) (r : Reply) → length (follow_up (name.Conv h p n) s e gift r) ≡ at_conversation e r
conv_length h s p n (event.Hangup g) gift reply.Left = refl
conv_length h s p n _ gift _ = refl

-- what is given to a directory's event that is ready
abbrev IsReadyAt : ActorName → Event → With → Type 0
IsReadyAt (name.Dir h p) e gift = IsGiven e gift
IsReadyAt _ e gift = Unit {0}

follow_length : (a : ActorName) (s : ℕ) (e : Event) (gift : With) (r : Reply) → IsReadyAt a e gift → length (follow_up a s e gift r) ≡ follow_ups a e r
follow_length (name.Dir h p) s e gift r is = dir_length h s p e gift r is
follow_length (name.Conv h p n) s e gift r is = conv_length h s p n e gift r
follow_length (name.Desk h) s e gift r is = refl
follow_length (name.Medium m) s e gift r is = refl
follow_length name.Clock s e gift r is = refl

-- What a step that is ready says of its parts.

-- a conversation's state is one
abbrev IsStateOf : ActorName → Actor → Type 0
IsStateOf (name.Conv h p n) (IsConv c) = Unit {0}
IsStateOf (name.Conv h p n) _ = ⊥
IsStateOf _ s = Unit {0}

abbrev TakesNothing : ActorName → Option Taken → Type 0
TakesNothing (name.Medium m) (Some t) = ⊥
TakesNothing _ o = Unit {0}

record IsPart (a : ActorName) (e : Event) (gift : With) (s : Step Actor) : Type 0 where
  given : IsReadyAt a e gift
  state : IsStateOf a s.state
  takes : TakesNothing a s.outcome.taken

-- what an event that names a slot is given is nothing that arrives
stale_given : (e : Event) (gift : With) (n g : ℕ) → slot_in e ≡ Some (n, g) → IsGiven e gift
stale_given event.Arrive gift n g names = absurd (none-some _ names)
stale_given _ gift n g names = tt

dir_given : (w : World) (h : ℕ) (p : Proto) (d : Dir) (e : Event) (gift : With) (s : Step Dir) → DirRow w h p d e gift s → IsGiven e gift
dir_given w h p d e gift s (dir_row.Stale {n = n} {g = g} names at other) = stale_given e gift n g names
dir_given w h p d e gift s _ = tt

medium_nothing : (spec : MediumSpec) (seed n : ℕ) (m : Medium) (e : Event) (gift : With) (s : Step Medium) → IsFree e → MediumRow spec seed m e gift s
    → TakesNothing (name.Medium n) s.outcome.taken
medium_nothing spec seed n m e gift s free (Takes queued) = absurd free
medium_nothing spec seed n m e gift s free (TakesHeld queued are) = absurd free
medium_nothing spec seed n m e gift s free _ = tt

row_part : (w : World) (now : ℕ) (a : ActorName) (before : Actor) (e : Event) (gift : With) (s : Step Actor) → IsFree e → ActorRow w now a before e gift s
    → IsPart a e gift s
row_part w now a before e gift s free (AtDir {h = h} {p = p} {d = d} {s = x} row) = record { given = dir_given w h p d e gift x row; state = tt; takes = tt }
row_part w now a before e gift s free (AtMedium {k = n} {spec = spec} {m = m} {s = x} there row) =
    record { given = tt; state = tt; takes = medium_nothing spec w.seed n m e gift x free row }
row_part w now a before e gift s free (AtConv row) = record { given = tt; state = tt; takes = tt }
row_part w now a before e gift s free (AtDesk there row) = record { given = tt; state = tt; takes = tt }
row_part w now a before e gift s free AtClock = record { given = tt; state = tt; takes = tt }

is_part : (w : World) (a : ActorName) (before : Actor) (now : ℕ) (work : Work) (s : Step Actor) → IsFree work.event
    → actor_step w a before now work ≡ Some s → IsPart a work.event work.with s
is_part w a before now work s free is =
    row_part w now a before work.event work.with s free
    (subst (λ (o : Option (Step Actor)). IfSome o (λ (t : Step Actor). ActorRow w now a before work.event work.with t)) is (actor_rows w now a before work))

-- All that it owes.

courier_none : (w : World) (a : ActorName) (s : ℕ) (o : Option Taken) → TakesNothing a o → courier_duty w a s o ≡ []
courier_none w (name.Medium m) s None nothing = refl
courier_none w (name.Medium m) s (Some t) nothing = absurd nothing
courier_none w (name.Desk h) s o nothing = refl
courier_none w (name.Dir h p) s o nothing = refl
courier_none w (name.Conv h p n) s o nothing = refl
courier_none w name.Clock s o nothing = refl

ticks_none : (w : World) (actors : ActorName → Actor) (a : ActorName) (s : ℕ) (e : Event) → IsFree e → owed_ticks w actors a s e ≡ []
ticks_none w actors name.Clock s (event.Move now) free = absurd free
ticks_none w actors _ s _ free = refl

release_length : (a : ActorName) (s : ℕ) (b : Actor) (ended : Bool) → IsStateOf a b → length (release a s b ended) ≡ releases a ended
release_length (name.Conv h p n) s (IsConv c) true is = refl
release_length (name.Conv h p n) s (IsConv c) false is = refl
release_length (name.Conv h p n) s _ ended is = absurd is
release_length (name.Desk h) s b ended is = refl
release_length (name.Dir h p) s b ended is = refl
release_length (name.Medium m) s b ended is = refl
release_length name.Clock s b ended is = refl

in_all : (put follow courier ticked free : List Duty) (x y z : ℕ) → length put ≡ x → length follow ≡ y → courier ≡ [] → ticked ≡ [] → length free ≡ z
    → length ((((put ++ follow) ++ courier) ++ ticked) ++ free) ≡ (x + y) + z
in_all put follow courier ticked free x y z one two three four five =
    rw (three, four)
    (length-append _ free
    ∙ omega (arith, one, two, five, length-append put follow, length-append (put ++ follow) [], length-append ((put ++ follow) ++ []) []))

-- an entry that is ready owes as many events as what it shows brings
pub duties_length : (w : World) (actors : ActorName → Actor) (a : ActorName) (now stamp : ℕ) (work : Work) (s : Step Actor) → IsFree work.event
    → actor_step w a (actors a) now work ≡ Some s
    → length (duties w actors a stamp work s)
    ≡ (counts_put w a (option_map header s.outcome.emit) + follow_ups a work.event s.outcome.reply) + releases a s.outcome.ended
duties_length w actors a now stamp work s free is =
    let part = is_part w a (actors a) now work s free is in
    in_all (emitted_put w a stamp s.outcome.emit) (follow_up a stamp work.event work.with s.outcome.reply) (courier_duty w a stamp s.outcome.taken)
    (owed_ticks w actors a stamp work.event)
    (release a stamp s.state s.outcome.ended) _ _ _
    (emitted_length w a stamp s.outcome.emit) (follow_length a stamp work.event work.with s.outcome.reply part.given)
    (courier_none w a stamp s.outcome.taken part.takes)
    (ticks_none w actors a stamp work.event free) (release_length a stamp s.state s.outcome.ended part.state)

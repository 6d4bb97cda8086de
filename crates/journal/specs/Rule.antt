-- The rule of the journal, over its one word and the views of all seats, and what each kind of step tells.
use Rattle.std.specs.Prelude.{◌≡◌, ℕ, ◌<◌, ◌≤◌, ◌==◌, zero, suc, nat_lt, ◌⊎◌, Bool, true, false, not, List, [], ◌∷◌, ◌++◌, length, map, filter, if◌then◌else◌, None}
use mathlib.Core.Option.{some}
use mathlib.Core.List.{IsPrefix}
use lib.ListN.{get_elem?}
use Rattle.atomic_table.specs.Table.{State}
use Rattle.atomic_table.specs.Seated.{TableId}
use Rattle.atomic_table.specs.declared.shared.Seat.{Seat}
use Rattle.net_base.specs.declared.actor.ActorName.{ActorName}
use Rattle.net_base.specs.declared.actor.ActorName.TheVariants as name
use Rattle.net_base.specs.declared.event.Event.TheVariants as event
use Rattle.net_base.specs.declared.history.With.TheVariants as given
use Rattle.net_base.specs.declared.reply.Reply.TheVariants as reply
use Rattle.net_base.specs.declared.noted.Noted.{Noted}
use Rattle.net_base.specs.declared.noted.Number.{Number}
use Rattle.net_base.specs.declared.noted.Number.TheVariants as number
use Rattle.net_base.specs.Stamped.{same_actor, matches, at, clock, latest, moment_noted, In}
use Rattle.journal.specs.declared.law.Roster.{Roster}
use Rattle.journal.specs.declared.law.View.{View}

-- which journal it is, with its callers and actors
pub record Run : Type 0 where
  pub table : TableId
  pub roster : Roster

-- a number with the entries of it
abbrev pub Held : Type 0
Held = Number × List (ℕ × Noted)

-- the entry x may stand after those of past
pub record Fits (r : Roster) (past : List Noted) (x : Noted) : Type 0 where
  pub caller : x.entry.caller < r.callers
  pub actor : In x.entry.actor r.actors
  pub moment_is : x.entry.moment ≡ moment_noted past
  pub room : length (at (number.Caller x.entry.caller) past) < 131072
  pub event_is : x.entry.event ≡ x.work.event

-- each entry may stand after those before it
abbrev pub Lawful : Roster → List Noted → Type 0
Lawful r log = (p : List Noted) (x : Noted) (q : List Noted) → log ≡ p ++ x ∷ q → Fits r p x

-- the list es is all that log has of the number k, and it stands in seen
abbrev pub IsAll : List Noted → List Noted → Number → List (ℕ × Noted) → Type 0
IsAll log seen k es = (es ≡ at k log) × (at k seen ≡ es)

-- the number is one of a caller or an actor that there is
abbrev pub KnownNumber : Roster → Number → Type 0
KnownNumber r (number.Caller c) = c < r.callers
KnownNumber r (number.Actor a) = In a r.actors

abbrev pub IsCallerNumber : Number → Type 0
IsCallerNumber (number.Caller c) = Unit {0}
IsCallerNumber (number.Actor a) = ⊥

abbrev pub is_caller : Held → Bool
is_caller (number.Caller c, es) = true
is_caller (number.Actor a, es) = false

abbrev pub has_caller : List Held → Bool
has_caller [] = false
has_caller (x ∷ xs) = if is_caller x then true else has_caller xs

-- what a seat knows is so: beginnings of the history, all entries of its numbers, and, where it has a caller's number, all of
-- the clock's
pub record Knows (r : Roster) (log : List Noted) (v : View) : Type 0 where
  pub seen : IsPrefix v.seen log
  pub olds : (old : List Noted) → In old v.olds → IsPrefix old log
  pub lists : (k : Number) (es : List (ℕ × Noted)) → In (k, es) v.held → KnownNumber r k × IsAll log v.seen k es
  pub clock_is : has_caller v.held ≡ true → IsAll log v.seen clock v.clock
  pub clocks : (es : List (ℕ × Noted)) → has_caller v.held ≡ true → In es v.clocks → IsAll log v.seen clock es

-- some seat's view is so
abbrev pub Someone : (View → Type 0) → List View → Type 0
Someone P views = (i : ℕ) × (v : View) × (get_elem? views i ≡ some v) × P v

-- the view has the number
abbrev pub Has : Number → View → Type 0
Has k v = (es : List (ℕ × Noted)) × In (k, es) v.held

-- no two seats hold one number
abbrev pub Apart : List View → Type 0
Apart views = (i j : ℕ) (v w : View) (k : Number) (es fs : List (ℕ × Noted)) →
    get_elem? views i ≡ some v → get_elem? views j ≡ some w → In (k, es) v.held → In (k, fs) w.held → i ≡ j

-- the words where the length of the history is this: it stands in the ninth, a line of a cache behind the first
abbrev pub rule_words : ℕ → List ℕ
rule_words n = 0 ∷ 0 ∷ 0 ∷ 0 ∷ 0 ∷ 0 ∷ 0 ∷ 0 ∷ n ∷ 0 ∷ 0 ∷ 0 ∷ 0 ∷ 0 ∷ 0 ∷ 0 ∷ []

-- there is a history, whose length is the word. Each seat knows a beginning of it, and one knows the whole. Each number is
-- held by one seat
pub record KeptBySeat (r : Roster) (s : State (Unit {0}) View) : Type 0 where
  pub log : List Noted
  pub few : r.callers ≤ 37
  pub word : s.words ≡ rule_words (length log)
  pub views : (i : ℕ) (v : View) → get_elem? s.views i ≡ some v → Knows r log v
  pub front : Someone (λ v. v.seen ≡ log) s.views
  pub apart : Apart s.views
  pub all : (k : Number) → KnownNumber r k → Someone (Has k) s.views
  pub lawful : Lawful r log

-- the first seat holds all numbers, with no entries
abbrev pub caller_numbers : ℕ → List Held
caller_numbers zero = []
caller_numbers (suc n) = (number.Caller n, []) ∷ caller_numbers n

abbrev pub actor_numbers : List ActorName → List Held
actor_numbers [] = []
actor_numbers (a ∷ as') = (number.Actor a, []) ∷ actor_numbers as'

-- what the first seat knows
abbrev pub newcomer : Roster → View
newcomer r = record {
  seen = [];
  olds = [];
  held = caller_numbers r.callers ++ actor_numbers r.actors;
  clock = [];
  clocks = [];
}

abbrev pub same_number : Number → Number → Bool
same_number (number.Caller a) (number.Caller b) = a == b
same_number (number.Actor a) (number.Actor b) = same_actor a b
same_number _ _ = false

-- a seat hands a number over
abbrev pub handed_over : Number → View → View
handed_over k v = record {
  seen = v.seen;
  olds = v.olds;
  held = filter (λ (h : Held). not (same_number h.0 k)) v.held;
  clock = v.clock;
  clocks = v.clocks;
}

-- the seat that gets it has seen as much
abbrev pub only : Number → View → View
only k v = record {
  seen = v.seen;
  olds = v.olds;
  held = filter (λ (h : Held). same_number h.0 k) v.held;
  clock = v.clock;
  clocks = v.clocks;
}

-- of two beginnings of one history the longer
abbrev pub longer_history : List Noted → List Noted → List Noted
longer_history xs ys = if nat_lt (length xs) (length ys) then ys else xs

-- the clock's entries, where the seat has a caller's number
abbrev pub clock_of : View → List (List (ℕ × Noted))
clock_of v = if has_caller v.held then v.clock ∷ [] else []

-- a seat takes another in: what each had seen stays known, until the next step on the word shows that all of it is one history
abbrev pub both_seen : View → View → View
both_seen v w = record {
  seen = longer_history v.seen w.seen;
  olds = v.seen ∷ w.seen ∷ [];
  held = v.held ++ w.held;
  clock = if has_caller v.held then v.clock else w.clock;
  clocks = clock_of v ++ clock_of w;
}

-- what a seat knows that was taken in
abbrev pub spent : View
spent = record { seen = []; olds = []; held = []; clock = []; clocks = [] }

-- a look: all is seen, and each list is what it was, and all of its number
pub record Looks (r : Roster) (v : View) (found : ℕ) (w : View) : Type 0 where
  pub front : length w.seen ≡ found
  pub before : IsPrefix v.seen w.seen
  pub olds : (old : List Noted) → In old v.olds → IsPrefix old w.seen
  pub held : w.held ≡ v.held
  pub clock_is : w.clock ≡ v.clock
  pub lists : (k : Number) (es : List (ℕ × Noted)) → In (k, es) w.held → at k w.seen ≡ es
  pub moment_is : has_caller w.held ≡ true → at clock w.seen ≡ w.clock
  pub clocks : (es : List (ℕ × Noted)) → has_caller v.held ≡ true → In es v.clocks → at clock w.seen ≡ es
  pub lawful : Lawful r w.seen

-- the lists of an entry's numbers gain it
abbrev pub gain : ℕ → Noted → Held → Held
gain n x h = (h.0, if matches h.0 x then h.1 ++ (n, x) ∷ [] else h.1)

-- the entry isn't the clock's, or the seat holds every caller's number
abbrev pub Timely : Roster → List Held → Noted → Type 0
Timely r held x = (matches clock x ≡ false)
    ⊎ ((c : ℕ) → c < r.callers → (es : List (ℕ × Noted)) × In (number.Caller c, es) held)

-- the seat holds the numbers of the entry, and knows that it may come next
pub record MayAdd (r : Roster) (v : View) (x : Noted) : Type 0 where
  pub of_caller : List (ℕ × Noted)
  pub of_actor : List (ℕ × Noted)
  pub caller : In (number.Caller x.entry.caller, of_caller) v.held
  pub actor : In (number.Actor x.entry.actor, of_actor) v.held
  pub moment_is : x.entry.moment ≡ latest 0 v.clock
  pub room : length of_caller < 131072
  pub event_is : x.entry.event ≡ x.work.event
  pub timely : Timely r v.held x

-- a record: the entry was added to past, of which all was seen
pub record Adds (r : Roster) (x : Noted) (v : View) (found : ℕ) (w : View) : Type 0 where
  pub past : List Noted
  pub stamp : length past ≡ found
  pub seen : w.seen ≡ past ++ x ∷ []
  pub before : IsPrefix v.seen past
  pub olds : (old : List Noted) → In old v.olds → IsPrefix old past
  pub held : w.held ≡ map (gain found x) v.held
  pub clock_is : w.clock ≡ (gain found x (clock, v.clock)).1
  pub lists : (k : Number) (es : List (ℕ × Noted)) → In (k, es) v.held → at k past ≡ es
  pub moment_is : has_caller v.held ≡ true → at clock past ≡ v.clock
  pub lawful : Lawful r w.seen
  pub short : length w.seen ≤ 4849664

-- a seat of the journal, which holds no slot
abbrev pub IsSeat : TableId → Seat (Unit {0}) View → Type 0
IsSeat table s = (s.table_id ≡ table) × (s.me.1 ≡ [])

-- some entry, where none is named
abbrev pub nothing_noted : Noted
nothing_noted = record {
  entry = record {
    actor = name.Clock;
    caller = 0;
    moment = 0;
    event = event.Take;
    cites = None;
    reply = reply.Ok;
    emits = None;
    ended = false;
  };
  work = record { event = event.Take; with = given.Nothing };
}

-- some journal, where none is named
abbrev pub no_run : Run
no_run = record {
  table = record { words = 0; slots = 0; views_name = 0; atom = 0; block = 0; offset = 0; slot_names = [] };
  roster = record { callers = 0; actors = [] };
}

-- What passes and books are, and what the calls of the journal say of them.
use Rattle.std.specs.Prelude.{◌≡◌, ℕ, ◌+◌, ◌<◌, ◌≤◌, take, drop, ◌⊎◌, slice_index, true, false, List, [], ◌∷◌, ◌++◌, length, map}
use mathlib.Core.List.{IsPrefix}
use Rattle.atomic_table.specs.Seated.{TableId}
use Rattle.atomic_table.specs.declared.shared.Seat.{Seat}
use Rattle.atomic_table.specs.declared.badge.Badge.{Badge}
use Rattle.net_base.specs.declared.actor.ActorName.{ActorName}
use Rattle.net_base.specs.declared.history.Entry.{Entry}
use Rattle.net_base.specs.declared.history.Work.{Work}
use Rattle.net_base.specs.declared.noted.Noted.{Noted}
use Rattle.net_base.specs.declared.noted.Number.{Number}
use Rattle.net_base.specs.declared.noted.Number.TheVariants as number
use Rattle.net_base.specs.Stamped.{matches, at, clock, moment_noted, In}
use Rattle.journal.specs.declared.law.Roster.{Roster}
use Rattle.journal.specs.declared.law.View.{View}
use Rattle.journal.specs.declared.tokens.Sight.{Sight}
use Rattle.journal.specs.declared.tokens.Volume.{Volume}
use Rattle.journal.specs.declared.tokens.Stamped.{Stamped}
use Rattle.journal.specs.Rule.{Held, Lawful, IsSeat, IsCallerNumber, has_caller, gain, newcomer, caller_numbers, actor_numbers}

abbrev pub noted_work : Entry → Work → Noted
noted_work e w = record { entry = e; work = w }

abbrev pub stamped : ℕ × Noted → Stamped
stamped x = record { stamp = x.0; entry = x.1.entry }

-- a pass as contracts see it: what it has seen, and the numbers that it holds, each with its entries
abbrev pub sight : View → Sight
sight v = record { seen = v.seen; held = v.held }

-- each list is all that was seen of its number
pub record Agrees (v : View) : Type 0 where
  pub lists : (k : Number) (es : List (ℕ × Noted)) → In (k, es) v.held → at k v.seen ≡ es
  pub clock_is : has_caller v.held ≡ true → at clock v.seen ≡ v.clock

abbrev pub OnlyCallers : List Held → Type 0
OnlyCallers hs = (k : Number) (es : List (ℕ × Noted)) → In (k, es) hs → IsCallerNumber k

-- how many entries each of these callers has, and 0 for the others
pub record Counted (counts : List ℕ) (hs : List Held) : Type 0 where
  pub long : length counts ≡ 37
  pub each : (c : ℕ) (es : List (ℕ × Noted)) → In (number.Caller c, es) hs →
      (c < 37) × (slice_index counts c ≡ length es) × (length es ≤ 131072)
  pub none : (c : ℕ) → (slice_index counts c ≡ 0) ⊎ ((es : List (ℕ × Noted)) × In (number.Caller c, es) hs)

pub record IsPass (table : TableId) (s : Seat (Unit {0}) View) (counts : List ℕ) : Type 0 where
  pub seat : IsSeat table s
  pub agrees : Agrees s.me.0
  pub callers : OnlyCallers s.me.0.held
  pub counted : Counted counts s.me.0.held

abbrev pub first_held : List Held → List (ℕ × Noted)
first_held [] = []
first_held (h ∷ hs) = h.1

-- a book as contracts see it: its actor, what was seen, the actor's entries with their stamps and works, and the room that
-- is reserved
abbrev pub volume : ActorName → ℕ → List View → ℕ → Volume
volume a i [] n = record { actor = a; number = i; seen = []; list = []; room = n }
volume a i (v ∷ vs) n = record { actor = a; number = i; seen = v.seen; list = first_held v.held; room = n }

pub record IsBook (table : TableId) (a : ActorName) (i : ℕ) (b : Badge View) (items : List Stamped) : Type 0 where
  pub few : i < 2147483648
  pub table_is : b.table_id ≡ table
  pub view : View
  pub list : List (ℕ × Noted)
  pub views_is : b.views ≡ view ∷ []
  pub held : view.held ≡ (number.Actor a, list) ∷ []
  pub agrees : at (number.Actor a) view.seen ≡ list
  pub entries : items ≡ map stamped list
  pub short : length list ≤ 4849664

-- the pass holds the caller's number, and that caller has these entries
abbrev pub HoldsPass : Sight → ℕ → List (ℕ × Noted) → Type 0
HoldsPass p c es = In (number.Caller c, es) p.held

-- the pass holds every caller's number
abbrev pub HoldsAll : Roster → Sight → Type 0
HoldsAll r p = (c : ℕ) → c < r.callers → (es : List (ℕ × Noted)) × HoldsPass p c es

-- the entry may be recorded
pub record MayBeRecorded (p : Sight) (b : Volume) (x : Noted) : Type 0 where
  pub of_caller : List (ℕ × Noted)
  pub caller : HoldsPass p x.entry.caller of_caller
  pub room : length of_caller < 131072
  pub actor : x.entry.actor ≡ b.actor
  pub moment_is : x.entry.moment ≡ moment_noted p.seen
  pub event_is : x.entry.event ≡ x.work.event

-- past is the history before the stamp. It has all that the pass and the book had seen, and no more of the pass's callers and
-- the book's actor than these had. The lists of the entry's caller and of its actor gain the entry, and the others stay
pub record RecordedInBook (r : Roster) (b : Volume) (p : Sight) (x : Noted) (stamp : ℕ)
    (b' : Volume) (p' : Sight) : Type 0 where
  pub past : List Noted
  pub stamp_is : length past ≡ stamp
  pub seen : p'.seen ≡ past ++ x ∷ []
  pub pass_before : IsPrefix p.seen past
  pub book_before : IsPrefix b.seen past
  pub held : p'.held ≡ map (gain stamp x) p.held
  pub lists : (k : Number) (es : List (ℕ × Noted)) → In (k, es) p.held → at k past ≡ es
  pub actor_list : at (number.Actor b.actor) past ≡ b.list
  pub moment_is : moment_noted past ≡ moment_noted p.seen
  pub moment_kept : matches clock x ≡ false → moment_noted p'.seen ≡ moment_noted p.seen
  pub whole : HoldsAll r p → past ≡ p.seen
  pub lawful : Lawful r p'.seen
  pub book_list : b'.list ≡ b.list ++ (stamp, x) ∷ []
  pub book_actor : (b'.actor ≡ b.actor) × (b'.number ≡ b.number)
  pub book_seen : b'.seen ≡ p'.seen

-- all was seen at this front, and no list has gained an entry
pub record Looked (r : Roster) (p : Sight) (front : ℕ) (p' : Sight) : Type 0 where
  pub front_is : length p'.seen ≡ front
  pub before : IsPrefix p.seen p'.seen
  pub held : p'.held ≡ p.held
  pub lists : (k : Number) (es : List (ℕ × Noted)) → In (k, es) p.held → at k p'.seen ≡ es
  pub moment_is : has_caller p.held ≡ true → moment_noted p'.seen ≡ moment_noted p.seen
  pub whole : HoldsAll r p → p'.seen ≡ p.seen
  pub lawful : Lawful r p'.seen

-- a pass looked with a book, whose list is all of its actor at this front
pub record LookedWith (r : Roster) (b : Volume) (p : Sight) (front : ℕ) (b' : Volume) (p' : Sight) : Type 0 where
  pub look : Looked r p front p'
  pub book_before : IsPrefix b.seen p'.seen
  pub actor_list : at (number.Actor b.actor) p'.seen ≡ b.list
  pub book_list : b'.list ≡ b.list
  pub book_actor : (b'.actor ≡ b.actor) × (b'.number ≡ b.number)
  pub book_seen : b'.seen ≡ p'.seen
  pub book_room : b'.room ≡ b.room

-- two passes have met
pub record Met (r : Roster) (p : Sight) (q : Sight) (p' : Sight) : Type 0 where
  pub held : p'.held ≡ p.held ++ q.held
  pub this : IsPrefix p.seen p'.seen
  pub that : IsPrefix q.seen p'.seen
  pub lists : (k : Number) (es : List (ℕ × Noted)) → In (k, es) p'.held → at k p'.seen ≡ es
  pub moment_is : has_caller p.held ≡ true → moment_noted p'.seen ≡ moment_noted p.seen
  pub moment_that : has_caller q.held ≡ true → moment_noted p'.seen ≡ moment_noted q.seen
  pub lawful : Lawful r p'.seen

-- no actor stands twice
abbrev pub Distinct : List ActorName → Type 0
Distinct [] = Unit {0}
Distinct (a ∷ as') = (In a as' → ⊥) × Distinct as'

-- the book of an actor without entries
pub record IsBlank (n : ℕ) (a : ActorName) (b : Volume) : Type 0 where
  pub actor : b.actor ≡ a
  pub number_is : b.number ≡ n
  pub seen : b.seen ≡ []
  pub list : b.list ≡ []

-- the books of these actors, the first of which has the number n
abbrev pub AreBlank : ℕ → List ActorName → List Volume → Type 0
AreBlank n [] [] = Unit {0}
AreBlank n (a ∷ as') (b ∷ bs) = IsBlank n a b × AreBlank (n + 1) as' bs
AreBlank _ _ _ = ⊥

-- the first i actors have their books, and the seat has the numbers of the others
pub record Dealt (callers : ℕ) (actors : List ActorName) (i : ℕ) (v : View) (books : List Volume) : Type 0 where
  pub within : i ≤ length actors
  pub seen : v.seen ≡ []
  pub clock_is : v.clock ≡ []
  pub held : v.held ≡ caller_numbers callers ++ actor_numbers (drop i actors)
  pub books_are : AreBlank 0 (take i actors) books

-- the seat of a journal without entries, which holds all numbers
pub record IsOpened (id : TableId) (r : Roster) (s : Seat (Unit {0}) View) (actors : List ActorName) : Type 0 where
  pub seat : IsSeat id s
  pub view_is : s.me.0 ≡ newcomer r
  pub words : id.words ≡ 16
  pub slots : id.slots ≡ 0
  pub actors_are : actors ≡ r.actors
  pub few : r.callers ≤ 37

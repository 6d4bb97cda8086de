-- Histories, the entries of one actor or one caller in them with their stamps, and the moment.
use Rattle.std.specs.Prelude.{◌≡◌, ℕ, ◌+◌, ◌==◌, ◌&&◌, ◌⊎◌, Bool, true, false, List, [], ◌∷◌, if◌then◌else◌}
use Rattle.net_base.specs.declared.actor.ActorName.{ActorName}
use Rattle.net_base.specs.declared.actor.ActorName.TheVariants as name
use Rattle.net_base.specs.declared.address.Proto.{Proto}
use Rattle.net_base.specs.declared.address.Proto.TheVariants as proto
use Rattle.net_base.specs.declared.event.Event.{Event}
use Rattle.net_base.specs.declared.event.Event.TheVariants as event
use Rattle.net_base.specs.declared.history.Entry.{Entry}
use Rattle.net_base.specs.declared.noted.Noted.{Noted}
use Rattle.net_base.specs.declared.noted.Number.{Number}
use Rattle.net_base.specs.declared.noted.Number.TheVariants as number

abbrev pub same_proto : Proto → Proto → Bool
same_proto proto.Il proto.Il = true
same_proto proto.Udp proto.Udp = true
same_proto _ _ = false

abbrev pub same_actor : ActorName → ActorName → Bool
same_actor (name.Desk h) (name.Desk i) = h == i
same_actor (name.Dir h p) (name.Dir i q) = (h == i) && same_proto p q
same_actor (name.Conv h p m) (name.Conv i q n) = ((h == i) && same_proto p q) && (m == n)
same_actor (name.Medium m) (name.Medium n) = m == n
same_actor name.Clock name.Clock = true
same_actor _ _ = false

-- the entry is one of the caller or the actor
abbrev pub belongs : Number → Entry → Bool
belongs (number.Caller c) e = e.caller == c
belongs (number.Actor a) e = same_actor e.actor a

-- the entries of a caller or an actor, each with its stamp, where the first entry of the list has the stamp n
abbrev pub entries_from : Number → ℕ → List Entry → List (ℕ × Entry)
entries_from k n [] = []
entries_from k n (e ∷ es) = if belongs k e then (n, e) ∷ entries_from k (n + 1) es else entries_from k (n + 1) es

-- the entries of an actor in a history
abbrev pub of_actor : ActorName → List Entry → List (ℕ × Entry)
of_actor a h = entries_from (number.Actor a) 0 h

-- the entries of a caller in a history
abbrev pub of_caller : ℕ → List Entry → List (ℕ × Entry)
of_caller c h = entries_from (number.Caller c) 0 h

abbrev pub matches : Number → Noted → Bool
matches k x = belongs k x.entry

-- the entries of a number with their works, each with its stamp
abbrev pub at_from : Number → ℕ → List Noted → List (ℕ × Noted)
at_from k n [] = []
at_from k n (x ∷ xs) = if matches k x then (n, x) ∷ at_from k (n + 1) xs else at_from k (n + 1) xs

abbrev pub at : Number → List Noted → List (ℕ × Noted)
at k log = at_from k 0 log

abbrev pub clock : Number
clock = number.Actor name.Clock

-- the moment after an entry of the clock
abbrev pub moment_after_noted : ℕ → Noted → ℕ
moment_after_noted m x = moved m x.entry.event
  where
    moved : ℕ → Event → ℕ
    moved m (event.Move at) = at
    moved m _ = m

-- the moment of the last move among these entries of the clock, or m
abbrev pub latest : ℕ → List (ℕ × Noted) → ℕ
latest m [] = m
latest m (x ∷ xs) = latest (moment_after_noted m x.1) xs

-- the moment after a history
abbrev pub moment_noted : List Noted → ℕ
moment_noted log = latest 0 (at clock log)

-- x stands in the list
abbrev pub In : {A : Type 0} → A → List A → Type 0
In x [] = ⊥
In x (y ∷ ys) = (x ≡ y) ⊎ In x ys

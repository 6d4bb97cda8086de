-- When conversations are due, and what is known of it from one move of the clock to the next.
use Rattle.std.specs.Prelude.{◌≡◌, ℕ, ◌+◌, ◌≤◌, Bool, List, [], ◌∷◌, ◌++◌, filter_map, length, take, Option, nat_le, if◌then◌else◌}
use Rattle.std.specs.List.{list_all}
use Rattle.net_base.specs.declared.actor.ActorName.{ActorName}
use Rattle.net_base.specs.declared.address.Proto.{Proto}
use Rattle.net_base.specs.declared.noted.Noted.{Noted}
use Rattle.net_base.specs.declared.world.World.{World}
use Rattle.net_base.specs.Actors.{Actor}
use Rattle.net_base.specs.Duties.{conversations}
use Rattle.duties.specs.declared.due.Due.{Due}
use Rattle.duties.specs.Ticking.{due_at, dues_of}
use Rattle.duties.specs.Marks.{is_marked_among}
use Rattle.net_locks.specs.Works.{noted_net}
use Rattle.net_locks.specs.declared.calendar.Calendar.{Calendar}
use Rattle.net_locks.specs.declared.clock.Standing.{Standing}

-- after the entries before its stamp the conversations were due so
pub record IsKnown (w : World) (log : List Noted) (k : Calendar) : Type 0 where
  pub within : k.at ≤ length log
  pub dues_are : k.dues.list ≡ dues_of w (noted_net w (take k.at log)).actors

abbrev pub due_from : ℕ → Proto → ℕ → ℕ → ℕ → Due
due_from h p n g due = record { host = h; proto = p; slot = n; generation = g; due = due }

-- when a conversation is due: one of these as it is now, and another as it was
abbrev pub mixed : (ActorName → Actor) → (ActorName → Actor) → List ActorName → ActorName → Option Due
mixed now old as' a = if is_marked_among as' a then due_at now a else due_at old a

-- so the conversations are due
abbrev pub AreMixed : World → (ActorName → Actor) → (ActorName → Actor) → List ActorName → List Due → Type 0
AreMixed w now old as' dues = dues ≡ filter_map (mixed now old as') (conversations w)

-- the conversations that some caller touched
abbrev pub all_touched : List Standing → List ActorName
all_touched [] = []
all_touched (s ∷ ss) = s.touched.actors ++ all_touched ss

abbrev pub touched_count : List Standing → ℕ
touched_count [] = 0
touched_count (s ∷ ss) = length s.touched.actors + touched_count ss

-- each of these callers has told all from this stamp on
abbrev pub have_told : ℕ → List Standing → Bool
have_told at ss = list_all (λ (s : Standing). nat_le s.touched.since at) ss

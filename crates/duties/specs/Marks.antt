-- The conversations at which a caller recorded something.
--     Covers     they are all from a stamp on
use Rattle.std.specs.Prelude.{◌≡◌, ℕ, ◌≤◌, Bool, true, false, List, [], ◌∷◌, ◌++◌, max, nat_lt, if◌then◌else◌}
use Rattle.std.specs.List.{list_any}
use Rattle.net_base.specs.declared.actor.ActorName.{ActorName}
use Rattle.net_base.specs.declared.actor.ActorName.TheVariants as name
use Rattle.net_base.specs.declared.noted.Noted.{Noted}
use Rattle.net_base.specs.Stamped.{In, same_actor}

-- conversations, the stamp from which on a caller recorded something at these alone, one that none of its entries at a
-- conversation passes, and for how many more there is room
pub record Marks : Type 0 where
  pub actors : List ActorName
  pub since : ℕ
  pub last : ℕ
  pub room : ℕ

abbrev pub is_conversation : ActorName → Bool
is_conversation (name.Conv h p n) = true
is_conversation _ = false

-- the actor is one of these
abbrev pub is_marked_among : List ActorName → ActorName → Bool
is_marked_among as' a = list_any (λ (b : ActorName). same_actor b a) as'

-- of the caller's entries these are the conversations from the stamp on
pub record Covers (own : List (ℕ × Noted)) (m : Marks) : Type 0 where
  pub each : (x : ℕ × Noted) → In x own → is_conversation x.1.entry.actor ≡ true → m.since ≤ x.0
      → is_marked_among m.actors x.1.entry.actor ≡ true
  pub within : (x : ℕ × Noted) → In x own → is_conversation x.1.entry.actor ≡ true → x.0 ≤ m.last

-- they are the same, but for the room
pub record AreAlike (old new : Marks) : Type 0 where
  pub actors_are : new.actors ≡ old.actors
  pub since_is : new.since ≡ old.since
  pub last_is : new.last ≡ old.last

-- with an entry more at an actor
abbrev pub marks_noted : ActorName → ℕ → Marks → Marks
marks_noted a stamp m =
    if is_conversation a
    then record m { actors = if is_marked_among m.actors a then m.actors else m.actors ++ a ∷ []; last = max m.last stamp }
    else m

-- without those that come before a stamp, where no other is known
abbrev pub forgot : ℕ → Marks → Marks
forgot at m = if nat_lt m.last at then record m { actors = []; since = at } else m

-- The due moments of conversations, each at the place of its conversation.
--     place      the number of a conversation in the order of host, protocol and slot
--     put_at     with the due moment of one conversation put at its place
use Rattle.std.specs.Prelude.{◌≡◌, ℕ, suc, ◌+◌, ◌*◌, ◌==◌, Bool, false, List, [], ◌∷◌, ◌++◌, take, drop, Option, Some, option_to_list, nat_lt, if◌then◌else◌}
use Rattle.std.specs.Option.{option_map_or}
use Rattle.net_base.specs.declared.actor.ActorName.{ActorName}
use Rattle.net_base.specs.declared.actor.ActorName.TheVariants as name
use Rattle.net_base.specs.declared.address.Proto.{Proto}
use Rattle.net_base.specs.declared.address.Proto.TheVariants as proto
use Rattle.duties.specs.declared.due.Due.{Due}

-- the conversations that are due, in their order, and for how many more there is room
pub record Moments : Type 0 where
  pub list : List Due
  pub room : ℕ

-- IL comes before UDP
abbrev pub rank : Proto → ℕ
rank proto.Il = 0
rank proto.Udp = 1

-- the number of a conversation in the order of all
abbrev pub conversation_place : ℕ → Proto → ℕ → ℕ
conversation_place h p n = 64 * h + (32 * rank p + n)

abbrev pub due_place : Due → ℕ
due_place d = conversation_place d.host d.proto d.slot

-- what is due at one place is this, or nothing
abbrev pub put_at : ℕ → Option Due → List Due → List Due
put_at k o [] = option_to_list o
put_at k o (d ∷ ds) =
    if nat_lt (due_place d) k
    then d ∷ put_at k o ds
    else option_to_list o ++ (if due_place d == k then ds else d ∷ ds)

-- how many come before a place
abbrev pub before : ℕ → List Due → ℕ
before k [] = 0
before k (d ∷ ds) = if nat_lt (due_place d) k then suc (before k ds) else 0

abbrev pub is_due_at : ℕ → Option Due → Bool
is_due_at k o = option_map_or (λ (d : Due). due_place d == k) o false

-- with what is due at the place put into the new list, where it would stand
abbrev pub HoldsPut : ℕ → ℕ → List Due → List Due → Type 0
HoldsPut k from old new = (o : Option Due) → put_at k o old ≡ take from new ++ option_to_list o ++ drop from new

-- each due moment is that of the actor for which it is given
abbrev pub AreOwnPlaces : (ActorName → Option Due) → Type 0
AreOwnPlaces look = (a : ActorName) (d : Due) → look a ≡ Some d → a ≡ name.Conv d.host d.proto d.slot

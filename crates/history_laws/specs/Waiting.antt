-- What holds of the calls that wait at the slots of a directory.
use Rattle.std.specs.Prelude.{◌≡◌, ℕ, ◌<◌, true, List, [], ◌∷◌, ◌++◌, length, nat_lt}
use Rattle.std.specs.List.{AllByRecursion}
use Rattle.net_base.specs.declared.actor.Call.{Call}
use Rattle.net_base.specs.declared.reply.Reply.{Reply}
use Rattle.net_base.specs.declared.reply.Reply.TheVariants as reply
use Rattle.net_base.specs.Directory.{Slot}

-- it holds of the calls that wait at each slot
abbrev pub EachWaiting : (List Call → Type 0) → List Slot → Type 0
EachWaiting Q slots = AllByRecursion (λ (s : Slot). Q s.calls) slots

-- it holds of no calls, and still where the oldest goes, and where a call of one of so many slots joins fewer than ten
pub record IsOfWaiting (Q : List Call → Type 0) (count : ℕ) : Type 0 where
  pub none : Q []
  pub rest : (c : Call) (calls : List Call) → Q (c ∷ calls) → Q calls
  pub more : (c : Call) (calls : List Call) → c.slot < count → nat_lt (length calls) 10 ≡ true → Q calls → Q (calls ++ c ∷ [])

-- it holds of the calls that a reply tells
abbrev pub OfTold : (List Call → Type 0) → Reply → Type 0
OfTold Q (reply.Calls calls) = Q calls
OfTold Q _ = Unit {0}

-- What the lines of a live run say of its places, which are those of the first world.
use Rattle.std.specs.Prelude.{◌≡◌, ℕ, zero, suc, ◌+◌, ◌<◌, ◌≤◌, ◌++◌, List, [], ◌∷◌, length, Option, Some, None, slice_get}
use Rattle.std.specs.Option.{option_map_or}
use Rattle.net_base.specs.declared.history.Entry.{Entry}
use Rattle.net_base.specs.declared.reply.Reply.{Reply}
use Rattle.net_base.specs.declared.world.Script.{Script}
use Rattle.net_base.specs.declared.world.World.{World}
use Rattle.net_base.specs.Next.{next_recorded, own_replies}
use Rattle.live_answers.specs.declared.current.Current.{Current}
use Rattle.live_answers.specs.Lines.{Answer, Line, numbers_in, replies_in}
use Rattle.live_answers.specs.Speech.{IsWritten, Speech}
use Rattle.live_answers.specs.Steps.{replies_at}
use Rattle.live_run.specs.LiveWorlds.{IsPlace}

-- the replies to the events of the current step so far
abbrev pub replies_now : List Entry → Option Current → List Reply
replies_now h None = []
replies_now h (Some s) = replies_at h s.stamps.items

abbrev pub AreBelow : ℕ → List ℕ → Type 0
AreBelow n [] = Unit {0}
AreBelow n (k ∷ ks) = (k < n) × AreBelow n ks

-- its entries are in the history
abbrev pub AreWithin : ℕ → Option Current → Type 0
AreWithin n None = Unit {0}
AreWithin n (Some s) = AreBelow n s.stamps.items

-- the numbers below n, upwards
abbrev pub numbers_below : ℕ → List ℕ
numbers_below zero = []
numbers_below (suc n) = numbers_below n ++ n ∷ []

-- how many steps script c has
abbrev pub steps_in : World → ℕ → ℕ
steps_in w c = option_map_or (λ (s : Script). length s.steps) (slice_get w.scripts c) 0

-- the lines have the numbers of the steps before the current one, which is the last step of the script; of all steps if none is current
abbrev pub AreNumbered : World → List Line → ℕ → Option Current → Type 0
AreNumbered w lines c None = numbers_in lines c ≡ numbers_below (steps_in w c)
AreNumbered w lines c (Some s) = (numbers_in lines c ≡ numbers_below s.number) × (s.number + 1 ≡ steps_in w c)

-- The lines have the replies to all own events of script c, in their order, up to its current step.
pub record IsSeat (w : World) (h : List Entry) (lines : List Line) (c : ℕ) (o : Option Current) : Type 0 where
  pub known : c < length w.scripts
  pub replies : replies_in lines c ++ replies_now h o ≡ own_replies h c
  pub within : AreWithin (length h) o
  pub numbers : AreNumbered w lines c o
  -- if no step is current, all steps are finished
  pub free : o ≡ None → next_recorded w h c ≡ None

-- so of the current step in the list
pub record HasSeat (w : World) (h : List Entry) (lines : List Line) (currents : List (Option Current)) (c : ℕ) : Type 0 where
  pub current : Option Current
  pub is : slice_get currents c ≡ Some current
  pub seat : IsSeat w h lines c current

-- so of each place, and no other script has a current step
pub record AreSeats (first w : World) (h : List Entry) (lines : List Line) (currents : List (Option Current)) : Type 0 where
  pub each : (c : ℕ) → IsPlace first c → HasSeat w h lines currents c
  pub only : (c : ℕ) (s : Current) → slice_get currents c ≡ Some (Some s) → IsPlace first c

-- an answer is one of a place
abbrev pub IsOfPlace : World → Line → Type 0
IsOfPlace first (Answer a rs) = IsPlace first a.place
IsOfPlace first _ = Unit {0}

abbrev pub AreOfPlaces : World → List Line → Type 0
AreOfPlaces first [] = Unit {0}
AreOfPlaces first (l ∷ ls) = IsOfPlace first l × AreOfPlaces first ls

-- the lines were written, and say this of all places
pub record AreHeard (first : World) (before : Option (List ℕ)) (w : World) (h : List Entry) (currents : List (Option Current)) (s : Speech) : Type 0 where
  pub written : IsWritten before s
  pub lines : AreOfPlaces first s.lines
  pub seats : AreSeats first w h s.lines currents

-- the answers of script c are the replies to all its own events, in their order, with the numbers of its steps from 0
pub record IsTold (h : List Entry) (lines : List Line) (c : ℕ) : Type 0 where
  pub replies : replies_in lines c ≡ own_replies h c
  pub steps : ℕ
  pub numbers : numbers_in lines c ≡ numbers_below steps

-- the lines of a run that has ended
pub record AreTold (first : World) (before : Option (List ℕ)) (h : List Entry) (s : Speech) : Type 0 where
  -- a sink that held this before got them, up to a write that failed
  pub written : IsWritten before s
  pub lines : AreOfPlaces first s.lines
  pub each : (c : ℕ) → IsPlace first c → IsTold h s.lines c

-- The current steps of the scripts below n are reported.
pub record AreToldTo (n : ℕ) (first : World) (before : Option (List ℕ)) (w : World) (h : List Entry) (currents : List (Option Current))
    (s : Speech) : Type 0 where
  pub written : IsWritten before s
  pub lines : AreOfPlaces first s.lines
  pub told : (c : ℕ) → IsPlace first c → c < n → IsTold h s.lines c
  pub each : (c : ℕ) → IsPlace first c → n ≤ c → HasSeat w h s.lines currents c
  pub only : (c : ℕ) (t : Current) → slice_get currents c ≡ Some (Some t) → IsPlace first c

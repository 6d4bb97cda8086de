-- What calls do with what the lines say.
use Rattle.std.specs.Prelude.{◌≡◌, ℕ, ◌+◌, ◌++◌, Bool, true, false, List, [], ◌∷◌, Option, Some, None}
use Rattle.net_base.specs.declared.history.Entry.{Entry}
use Rattle.net_base.specs.declared.world.World.{World}
use Rattle.net_base.specs.World.{IsWorld}
use Rattle.plain_runner.specs.Tracks.{Tracks}
use Rattle.plain_runner.specs.declared.runner.Runner.{Runner}
use Rattle.live_answers.specs.declared.current.Current.{Current}
use Rattle.live_lines.specs.declared.cause.LiveCause.{LiveCause}
use Rattle.live_answers.specs.Lines.{BadInput}
use Rattle.live_answers.specs.Speech.{IsWritten, Says, Speech}
use Rattle.live_run.specs.Heard.{AreHeard, AreTold, AreToldTo}
use Rattle.live_run.specs.LiveWorlds.{ArePlaces}
use Rattle.live_run.specs.declared.live.Live.{Live}
use Rattle.live_run.specs.declared.playing.Pause.{Pause}
use Rattle.live_run.specs.declared.playing.Pause.TheVariants as pause
use Rattle.live_run.specs.declared.playing.Rest.{Rest}
use Rattle.live_run.specs.declared.round.Round.{Round}

-- The lines of a run.
abbrev pub AreHeardIn : World → Option (List ℕ) → World → Round → Speech → Type 0
AreHeardIn first before w r s = AreHeard first before w r.runner.history.entries r.places.currents.items s

abbrev pub AreHeardAt : World → Option (List ℕ) → World → Rest → Speech → Type 0
AreHeardAt first before w r s = AreHeard first before w r.run.history.entries r.places.currents.items s

-- an entry of a caller was recorded
pub record Enters (w : World) (r : Runner) (h : List Entry) (c : ℕ) (x : Entry) : Type 0 where
  pub tracks : Tracks w r
  pub history_is : r.history.entries ≡ h ++ x ∷ []
  pub caller_is : x.caller ≡ c

-- the entry was kept, and the step reported if it is complete
abbrev pub HearsEntry : Runner → ℕ → Entry → List Entry → List Entry → List (Option Current) → List (Option Current) → Speech → Speech → Type 0
HearsEntry r c x h k old new s t = (first : World) (before : Option (List ℕ)) (w : World) → Enters w r h c x → AreHeard first before w h old s
    → AreHeard first before w k new t

abbrev pub ReportsStep : Runner → List Entry → List (Option Current) → List (Option Current) → Speech → Speech → Type 0
ReportsStep r h old new s t = (first : World) (before : Option (List ℕ)) (w : World) → Tracks w r → h ≡ r.history.entries
    → AreHeard first before w h old s → AreHeard first before w h new t

-- a run continues, and what is said stays true
abbrev pub Hears : World → Round → Round → Speech → Speech → Type 0
Hears w old new s t = (first : World) (before : Option (List ℕ)) → AreHeardIn first before w old s → AreHeardIn first before w new t

-- the current steps are reported at the end of a run
abbrev pub ReportsRest : Round → Speech → Speech → Type 0
ReportsRest r s t = (first : World) (before : Option (List ℕ)) (w : World) → IsWorld w
    → AreHeard first before w r.history r.places.currents.items s → AreTold first before r.history t

abbrev pub ReportsOne : Round → ℕ → Speech → Speech → Type 0
ReportsOne r n s t = (first : World) (before : Option (List ℕ)) (w : World) → IsWorld w → AreToldTo n first before w r.history r.places.currents.items s
    → AreToldTo (n + 1) first before w r.history r.places.currents.items t

-- at a pause, or at the end
abbrev pub IsHeardBy : World → Option (List ℕ) → World → List Entry → List (Option Current) → Speech → Pause → Type 0
IsHeardBy first before w h currents s pause.Ends = AreTold first before h s
IsHeardBy first before w h currents s _ = AreHeard first before w h currents s

abbrev pub is_ends : Pause → Bool
is_ends pause.Ends = true
is_ends _ = false

abbrev pub Pauses : World → Round → Round → Speech → Speech → Pause → Type 0
Pauses w old new s t p = (first : World) (before : Option (List ℕ)) → AreHeardIn first before w old s
    → IsHeardBy first before w new.runner.history.entries new.places.currents.items t p

abbrev pub PausesIf : World → Round → Round → Speech → Speech → Option Pause → Type 0
PausesIf w old new s t None = Hears w old new s t
PausesIf w old new s t (Some p) = Pauses w old new s t p

-- so from one rest to the next
abbrev pub Comes : World → Rest → Rest → Speech → Speech → Pause → Type 0
Comes w old new s t p = (first : World) (before : Option (List ℕ)) → AreHeardAt first before w old s
    → IsHeardBy first before w new.run.history.entries new.places.currents.items t p

-- these places get or lose steps
abbrev pub Supplies : List Bool → World → Rest → Speech → World → Rest → Speech → Type 0
Supplies places w old s v new t = (first : World) (before : Option (List ℕ)) → ArePlaces first places → AreHeardAt first before w old s
    → AreHeardAt first before v new t

-- so with the places that can still grow and with all places
abbrev pub SuppliesBoth : List Bool → List Bool → World → Rest → Speech → World → Rest → Speech → Type 0
SuppliesBoth grows places w old s v new t = (first : World) (before : Option (List ℕ)) → ArePlaces first grows → ArePlaces first places
    → AreHeardAt first before w old s → AreHeardAt first before v new t

-- a voice that had said nothing has the lines of the whole run
abbrev pub Tells : World → Live → Speech → Speech → Type 0
Tells first l s t = (before : Option (List ℕ)) → s.lines ≡ [] → IsWritten before s → AreTold first before l.history t

-- nothing was said, or that a line is invalid
pub data SaysNoAnswer (old new : Speech) : Type 0 where
  Nothing : new ≡ old → SaysNoAnswer old new
  Bad : (number : ℕ) (c : LiveCause) → Says old new (BadInput number c) → SaysNoAnswer old new

-- What a search without losses finds, exactly: the outcomes of the first histories of the list, in order.
--     IsExact       the result of a search
--     IsPlain       a search without losses, parts and a sought outcome
--     HasFound      what is kept while a search goes through the list
--     Plays, Looks  what a run of a pass leaves
use Rattle.std.specs.Prelude.{◌≡◌, ℕ, ◌+◌, ◌-◌, ◌*◌, ◌≤◌, Bool, true, false, List, [], ◌∷◌, ◌++◌, length, map, take, Option, Some, None, nat_le}
use Rattle.net_base.specs.declared.history.Entry.{Entry}
use Rattle.net_base.specs.declared.world.World.{World}
use Rattle.net_base.specs.Net.{after}
use Rattle.net_base.specs.Summary.{end_word}
use Rattle.transcript.specs.RunStatus.{run_end_word}
use Rattle.turn_orders.specs.Orders.{Told, first_told, histories, refuses_with, too_many}
use Rattle.turn_orders.specs.Paths.{ahead, refused_ahead, refused_to_come, to_come}
use Rattle.turn_orders.specs.Preemptions.{cost, preemptions}
use Rattle.turn_orders.specs.Turns.{IsEnded, callers_of}
use Rattle.order_search.specs.declared.path.Path.{Path}
use Rattle.order_search.specs.declared.search.Found.{Found}
use Rattle.order_search.specs.declared.search.Sought.{Sought}
use Rattle.order_search.specs.declared.tellings.Telling.{Telling}
use Rattle.order_search.specs.declared.trail.Part.{Part}
use Rattle.order_search.specs.declared.trail.Trail.{Trail}
use Rattle.order_search.specs.Choices.{IsPath, KeepsToCome, callers_in, choices}
use Rattle.order_search.specs.Known.{text_told, texts_in}
use Rattle.order_search.specs.Marks.{results_text}

-- Reports.

-- the texts of an outcome, and its number of preemptions
pub record Report : Type 0 where
  pub preemptions : ℕ
  pub summary : List ℕ
  pub results : List ℕ
  pub end : List ℕ

-- that of an outcome as the search reports it
abbrev pub reported : Telling → Report
reported t = record { preemptions = t.preemptions; summary = t.summary; results = t.results; end = run_end_word t.end }

-- that of an outcome of the list
abbrev pub report_of : World → Told → Report
report_of w t = record {
  preemptions = t.preemptions;
  summary = t.outcome.summary;
  results = results_text t.outcome;
  end = end_word w (after w t.witness);
}

-- The result.

abbrev pub entries_in : List (List Entry) → ℕ
entries_in [] = 0
entries_in (h ∷ hs) = length h + entries_in hs

-- the outcomes of the first histories with at most p preemptions, up to a limit, as they first come; how many histories and
-- entries those are; and whether there is no other history
pub record IsExact (w : World) (p limit : ℕ) (f : Found) : Type 0 where
  pub told_are : map reported f.told.items ≡ map (report_of w) (first_told w (take limit (histories w p)))
  pub histories_are : f.histories ≡ length (take limit (histories w p))
  pub entries_are : f.entries ≡ entries_in (take limit (histories w p))
  pub whole_is : f.whole ≡ nat_le (length (histories w p)) limit

-- all histories are one part
abbrev pub IsWhole : Part → Type 0
IsWhole part = part.parts ≤ 1

pub record IsPlain (s : Sought) : Type 0 where
  pub no_losses : s.losses ≡ None
  pub no_end : s.until ≡ None
  pub whole : IsWhole s.part

-- The search.

-- what was found of the histories that were looked at
pub record HasFound (w : World) (limit : ℕ) (seen : List (List Entry)) (f : Found) : Type 0 where
  pub told_are : map reported f.told.items ≡ map (report_of w) (first_told w seen)
  pub known_are : texts_in f.known.keys ≡ map text_told (first_told w seen)
  pub histories_are : f.histories ≡ length seen
  pub entries_are : f.entries ≡ entries_in seen
  pub within : length seen ≤ limit
  pub few : entries_in seen ≤ length seen * too_many
  pub whole_is : f.whole ≡ true

-- the limit is reached
pub record IsFull (w : World) (limit : ℕ) (seen : List (List Entry)) (f : Found) : Type 0 where
  pub told_are : map reported f.told.items ≡ map (report_of w) (first_told w seen)
  pub histories_are : f.histories ≡ length seen
  pub entries_are : f.entries ≡ entries_in seen
  pub at_limit : length seen ≡ limit
  pub whole_is : f.whole ≡ false

-- it is reached, and another history is to come
pub record IsCut (w : World) (limit : ℕ) (seen all : List (List Entry)) (f : Found) : Type 0 where
  pub full : IsFull w limit seen f
  pub next : List Entry
  pub others : List (List Entry)
  pub all_are : all ≡ seen ++ next ∷ others

-- this history was looked at, if the limit is not reached
abbrev pub Takes : World → ℕ → List (List Entry) → List Entry → Found → Bool → Type 0
Takes w limit seen h f true = HasFound w limit (seen ++ h ∷ []) f
Takes w limit seen h f false = IsFull w limit seen f

-- A run.

-- a run has come to a place of the path
pub record IsAtPlace (w : World) (p : ℕ) (path : Path) (place : ℕ) (h : List Entry) : Type 0 where
  pub front : callers_in (take place path.forks.items) ≡ callers_of h
  pub place_is : place ≡ length h
  pub within : preemptions w h ≤ p

-- the path continues with this caller
pub record Chooses (w : World) (p : ℕ) (before : Bool) (old : Path) (refused : Bool) (new : Path) (place : ℕ) (h : List Entry) (c : ℕ) : Type 0 where
  pub path : IsPath w p refused new
  pub front : callers_in (take (place + 1) new.forks.items) ≡ callers_of h ++ c ∷ []
  pub paid : cost w h c ≤ p - preemptions w h
  pub keeps : KeepsToCome w p before old refused new

-- the run is at the end of the path
pub record EndsPath (w : World) (p : ℕ) (before : Bool) (old : Path) (refused : Bool) (new : Path) (h : List Entry) : Type 0 where
  pub path : IsPath w p refused new
  pub keeps : KeepsToCome w p before old refused new
  pub callers_are : callers_in new.forks.items ≡ callers_of h
  pub no_pending : new.pending ≡ None
  pub within : preemptions w h ≤ p

abbrev pub ChosenBy : World → ℕ → Bool → Path → Bool → Path → ℕ → List Entry → Option ℕ → Type 0
ChosenBy w p before old refused new place h None = EndsPath w p before old refused new h
ChosenBy w p before old refused new place h (Some c) = Chooses w p before old refused new place h c

-- A history was looked at.

-- the search continues after the histories of the path
pub record LooksOn (w : World) (p limit : ℕ) (seen : List (List Entry)) (old new : Trail) (f : Found) : Type 0 where
  pub seen_now : List (List Entry)
  pub found : HasFound w limit seen_now f
  pub path : IsPath w p new.refused new.path
  pub no_pending : new.path.pending ≡ None
  pub short : length new.path.forks.items ≤ too_many - 1
  pub rest : seen_now ++ ahead w p (callers_in new.path.forks.items) ≡ seen ++ to_come w p (choices old.path)
  pub no_refusal : new.refused ≡ false → old.refused ≡ false
  pub refusals : new.refused ≡ false → refused_ahead w p (callers_in new.path.forks.items) ≡ refused_to_come w p (choices old.path)

abbrev pub Looks : World → ℕ → ℕ → List (List Entry) → Trail → Trail → Found → Bool → Type 0
Looks w p limit seen old new f true = LooksOn w p limit seen old new f
Looks w p limit seen old new f false = IsCut w limit seen (seen ++ to_come w p (choices old.path)) f

-- a pass with exactly p preemptions has come so far
pub record IsSearching (w : World) (p limit : ℕ) (seen : List (List Entry)) (trail : Trail) (f : Found) : Type 0 where
  pub found : HasFound w limit seen f
  pub path : IsPath w p trail.refused trail.path
  pub rest : seen ++ to_come w p (choices trail.path) ≡ histories w p
  pub refusals : trail.refused ≡ false → refused_to_come w p (choices trail.path) ≡ refuses_with w p

-- A script's entries are those of its steps, in order, for any table of plays: what the law of scripts says of the table that there is.
use Rattle.std.specs.Prelude.{ℕ, zero, suc, ◌≡◌, List, [], ◌∷◌, ◌++◌}
use Rattle.net_base.specs.declared.history.Entry.{Entry}
use Rattle.net_base.specs.Legal.{asked_by}
use Rattle.net_base.specs.Steps.{Names, Play, Asks, Ends}
use Rattle.prefix_law.specs.Spans.{Scripted, span_replies}

-- the play records exactly these entries, each by the replies before it, and ends with these names bound
abbrev pub IsPlayRecorded : Play → List Entry → Names → Type 0
IsPlayRecorded (Ends names) [] bound = names ≡ bound
IsPlayRecorded (Ends names) (x ∷ xs) bound = ⊥
IsPlayRecorded (Asks a e next) [] bound = ⊥
IsPlayRecorded (Asks a e next) (x ∷ xs) bound = (asked_by x ≡ record { actor = a; event = e }) × IsPlayRecorded (next x.reply) xs bound

-- these are the first entries of the play, which records another after them
abbrev pub Begins : Play → List Entry → Type 0
Begins (Ends names) xs = ⊥
Begins (Asks a e next) [] = Unit {0}
Begins (Asks a e next) (x ∷ xs) = (asked_by x ≡ record { actor = a; event = e }) × Begins (next x.reply) xs

-- a step is finished: its play's entries stand first, and those of later steps after them
pub record Finishes (play : Play) (Later : Names → List Entry → List Entry → Type 0) (entries : List Entry) : Type 0 where
  pub own : List Entry
  pub rest : List Entry
  pub bound : Names
  pub all : entries ≡ own ++ rest
  pub played : IsPlayRecorded play own bound
  pub later : Later bound own rest

-- the entries of these steps, where this is kept: so many steps are finished, the next one, if any, isn't over, and those after it have
-- no entry
abbrev pub StandInOrder : {N T : Type 0} → Scripted N T → N → List T → ℕ → List Entry → Type 0
StandInOrder script k [] n xs = (n ≡ 0) × (xs ≡ [])
StandInOrder script k (s ∷ ss) zero xs = Begins (script.play k s) xs
StandInOrder script k (s ∷ ss) (suc n) xs =
    Finishes (script.play k s) (λ bound own rest. StandInOrder script (script.after k s bound (span_replies own)) ss n rest) xs

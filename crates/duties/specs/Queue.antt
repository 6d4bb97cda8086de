-- What a caller owes.
use Rattle.std.specs.Prelude.{◌≡◌, ℕ, ◌++◌, List}
use Rattle.net_base.specs.declared.history.Work.{Work}
use Rattle.net_base.specs.Duties.{Duty}

-- the duties, the first to record first, and for how many more there is room
pub record Queue : Type 0 where
  pub list : List Duty
  pub room : ℕ

-- the event of a duty, with what is given to it
abbrev pub work_of_duty : Duty → Work
work_of_duty d = record { event = d.event; with = d.with }

-- these duties are owed after those that were owed before
abbrev pub AddsDuty : Queue → Queue → List Duty → Type 0
AddsDuty old new added = new.list ≡ old.list ++ added

-- What was expected in the place of an entry that breaks a rule, or of a summary.
use Rattle.std.specs.Prelude.{◌≡◌, ℕ, ◌<◌, List, [], ◌∷◌, ◌++◌, drop, length, take, true, Option, Some, None, Ok, ⊤}
use Rattle.net_base.specs.declared.history.Entry.{Entry}
use Rattle.net_base.specs.declared.world.World.{World}
use Rattle.net_base.specs.Callers.{caller_count}
use Rattle.net_base.specs.Legal.{IsFault, IsLegal, IsTimed, Rule}
use Rattle.net_base.specs.Net.{after}
use Rattle.net_base.specs.Summary.{summary}
use Rattle.net_base.specs.Transcript.{history_text}
use Rattle.history_reader.specs.Spelling.{SpellsHistory}
use Rattle.netcheck.specs.Input.{parts_of}
use Rattle.turn_orders.specs.Turns.{IsEnded, goes}
use Rattle.world_text.specs.WorldText.{world_reading}
use Rattle.expected_entry.specs.declared.input.Expected.{Expected}
use Rattle.expected_entry.specs.declared.input.Expected.TheVariants as expected

-- this entry can come next after these, and in time; it is one of this caller, if that can continue
pub record ComesNext (w : World) (past : List Entry) (wanted : ℕ) (x : Entry) : Type 0 where
  pub legal : IsLegal w (past ++ x ∷ [])
  pub timed : IsTimed w (past ++ x ∷ [])
  pub own : wanted < caller_count w → goes w (after w past) wanted ≡ true → x.caller ≡ wanted

-- such an entry, or none at the end of a run
abbrev pub IsExpected : World → List Entry → ℕ → Option Entry → Type 0
IsExpected w past wanted None = IsEnded w past
IsExpected w past wanted (Some x) = ComesNext w past wanted x

-- the entry with this stamp is the first that breaks a rule
abbrev pub HasFault : World → List Entry → ℕ → Type 0
HasFault w h stamp = (rule : Rule) × IsFault w h stamp rule

-- the line that an entry adds to the text of a history
abbrev pub line_after : List Entry → Entry → List ℕ
line_after past x = drop (length (history_text past)) (history_text (past ++ x ∷ []))

-- the line of such an entry, in the place of the one with this stamp, which is the first that breaks a rule
pub record IsExpectedLine (w : World) (h : List Entry) (text : List ℕ) : Type 0 where
  pub stamp : ℕ
  pub rule : Rule
  pub found : Entry
  pub stands : IsFault w h stamp rule
  pub is : ComesNext w (take stamp h) stands.entry.caller found
  pub text_is : text ≡ line_after (take stamp h) found

-- so in a history of a world; or its summary, if no entry of it breaks a rule
abbrev pub IsExpectedOf : World → List Entry → Option Expected → Type 0
IsExpectedOf w h None = (stamp : ℕ) × (rule : Rule) × IsFault w h stamp rule × IsEnded w (take stamp h)
IsExpectedOf w h (Some (expected.Entry text)) = IsExpectedLine w h text
IsExpectedOf w h (Some (expected.Summary text)) = IsLegal w h × IsTimed w h × (text ≡ summary w h)

-- the parts of an input, and what they mean
pub record Given (input : List ℕ) (w : World) (h : List Entry) : Type 0 where
  pub world : List ℕ
  pub lines : ℕ
  pub history : List ℕ
  pub told : Option (List ℕ)
  pub parts : parts_of input ≡ Some (record { world = world; lines = lines; history = history })
  pub reads : world_reading world ≡ Ok w
  pub spells : SpellsHistory history h told

-- so of the history that an input hands in
abbrev pub IsExpectedIn : List ℕ → Option Expected → Type 0
IsExpectedIn input None = ⊤
IsExpectedIn input (Some e) = (w : World) × (h : List Entry) × Given input w h × IsExpectedOf w h (Some e)

-- What the text of a history tells of it.
use Rattle.std.specs.Prelude.{◌≡◌, ℕ, List, [], ◌∷◌, ◌++◌, map}
use Rattle.net_base.specs.declared.history.Entry.{Entry}
use Rattle.net_base.specs.declared.world.World.{World}
use Rattle.net_base.specs.Plain.{IsClean, IsPlain}
use Rattle.net_base.specs.Summary.{summary}
use Rattle.net_base.specs.Transcript.{entry_words, history_text}

abbrev pub AreClean : List (List ℕ) → Type 0
AreClean [] = Unit {0}
AreClean (word ∷ words) = IsClean word × AreClean words

-- no word of the entries has a blank or a newline
abbrev pub HasCleanWords : List Entry → Type 0
HasCleanWords [] = Unit {0}
HasCleanWords (x ∷ xs) = AreClean (entry_words x) × HasCleanWords xs

-- two histories with the same text have the same words, entry by entry
abbrev pub TextsTellWords : Type 0
TextsTellWords = (h k : List Entry) → HasCleanWords h → HasCleanWords k → history_text h ≡ history_text k → map entry_words h ≡ map entry_words k

-- two plain histories with the same text are equal
abbrev pub TextsTell : Type 0
TextsTell = (h k : List Entry) → IsPlain h → IsPlain k → history_text h ≡ history_text k → h ≡ k

-- what is printed of two plain histories, each with a summary behind its text, is the same only where the histories are equal
abbrev pub PrintedTell : Type 0
PrintedTell = (v w : World) (h k : List Entry) → IsPlain h → IsPlain k → history_text h ++ summary v h ≡ history_text k ++ summary w k → h ≡ k

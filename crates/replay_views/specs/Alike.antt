-- What the line of a step and its row have in common.
use Rattle.std.specs.Prelude.{◌≡◌, ℕ, ⊤, List, ◌++◌, Option, Some, codes, slice_get}
use Rattle.net_base.specs.declared.history.Entry.{Entry}
use Rattle.net_base.specs.Numeral.{numeral}
use Rattle.replay_views.specs.declared.recorded.Latest.{Latest}
use Rattle.replay_views.specs.Steps.{reply_text, state_words}

-- a moment and the reply of an entry follow the word of a step that ended
abbrev pub SaysReply : List Entry → Option ℕ → Option ℕ → List ℕ → Type 0
SaysReply h (Some moment) (Some stamp) behind = behind ≡ codes " at " ++ numeral moment ++ codes ", " ++ reply_text (slice_get h stamp)
SaysReply h _ _ behind = ⊤

-- a row and a line begin with one word, and have the same moment and reply
pub record AreAlike (h : List Entry) (row line : List ℕ) : Type 0 where
  pub word : List ℕ
  pub moment : Option ℕ
  pub latest : Option Latest
  pub reply : Option ℕ
  pub behind : List ℕ
  pub row_is : row ≡ state_words word moment latest reply
  pub line_is : line ≡ word ++ behind
  pub says : SaysReply h moment reply behind

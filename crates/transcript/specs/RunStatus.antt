-- What a summary tells of the net behind a history.
use Rattle.std.specs.Prelude.{◌≡◌, ℕ, List, [], ◌∷◌, ◌++◌, Option, Some, None, codes}
use Rattle.net_base.specs.declared.history.Entry.{Entry}
use Rattle.net_base.specs.declared.world.World.{World}
use Rattle.net_base.specs.Legal.{IsLegal}
use Rattle.net_base.specs.Net.{after, moment_after}
use Rattle.net_base.specs.Summary.{steps_line, totals_lines, totals, end_line, end_word, answered_steps, all_steps}
use Rattle.net_base.specs.declared.end.RunEnd.{RunEnd}
use Rattle.net_base.specs.declared.end.RunEnd.TheVariants as ends
use Rattle.transcript.specs.declared.summary.RunStatus.{RunStatus}

-- the word that an end prints as, or that of a run which hasn't ended
abbrev pub run_end_word : Option RunEnd → List ℕ
run_end_word (Some ends.Done) = codes "done"
run_end_word (Some ends.Stopped) = codes "stopped"
run_end_word (Some ends.Limit) = codes "limit"
run_end_word None = codes "unfinished"

-- the moment of the last move among these entries, or the one before
abbrev pub latest_move : ℕ → List Entry → ℕ
latest_move now [] = now
latest_move now (x ∷ xs) = latest_move (moment_after now x.event) xs

-- the four lines, where a run stands so
abbrev pub status_lines : World → List Entry → RunStatus → List ℕ
status_lines w h s = steps_line s.answered (all_steps w) ++ totals_lines (totals h) ++ end_line (run_end_word s.end) (latest_move 0 h)

-- the history is legal for the world, and the net behind it stands so
pub record IsRunStatusOf (w : World) (h : List Entry) (s : RunStatus) : Type 0 where
  pub legal : IsLegal w h
  pub answered : s.answered ≡ answered_steps w h
  pub end : run_end_word s.end ≡ end_word w (after w h)

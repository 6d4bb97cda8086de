-- The lines of a summary, by what the net behind a history tells.
use Rattle.std.proofs.Common.{◌≡◌, ℕ, List, ◌++◌, refl}
use Rattle.net_base.specs.declared.history.Entry.{Entry}
use Rattle.net_base.specs.declared.world.World.{World}
use Rattle.net_base.specs.Net.{after}
use Rattle.net_base.specs.Summary.{totals, totals_lines, steps_line, end_line, end_word, answered_steps, all_steps, summary}
use Rattle.transcript.specs.declared.summary.RunStatus.{RunStatus}
use Rattle.transcript.specs.RunStatus.{IsRunStatusOf, status_lines, run_end_word, latest_move}
use Rattle.transcript.proofs.Latest.{moment_of_legal}

-- the lines, of numbers and a word that are those of the net
summed : (w : World) (h : List Entry) (word : List ℕ) (answered moment : ℕ)
    → answered ≡ answered_steps w h
    → word ≡ end_word w (after w h)
    → moment ≡ (after w h).moment
    → steps_line answered (all_steps w) ++ totals_lines (totals h) ++ end_line word moment ≡ summary w h
summed w h word answered moment each how when = rw (each, how, when) refl

pub status_tells : (w : World) (h : List Entry) (s : RunStatus) → IsRunStatusOf w h s → status_lines w h s ≡ summary w h
status_tells w h s stands = summed w h (run_end_word s.end) s.answered (latest_move 0 h) stands.answered stands.end (moment_of_legal w h stands.legal)

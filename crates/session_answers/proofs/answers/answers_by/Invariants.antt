use Rattle.std.proofs.Common.{◌≡◌, length}
use Rattle.session_answers.specs.Served.{answered_of, session_state}
use Rattle.session_answers.proofs.Answering.{Answering}
use Rattle.session_script.specs.Seen.{seen_table}
use Rattle.net_base.specs.SessionTable.{IsSound}
use Rattle.session_answers.proofs.answers.answers_by.Given as goal

-- the answers so far stand before those to what is left
abbrev pub invariant-loop-replies : goal.invariant-loop-replies
invariant-loop-replies g l = record {
  so_far : Answering l.host l.bytes (answered_of l.owes (g.E.Entries.list l.entries) l.caller) l.answers (session_state l.session) l.rest l.replies;
  sound : IsSound (seen_table l.session.table);
  host : l.session.host ≡ l.host;
}

abbrev pub decreases-loop-replies : goal.decreases-loop-replies
decreases-loop-replies g l = length l.rest

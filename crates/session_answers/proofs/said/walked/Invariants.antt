use Rattle.std.proofs.Common.{◌≡◌, drop, map}
use Rattle.net_base.specs.SessionFiles.{qid_of, walked}
use Rattle.session_answers.proofs.Walks.{passed}
use Rattle.session_answers.proofs.said.walked.Given as goal

-- the qids so far, and those of the names that are left
abbrev pub invariant-loop-name : goal.invariant-loop-name
invariant-loop-name l = passed l.qids l.at (drop l.name-index l.names) ≡ map qid_of (walked l.fn.node l.names)

use Rattle.std.proofs.Common.{◌≡◌, drop}
use Rattle.net_base.specs.Next.{own_replies}
use Rattle.session_answers.proofs.replies.next_own.Given as goal

-- none of the entries from the first stamp up to this one is the caller's own
abbrev pub invariant-loop-stamp : goal.invariant-loop-stamp
invariant-loop-stamp g l = own_replies (drop l.stamp (g.E.Entries.list l.entries)) l.caller ≡ own_replies (drop l.first (g.E.Entries.list l.entries)) l.caller

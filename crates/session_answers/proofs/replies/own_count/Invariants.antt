use Rattle.std.proofs.Common.{◌≡◌, ◌≤◌, ◌+◌, drop, length}
use Rattle.net_base.specs.Next.{own_replies}
use Rattle.session_answers.proofs.replies.own_count.Given as goal

-- so many were counted before the entries that are left
abbrev pub invariant-loop-stamp : goal.invariant-loop-stamp
invariant-loop-stamp g l =
    (l.count ≤ l.stamp)
    × (l.count + length (own_replies (drop l.stamp (g.E.Entries.list l.entries)) l.caller) ≡ length (own_replies (g.E.Entries.list l.entries) l.caller))

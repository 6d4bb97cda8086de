use Rattle.std.proofs.Common.{◌≡◌, drop}
use Rattle.net_chart.specs.Talks.{talks_from, talks_of}
use Rattle.net_chart.proofs.talk.talks_of.Given as goal

-- the entries that are left make the same conversations
abbrev pub invariant-loop-entry : goal.invariant-loop-entry
invariant-loop-entry l = talks_from l.entries l.talks (drop l.entry-index l.entries) ≡ talks_of l.entries

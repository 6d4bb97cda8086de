use Rattle.std.proofs.Common.{sym}
use Rattle.history_words.proofs.event.put_event.Goals as goal

pub returns-in-Use : goal.returns-in-Use
returns-in-Use c = rw (c.in-Use.is, sym c.as_slice-in-Use.ensures) c.put_with_text-in-Use.ensures

pub returns-in-Until : goal.returns-in-Until
returns-in-Until c = rw c.in-Until.is c.put_moment.ensures

pub returns-in-Release : goal.returns-in-Release
returns-in-Release c = rw c.in-Release.is c.put_with_slot-in-Release.ensures

pub returns-in-Born : goal.returns-in-Born
returns-in-Born c = rw c.in-Born.is c.put_with_generation-in-Born.ensures

pub returns-in-Connect : goal.returns-in-Connect
returns-in-Connect c = rw c.in-Connect.is c.put_with_generation-in-Connect.ensures

pub returns-in-Hangup : goal.returns-in-Hangup
returns-in-Hangup c = rw c.in-Hangup.is c.put_with_generation-in-Hangup.ensures

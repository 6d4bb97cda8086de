use Rattle.history_words.proofs.reply.put_reply.Goals as goal

pub returns-in-Call : goal.returns-in-Call
returns-in-Call c = rw c.in-Call.is c.put_with_slot.ensures

pub returns-in-Opened : goal.returns-in-Opened
returns-in-Opened c = rw c.in-Opened.is c.put_with_generation.ensures

pub returns-in-Laid : goal.returns-in-Laid
returns-in-Laid c = rw c.in-Laid.is c.put_named-in-Laid.ensures

pub returns-in-Copy : goal.returns-in-Copy
returns-in-Copy c = rw c.in-Copy.is c.put_named-in-Copy.ensures

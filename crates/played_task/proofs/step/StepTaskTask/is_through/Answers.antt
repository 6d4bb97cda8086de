use Rattle.played_task.proofs.step.StepTaskTask.is_through.Goals as goal

pub returns-in-OneRequest : goal.returns-in-OneRequest
returns-in-OneRequest c = λ names. rw (c.in-OneRequest.is) (c.is_through.ensures names)

pub returns-in-WriteText : goal.returns-in-WriteText
returns-in-WriteText c = λ names. rw (c.in-WriteText.is) (c.is_through-in-WriteText.ensures names)

pub returns-in-Reject : goal.returns-in-Reject
returns-in-Reject c = λ names. rw (c.in-Reject.is) (c.is_through-in-Reject.ensures names)

pub returns-in-Export : goal.returns-in-Export
returns-in-Export c = λ names. rw (c.in-Export.is) (c.is_through-in-Export.ensures names)

pub returns-in-Import : goal.returns-in-Import
returns-in-Import c = λ names. rw (c.in-Import.is) (c.is_through-in-Import.ensures names)

use Rattle.std.proofs.Common.{map, refl, string_bytes, sym}
use Rattle.net_model.proofs.Shared.{ends_told}
use Rattle.netsh.specs.Built.{asking}
use Rattle.netsh.proofs.RunWords.{export_within, workers_within}
use Rattle.netsh.proofs.Statuses.{causes_of}
use Rattle.netsh.proofs.top.netsh.Goals as goal

pub read_and_run-requires-clause-some : goal.read_and_run-requires-clause-some
read_and_run-requires-clause-some g c κs within = (workers_within (map string_bytes c.args.words.now) c.in-Run.workers (c.in-Run.ensures.run c.in-Run.workers refl).0).0

pub read_and_run-requires-clause-few : goal.read_and_run-requires-clause-few
read_and_run-requires-clause-few g c κs within = (workers_within (map string_bytes c.args.words.now) c.in-Run.workers (c.in-Run.ensures.run c.in-Run.workers refl).0).1

pub returns-in-Answered-clause-ends : goal.returns-in-Answered-clause-ends
returns-in-Answered-clause-ends g c = (c.in-Answered.ensures.answered c.in-Answered.status refl).0

pub returns-in-Answered-clause-causes : goal.returns-in-Answered-clause-causes
returns-in-Answered-clause-causes g c = causes_of _ _ _ _ (returns-in-Answered-clause-ends g c)

pub returns-in-Run-clause-ends : goal.returns-in-Run-clause-ends
returns-in-Run-clause-ends g c =
    let run = c.in-Run.ensures.run c.in-Run.workers refl in
    rw (run.0) (rw (sym run.1, sym run.2) (ends_told _ asking _ _ _ _ _ c.read_and_run.ensures.answered c.tell_answer.ensures))

pub returns-in-Run-clause-causes : goal.returns-in-Run-clause-causes
returns-in-Run-clause-causes g c = causes_of _ _ _ _ (returns-in-Run-clause-ends g c)

pub returns-in-Big-clause-ends : goal.returns-in-Big-clause-ends
returns-in-Big-clause-ends g c =
    let big = c.in-Big.ensures.big c.in-Big.messages refl in
    rw (big.0) (rw (sym big.1, sym big.2) (ends_told _ asking _ _ _ _ _ (c.run_made.ensures _ (refl, refl)) c.tell_answer-in-Big.ensures))

pub returns-in-Big-clause-causes : goal.returns-in-Big-clause-causes
returns-in-Big-clause-causes g c = causes_of _ _ _ _ (returns-in-Big-clause-ends g c)

pub read_and_export-requires-clause-some : goal.read_and_export-requires-clause-some
read_and_export-requires-clause-some g c κs within = (export_within (map string_bytes c.args.words.now) c.in-Export.workers (c.in-Export.ensures.export c.in-Export.workers refl).0).0

pub read_and_export-requires-clause-few : goal.read_and_export-requires-clause-few
read_and_export-requires-clause-few g c κs within = (export_within (map string_bytes c.args.words.now) c.in-Export.workers (c.in-Export.ensures.export c.in-Export.workers refl).0).1

pub returns-in-Export-clause-ends : goal.returns-in-Export-clause-ends
returns-in-Export-clause-ends g c =
    let run = c.in-Export.ensures.export c.in-Export.workers refl in
    rw (run.0) (rw (sym run.1, sym run.2) (ends_told _ asking _ _ _ _ _ c.read_and_export.ensures.answered c.tell_answer-in-Export.ensures))

pub returns-in-Export-clause-causes : goal.returns-in-Export-clause-causes
returns-in-Export-clause-causes g c = causes_of _ _ _ _ (returns-in-Export-clause-ends g c)

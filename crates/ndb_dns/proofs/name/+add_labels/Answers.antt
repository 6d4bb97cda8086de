use Rattle.std.proofs.lemmas.Result.{IfErr-weaker, IfOk-weaker, err_from_is_err_and}
use Rattle.ndb_dns.proofs.Asking.{refused_so}
use Rattle.ndb_dns.proofs.Reading.{adds_more, too_long, too_long_behind}
use Rattle.ndb_dns.proofs.name.+add_labels.Goals as goal

pub returns-in_err-add_label-clause-refused : goal.returns-in_err-add_label-clause-refused
returns-in_err-add_label-clause-refused t c =
    let p = err_from_is_err_and c.from_residual.result c.from_residual.ensures.1 in
    rw (p.1, p.2) (refused_so _ _ _ (too_long c.args.bytes.now c.in-Some.label.now c.args.text.now c.in-Some.ensures.0) c.in_err-add_label.ensures.refused)

pub returns-clause-found : goal.returns-clause-found
returns-clause-found t c =
    IfOk-weaker c.add_labels.result _ _
    (λ rest adds. adds_more c.args.bytes.now c.in-Some.label.now c.in-Some.behind.now c.args.text.now _ rest.now _ c.in-Some.ensures.0 c.in-Some.ensures.1 c.in_ok-add_label.ensures.told adds)
    c.add_labels.ensures.found

pub returns-clause-refused : goal.returns-clause-refused
returns-clause-refused t c =
    IfErr-weaker c.add_labels.result _ _
    (λ e refused. refused_so e _ _ (too_long_behind c.args.bytes.now c.in-Some.label.now c.in-Some.behind.now c.args.text.now _ c.in-Some.ensures.0 c.in-Some.ensures.1 c.in_ok-add_label.ensures.told) refused)
    c.add_labels.ensures.refused

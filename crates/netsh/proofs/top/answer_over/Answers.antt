use Rattle.std.proofs.Common.{None, Some}
use Rattle.std.proofs.lemmas.Result.{IfOk-weaker}
use Rattle.netsh.proofs.Endings.{by_question}
use Rattle.netsh.proofs.top.answer_over.Goals as goal

pub returns-in-Cs : goal.returns-in-Cs
returns-in-Cs c =
    IfOk-weaker _ _ _
    (λ answer is. by_question c.args.question _ c.in-Cs.is c.args.input.now answer
    (λ fits. c.values_are_answers.ensures.cs c.in-Cs.sys.now c.in-Cs.query.now c.args.input.now answer fits is) c.requires)
    c.cs.ensures

pub returns-in-Tuples : goal.returns-in-Tuples
returns-in-Tuples c =
    IfOk-weaker _ _ _
    (λ answer is. by_question c.args.question _ c.in-Tuples.is c.args.input.now answer
    (λ fits. c.values_are_answers.ensures.query c.in-Tuples.attr.now c.in-Tuples.value.now None c.args.input.now answer fits is) c.requires)
    c.query_tuples.ensures

pub returns-in-Beside : goal.returns-in-Beside
returns-in-Beside c =
    IfOk-weaker _ _ _
    (λ answer is. by_question c.args.question _ c.in-Beside.is c.args.input.now answer
    (λ fits. c.values_are_answers.ensures.query c.in-Beside.attr.now c.in-Beside.value.now (Some c.in-Beside.other.now) c.args.input.now answer fits is)
    c.requires)
    c.query_beside.ensures

pub returns-in-Dns : goal.returns-in-Dns
returns-in-Dns c =
    IfOk-weaker _ _ _
    (λ answer is. by_question c.args.question _ c.in-Dns.is c.args.input.now answer
    (λ fits. c.values_are_answers.ensures.dns c.in-Dns.word.now c.args.input.now answer fits is) c.requires)
    c.dns.ensures

pub returns-in-Make : goal.returns-in-Make
returns-in-Make c =
    IfOk-weaker _ _ _
    (λ answer is. by_question c.args.question _ c.in-Make.is c.args.input.now answer
    (λ fits. c.values_are_answers.ensures.made c.in-Make.messages c.args.input.now answer is) c.requires)
    c.make.ensures

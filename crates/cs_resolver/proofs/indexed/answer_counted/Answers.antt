use Rattle.std.proofs.Common.{refl, sym, ap, ◌∙◌, arith, length}
use Rattle.std.proofs.lemmas.Bool.Decides.{nat_tests}
use Rattle.cs_resolver.specs.Targets.{is_net_named, target_texts}
use Rattle.cs_resolver.proofs.Answering.{no_net, no_value, no_host, no_service, with_lines, some_texts, no_texts}
use Rattle.cs_resolver.proofs.Kept.{none_kept, some_kept}
use Rattle.cs_resolver.proofs.indexed.answer_counted.Goals as goal

pub returns-then-not-names_some-clause-err : goal.returns-then-not-names_some-clause-err
returns-then-not-names_some-clause-err g c =
    no_net c.args.index.now c.args.me.now c.args.nets.now c.args.query.now _ c.in-Some.ensures _ refl
    (none_kept (is_net_named c.in-Some.query.net.now) c.args.nets.now (sym c.names_some.ensures ∙ c.if-not-names_some.true))

pub returns-in_default-2-clause-err : goal.returns-in_default-2-clause-err
returns-in_default-2-clause-err g c =
    no_value c.args.index.now c.args.me.now c.args.nets.now c.args.query.now _ c.in-Some.ensures _ _ refl
    (some_kept (is_net_named c.in-Some.query.net.now) c.args.nets.now (sym c.names_some.ensures ∙ c.if-not-names_some.false))
    refl (ap length (rw c.in_default-2.is at c.in_ok-targets.ensures.targets))

pub returns-then-is_empty-clause-err : goal.returns-then-is_empty-clause-err
returns-then-is_empty-clause-err g c =
    let some = rw c.in-Some-2.is at c.in_ok-targets.ensures.targets in
    no_host c.args.index.now c.args.me.now c.args.nets.now c.args.query.now _ c.in-Some.ensures _ _ (target_texts c.in-Some-2.targets.items) refl
    (some_kept (is_net_named c.in-Some.query.net.now) c.args.nets.now (sym c.names_some.ensures ∙ c.if-not-names_some.false))
    refl some.0 some.1 (no_texts c.in-Some-2.targets.items (grind (arith, nat_tests, c.in-Some-2.targets.ok.0)))

pub returns-then-len-eq0-clause-err : goal.returns-then-len-eq0-clause-err
returns-then-len-eq0-clause-err g c =
    let some = rw c.in-Some-2.is at c.in_ok-targets.ensures.targets in
    no_service c.args.index.now c.args.me.now c.args.nets.now c.args.query.now _ c.in-Some.ensures _ _ (target_texts c.deref.result.now) c.in_ok-lines.lines refl
    (some_kept (is_net_named c.in-Some.query.net.now) c.args.nets.now (sym c.names_some.ensures ∙ c.if-not-names_some.false))
    refl some.0 (ap target_texts c.deref.ensures.value ∙ some.1)
    (some_texts c.deref.result.now (grind (arith, nat_tests, ap length c.deref.ensures.value, c.in-Some-2.targets.ok.0)))
    c.in_ok-lines.ensures.lines (omega (arith, c.len.ensures, c.if-len-eq0.true))

pub returns-clause-ok : goal.returns-clause-ok
returns-clause-ok g c =
    let some = rw c.in-Some-2.is at c.in_ok-targets.ensures.targets in
    with_lines c.args.index.now c.args.me.now c.args.nets.now c.args.query.now _ c.in-Some.ensures _ _ (target_texts c.deref.result.now) c.in_ok-lines.lines refl
    (some_kept (is_net_named c.in-Some.query.net.now) c.args.nets.now (sym c.names_some.ensures ∙ c.if-not-names_some.false))
    refl some.0 (ap target_texts c.deref.ensures.value ∙ some.1)
    (some_texts c.deref.result.now (grind (arith, nat_tests, ap length c.deref.ensures.value, c.in-Some-2.targets.ok.0)))
    c.in_ok-lines.ensures.lines (grind (arith, nat_tests))

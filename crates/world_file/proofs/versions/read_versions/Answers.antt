use Rattle.std.proofs.Common.{◌≡◌, ◌+◌, ◌-◌, ◌<◌, ℕ, List, ◌∷◌, take, length, refl, sym, subst, ap, ◌∙◌, arith, None, length-drop, length-take}
use Rattle.std.proofs.lemmas.Result.{err_from_is_err_and}
use Rattle.net_base.specs.declared.world.Version.{Version}
use Rattle.net_base.specs.NdbBundle.{bad_line, database}
use Rattle.net_base.specs.NdbText.{lines_of}
use Rattle.world_text.specs.WorldText.{cuts_of}
use Rattle.world_file.specs.Told.{TellsBehind}
use Rattle.world_file.proofs.Bundled.{At, at_first, at_next, end_bad, end_ok, front_bad, front_lines, front_some, front_within, moment_bad}
use Rattle.world_file.proofs.versions.read_versions.Goals as goal

pub loop-place-init : goal.loop-place-init
loop-place-init c =
    subst (λ (vs : List Version). At c.args.text.now c.args.number c.args.number 0 vs c.args.text.now) (sym c.new-versions.ensures)
    (at_first c.args.text.now c.args.number)

pub bundle_before-requires : goal.bundle_before-requires
bundle_before-requires c = front_within c.loop-place.rest.now c.in-Some.place c.in-Some.lines c.in-Some.ensures.some

pub from-requires : goal.from-requires
from-requires c = front_within c.loop-place.rest.now c.in-Some.place c.in-Some.lines c.in-Some.ensures.some

pub cut_line-requires : goal.cut_line-requires
cut_line-requires c = subst (λ (xs : List ℕ). 0 < length xs) (sym c.from.ensures) (front_some c.loop-place.rest.now c.in-Some.place c.in-Some.lines c.in-Some.ensures.some)

pub read_bundle-requires : goal.read_bundle-requires
read_bundle-requires c =
    let room = c.loop-place.invariant.room in
    let small = c.requires in
    let part = ap length c.bundle_before.ensures in
    let within = length-take (c.in-Some.place - 1) c.loop-place.rest.now in omega (arith, room, small, part, within)

pub overflow_add-before : goal.overflow_add-before
overflow_add-before c =
    let room = c.loop-place.invariant.room in
    let small = c.requires in
    let lines = front_lines c.loop-place.rest.now c.in-Some.place c.in-Some.lines c.in-Some.ensures.some in omega (arith, room, small, lines)

pub overflow_add-before-in-Some : goal.overflow_add-before-in-Some
overflow_add-before-in-Some c =
    let room = c.loop-place.invariant.room in
    let small = c.requires in
    let lines = front_lines c.loop-place.rest.now c.in-Some.place c.in-Some.lines c.in-Some.ensures.some in omega (arith, room, small, lines)

pub loop-place-preserved : goal.loop-place-preserved
loop-place-preserved c =
    let l = c.loop-place in
    let bundle = c.in_ok-db.ensures.ok in
    let moment = c.in_ok-moment.ensures.ok in
    let good : bad_line (take (c.in-Some.place - 1) l.rest.now) ≡ None = subst (λ (xs : List ℕ). bad_line xs ≡ None) c.bundle_before.ensures bundle.0 in
    let read : c.in_ok-db.db ≡ database (lines_of (take (c.in-Some.place - 1) l.rest.now)) = bundle.1 ∙ ap (λ (xs : List ℕ). database (lines_of xs)) c.bundle_before.ensures in
    subst (λ (vs : List Version). At c.args.text.now c.args.number (l.before + (c.in-Some.lines + 1)) c.in_ok-moment.moment vs c.cut_line.result.1.now) (sym c.in_ok-push.ensures.ok)
    (at_next c.args.text.now c.args.number l.before l.moment l.versions l.rest.now l.invariant c.in-Some.place c.in-Some.lines c.in-Some.ensures.some good c.cut_line.result.0.now c.cut_line.result.1.now
    (subst (λ (xs : List ℕ). cuts_of xs ≡ record { line = c.cut_line.result.0.now; behind = c.cut_line.result.1.now } ∷ cuts_of c.cut_line.result.1.now) c.from.ensures c.cut_line.ensures.cut) c.in_ok-db.db
    c.in_ok-moment.moment read moment.0 moment.1)

pub loop-place-smaller : goal.loop-place-smaller
loop-place-smaller c =
    let less = c.cut_line.ensures.less in
    let from = ap length c.from.ensures in
    let part = length-drop c.in-Some.place c.loop-place.rest.now in omega (arith, less, from, part)

pub returns-in_err-db-clause-bad : goal.returns-in_err-db-clause-bad
returns-in_err-db-clause-bad c =
    let l = c.loop-place in
    let e = c.in_err-db.field-0.0 in
    let p = err_from_is_err_and c.from_residual.result c.from_residual.ensures.1 in
    let told : TellsBehind l.before e (bad_line (take (c.in-Some.place - 1) l.rest.now)) = subst (λ (xs : List ℕ). TellsBehind l.before e (bad_line xs)) c.bundle_before.ensures c.in_err-db.ensures.bad in
    rw (p.1, p.2) (front_bad c.args.text.now c.args.number l.before l.moment l.versions l.rest.now l.invariant c.in-Some.place c.in-Some.lines c.in-Some.ensures.some e told)

pub returns-in_err-moment-clause-bad : goal.returns-in_err-moment-clause-bad
returns-in_err-moment-clause-bad c =
    let l = c.loop-place in
    let e = c.in_err-moment.field-0.0 in
    let p = err_from_is_err_and c.from_residual-in_err-moment.result c.from_residual-in_err-moment.ensures.1 in
    let bundle = c.in_ok-db.ensures.ok in
    let good : bad_line (take (c.in-Some.place - 1) l.rest.now) ≡ None = subst (λ (xs : List ℕ). bad_line xs ≡ None) c.bundle_before.ensures bundle.0 in
    let cut = subst (λ (xs : List ℕ). cuts_of xs ≡ record { line = c.cut_line.result.0.now; behind = c.cut_line.result.1.now } ∷ cuts_of c.cut_line.result.1.now) c.from.ensures c.cut_line.ensures.cut in
    rw (p.1, p.2) (moment_bad c.args.text.now c.args.number l.before l.moment l.versions l.rest.now l.invariant c.in-Some.place c.in-Some.lines c.in-Some.ensures.some good c.cut_line.result.0.now c.cut_line.result.1.now cut
    (l.before + (c.in-Some.lines + 1)) e refl c.in_err-moment.ensures.bad)

pub returns-in_err-db-2-clause-bad : goal.returns-in_err-db-2-clause-bad
returns-in_err-db-2-clause-bad c =
    let l = c.loop-place in
    let e = c.in_err-db-2.field-0.0 in
    let p = err_from_is_err_and c.from_residual-in_err-db-2.result c.from_residual-in_err-db-2.ensures.1 in
    rw (p.1, p.2) (end_bad c.args.text.now c.args.number l.before l.moment l.versions l.rest.now l.invariant c.in_default.ensures.none e c.in_err-db-2.ensures.bad)

pub returns-clause-ok : goal.returns-clause-ok
returns-clause-ok c =
    let l = c.loop-place in
    let bundle = c.in_ok-db-2.ensures.ok in
    let ends = end_ok c.args.text.now c.args.number l.before l.moment l.versions l.rest.now l.invariant c.in_default.ensures.none c.in_ok-db-2.db bundle.0 bundle.1 in
    (ends.0, c.in_ok-push-2.ensures.ok ∙ ends.1)

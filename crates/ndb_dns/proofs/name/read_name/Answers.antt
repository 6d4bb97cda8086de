use Rattle.std.proofs.Common.{ℕ, List, refl, arith, subst}
use Rattle.std.proofs.lemmas.Result.{err_from_is_err_and}
use Rattle.net_base.specs.DomainNames.{ReadsName}
use Rattle.ndb_dns.specs.Runs.{AddsRun, HasNoRun, LeadsToNone}
use Rattle.ndb_dns.proofs.Asking.{refused_so}
use Rattle.ndb_dns.proofs.Reading.{name_is_read, no_name_at_all, no_name_behind}
use Rattle.ndb_dns.proofs.Spelling.{name_once}
use Rattle.ndb_dns.proofs.name.read_name.Goals as goal

pub returns-in_err-first-clause-refused : goal.returns-in_err-first-clause-refused
returns-in_err-first-clause-refused c =
    let p = err_from_is_err_and c.from_residual.result c.from_residual.ensures.1 in
    rw (p.1, p.2)
    (refused_so c.in_err-first.field-0.0 (HasNoRun c.args.bytes.now c.args.place c.new-text.result) ((text : List ℕ) (end : ℕ) → ReadsName c.args.bytes.now c.args.place text end → ⊥)
    (λ none. no_name_at_all c.args.bytes.now c.args.place (subst (HasNoRun c.args.bytes.now c.args.place) c.new-text.ensures none)) c.in_err-first.ensures.refused)

pub returns-in_err-add_pointed-clause-refused : goal.returns-in_err-add_pointed-clause-refused
returns-in_err-add_pointed-clause-refused c =
    let p = err_from_is_err_and c.from_residual-in_err-add_pointed.result c.from_residual-in_err-add_pointed.ensures.1 in
    rw (p.1, p.2)
    (refused_so c.in_err-add_pointed.field-0.0 (LeadsToNone c.args.bytes.now c.in_ok-first.first.target c.add_run.new.text) ((text : List ℕ) (end : ℕ) → ReadsName c.args.bytes.now c.args.place text end → ⊥)
    (no_name_behind c.args.bytes.now c.args.place c.add_run.new.text c.in_ok-first.first
    (subst (λ (text : List ℕ). AddsRun c.args.bytes.now c.args.place text c.add_run.new.text c.in_ok-first.first) c.new-text.ensures c.in_ok-first.ensures.found))
    c.in_err-add_pointed.ensures.refused)

pub returns-clause-found : goal.returns-clause-found
returns-clause-found c =
    name_is_read c.args.bytes.now c.args.place c.add_run.new.text c.add_pointed.new.text c.in_ok-first.first c.in_ok-first.first.end (λ i. omega (arith, c.type_inv.bytes i)) c.requires
    (subst (λ (text : List ℕ). AddsRun c.args.bytes.now c.args.place text c.add_run.new.text c.in_ok-first.first) c.new-text.ensures c.in_ok-first.ensures.found)
    c.in_ok-add_pointed.ensures.found refl

pub returns-clause-only : goal.returns-clause-only
returns-clause-only c = λ text end name.
    name_once c.args.bytes.now c.args.place c.add_pointed.new.text text c.in_ok-first.first.end end
    (name_is_read c.args.bytes.now c.args.place c.add_run.new.text c.add_pointed.new.text c.in_ok-first.first c.in_ok-first.first.end (λ i. omega (arith, c.type_inv.bytes i)) c.requires
    (subst (λ (text : List ℕ). AddsRun c.args.bytes.now c.args.place text c.add_run.new.text c.in_ok-first.first) c.new-text.ensures c.in_ok-first.ensures.found)
    c.in_ok-add_pointed.ensures.found refl)
    name

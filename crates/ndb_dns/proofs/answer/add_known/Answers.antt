use Rattle.std.proofs.Common.{◌==◌, ℕ, List, sym, ap, ◌∙◌, subst}
use Rattle.std.specs.Option.{option_map}
use Rattle.ndb_index.specs.Kept.{spots_with}
use Rattle.net_base.specs.DomainAnswers.{key_of}
use Rattle.ndb_dns.specs.Keys.{key_seen}
use Rattle.ndb_dns.specs.Taken.{AddsTaken}
use Rattle.ndb_dns.proofs.Fitting.{adds_none}
use Rattle.ndb_dns.proofs.Parts.{code_known, code_unknown, records_unknown}
use Rattle.ndb_dns.proofs.answer.add_known.Goals as goal

pub returns-then-is_empty-clause-rcode : goal.returns-then-is_empty-clause-rcode
returns-then-is_empty-clause-rcode g c =
    code_unknown c.args.index.now (key_seen c.in-Some.key) (key_of c.args.question.now) c.in_ok-spots.spots.items
    (ap (option_map key_seen) (sym c.in-Some.is) ∙ c.in_ok-key.ensures)
    (c.in_ok-spots.ensures ∙ ap (λ (value : List ℕ). spots_with c.in-Some.key.attr.now value c.args.index.now) c.as_slice.ensures)
    (ap (λ (n : ℕ). n == 0) (sym c.in_ok-spots.spots.ok.0) ∙ sym c.is_empty.ensures ∙ c.if-is_empty.true)

pub returns-then-is_empty-clause-took : goal.returns-then-is_empty-clause-took
returns-then-is_empty-clause-took g c =
    subst (λ (records : List (List ℕ)). AddsTaken c.args.records.now records c.args.records.now)
    (records_unknown c.args.index.now c.args.question.now.kind (key_seen c.in-Some.key) (key_of c.args.question.now) c.in_ok-spots.spots.items
    (ap (option_map key_seen) (sym c.in-Some.is) ∙ c.in_ok-key.ensures)
    (c.in_ok-spots.ensures ∙ ap (λ (value : List ℕ). spots_with c.in-Some.key.attr.now value c.args.index.now) c.as_slice.ensures)
    (ap (λ (n : ℕ). n == 0) (sym c.in_ok-spots.spots.ok.0) ∙ sym c.is_empty.ensures ∙ c.if-is_empty.true))
    (adds_none c.args.records.now c.requires)

pub returns-clause-rcode : goal.returns-clause-rcode
returns-clause-rcode g c =
    code_known c.args.index.now (key_seen c.in-Some.key) (key_of c.args.question.now) c.in_ok-spots.spots.items
    (ap (option_map key_seen) (sym c.in-Some.is) ∙ c.in_ok-key.ensures)
    (c.in_ok-spots.ensures ∙ ap (λ (value : List ℕ). spots_with c.in-Some.key.attr.now value c.args.index.now) c.as_slice.ensures)
    (ap (λ (n : ℕ). n == 0) (sym c.in_ok-spots.spots.ok.0) ∙ sym c.is_empty.ensures ∙ c.if-is_empty.false)

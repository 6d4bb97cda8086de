use Rattle.std.proofs.Common.{◌≡◌, true, Err, sym, ap, ◌∙◌, arith}
use Rattle.net_base.specs.NinepFaults.{is_r_type, type_field}
use Rattle.ninep_wire.proofs.Telling.{no_fault, no_size, not_both, r_tells}
use Rattle.ninep_wire.proofs.Whole.{r_heads, r_knows}
use Rattle.ninep_wire.proofs.read_answer.decode_r.Goals as goal

-- bytes that spell a message have a good header
pub returns-in_err-header-clause-only : goal.returns-in_err-header-clause-only
returns-in_err-header-clause-only c = λ m s.
    let h = r_heads m c.args.bytes.now s in
    let k = c.in_err-header.ensures in
    absurd (no_fault c.in_err-header.field-0.0 (λ e. omega (arith, k.short.0 (ap Err e), h.sized.header))
    (λ e. no_size c.args.bytes.now h.sized (k.size.0 (ap Err e)).1) (λ e. k.memory (ap Err e)) (λ e. k.bad_type (ap Err e)) (λ e. k.field (ap Err e)))

-- .. and a type that is one
pub returns-then-not-is_answer-clause-only : goal.returns-then-not-is_answer-clause-only
returns-then-not-is_answer-clause-only c = λ m s.
    let known : c.is_answer.result ≡ true = c.is_answer.ensures ∙ ap is_r_type c.in_ok-header.ensures.kind ∙ r_knows m c.args.bytes.now s in
    absurd (not_both c.is_answer.result known c.if-not-is_answer.true)

pub returns-clause-found : goal.returns-clause-found
returns-clause-found c =
    let k = c.in_ok-header.ensures in
    let h = c.in_ok-header.header in
    (r_tells c.args.bytes.now h.fields.now h.kind h.tag c.whole.result
    (λ i. omega (arith, c.type_inv.bytes i)) k.sized k.kind k.tag k.fields c.whole.ensures).found

pub returns-clause-only : goal.returns-clause-only
returns-clause-only c =
    let k = c.in_ok-header.ensures in
    let h = c.in_ok-header.header in
    (r_tells c.args.bytes.now h.fields.now h.kind h.tag c.whole.result
    (λ i. omega (arith, c.type_inv.bytes i)) k.sized k.kind k.tag k.fields c.whole.ensures).only

pub returns-clause-again : goal.returns-clause-again
returns-clause-again c =
    let k = c.in_ok-header.ensures in
    let h = c.in_ok-header.header in
    (r_tells c.args.bytes.now h.fields.now h.kind h.tag c.whole.result
    (λ i. omega (arith, c.type_inv.bytes i)) k.sized k.kind k.tag k.fields c.whole.ensures).again

pub returns-clause-field : goal.returns-clause-field
returns-clause-field c = λ e.
    let k = c.in_ok-header.ensures in
    let h = c.in_ok-header.header in
    let known : is_r_type (type_field c.args.bytes.now) ≡ true = ap is_r_type (sym k.kind) ∙ sym c.is_answer.ensures ∙ c.if-not-is_answer.false in
    let told =
    r_tells c.args.bytes.now h.fields.now h.kind h.tag c.whole.result (λ i. omega (arith, c.type_inv.bytes i)) k.sized k.kind k.tag k.fields c.whole.ensures in
    ((k.sized, known), told.field e)

use Rattle.std.proofs.Common.{ℕ, ◌<◌, Option, arith, subst}
use Rattle.std.proofs.lemmas.Option.{IfSome_then}
use Rattle.std.proofs.lemmas.Result.{err_from_is_err_and}
use Rattle.ndb_dns.specs.Runs.{HasNoRun, LeadsToNone}
use Rattle.ndb_dns.proofs.Asking.{refused_so}
use Rattle.ndb_dns.proofs.Reading.{Follows, follow_more, follows_at_first, follows_to_end, follows_to_none}
use Rattle.ndb_dns.proofs.name.add_pointed.Goals as goal

pub loop-next-init : goal.loop-next-init
loop-next-init c = record {
  follows = follows_at_first c.args.bytes.now c.args.target c.args.text.now;
  within = c.requires.within;
  short = c.requires.short;
}

pub add_run-requires-clause-within : goal.add_run-requires-clause-within
add_run-requires-clause-within c = rw c.in-Some.is at c.loop-next.invariant.within

pub add_run-requires-clause-short : goal.add_run-requires-clause-short
add_run-requires-clause-short c = c.loop-next.invariant.short

pub returns-in_err-run-clause-refused : goal.returns-in_err-run-clause-refused
returns-in_err-run-clause-refused c =
    let p = err_from_is_err_and c.from_residual.result c.from_residual.ensures.1 in
    rw (p.1, p.2)
    (refused_so c.in_err-run.field-0.0 (HasNoRun c.args.bytes.now c.in-Some.place c.loop-next.text) (LeadsToNone c.args.bytes.now c.args.target c.args.text.now)
    (follows_to_none c.args.bytes.now c.args.target c.in-Some.place c.args.text.now c.loop-next.text
    (subst (λ (next : Option ℕ). Follows c.args.bytes.now c.args.target next c.args.text.now c.loop-next.text) c.in-Some.is c.loop-next.invariant.follows))
    c.in_err-run.ensures.refused)

pub loop-next-preserved : goal.loop-next-preserved
loop-next-preserved c =
    let within = rw c.in-Some.is at c.loop-next.invariant.within in record {
      follows = follow_more c.args.bytes.now c.args.target c.in-Some.place c.args.text.now c.loop-next.text c.add_run.new.text c.in_ok-run.run' (λ i. omega (arith, c.type_inv.bytes i)) within
          (subst (λ (next : Option ℕ). Follows c.args.bytes.now c.args.target next c.args.text.now c.loop-next.text) c.in-Some.is c.loop-next.invariant.follows)
          c.in_ok-run.ensures.found;
      within = IfSome_then c.in_ok-run.run'.target c.in_ok-run.ensures.back (λ (target : ℕ) (less : target < c.in-Some.place). omega (arith, less, within));
      short = c.in_ok-run.ensures.found.adds.short;
    }

pub returns-clause-found : goal.returns-clause-found
returns-clause-found c =
    follows_to_end c.args.bytes.now c.args.target c.args.text.now c.loop-next.text
    (subst (λ (next : Option ℕ). Follows c.args.bytes.now c.args.target next c.args.text.now c.loop-next.text) c.in_default.is c.loop-next.invariant.follows)
    c.loop-next.invariant.short

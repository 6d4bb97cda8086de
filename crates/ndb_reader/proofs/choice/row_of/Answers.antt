use Rattle.std.proofs.Common.{◌+◌, ◌-◌, refl, map, ap, ◌∙◌, arith}
use Rattle.std.proofs.lemmas.List.{length-map}
use Rattle.ndb_reader.specs.Chains.{first_in}
use Rattle.ndb_reader.specs.Filed.{files_of}
use Rattle.ndb_reader.specs.Names.{names_seen, name_bucket}
use Rattle.ndb_reader.proofs.Chained.{number_of, walk-none, walk-within, walk-next, walk-all}
use Rattle.ndb_reader.proofs.InRow.{row, row-next, tuples_grown}
use Rattle.ndb_reader.proofs.choice.row_of.Goals as goal

pub loop-left-init : goal.loop-left-init
loop-left-init c = (
  walk-none (names_seen c.args.names.now.keys) (files_of c.args.bundle.now) (name_bucket (names_seen c.args.names.now.keys) c.args.name.now) c.first-left.result (row (files_of c.args.bundle.now) c.args.first) refl refl
      (c.first-left.ensures (map (number_of (names_seen c.args.names.now.keys)) (files_of c.args.bundle.now)) c.requires.files.are
      ∙ ap (λ bucket. first_in bucket (map (number_of (names_seen c.args.names.now.keys)) (files_of c.args.bundle.now))) c.bucket_of.ensures.value),
  omega arith,
  c.requires.within,
)

pub overflow_sub-count : goal.overflow_sub-count
overflow_sub-count c =
    let within = walk-within (names_seen c.args.names.now.keys) (files_of c.args.bundle.now) (name_bucket (names_seen c.args.names.now.keys) c.args.name.now) c.loop-left.left (row (files_of c.args.bundle.now) c.args.first) (row (files_of c.args.bundle.now) c.loop-left.end) c.loop-left.invariant.0 (omega (arith, c.loop-left-test.true)) in
    omega (arith, within, c.len-count.ensures)

pub overflow_add-end : goal.overflow_add-end
overflow_add-end c =
    let within = walk-within (names_seen c.args.names.now.keys) (files_of c.args.bundle.now) (name_bucket (names_seen c.args.names.now.keys) c.args.name.now) c.loop-left.left (row (files_of c.args.bundle.now) c.args.first) (row (files_of c.args.bundle.now) c.loop-left.end) c.loop-left.invariant.0 (omega (arith, c.loop-left-test.true)) in
    omega (arith, within, c.len-count.ensures, c.loop-left-test.true)

pub next-left-requires-clause-within : goal.next-left-requires-clause-within
next-left-requires-clause-within c =
    let within = walk-within (names_seen c.args.names.now.keys) (files_of c.args.bundle.now) (name_bucket (names_seen c.args.names.now.keys) c.args.name.now) c.loop-left.left (row (files_of c.args.bundle.now) c.args.first) (row (files_of c.args.bundle.now) c.loop-left.end) c.loop-left.invariant.0 (omega (arith, c.loop-left-test.true)) in
    omega (arith, within, c.requires.files.are.count, length-map (files_of c.args.bundle.now) (number_of (names_seen c.args.names.now.keys)))

pub loop-left-smaller : goal.loop-left-smaller
loop-left-smaller c =
    (walk-next (names_seen c.args.names.now.keys) (files_of c.args.bundle.now) (name_bucket (names_seen c.args.names.now.keys) c.args.name.now) c.loop-left.left c.len-count.result c.next-left.result c.args.chains.now (row (files_of c.args.bundle.now) c.args.first) (row (files_of c.args.bundle.now) c.loop-left.end) (row (files_of c.args.bundle.now) (c.loop-left.end + 1)) c.loop-left.invariant.0
    (omega (arith, c.loop-left-test.true)) c.requires.files c.len-count.ensures
    (λ d. row-next (files_of c.args.bundle.now) c.loop-left.end (c.len-count.result - c.loop-left.left) d (omega arith) (omega (arith, walk-within (names_seen c.args.names.now.keys) (files_of c.args.bundle.now) (name_bucket (names_seen c.args.names.now.keys) c.args.name.now) c.loop-left.left (row (files_of c.args.bundle.now) c.args.first) (row (files_of c.args.bundle.now) c.loop-left.end) c.loop-left.invariant.0 (omega (arith, c.loop-left-test.true)), c.len-count.ensures, c.loop-left-test.true)))
    c.next-left.ensures).1

pub loop-left-preserved : goal.loop-left-preserved
loop-left-preserved c = (
  (walk-next (names_seen c.args.names.now.keys) (files_of c.args.bundle.now) (name_bucket (names_seen c.args.names.now.keys) c.args.name.now) c.loop-left.left c.len-count.result c.next-left.result c.args.chains.now (row (files_of c.args.bundle.now) c.args.first) (row (files_of c.args.bundle.now) c.loop-left.end) (row (files_of c.args.bundle.now) (c.loop-left.end + 1)) c.loop-left.invariant.0
      (omega (arith, c.loop-left-test.true)) c.requires.files c.len-count.ensures
      (λ d. row-next (files_of c.args.bundle.now) c.loop-left.end (c.len-count.result - c.loop-left.left) d (omega arith) (omega (arith, walk-within (names_seen c.args.names.now.keys) (files_of c.args.bundle.now) (name_bucket (names_seen c.args.names.now.keys) c.args.name.now) c.loop-left.left (row (files_of c.args.bundle.now) c.args.first) (row (files_of c.args.bundle.now) c.loop-left.end) c.loop-left.invariant.0 (omega (arith, c.loop-left-test.true)), c.len-count.ensures, c.loop-left-test.true)))
      c.next-left.ensures).0,
  omega (arith, c.loop-left.invariant.1),
  omega (arith, walk-within (names_seen c.args.names.now.keys) (files_of c.args.bundle.now) (name_bucket (names_seen c.args.names.now.keys) c.args.name.now) c.loop-left.left (row (files_of c.args.bundle.now) c.args.first) (row (files_of c.args.bundle.now) c.loop-left.end) c.loop-left.invariant.0 (omega (arith, c.loop-left-test.true)), c.len-count.ensures, c.loop-left-test.true),
)

pub returns-clause-tuples : goal.returns-clause-tuples
returns-clause-tuples c =
    ap tuples_grown
    (walk-all (names_seen c.args.names.now.keys) (files_of c.args.bundle.now) c.args.name.now (name_bucket (names_seen c.args.names.now.keys) c.args.name.now) c.loop-left.left (row (files_of c.args.bundle.now) c.args.first) (row (files_of c.args.bundle.now) c.loop-left.end) c.loop-left.invariant.0 (omega (arith, c.loop-left-test.false)) refl c.requires.one)

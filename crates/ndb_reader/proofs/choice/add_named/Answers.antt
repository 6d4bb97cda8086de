use Rattle.std.proofs.Common.{refl, map, ap, ◌∙◌, arith}
use Rattle.std.proofs.lemmas.List.{length-map}
use Rattle.ndb_reader.specs.Chains.{first_in}
use Rattle.ndb_reader.specs.Filed.{files_of}
use Rattle.ndb_reader.specs.Names.{names_seen, name_bucket}
use Rattle.ndb_reader.proofs.Filing.{files-length}
use Rattle.ndb_reader.proofs.Chained.{number_of, walk-none, walk-within, walk-next, walk-all}
use Rattle.ndb_reader.proofs.choice.add_named.Goals as goal

pub loop-left-init : goal.loop-left-init
loop-left-init c =
    walk-none (names_seen c.args.names.now.keys) (files_of c.args.bundle.now) (name_bucket (names_seen c.args.names.now.keys) c.args.name.now) c.first-left.result c.args.out.now c.requires.lines c.requires.pairs
    (c.first-left.ensures (map (number_of (names_seen c.args.names.now.keys)) (files_of c.args.bundle.now)) c.requires.files.are
    ∙ ap (λ bucket. first_in bucket (map (number_of (names_seen c.args.names.now.keys)) (files_of c.args.bundle.now))) c.bucket_of.ensures.value)

pub overflow_sub-count : goal.overflow_sub-count
overflow_sub-count c =
    let within = walk-within (names_seen c.args.names.now.keys) (files_of c.args.bundle.now) (name_bucket (names_seen c.args.names.now.keys) c.args.name.now) c.loop-left.left c.args.out.now c.loop-left.out c.loop-left.invariant (omega (arith, c.loop-left-test.true)) in
    omega (arith, within, c.len-count.ensures)

pub add-requires-clause-within : goal.add-requires-clause-within
add-requires-clause-within c =
    let within = walk-within (names_seen c.args.names.now.keys) (files_of c.args.bundle.now) (name_bucket (names_seen c.args.names.now.keys) c.args.name.now) c.loop-left.left c.args.out.now c.loop-left.out c.loop-left.invariant (omega (arith, c.loop-left-test.true)) in
    omega (arith, within, c.len-count.ensures, c.loop-left-test.true, files-length 0 0 c.args.bundle.now.ends.items c.args.bundle.now.names.items c.args.bundle.now.db)

pub next-left-requires-clause-within : goal.next-left-requires-clause-within
next-left-requires-clause-within c =
    let within = walk-within (names_seen c.args.names.now.keys) (files_of c.args.bundle.now) (name_bucket (names_seen c.args.names.now.keys) c.args.name.now) c.loop-left.left c.args.out.now c.loop-left.out c.loop-left.invariant (omega (arith, c.loop-left-test.true)) in
    omega (arith, within, c.requires.files.are.count, length-map (files_of c.args.bundle.now) (number_of (names_seen c.args.names.now.keys)))

pub loop-left-smaller : goal.loop-left-smaller
loop-left-smaller c =
    (walk-next (names_seen c.args.names.now.keys) (files_of c.args.bundle.now) (name_bucket (names_seen c.args.names.now.keys) c.args.name.now) c.loop-left.left c.len-count.result c.next-left.result c.args.chains.now c.args.out.now c.loop-left.out c.add.new.out c.loop-left.invariant (omega (arith, c.loop-left-test.true)) c.requires.files c.len-count.ensures c.in_ok-add.ensures c.next-left.ensures).1

pub loop-left-preserved : goal.loop-left-preserved
loop-left-preserved c =
    (walk-next (names_seen c.args.names.now.keys) (files_of c.args.bundle.now) (name_bucket (names_seen c.args.names.now.keys) c.args.name.now) c.loop-left.left c.len-count.result c.next-left.result c.args.chains.now c.args.out.now c.loop-left.out c.add.new.out c.loop-left.invariant (omega (arith, c.loop-left-test.true)) c.requires.files c.len-count.ensures c.in_ok-add.ensures c.next-left.ensures).0

pub returns : goal.returns
returns c =
    walk-all (names_seen c.args.names.now.keys) (files_of c.args.bundle.now) c.args.name.now (name_bucket (names_seen c.args.names.now.keys) c.args.name.now) c.loop-left.left c.args.out.now c.loop-left.out c.loop-left.invariant (omega (arith, c.loop-left-test.false)) refl c.requires.one

use Rattle.std.proofs.Common.{sym, ap, ◌+◌, ◌∙◌, arith, ℕ}
use Rattle.std.proofs.lemmas.List.{length-map}
use Rattle.std.specs.Prelude.{vec_items}
use Rattle.ndb_reader.specs.Filed.{files_of}
use Rattle.ndb_reader.specs.Names.{names_seen}
use Rattle.ndb_reader.proofs.Filing.{files-length}
use Rattle.ndb_reader.proofs.Chained.{chaining-none, chaining-next, chaining-all}
use Rattle.ndb_reader.proofs.choice.chains_of.Goals as goal

pub loop-back-init : goal.loop-back-init
loop-back-init c =
    chaining-none (names_seen c.args.names.now.keys) (files_of c.args.bundle.now) c.in_ok-chains.chains
    (c.in_ok-chains.ensures.width ∙ ap (λ (n : ℕ). n + 1) (c.len.ensures.len ∙ sym (length-map c.args.names.now.keys vec_items))) c.in_ok-chains.ensures.chains

pub name-requires-clause-within : goal.name-requires-clause-within
name-requires-clause-within c =
    omega (arith, c.loop-back-test.true, c.len-count.ensures, files-length 0 0 c.args.bundle.now.ends.items c.args.bundle.now.names.items c.args.bundle.now.db)

pub loop-back-preserved : goal.loop-back-preserved
loop-back-preserved c =
    chaining-next (names_seen c.args.names.now.keys) (files_of c.args.bundle.now) c.len-count.result c.loop-back.back c.bucket_of.result c.name.result.now c.loop-back.chains c.push.new.self c.loop-back.invariant c.len-count.ensures (omega (arith, c.loop-back-test.true))
    c.name.ensures c.bucket_of.ensures.value c.in_ok-push.ensures.width c.in_ok-push.ensures.chains

pub returns : goal.returns
returns c = chaining-all (names_seen c.args.names.now.keys) (files_of c.args.bundle.now) c.len-count.result c.loop-back.back c.loop-back.chains c.loop-back.invariant c.len-count.ensures (omega (arith, c.loop-back-test.false))

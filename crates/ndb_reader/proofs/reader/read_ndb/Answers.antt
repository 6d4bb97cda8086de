use Rattle.std.proofs.Common.{subst, ◌≡◌, ℕ, ◌+◌, length, get_or, arith, rules, List, Some, true, refl, sym, ap, ◌∙◌}
use Rattle.std.specs.List.{list_any}
use Rattle.std.proofs.lemmas.Iterator.Splits.{YieldsList-from_slice_split}
use Rattle.std.proofs.lemmas.Iterator.Consumers.{YieldsList-turn, YieldsList-end}
use Rattle.std.proofs.lemmas.List.Splits.{length-slice_split}
use Rattle.std.proofs.lemmas.List.Sums.{count_by-le-length}
use Rattle.std.proofs.lemmas.List.{length_push}
use Rattle.std.proofs.lemmas.List.Folds.{list_any_at}
use Rattle.std.proofs.lemmas.Result.{err_from_is_err_and}
use borrow.Author.Tests.{tests}
use Rattle.net_base.specs.Ndb.{NdbPair}
use Rattle.net_base.specs.NdbText.{is_newline, is_zero, lines_of}
use Rattle.net_base.specs.NdbBundle.{local_file, named_files}
use Rattle.ndb_reader.specs.Filed.{filed}
use Rattle.ndb_reader.proofs.Headed.{any_part}
use Rattle.ndb_reader.proofs.Reading.{Next, read-bad, reading-is, tells-of}
use Rattle.ndb_reader.proofs.Turns.{Reads, Turn, reads-none, turn-blank, turn-on, turn-start, turn-file, turns-end}
use Rattle.formats.specs.NdbSpelling.{ReadsBundle}
use Rattle.ndb_reader.proofs.Bundles.{bundle-is-spelled}
use Rattle.ndb_reader.proofs.reader.read_ndb.Goals as goal

pub loop-line-init : goal.loop-line-init
loop-line-init c =
    record { number = refl; sound = c.in_ok-files.ensures.sound; reads = reads-none (lines_of c.args.bytes.now) _ c.in_ok-files.ensures.closed c.in_ok-files.ensures.name c.in_ok-files.ensures.whole c.in_ok-files.ensures.last c.in_ok-files.ensures.pairs }

pub read-requires-clause-zeros : goal.read-requires-clause-zeros
read-requires-clause-zeros c = λ zero.
    let t = YieldsList-turn (YieldsList-from_slice_split {s = c.into_iter-line-iterator.result} _ is_newline c.args.bytes.now (cc) (cc) (cc) (λ x r q k. search (rules, tests))) c.loop-line.yielded _ c.loop-line.yielded_by _ _ c.in-Some.line c.in-Some.is c.next.ensures.steps in
    let here : list_any is_zero (get_or (lines_of c.args.bytes.now) (length c.loop-line.yielded) c.in-Some.line.now) ≡ true = ap (list_any is_zero) (sym t.1) ∙ zero in
    c.has_zero-zeros.ensures ∙ any_part is_newline is_zero c.args.bytes.now (list_any_at (list_any is_zero) (lines_of c.args.bytes.now) (length c.loop-line.yielded) c.in-Some.line.now t.0 here)

pub overflow_add-number : goal.overflow_add-number
overflow_add-number c =
    let t = YieldsList-turn (YieldsList-from_slice_split {s = c.into_iter-line-iterator.result} _ is_newline c.args.bytes.now (cc) (cc) (cc) (λ x r q k. search (rules, tests))) c.loop-line.yielded _ c.loop-line.yielded_by _ _ c.in-Some.line c.in-Some.is c.next.ensures.steps in
    omega (arith, t.0, length-slice_split is_newline c.args.bytes.now, count_by-le-length is_newline c.args.bytes.now, c.loop-line.invariant.number)

pub returns-in_err-has_words-clause-bad : goal.returns-in_err-has_words-clause-bad
returns-in_err-has_words-clause-bad c =
    let t = YieldsList-turn (YieldsList-from_slice_split {s = c.into_iter-line-iterator.result} _ is_newline c.args.bytes.now (cc) (cc) (cc) (λ x r q k. search (rules, tests))) c.loop-line.yielded _ c.loop-line.yielded_by _ _ c.in-Some.line c.in-Some.is c.next.ensures.steps in
    let next : Next (lines_of c.args.bytes.now) (length c.loop-line.yielded) c.in-Some.line.now = record { within = t.0; is = t.1 } in
    let f = filed c.loop-line.files in
    let p = err_from_is_err_and c.from_residual-in_err-has_words.result c.from_residual-in_err-has_words.ensures.1 in
    rw (p.1, p.2) (tells-of _ _ _ _ c.in_err-has_words.ensures.bad (λ cause h. read-bad (lines_of c.args.bytes.now) (length c.loop-line.yielded) f.closed f.name f.whole f.last c.in-Some.line.now cause c.loop-line.invariant.reads.read next h ∙ ap (λ (k : ℕ). Some (k + 1, cause)) (sym c.loop-line.invariant.number)))

pub loop-line-preserved-in-Some-begun_file : goal.loop-line-preserved-in-Some-begun_file
loop-line-preserved-in-Some-begun_file c =
    let t = YieldsList-turn (YieldsList-from_slice_split {s = c.into_iter-line-iterator.result} _ is_newline c.args.bytes.now (cc) (cc) (cc) (λ x r q k. search (rules, tests))) c.loop-line.yielded _ c.loop-line.yielded_by _ _ c.in-Some.line c.in-Some.is c.next.ensures.steps in
    let next : Next (lines_of c.args.bytes.now) (length c.loop-line.yielded) c.in-Some.line.now = record { within = t.0; is = t.1 } in
    let turn : Turn (lines_of c.args.bytes.now) (length c.loop-line.yielded) (filed c.loop-line.files) c.in-Some.line.now (filed c.read.new.self) = record { next = next; good = c.in_ok-has_words.ensures.good; is = c.in_ok-has_words.ensures.pairs } in
    record {
      number = omega (arith, length_push c.loop-line.yielded c.in-Some.line, c.loop-line.invariant.number);
      sound = c.in_ok-begin.ensures.sound;
      reads = subst (λ (k : ℕ). Reads (lines_of c.args.bytes.now) k (filed c.begin.new.self)) (sym (length_push c.loop-line.yielded c.in-Some.line))
          (turn-file (lines_of c.args.bytes.now) (length c.loop-line.yielded) c.in-Some.line.now _ (filed c.loop-line.files) (filed c.read.new.self) _ c.loop-line.invariant.reads turn c.in-Some-begun_file.ensures.0 c.in-Some-begun_file.ensures.1 c.in_ok-begin.ensures.ok);
    }

pub loop-line-preserved-then-not-has_words : goal.loop-line-preserved-then-not-has_words
loop-line-preserved-then-not-has_words c =
    let t = YieldsList-turn (YieldsList-from_slice_split {s = c.into_iter-line-iterator.result} _ is_newline c.args.bytes.now (cc) (cc) (cc) (λ x r q k. search (rules, tests))) c.loop-line.yielded _ c.loop-line.yielded_by _ _ c.in-Some.line c.in-Some.is c.next.ensures.steps in
    let next : Next (lines_of c.args.bytes.now) (length c.loop-line.yielded) c.in-Some.line.now = record { within = t.0; is = t.1 } in
    let turn : Turn (lines_of c.args.bytes.now) (length c.loop-line.yielded) (filed c.loop-line.files) c.in-Some.line.now (filed c.read.new.self) = record { next = next; good = c.in_ok-has_words.ensures.good; is = c.in_ok-has_words.ensures.pairs } in
    record {
      number = omega (arith, length_push c.loop-line.yielded c.in-Some.line, c.loop-line.invariant.number);
      sound = c.in_ok-has_words.ensures.sound;
      reads = subst (λ (k : ℕ). Reads (lines_of c.args.bytes.now) k (filed c.read.new.self)) (sym (length_push c.loop-line.yielded c.in-Some.line))
          (turn-blank (lines_of c.args.bytes.now) (length c.loop-line.yielded) c.in-Some.line.now (filed c.loop-line.files) (filed c.read.new.self) c.loop-line.invariant.reads turn c.in_default.ensures (sym c.in_ok-has_words.ensures.some ∙ c.if-not-has_words.true));
    }

pub loop-line-preserved-in_ok-go_on : goal.loop-line-preserved-in_ok-go_on
loop-line-preserved-in_ok-go_on c =
    let t = YieldsList-turn (YieldsList-from_slice_split {s = c.into_iter-line-iterator.result} _ is_newline c.args.bytes.now (cc) (cc) (cc) (λ x r q k. search (rules, tests))) c.loop-line.yielded _ c.loop-line.yielded_by _ _ c.in-Some.line c.in-Some.is c.next.ensures.steps in
    let next : Next (lines_of c.args.bytes.now) (length c.loop-line.yielded) c.in-Some.line.now = record { within = t.0; is = t.1 } in
    let turn : Turn (lines_of c.args.bytes.now) (length c.loop-line.yielded) (filed c.loop-line.files) c.in-Some.line.now (filed c.read.new.self) = record { next = next; good = c.in_ok-has_words.ensures.good; is = c.in_ok-has_words.ensures.pairs } in
    record {
      number = omega (arith, length_push c.loop-line.yielded c.in-Some.line, c.loop-line.invariant.number);
      sound = c.in_ok-go_on.ensures.sound;
      reads = subst (λ (k : ℕ). Reads (lines_of c.args.bytes.now) k (filed c.go_on.new.self)) (sym (length_push c.loop-line.yielded c.in-Some.line))
          (turn-on (lines_of c.args.bytes.now) (length c.loop-line.yielded) c.in-Some.line.now (filed c.loop-line.files) (filed c.read.new.self) _ c.loop-line.invariant.reads turn c.in_default.ensures (sym c.in_ok-has_words.ensures.some ∙ c.if-not-has_words.false) (sym c.is_indented.ensures ∙ c.if-is_indented.true) c.in_ok-go_on.ensures.ok);
    }

pub loop-line-preserved : goal.loop-line-preserved
loop-line-preserved c =
    let t = YieldsList-turn (YieldsList-from_slice_split {s = c.into_iter-line-iterator.result} _ is_newline c.args.bytes.now (cc) (cc) (cc) (λ x r q k. search (rules, tests))) c.loop-line.yielded _ c.loop-line.yielded_by _ _ c.in-Some.line c.in-Some.is c.next.ensures.steps in
    let next : Next (lines_of c.args.bytes.now) (length c.loop-line.yielded) c.in-Some.line.now = record { within = t.0; is = t.1 } in
    let turn : Turn (lines_of c.args.bytes.now) (length c.loop-line.yielded) (filed c.loop-line.files) c.in-Some.line.now (filed c.read.new.self) = record { next = next; good = c.in_ok-has_words.ensures.good; is = c.in_ok-has_words.ensures.pairs } in
    record {
      number = omega (arith, length_push c.loop-line.yielded c.in-Some.line, c.loop-line.invariant.number);
      sound = c.in_ok-start.ensures.sound;
      reads = subst (λ (k : ℕ). Reads (lines_of c.args.bytes.now) k (filed c.start.new.self)) (sym (length_push c.loop-line.yielded c.in-Some.line))
          (turn-start (lines_of c.args.bytes.now) (length c.loop-line.yielded) c.in-Some.line.now (filed c.loop-line.files) (filed c.read.new.self) _ c.loop-line.invariant.reads turn c.in_default.ensures (sym c.in_ok-has_words.ensures.some ∙ c.if-not-has_words.false) (sym c.is_indented.ensures ∙ c.if-is_indented.false) c.in_ok-start.ensures.ok);
    }

pub finish-requires-clause-pairs : goal.finish-requires-clause-pairs
finish-requires-clause-pairs c =
    c.loop-line.invariant.reads.pairs

pub returns-clause-good : goal.returns-clause-good
returns-clause-good c =
    let t = YieldsList-end (YieldsList-from_slice_split {s = c.into_iter-line-iterator.result} _ is_newline c.args.bytes.now (cc) (cc) (cc) (λ x r q k. search (rules, tests))) c.loop-line.yielded _ c.loop-line.yielded_by _ _ c.in-None.is c.next.ensures.steps in
    let all = turns-end (lines_of c.args.bytes.now) (length c.loop-line.yielded) (filed c.loop-line.files) _ c.loop-line.invariant.reads t.1 c.in_ok-finish.ensures.files in
    all.0

pub returns-clause-ok : goal.returns-clause-ok
returns-clause-ok c =
    let t = YieldsList-end (YieldsList-from_slice_split {s = c.into_iter-line-iterator.result} _ is_newline c.args.bytes.now (cc) (cc) (cc) (λ x r q k. search (rules, tests))) c.loop-line.yielded _ c.loop-line.yielded_by _ _ c.in-None.is c.next.ensures.steps in
    let all = turns-end (lines_of c.args.bytes.now) (length c.loop-line.yielded) (filed c.loop-line.files) _ c.loop-line.invariant.reads t.1 c.in_ok-finish.ensures.files in
    reading-is c.args.bytes.now all.0 ∙ ap (λ (db : List (List (List NdbPair))). Some db) (sym (c.in_ok-choose.ensures (local_file (lines_of c.args.bytes.now)) (named_files (lines_of c.args.bytes.now)) all.1))

pub returns-clause-spelled : goal.returns-clause-spelled
returns-clause-spelled c =
    let t = YieldsList-end (YieldsList-from_slice_split {s = c.into_iter-line-iterator.result} _ is_newline c.args.bytes.now (cc) (cc) (cc) (λ x r q k. search (rules, tests))) c.loop-line.yielded _ c.loop-line.yielded_by _ _ c.in-None.is c.next.ensures.steps in
    let all = turns-end (lines_of c.args.bytes.now) (length c.loop-line.yielded) (filed c.loop-line.files) _ c.loop-line.invariant.reads t.1 c.in_ok-finish.ensures.files in
    subst (λ (db : List (List (List NdbPair))). ReadsBundle (lines_of c.args.bytes.now) db) (sym (c.in_ok-choose.ensures (local_file (lines_of c.args.bytes.now)) (named_files (lines_of c.args.bytes.now)) all.1))
    (bundle-is-spelled c.args.bytes.now all.0)

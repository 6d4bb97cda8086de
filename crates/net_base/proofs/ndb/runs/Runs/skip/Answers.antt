use Rattle.std.proofs.Common.{ℕ, List, ap, ◌∙◌, arith, length}
use Rattle.net_base.specs.declared.ndb.runs.Mark.{Mark}
use Rattle.net_base.specs.Parts.{start_at, ends_lowered}
use Rattle.net_base.specs.Store.{value_at, marks_lowered}
use Rattle.net_base.proofs.Skipped.{start-within, value-within, skipped-sound, skipped-whole, skipped-tuples}
use Rattle.net_base.proofs.ndb.runs.Runs.skip.Goals as goal

pub begin_of-pairs-requires : goal.begin_of-pairs-requires
begin_of-pairs-requires c = omega (arith, c.begin_of-lines.ensures, ap (λ (es : List ℕ). start_at 0 es c.args.count) c.deref.ensures.value, start-within c.args.count c.args.self.now.tuples.items (length c.args.self.now.lines.items) c.requires.sound.tuples, ap (λ (es : List ℕ). length es) c.deref-2.ensures.value)

pub value_begin-bytes-requires : goal.value_begin-bytes-requires
value_begin-bytes-requires c = omega (arith, c.begin_of-pairs.ensures, ap (λ (es : List ℕ). start_at 0 es c.begin_of-lines.result) c.deref-2.ensures.value, start-within c.begin_of-lines.result c.args.self.now.lines.items (length c.args.self.now.pairs.items) c.requires.sound.lines, ap (λ (ms : List Mark). length ms) c.deref-3.ensures.value)

pub drop_first-requires-2 : goal.drop_first-requires-2
drop_first-requires-2 c = omega (arith, c.begin_of-lines.ensures, ap (λ (es : List ℕ). start_at 0 es c.args.count) c.deref.ensures.value, start-within c.args.count c.args.self.now.tuples.items (length c.args.self.now.lines.items) c.requires.sound.tuples)

pub drop_first-requires-3 : goal.drop_first-requires-3
drop_first-requires-3 c = omega (arith, c.begin_of-pairs.ensures, ap (λ (es : List ℕ). start_at 0 es c.begin_of-lines.result) c.deref-2.ensures.value, start-within c.begin_of-lines.result c.args.self.now.lines.items (length c.args.self.now.pairs.items) c.requires.sound.lines)

pub drop_first-requires-4 : goal.drop_first-requires-4
drop_first-requires-4 c = omega (arith, c.value_begin-bytes.ensures, ap (λ (ms : List Mark). value_at 0 ms c.begin_of-pairs.result) c.deref-3.ensures.value, value-within c.begin_of-pairs.result c.args.self.now.pairs.items (length c.args.self.now.bytes.items) c.requires.sound.bytes)

pub returns-clause-sound : goal.returns-clause-sound
returns-clause-sound c =
    skipped-sound c.args.count c.begin_of-lines.result c.begin_of-pairs.result c.value_begin-bytes.result c.args.self.now (record { bytes = c.drop_first-4.new.list; pairs = c.lower_marks.new.marks; lines = c.lower-2.new.ends; tuples = c.lower.new.ends }) c.requires.sound
    record {
      lines_is = c.begin_of-lines.ensures ∙ ap (λ (es : List ℕ). start_at 0 es c.args.count) c.deref.ensures.value;
      pairs_is = c.begin_of-pairs.ensures ∙ ap (λ (es : List ℕ). start_at 0 es c.begin_of-lines.result) c.deref-2.ensures.value;
      bytes_is = c.value_begin-bytes.ensures ∙ ap (λ (ms : List Mark). value_at 0 ms c.begin_of-pairs.result) c.deref-3.ensures.value;
      tuples_left = c.lower.ensures ∙ ap (ends_lowered c.begin_of-lines.result) c.drop_first.ensures;
      lines_left = c.lower-2.ensures ∙ ap (ends_lowered c.begin_of-pairs.result) c.drop_first-2.ensures;
      pairs_left = c.lower_marks.ensures ∙ ap (marks_lowered c.value_begin-bytes.result) c.drop_first-3.ensures;
      bytes_left = c.drop_first-4.ensures;
    }

pub returns-clause-whole : goal.returns-clause-whole
returns-clause-whole c =
    skipped-whole c.args.count c.begin_of-lines.result c.begin_of-pairs.result c.value_begin-bytes.result c.args.self.now (record { bytes = c.drop_first-4.new.list; pairs = c.lower_marks.new.marks; lines = c.lower-2.new.ends; tuples = c.lower.new.ends }) c.requires.sound
    record {
      lines_is = c.begin_of-lines.ensures ∙ ap (λ (es : List ℕ). start_at 0 es c.args.count) c.deref.ensures.value;
      pairs_is = c.begin_of-pairs.ensures ∙ ap (λ (es : List ℕ). start_at 0 es c.begin_of-lines.result) c.deref-2.ensures.value;
      bytes_is = c.value_begin-bytes.ensures ∙ ap (λ (ms : List Mark). value_at 0 ms c.begin_of-pairs.result) c.deref-3.ensures.value;
      tuples_left = c.lower.ensures ∙ ap (ends_lowered c.begin_of-lines.result) c.drop_first.ensures;
      lines_left = c.lower-2.ensures ∙ ap (ends_lowered c.begin_of-pairs.result) c.drop_first-2.ensures;
      pairs_left = c.lower_marks.ensures ∙ ap (marks_lowered c.value_begin-bytes.result) c.drop_first-3.ensures;
      bytes_left = c.drop_first-4.ensures;
    }
    c.requires.whole

pub returns-clause-rest : goal.returns-clause-rest
returns-clause-rest c =
    skipped-tuples c.args.count c.begin_of-lines.result c.begin_of-pairs.result c.value_begin-bytes.result c.args.self.now (record { bytes = c.drop_first-4.new.list; pairs = c.lower_marks.new.marks; lines = c.lower-2.new.ends; tuples = c.lower.new.ends }) c.requires.sound
    record {
      lines_is = c.begin_of-lines.ensures ∙ ap (λ (es : List ℕ). start_at 0 es c.args.count) c.deref.ensures.value;
      pairs_is = c.begin_of-pairs.ensures ∙ ap (λ (es : List ℕ). start_at 0 es c.begin_of-lines.result) c.deref-2.ensures.value;
      bytes_is = c.value_begin-bytes.ensures ∙ ap (λ (ms : List Mark). value_at 0 ms c.begin_of-pairs.result) c.deref-3.ensures.value;
      tuples_left = c.lower.ensures ∙ ap (ends_lowered c.begin_of-lines.result) c.drop_first.ensures;
      lines_left = c.lower-2.ensures ∙ ap (ends_lowered c.begin_of-pairs.result) c.drop_first-2.ensures;
      pairs_left = c.lower_marks.ensures ∙ ap (marks_lowered c.value_begin-bytes.result) c.drop_first-3.ensures;
      bytes_left = c.drop_first-4.ensures;
    }

use Rattle.std.proofs.Common.{ℕ, take, ap, ◌∙◌}
use Rattle.net_base.specs.Parts.{last_end}
use Rattle.net_base.specs.Store.{last_value}
use Rattle.net_base.proofs.Kept.{kept-sound, kept-whole, tuples-kept}
use Rattle.net_base.proofs.ndb.runs.Runs.truncate.Goals as goal

pub returns-clause-sound : goal.returns-clause-sound
returns-clause-sound c =
    kept-sound c.args.count c.args.self.now (record { bytes = c.truncate-4.new.self; pairs = c.truncate-3.new.self; lines = c.truncate-2.new.self; tuples = c.truncate.new.self }) c.requires.sound
    record {
      tuples = c.truncate.ensures.items;
      lines = c.truncate-2.ensures.items ∙ ap (λ (n : ℕ). take n c.args.self.now.lines.items) (c.end_of.ensures ∙ ap (last_end 0) c.deref.ensures.value);
      pairs = c.truncate-3.ensures.items ∙ ap (λ (n : ℕ). take n c.args.self.now.pairs.items) (c.end_of-2.ensures ∙ ap (last_end 0) c.deref-2.ensures.value);
      bytes = c.truncate-4.ensures.items ∙ ap (λ (n : ℕ). take n c.args.self.now.bytes.items) (c.value_end.ensures ∙ ap (last_value 0) c.deref-3.ensures.value);
    }

pub returns-clause-whole : goal.returns-clause-whole
returns-clause-whole c =
    kept-whole c.args.count c.args.self.now (record { bytes = c.truncate-4.new.self; pairs = c.truncate-3.new.self; lines = c.truncate-2.new.self; tuples = c.truncate.new.self }) c.requires.sound
    record {
      tuples = c.truncate.ensures.items;
      lines = c.truncate-2.ensures.items ∙ ap (λ (n : ℕ). take n c.args.self.now.lines.items) (c.end_of.ensures ∙ ap (last_end 0) c.deref.ensures.value);
      pairs = c.truncate-3.ensures.items ∙ ap (λ (n : ℕ). take n c.args.self.now.pairs.items) (c.end_of-2.ensures ∙ ap (last_end 0) c.deref-2.ensures.value);
      bytes = c.truncate-4.ensures.items ∙ ap (λ (n : ℕ). take n c.args.self.now.bytes.items) (c.value_end.ensures ∙ ap (last_value 0) c.deref-3.ensures.value);
    }

pub returns-clause-kept : goal.returns-clause-kept
returns-clause-kept c =
    tuples-kept c.args.count c.args.self.now (record { bytes = c.truncate-4.new.self; pairs = c.truncate-3.new.self; lines = c.truncate-2.new.self; tuples = c.truncate.new.self }) c.requires.sound
    record {
      tuples = c.truncate.ensures.items;
      lines = c.truncate-2.ensures.items ∙ ap (λ (n : ℕ). take n c.args.self.now.lines.items) (c.end_of.ensures ∙ ap (last_end 0) c.deref.ensures.value);
      pairs = c.truncate-3.ensures.items ∙ ap (λ (n : ℕ). take n c.args.self.now.pairs.items) (c.end_of-2.ensures ∙ ap (last_end 0) c.deref-2.ensures.value);
      bytes = c.truncate-4.ensures.items ∙ ap (λ (n : ℕ). take n c.args.self.now.bytes.items) (c.value_end.ensures ∙ ap (last_value 0) c.deref-3.ensures.value);
    }

-- Layouts of fields: how the values are read, how they are spelled, and which have a spelling.
use Rattle.std.proofs.Common.{◌≡◌, ℕ, Bool, true, false, cond, List, ◌++◌, Some, refl, inl, inr, ◌⊎◌}
use Rattle.net_base.specs.declared.ninep.Qid.{Qid}
use Rattle.net_base.specs.NinepFields.{number_bytes, counted, string, qid, many, Holds, Counts, IsQid, AreFew}
use Rattle.net_base.specs.NinepReading.{Reader, both, making, number_at, counted_at, qid_at, many_at}
use Rattle.ninep_wire.proofs.Laws.{Reads, both_reads, making_again, reads_1, reads_2, reads_4, reads_8, string_reads, data_reads, qid_reads, many_reads}

pub record Layout (A : Type 0) : Type 1 where
  pub read : Reader A
  pub spell : A → List ℕ
  pub Is : A → Type 0
  pub reads : Reads A read spell Is

-- ---- single fields

abbrev pub byte : Layout ℕ
byte = record { read = number_at 1; spell = number_bytes 1; Is = Holds 1; reads = reads_1 }

abbrev pub word : Layout ℕ
word = record { read = number_at 2; spell = number_bytes 2; Is = Holds 2; reads = reads_2 }

abbrev pub long : Layout ℕ
long = record { read = number_at 4; spell = number_bytes 4; Is = Holds 4; reads = reads_4 }

abbrev pub vast : Layout ℕ
vast = record { read = number_at 8; spell = number_bytes 8; Is = Holds 8; reads = reads_8 }

abbrev pub text : Layout (List ℕ)
text = record { read = counted_at 2; spell = string; Is = Counts 2; reads = string_reads }

abbrev pub counted_bytes : Layout (List ℕ)
counted_bytes = record { read = counted_at 4; spell = counted 4; Is = Counts 4; reads = data_reads }

abbrev pub texts : Layout (List (List ℕ))
texts = record { read = many_at (counted_at 2); spell = many string; Is = AreFew (Counts 2); reads = many_reads (counted_at 2) string (Counts 2) string_reads }

abbrev pub file : Layout Qid
file = record { read = qid_at; spell = qid; Is = IsQid; reads = qid_reads }

abbrev pub files : Layout (List Qid)
files = record { read = many_at qid_at; spell = many qid; Is = AreFew IsQid; reads = many_reads qid_at qid IsQid qid_reads }

-- ---- several

-- one behind another
abbrev pub followed : {A B : Type 0} → Layout A → Layout B → Layout (A × B)
followed f g = record {
  read = both f.read g.read;
  spell = λ x. f.spell x.0 ++ g.spell x.1;
  Is = λ x. f.Is x.0 × g.Is x.1;
  reads = both_reads f.read g.read f.spell g.spell f.Is g.Is f.reads g.reads;
}

-- what is made of a layout's values is made again of their spelling
pub layout_again : {A B : Type 0} (l : Layout A) (made : A → B) (x : A) (rest : List ℕ) → l.Is x → making l.read made (l.spell x ++ rest) ≡ Some (made x, rest)
layout_again l made x rest fits = making_again l.read made l.spell l.Is l.reads x rest fits

-- which way a test went
pub chosen : {A : Type 0} (b : Bool) (x y z : A) → cond b x y ≡ z → ((b ≡ true) × (x ≡ z)) ⊎ ((b ≡ false) × (y ≡ z))
chosen true x y z e = inl (refl, e)
chosen false x y z e = inr (refl, e)

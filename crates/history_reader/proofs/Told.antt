-- What an answer tells of a text, by what the text is read as.
use Rattle.std.proofs.Common.{◌≡◌, ℕ, ◌<◌, ◌^◌, List, length, sym, ap, ◌∙◌, Option}
use Rattle.std.specs.Prelude.{Result, Ok, Err, IfOk, IfErr}
use Rattle.net_base.specs.declared.history.Entry.{Entry}
use Rattle.history_reader.specs.declared.fault.LineError.{LineError}
use Rattle.history_reader.specs.declared.fault.LineError.TheVariants as error
use Rattle.history_reader.specs.LineReading.{Bad, TellsReading, Whole, reading_line}
use Rattle.history_reader.specs.Spelling.{IsBadText, SpellsHistory}
use Rattle.history_reader.specs.Told.{Refuses, Tells, TellsBad}
use Rattle.history_reader.proofs.Readings.{bad_read, bad_whole, cause_in, entries_in, line_in, read_bad, read_spelled, spelled_read, summary_in}

abbrev pub Answer : Type 0
Answer = Result (List Entry × Option (List ℕ)) LineError

pub found_by : (bytes : List ℕ) (r : Answer) → IfOk r (λ read. reading_line bytes ≡ Whole read.0 read.1) → IfOk r (λ read. SpellsHistory bytes read.0 read.1)
found_by bytes (Ok read) is = read_spelled bytes read.0 read.1 is
found_by bytes (Err e) is = tt

pub only_by : (bytes : List ℕ) (r : Answer) → length bytes < 2 ^ 64 → IfOk r (λ read. reading_line bytes ≡ Whole read.0 read.1) → IfErr r (λ e. TellsReading e (reading_line bytes))
    → (h : List Entry) (summary : Option (List ℕ)) → SpellsHistory bytes h summary → Tells h summary r
only_by bytes (Ok read) lt is told h summary spells =
    let same = sym is ∙ spelled_read bytes h summary lt spells in
    (ap entries_in same, ap summary_in same)
only_by bytes (Err error.Memory) lt is told h summary spells = tt
only_by bytes (Err (error.Bad line cause)) lt is told h summary spells = bad_whole line cause h summary (sym told ∙ spelled_read bytes h summary lt spells)

pub refused_by : (bytes : List ℕ) (r : Answer) → length bytes < 2 ^ 64 → IfErr r (λ e. TellsReading e (reading_line bytes)) → IfErr r (Refuses (IsBadText bytes))
refused_by bytes (Ok read) lt told = tt
refused_by bytes (Err error.Memory) lt told = tt
refused_by bytes (Err (error.Bad line cause)) lt told = read_bad bytes line cause lt told

pub bad_by : (bytes : List ℕ) (r : Answer) → length bytes < 2 ^ 64 → IfOk r (λ read. reading_line bytes ≡ Whole read.0 read.1) → IfErr r (λ e. TellsReading e (reading_line bytes))
    → (line cause : ℕ) → IsBadText bytes line cause → TellsBad line cause r
bad_by bytes (Ok read) lt is told line cause bad = bad_whole line cause read.0 read.1 (sym (bad_read bytes line cause lt bad) ∙ is)
bad_by bytes (Err error.Memory) lt is told line cause bad = tt
bad_by bytes (Err (error.Bad l c)) lt is told line cause bad =
    let same = sym told ∙ bad_read bytes line cause lt bad in
    (ap line_in same, ap cause_in same)

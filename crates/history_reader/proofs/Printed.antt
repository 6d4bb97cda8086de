-- What is printed of a history, by its text and its summary.
use Rattle.std.proofs.Common.{◌≡◌, ℕ, ◌<◌, ◌^◌, inl, inr, Bool, true, false, List, [], ◌∷◌, ◌++◌, length, Option, Some, None, refl, sym, ap, ◌∙◌, append-nil, append_assoc}
use Rattle.std.specs.Prelude.{codes, if◌then◌else◌}
use Rattle.std.specs.List.{concat}
use Rattle.net_base.specs.declared.history.Entry.{Entry}
use Rattle.net_base.specs.declared.world.World.{World}
use Rattle.net_base.specs.Calm.{done, limited, stopped}
use Rattle.net_base.specs.Net.{Net, after}
use Rattle.net_base.specs.Plain.{IsPlain}
use Rattle.net_base.specs.Summary.{all_steps, answered_steps, both_line, end_line, end_word, steps_line, summary, totals}
use Rattle.net_base.specs.Transcript.{history_text}
use Rattle.history_reader.specs.Spelling.{IsBadText, IsSummary, SpellsHistory}
use Rattle.history_reader.specs.SummaryText.{IsEndWord}
use Rattle.history_reader.specs.Wide.{IsWide}
use Rattle.history_reader.proofs.Readings.{bad_read, bad_whole, entries_in, spelled_read, summary_in}

-- the four ends of a run
end_words : (w : World) (net : Net) → IsEndWord (end_word w net)
end_words w net = by (done w net) (stopped w net) (limited w net)
  where
    by : (d s l : Bool) → IsEndWord (if d then codes "done" else (if s then codes "stopped" else (if l then codes "limit" else codes "unfinished")))
    by true s l = inl refl
    by false true l = inr (inl refl)
    by false false true = inr (inr (inl refl))
    by false false false = inr (inr (inr refl))

-- four lines, the middle two of which stand together, are the lines one after the other
joined : (a m b e : List ℕ) → (a ++ (m ++ b)) ++ e ≡ concat (a ∷ m ∷ b ∷ e ∷ [])
joined a m b e = simp (append_assoc, append-nil) refl

pub four_lines : (w : World) (h : List Entry) → IsSummary (summary w h)
four_lines w h =
    let t = totals h in
    let net = after w h in (
      steps_line (answered_steps w h) (all_steps w) ∷ both_line (codes "messages") t.written t.read ∷ both_line (codes "bytes") t.bytes_written t.bytes_read ∷ end_line (end_word w net) net.moment ∷ [],
      refl,
      ((answered_steps w h, all_steps w, refl), ((t.written, t.read, refl), ((t.bytes_written, t.bytes_read, refl), ((end_word w net, net.moment, end_words w net, refl), tt)))),
      joined (steps_line (answered_steps w h) (all_steps w)) (both_line (codes "messages") t.written t.read) (both_line (codes "bytes") t.bytes_written t.bytes_read) (end_line (end_word w net) net.moment),
    )

pub spells_alone : (h : List Entry) → IsWide h → IsPlain h → SpellsHistory (history_text h) h None
spells_alone h wide plain = record { plain = plain; wide = wide; spelled = ([], sym (append-nil (history_text h)), refl) }

pub spells_summed : (h : List Entry) → IsWide h → (w : World) → IsPlain h → SpellsHistory (history_text h ++ summary w h) h (Some (summary w h))
spells_summed h wide w plain = record { plain = plain; wide = wide; spelled = (summary w h, refl, (refl, four_lines w h)) }

pub one_history : (bytes : List ℕ) (h k : List Entry) (s t : Option (List ℕ)) → length bytes < 2 ^ 64 → SpellsHistory bytes h s → SpellsHistory bytes k t → (k ≡ h) × (t ≡ s)
one_history bytes h k s t lt first second =
    let same = sym (spelled_read bytes k t lt second) ∙ spelled_read bytes h s lt first in
    (ap entries_in same, ap summary_in same)

pub none_bad : (bytes : List ℕ) (h : List Entry) (s : Option (List ℕ)) (line cause : ℕ) → length bytes < 2 ^ 64 → SpellsHistory bytes h s → IsBadText bytes line cause → ⊥
none_bad bytes h s line cause lt spells bad = bad_whole line cause h s (sym (bad_read bytes line cause lt bad) ∙ spelled_read bytes h s lt spells)

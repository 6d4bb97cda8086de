-- A world's text and what is printed of a history of it hand in that world, that history and its summary.
use Rattle.std.proofs.Common.{◌≡◌, ℕ, ◌<◌, ◌^◌, List, [], ◌∷◌, ◌++◌, length, Option, Some, Ok, refl}
use Rattle.net_base.specs.declared.history.Entry.{Entry}
use Rattle.net_base.specs.declared.world.World.{World}
use Rattle.net_base.specs.Plain.{IsPlain}
use Rattle.net_base.specs.Summary.{summary}
use Rattle.net_base.specs.Transcript.{history_text}
use Rattle.history_reader.specs.Spelling.{IsBadText, IsSummary, SpellsHistory}
use Rattle.history_reader.specs.Wide.{IsWide}
use Rattle.world_text.specs.WorldSpelling.{IsWorldText}
use Rattle.world_text.specs.WorldText.{world_reading}
use Rattle.netcheck.specs.Input.{with_printed}
use Rattle.netcheck.specs.Told.{HandsIn}
use Rattle.netcheck.proofs.Handing.{hands_in}
use Rattle.netcheck.proofs.Marks.{printed_parts}

abbrev pub IsRead : Type 0
IsRead = (text : List ℕ) (w : World) → IsWorldText text w → world_reading text ≡ Ok w

abbrev pub AreFourLines : Type 0
AreFourLines = (w : World) (h : List Entry) → IsSummary (summary w h)

abbrev pub SpellOne : Type 0
SpellOne =
    (bytes : List ℕ) (h k : List Entry) (s t : Option (List ℕ)) → length bytes < 2 ^ 64
    → SpellsHistory bytes h s → SpellsHistory bytes k t → (k ≡ h) × (t ≡ s)

abbrev pub HaveNoBadLine : Type 0
HaveNoBadLine =
    (bytes : List ℕ) (h : List Entry) (s : Option (List ℕ)) (line cause : ℕ) → length bytes < 2 ^ 64
    → SpellsHistory bytes h s → IsBadText bytes line cause → ⊥

pub printed_hands_in : IsRead → AreFourLines → SpellOne → HaveNoBadLine → (w : World) (h : List Entry) (text : List ℕ)
    → IsWorldText (text ++ 10 ∷ []) w → IsWide h → IsPlain h → length (history_text h ++ summary w h) < 2 ^ 64
    → HandsIn (with_printed (text ++ 10 ∷ []) (history_text h ++ summary w h)) w h (Some (summary w h))
printed_hands_in read four one none w h text says wide plain short =
    let printed = history_text h ++ summary w h in
    let is = read (text ++ 10 ∷ []) w says in
    let parts = printed_parts text printed w is in
    let spells : SpellsHistory printed h (Some (summary w h)) = record { plain = plain; wide = wide; spelled = (summary w h, refl, (refl, four w h)) } in
    hands_in (with_printed (text ++ 10 ∷ []) printed) (record { world = text ++ 10 ∷ []; lines = parts.0; history = printed }) w (Ok (h, Some (summary w h))) parts.1 is
    (λ k t other. one printed k h t (Some (summary w h)) short other spells)
    (λ line cause bad. none printed h (Some (summary w h)) line cause short spells bad)
    (h, Some (summary w h)) says.world refl spells

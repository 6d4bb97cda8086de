-- Every step gives its reply twice.
use Rattle.std.proofs.Common.{◌≡◌, ℕ, Option, Some, refl, subst}
use Rattle.std.specs.Prelude.{IfSome}
use Rattle.net_base.specs.declared.actor.ActorName.{ActorName}
use Rattle.net_base.specs.declared.address.Proto.{Proto}
use Rattle.net_base.specs.declared.event.Event.{Event}
use Rattle.net_base.specs.declared.history.Outcome.{Outcome}
use Rattle.net_base.specs.declared.history.With.{With}
use Rattle.net_base.specs.declared.history.Work.{Work}
use Rattle.net_base.specs.declared.world.MediumSpec.{MediumSpec}
use Rattle.net_base.specs.declared.world.World.{World}
use Rattle.net_base.specs.ActorStep.{Step}
use Rattle.net_base.specs.Actors.{Actor, table_step}
use Rattle.net_base.specs.Conversation.{Conv, conv_step}
use Rattle.net_base.specs.Directory.{Dir}
use Rattle.net_base.specs.Medium.{Medium}
use Rattle.history_laws.specs.ActorRows.{ActorRow, AtDesk, AtDir, AtConv, AtMedium, AtClock, MediumRow, NoStation}
use Rattle.history_laws.specs.ConvRows.{ConvRow}
use Rattle.history_laws.specs.ConvRows as conv_row
use Rattle.history_laws.specs.DirRows.{DirRow}
use Rattle.history_laws.specs.DirRows as dir_row
use Rattle.history_laws.proofs.ActorTable.{table_rows}
use Rattle.history_laws.proofs.ConvTable.{conv_rows, map_some}

-- the reply stands there twice
abbrev Copies : {S : Type 0} → Step S → Type 0
Copies s = s.outcome.copy ≡ Some s.outcome.reply

conv_row_copies : (slot now : ℕ) (c : Conv) (e : Event) (gift : With) (s : Step Conv) → ConvRow slot now c e gift s → Copies s
conv_row_copies slot now c e gift s (conv_row.Stale names old) = refl
conv_row_copies slot now c e gift s _ = refl

dir_row_copies : (w : World) (h : ℕ) (p : Proto) (d : Dir) (e : Event) (gift : With) (s : Step Dir) → DirRow w h p d e gift s → Copies s
dir_row_copies w h p d e gift s (dir_row.Stale names at other) = refl
dir_row_copies w h p d e gift s _ = refl

medium_row_copies : (spec : MediumSpec) (seed : ℕ) (m : Medium) (e : Event) (gift : With) (s : Step Medium) → MediumRow spec seed m e gift s → Copies s
medium_row_copies spec seed m e gift s NoStation = refl
medium_row_copies spec seed m e gift s _ = refl

row_copies : (w : World) (now : ℕ) (a : ActorName) (s : Actor) (e : Event) (gift : With) (t : Step Actor) → ActorRow w now a s e gift t → Copies t
row_copies w now a s e gift t (AtDesk there row) = refl
row_copies w now a s e gift t (AtDir {h = h} {p = p} {d = d} {s = x} row) = dir_row_copies w h p d e gift x row
row_copies w now a s e gift t (AtConv {n = n} {c = c} {s = x} row) = conv_row_copies n now c e gift x row
row_copies w now a s e gift t (AtMedium {spec = spec} {m = m} {s = x} there row) = medium_row_copies spec w.seed m e gift x row
row_copies w now a s e gift t AtClock = refl

-- a step that is this one
copied : {S : Type 0} (t : Option (Step S)) (s : S) (o : Outcome) → IfSome t (λ (x : Step S). Copies x) → t ≡ Some (record { state = s; outcome = o })
    → o.copy ≡ Some o.reply
copied {S} t s o copies is = subst (λ (u : Option (Step S)). IfSome u (λ (x : Step S). Copies x)) is copies

-- a conversation's outcome
pub conv_copies : (slot now : ℕ) (c after : Conv) (e : Event) (gift : With) (o : Outcome) → conv_step slot e gift now c ≡ Some (record { state = after; outcome = o })
    → o.copy ≡ Some o.reply
conv_copies slot now c after e gift o is =
    copied (conv_step slot e gift now c) after o (map_some (conv_step slot e gift now c) _ _ (conv_rows slot now c e gift) (conv_row_copies slot now c e gift)) is

-- any actor's
pub table_copies : (w : World) (a : ActorName) (s after : Actor) (now : ℕ) (work : Work) (o : Outcome)
    → table_step w a s now work ≡ Some (record { state = after; outcome = o }) → o.copy ≡ Some o.reply
table_copies w a s after now work o is =
    copied (table_step w a s now work) after o
    (map_some (table_step w a s now work) _ _ (table_rows w now a s work) (row_copies w now a s work.event work.with)) is

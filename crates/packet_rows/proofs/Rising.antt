-- Rows are sorted by stamps, and an entry has one at most.
use Rattle.std.proofs.Common.{◌≡◌, ℕ, suc, ◌+◌, ◌≤◌, Bool, true, false, List, [], ◌∷◌, ◌++◌, length, Option, Some, None, refl, ap, sym, subst, ◌∙◌, append_assoc, arith}
use Rattle.std.specs.Prelude.{if◌then◌else◌, nat_le}
use Rattle.std.proofs.lemmas.List.{append-nil}
use Rattle.net_base.specs.declared.history.Entry.{Entry}
use Rattle.net_base.specs.declared.world.World.{World}
use Rattle.packet_rows.specs.declared.deed.Deed.{Deed}
use Rattle.packet_rows.specs.declared.deed.Deed.TheVariants.{Put, Took, Sent, Nothing}
use Rattle.packet_rows.specs.declared.deed.Fate.{Fate}
use Rattle.packet_rows.specs.declared.frame.LaidPacket.{LaidPacket}
use Rattle.packet_rows.specs.declared.frame.Passage.{Passage}
use Rattle.packet_rows.specs.declared.row.Row.{Row}
use Rattle.packet_rows.specs.Deeds.{deed_of}
use Rattle.packet_rows.specs.Facts.{facts_with}
use Rattle.packet_rows.specs.Laws.{RiseWithin}
use Rattle.packet_rows.specs.PacketRows.{packet_rows}
use Rattle.packet_rows.specs.Passages.{Packets, packet_in, passage_of}
use Rattle.packet_rows.specs.Past.{Past, no_past, past_after, past_from, with_row}
use Rattle.packet_rows.specs.Rows.{dropped_row, put_row, row_at_station, row_by, row_of}

none_some : (r : Row) → None ≡ Some r → ⊥
none_some r is = cc

some_is : (q r : Row) → Some q ≡ Some r → q ≡ r
some_is q r is = cc

-- The stamp of a row.

put_stamp : (s m : ℕ) (to : Option ℕ) (f : Fate) (o : Option Passage) (r : Row) → put_row s m to f o ≡ Some r → r.stamp ≡ s
put_stamp s m to f None r is = absurd (none_some r is)
put_stamp s m to f (Some p) r is = ap (λ (q : Row). q.stamp) (sym (some_is (record { stamp = s; fate = f; medium = Some m; to = to; passage = p }) r is))

dropped_stamp : (s : ℕ) (o : Option Fate) (p : Passage) (r : Row) → dropped_row s o p ≡ Some r → r.stamp ≡ s
dropped_stamp s None p r is = absurd (none_some r is)
dropped_stamp s (Some f) p r is = ap (λ (q : Row). q.stamp) (sym (some_is (record { stamp = s; fate = f; medium = None; to = None; passage = p }) r is))

station_stamp : (w : World) (s : ℕ) (o : Option LaidPacket) (r : Row) → row_at_station w s o ≡ Some r → r.stamp ≡ s
station_stamp w s None r is = absurd (none_some r is)
station_stamp w s (Some f) r is = dropped_stamp s _ _ r is

row_stamp : (w : World) (h : List Entry) (frames : Packets) (s : ℕ) (cites : Option ℕ) (d : Deed) (r : Row) → row_by w h frames s cites d ≡ Some r → r.stamp ≡ s
row_stamp w h frames s cites (Put m to f) r is = put_stamp s m to f (passage_of h frames cites) r is
row_stamp w h frames s cites (Took m k) r is = station_stamp w s (packet_in frames (m, k)) r is
row_stamp w h frames s cites (Sent host header) r is = dropped_stamp s _ _ r is
row_stamp w h frames s cites Nothing r is = absurd (none_some r is)

-- Rows in order.

from_below : (low lower high : ℕ) (rs : List Row) → lower ≤ low → RiseWithin low rs high → RiseWithin lower rs high
from_below low lower high [] le rise = omega (arith, le, rise)
from_below low lower high (r ∷ rs) le rise = let first = rise.0 in (omega (arith, le, first), rise.1)

-- the rows that come after those so far
pub record Adds (before after : List Row) (low high : ℕ) : Type 0 where
  pub rows : List Row
  pub all : after ≡ before ++ rows
  pub rise : RiseWithin low rows high

adds_row : (before after : List Row) (r : Row) (s high : ℕ) → r.stamp ≡ s → Adds (before ++ r ∷ []) after (s + 1) high → Adds before after s high
adds_row before after r s high is more = record {
  rows = r ∷ more.rows;
  all = more.all ∙ append_assoc before (r ∷ []) more.rows;
  rise = (omega (arith, is), subst (λ (k : ℕ). RiseWithin (k + 1) more.rows high) (sym is) more.rise);
}

adds_none : (before after : List Row) (s high : ℕ) → Adds before after (s + 1) high → Adds before after s high
adds_none before after s high more = record {
  rows = more.rows;
  all = more.all;
  rise = from_below (s + 1) s high more.rows (omega arith) more.rise;
}

adds_by : (past : Past) (after : List Row) (s high : ℕ) (o : Option Row) → ((r : Row) → o ≡ Some r → r.stamp ≡ s)
    → Adds (with_row past o).rows after (s + 1) high → Adds past.rows after s high
adds_by past after s high None stamp more = adds_none past.rows after s high more
adds_by past after s high (Some r) stamp more = adds_row past.rows after r s high (stamp r refl) more

adds_from : (w : World) (h : List Entry) (past : Past) (s : ℕ) (xs : List Entry) → Adds past.rows (past_from w h past s xs).rows s (s + length xs)
adds_from w h past s [] = record { rows = []; all = sym (append-nil past.rows); rise = omega arith }
adds_from w h past s (x ∷ xs) =
    adds_by (record past { facts = facts_with past.facts s x (passage_of h past.frames x.cites) }) (past_from w h past s (x ∷ xs)).rows s (s + length (x ∷ xs))
    (row_of w h past.frames s x) (row_stamp w h past.frames s x.cites (deed_of x))
    (subst (λ (high : ℕ). Adds (past_after w h past s x).rows (past_from w h past s (x ∷ xs)).rows (s + 1) high) (omega arith)
    (adds_from w h (past_after w h past s x) (s + 1) xs))

pub all_rise : (w : World) (h : List Entry) → RiseWithin 0 (packet_rows w h) (length h)
all_rise w h =
    let all = adds_from w h no_past 0 h in
    subst (λ (rs : List Row). RiseWithin 0 rs (length h)) (sym all.all) (subst (λ (high : ℕ). RiseWithin 0 all.rows high) (omega arith) all.rise)

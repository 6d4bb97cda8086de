-- The conversations at which a caller recorded something, after its turn.
use Rattle.std.proofs.Common.{◌≡◌, ℕ, suc, ◌+◌, ◌==◌, Bool, true, false, List, [], ◌∷◌, ◌++◌, length, Option, if◌then◌else◌, refl, ap, sym, subst, ◌∙◌, arith}
use mathlib.Core.List.{IsPrefix}
use Rattle.std.proofs.lemmas.List.{append-nil}
use Rattle.net_base.specs.declared.actor.ActorName.{ActorName}
use Rattle.net_base.specs.declared.actor.ActorName.TheVariants as name
use Rattle.net_base.specs.declared.history.Outcome.{Outcome}
use Rattle.net_base.specs.declared.history.Work.{Work}
use Rattle.net_base.specs.declared.noted.Noted.{Noted}
use Rattle.net_base.specs.declared.noted.Number.TheVariants as number
use Rattle.net_base.specs.declared.reply.Reply.{Reply}
use Rattle.net_base.specs.declared.world.World.{World}
use Rattle.net_base.specs.Duties.{Duty}
use Rattle.net_base.specs.Stamped.{at, at_from}
use Rattle.net_base.specs.Tasks.{Tasks}
use Rattle.journal.proofs.Shared.{prefix_trans}
use Rattle.journal.specs.declared.law.Roster.{Roster}
use Rattle.journal.specs.declared.tokens.Sight.{Sight}
use Rattle.locked.specs.Acts.{made, act_without_copy}
use Rattle.duties.proofs.Shared.{covers_other}
use Rattle.duties.specs.Marks.{Covers, Marks}
use Rattle.net_locks.specs.Guests.{IsGuest, GuestRecords, deed_at}
use Rattle.net_locks.specs.declared.turn.Turn.{Turn}
use Rattle.net_locks.specs.declared.turn.Turn.TheVariants as turn
use Rattle.net_locks.specs.Turns.{RecordedTurn, Turned, own_seen}
use Rattle.net_base.proofs.Shared.{number_itself}

-- the last entry is its caller's last
own_last : (n : ℕ) (past : List Noted) (x : Noted)
    → at_from (number.Caller x.entry.caller) n (past ++ x ∷ []) ≡ at_from (number.Caller x.entry.caller) n past ++ (n + length past, x) ∷ []
own_last n [] x =
    ap (λ (t : Bool). if t then (n, x) ∷ [] else []) (number_itself x.entry.caller) ∙ ap (λ (k : ℕ). (k, x) ∷ []) {x = n} {y = n + 0} (omega arith)
own_last n (y ∷ past) x = by_test (y.entry.caller == x.entry.caller) (own_last (n + 1) past x)
  where
    by_test : (t : Bool)
        → at_from (number.Caller x.entry.caller) (n + 1) (past ++ x ∷ []) ≡ at_from (number.Caller x.entry.caller) (n + 1) past ++ (n + 1 + length past, x) ∷ []
        → (if t
        then (n, y) ∷ at_from (number.Caller x.entry.caller) (n + 1) (past ++ x ∷ [])
        else at_from (number.Caller x.entry.caller) (n + 1) (past ++ x ∷ []))
        ≡ (if t then (n, y) ∷ at_from (number.Caller x.entry.caller) (n + 1) past else at_from (number.Caller x.entry.caller) (n + 1) past)
        ++ (n + suc (length past), x) ∷ []
    by_test true rest =
        ap (λ (l : List (ℕ × Noted)). (n, y) ∷ l)
        (rest ∙ ap (λ (k : ℕ). at_from (number.Caller x.entry.caller) (n + 1) past ++ (k, x) ∷ []) {x = n + 1 + length past} {y = n + suc (length past)} (omega arith))
    by_test false rest =
        rest ∙ ap (λ (k : ℕ). at_from (number.Caller x.entry.caller) (n + 1) past ++ (k, x) ∷ []) {x = n + 1 + length past} {y = n + suc (length past)} (omega arith)

own_more : (past : List Noted) (x : Noted) (stamp : ℕ) → length past ≡ stamp → (es : List (ℕ × Noted)) → at (number.Caller x.entry.caller) past ≡ es
    → at (number.Caller x.entry.caller) (past ++ x ∷ []) ≡ es ++ (stamp, x) ∷ []
own_more past x stamp at_stamp es alone =
    own_last 0 past x ∙ (ap (λ (l : List (ℕ × Noted)). l ++ (0 + length past, x) ∷ []) alone ∙ ap (λ (k : ℕ). es ++ (k, x) ∷ []) {x = 0 + length past} {y = stamp} (omega (arith, at_stamp)))

-- one that was noted
pub covers_noted : (w : World) (r : Roster) (c now : ℕ) (a : ActorName) (work : Work) (cites : Option ℕ) (p p' : Sight) (ds : List Duty) → IsGuest w r c p ds
    → (stamp : ℕ) (o : Outcome) → GuestRecords w r (deed_at a c now work cites) p stamp o p' → (noted_at : ActorName) → noted_at ≡ a → (m m' : Marks)
    → ((es : List (ℕ × Noted)) (x : Noted) → Covers es m → x.entry.actor ≡ noted_at → Covers (es ++ (stamp, x) ∷ []) m')
    → Covers (own_seen c p) m → Covers (own_seen c p') m'
covers_noted w r c now a work cites p p' ds g stamp o d noted_at is m m' notes covers =
    let x = made a c now work cites o in
    let grown : own_seen c p' ≡ own_seen c p ++ (stamp, x) ∷ [] =
    ap (at (number.Caller c)) d.seen ∙ own_more d.past x stamp d.stamp_is (own_seen c p) (d.lists (number.Caller c) g.list g.held ∙ sym g.all) in
    subst (λ (l : List (ℕ × Noted)). Covers l m') (sym grown) (notes (own_seen c p) x covers (sym is))

-- a move of the clock
pub covers_move : (ts : Tasks) (w : World) (c now : ℕ) (work : Work) (cites : Option ℕ) (p p' : Sight) (ds ds' : List Duty) (stamp : ℕ) (answer : Reply) (m : Marks)
    → RecordedTurn ts w (deed_at name.Clock c now work cites) p ds stamp answer p' ds' → Covers (own_seen c p) m → Covers (own_seen c p') m
covers_move ts w c now work cites p p' ds ds' stamp answer m rec covers =
    let x = made name.Clock c now work cites (act_without_copy rec.step.outcome) in
    let grown : own_seen c p' ≡ own_seen c p ++ (stamp, x) ∷ [] = ap (at (number.Caller c)) rec.seen ∙ own_more rec.past x stamp rec.stamp_is (own_seen c p) rec.alone in
    subst (λ (l : List (ℕ × Noted)). Covers l m) (sym grown) (covers_other (own_seen c p) x name.Clock stamp m covers refl refl)

-- What was seen is seen still.

grown_by : (p p' : Sight) (past : List Noted) (x : Noted) → IsPrefix p.seen past → p'.seen ≡ past ++ x ∷ [] → IsPrefix p.seen p'.seen
grown_by p p' past x before seen = prefix_trans p.seen past p'.seen before (x ∷ [], sym seen)

pub recorded_grows : (ts : Tasks) (w : World) (c now : ℕ) (a : ActorName) (work : Work) (cites : Option ℕ) (p p' : Sight) (ds ds' : List Duty) (stamp : ℕ) (answer : Reply)
    → RecordedTurn ts w (deed_at a c now work cites) p ds stamp answer p' ds' → IsPrefix p.seen p'.seen
recorded_grows ts w c now a work cites p p' ds ds' stamp answer rec =
    grown_by p p' rec.past (made a c now work cites (act_without_copy rec.step.outcome)) rec.before rec.seen

pub same_grows : (p p' : Sight) → p' ≡ p → IsPrefix p.seen p'.seen
same_grows p p' same = subst (λ (q : Sight). IsPrefix p.seen q.seen) (sym same) ([], append-nil p.seen)

pub turned_grows : (ts : Tasks) (w : World) (c now : ℕ) (a : ActorName) (work : Work) (cites : Option ℕ) (p p' : Sight) (ds ds' : List Duty) (t : Turn)
    → Turned ts w (deed_at a c now work cites) p ds t p' ds' → IsPrefix p.seen p'.seen
turned_grows ts w c now a work cites p p' ds ds' (turn.Recorded stamp answer) turned = recorded_grows ts w c now a work cites p p' ds ds' stamp answer turned
turned_grows ts w c now a work cites p p' ds ds' turn.NotReady turned = turned.0.stays.before
turned_grows ts w c now a work cites p p' ds ds' turn.Owes turned = absurd turned
turned_grows ts w c now a work cites p p' ds ds' turn.Limit turned = same_grows p p' turned.1
turned_grows ts w c now a work cites p p' ds ds' turn.Memory turned = same_grows p p' turned.1

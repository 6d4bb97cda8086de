-- A run with its entries, and its preemptions.
use Rattle.std.proofs.Common.{◌≡◌, ℕ, ◌+◌, ◌^◌, ◌<◌, ◌≤◌, List, [], ◌∷◌, ◌++◌, length, map, Option, Some, None, refl, sym, ap, subst, ◌∙◌, slice_get, arith}
use Rattle.std.proofs.lemmas.Option.{none-some, same_Some}
use Rattle.net_base.specs.declared.history.Entry.{Entry}
use Rattle.net_base.specs.declared.world.Script.{Script}
use Rattle.net_base.specs.declared.world.World.{World}
use Rattle.net_base.specs.Next.{finished_by, own_replies, zone_of}
use Rattle.plain_runner.specs.Tracks.{Grows, Tracks}
use Rattle.plain_runner.specs.declared.runner.Runner.{Runner}
use Rattle.turn_orders.specs.Preemptions.{cost, last_caller, preemptions}
use Rattle.order_search.specs.Marks.{AreMarks, blank_row, rows_with}
use Rattle.order_search.specs.Walks.{IsGoer, IsWalk}
use Rattle.order_search.specs.declared.walk.Walk.{Walk}
use Rattle.order_search.proofs.Marking.{marks_grow, marks_none}

-- a run without entries
pub opening : (w : World) (walk : Walk) → Tracks w walk.runner → walk.runner.history.entries ≡ [] → walk.history ≡ [] → walk.last ≡ None
    → walk.preemptions ≡ 0 → walk.marks ≡ map blank_row w.scripts → IsWalk w walk
opening w walk s none entries last count marks = record {
  tracks = s;
  history_is = entries ∙ sym none;
  last_is = ap last_caller none ∙ sym last;
  count_is = ap (preemptions w) none ∙ sym count;
  few = omega (arith, count);
  known = λ c is. absurd (none-some c (sym last ∙ is));
  marks = subst (λ (h : List Entry). AreMarks w h walk.marks) (sym none) (subst (AreMarks w []) (sym marks) (marks_none w));
}

-- What a turn adds.

abbrev pub EntriesCost : Type 0
EntriesCost = (w : World) (h : List Entry) (x : Entry) → preemptions w (h ++ x ∷ []) ≡ preemptions w h + cost w h x.caller

abbrev pub LastIsCaller : Type 0
LastIsCaller = (h : List Entry) (x : Entry) → last_caller (h ++ x ∷ []) ≡ Some x.caller

abbrev pub CostsOne : Type 0
CostsOne = (w : World) (h : List Entry) (c : ℕ) → cost w h c ≤ 1

-- the preemptions of a run are few enough to be counted on
pub fits : (w : World) (walk : Walk) (early c : ℕ) → IsWalk w walk → length walk.runner.history.entries < 2 ^ 30 → early ≡ cost w walk.runner.history.entries c
    → cost w walk.runner.history.entries c ≤ 1 → walk.preemptions + early < 2 ^ 64
fits w walk early c is short same one = omega (arith, is.few, short, same, one)

length_more : (h : List Entry) (x : Entry) → length (h ++ x ∷ []) ≡ length h + 1
length_more [] x = refl
length_more (y ∷ h) x = omega (arith, length_more h x)

pub walked : EntriesCost → LastIsCaller → CostsOne → (w : World) (old new : Walk) (c early : ℕ) (x : Entry) → IsWalk w old
    → IsGoer w old.runner.history.entries (length old.runner.callers.items) c → early ≡ cost w old.runner.history.entries c
    → Grows w old.runner new.runner c x → new.history ≡ old.history ++ x ∷ [] → new.last ≡ Some c → new.preemptions ≡ old.preemptions + early
    → (step stamp : ℕ) → ((v : World) (s : Script) → Tracks v old.runner → slice_get v.scripts c ≡ Some s
    → step ≡ finished_by (zone_of v) (own_replies old.runner.history.entries c) s)
    → stamp ≡ length old.history → new.marks ≡ rows_with old.marks x.cites c step stamp → IsWalk w new
walked costs lasts one w old new c early x is goer same g entries last count step stamp at stamp_is marks = record {
  tracks = g.tracks;
  history_is = entries ∙ (ap (λ (h : List Entry). h ++ x ∷ []) is.history_is ∙ sym g.history_is);
  last_is = ap last_caller g.history_is ∙ (lasts old.runner.history.entries x ∙ (ap Some g.caller_is ∙ sym last));
  count_is = ap (preemptions w) g.history_is ∙ (costs w old.runner.history.entries x ∙ more);
  few = omega (arith, is.few, count, same, one w old.runner.history.entries c, ap (λ (h : List Entry). length h) g.history_is, length_more old.runner.history.entries x);
  known = λ d there. omega (arith, same_Some d c (sym there ∙ last), goer.known, is.tracks.callers_are.count, g.tracks.callers_are.count);
  marks =
      subst (λ (h : List Entry). AreMarks w h new.marks) (sym g.history_is)
      (subst (AreMarks w (old.runner.history.entries ++ x ∷ [])) (sym marks)
      (marks_grow w old.runner.history.entries old.marks x c step stamp is.marks g.caller_is (stamp_is ∙ ap (λ (h : List Entry). length h) is.history_is)
      (λ s there. at w s is.tracks there)));
}
  where
    more : preemptions w old.runner.history.entries + cost w old.runner.history.entries x.caller ≡ new.preemptions
    more =
        ap (λ (n : ℕ). n + cost w old.runner.history.entries x.caller) is.count_is
        ∙ (ap (λ (d : ℕ). old.preemptions + cost w old.runner.history.entries d) g.caller_is ∙ (ap (λ (n : ℕ). old.preemptions + n) (sym same) ∙ sym count))

-- Names by runs of labels are those that the grammar spells.
use Rattle.std.proofs.Common.{◌≡◌, ℕ, ◌+◌, ◌-◌, ◌^◌, ◌<◌, ◌≤◌, Bool, true, cond, List, [], ◌∷◌, ◌++◌, length, get_or, take, drop, Option, Some, None, refl, sym, ap, ◌∙◌, arith, subst, append-nil, append_assoc, length-append}
use Rattle.std.specs.Prelude.{nat_lt, nat_le, option_and_then}
use Rattle.std.specs.List.{list_all}
use Rattle.std.proofs.lemmas.Bool.{and_parts, and_from, lt-ltb, le-leb, ltb-true, leb-true}
use Rattle.std.proofs.lemmas.List.{take_at, take-append-drop, length-drop, get_or-drop, get_or-append-add}
use Rattle.std.proofs.lemmas.List.Folds.{list_all-append}
use Rattle.std.proofs.lemmas.Option.{same_Some}
use Rattle.net_base.specs.DomainNames.{Ended, Pointed, PointsBack, ReadsName, Spells, StandAt, is_label, labels_bytes, name_bytes, name_text, pointer_bytes}
use Rattle.formats.proofs.Shared.{name_valid}
use Rattle.ndb_dns.specs.declared.name.End.{End}
use Rattle.ndb_dns.specs.declared.name.Run.{Run}
use Rattle.ndb_dns.specs.Runs.{IsLabelRun, LeadsTo, Runs, allowed, run_end_of, run_ending, may_point, zero_end}
use Rattle.ndb_dns.proofs.Naming.{AreSpelled, ByPointer, ByZero, EndsBy, MayEnd, ends_by, may_end, no_label_at_pointer, pointer_is_read, runs_once, runs_spelled, spelled_runs}

abbrev pub Bytes : List ℕ → Type 0
Bytes bytes = (i : ℕ) → get_or bytes i 0 < 256

-- ---- places

stand : (place : ℕ) (message front tail : List ℕ) → drop place message ≡ front ++ tail → StandAt place front message
stand place message front tail is = ap (take (length front)) is ∙ take_at front tail (length front) refl

standing : (place : ℕ) (message front : List ℕ) → StandAt place front message → drop place message ≡ front ++ drop (length front) (drop place message)
standing place message front stands =
    sym (take-append-drop (length front) (drop place message)) ∙ ap (λ (xs : List ℕ). xs ++ drop (length front) (drop place message)) stands

-- the rest of a message, by how much stands before it
split_size : (place : ℕ) (message front rest : List ℕ) → drop place message ≡ front ++ rest → length message - place ≡ length front + length rest
split_size place message front rest is = sym (length-drop place message) ∙ ap (λ (xs : List ℕ). length xs) is ∙ length-append front rest

end_behind : (place size front rest len end : ℕ) → place ≤ size → size - place ≡ front + rest → end ≡ size - rest + len → end ≡ place + front + len
end_behind place size front rest len end within whole past = omega arith

end_before : (place size front rest len end : ℕ) → 0 < rest → size - place ≡ front + rest → end ≡ place + front + len → end ≡ size - rest + len
end_before place size front rest len end some whole past = omega arith

rest_bytes : (message front rest : List ℕ) (place : ℕ) → Bytes message → drop place message ≡ front ++ rest → Bytes rest
rest_bytes message front rest place fits is = λ i.
    subst (λ (n : ℕ). n < 256)
    (sym (get_or-drop place message (length front + i) 0) ∙ ap (λ (xs : List ℕ). get_or xs (length front + i) 0) is ∙ get_or-append-add front rest i 0)
    (fits (place + (length front + i)))

-- ---- what is read is spelled

pub leads_valid : (message : List ℕ) (target : Option ℕ) (labels : List (List ℕ)) → LeadsTo message target labels → list_all is_label labels ≡ true
leads_valid message None labels leads = ap (list_all is_label) leads
leads_valid message (Some target) labels leads = leads.0

pub both_valid : (front rest : List (List ℕ)) → list_all is_label front ≡ true → list_all is_label rest ≡ true → list_all is_label (front ++ rest) ≡ true
both_valid front rest one two = list_all-append is_label front rest ∙ and_from (list_all is_label front) (list_all is_label rest) one two

valid_parts : (front rest : List (List ℕ)) → list_all is_label (front ++ rest) ≡ true → (list_all is_label front ≡ true) × (list_all is_label rest ≡ true)
valid_parts front rest all = and_parts (list_all is_label front) (list_all is_label rest) (sym (list_all-append is_label front rest) ∙ all)

ended : (message : List ℕ) (place end : ℕ) (labels more : List (List ℕ)) (rest tail : List ℕ) → drop place message ≡ labels_bytes labels ++ rest → end ≡ place + length (labels_bytes labels) + 1 → rest ≡ 0 ∷ tail → more ≡ [] → Spells message place (labels ++ more) end
ended message place end labels more rest tail layout past zero none =
    let bytes : drop place message ≡ name_bytes labels ++ tail =
    layout ∙ ap (λ (xs : List ℕ). labels_bytes labels ++ xs) zero ∙ sym (append_assoc (labels_bytes labels) (0 ∷ []) tail)
    in
    let size : end ≡ place + length (name_bytes labels) = omega (arith, past, length-append (labels_bytes labels) (0 ∷ [])) in
    subst (λ (ls : List (List ℕ)). Spells message place ls end)
    (sym (ap (λ (ms : List (List ℕ)). labels ++ ms) none ∙ append-nil labels))
    (Ended place labels end (stand place message (name_bytes labels) tail bytes) size)

points : (place target : ℕ) → target < 2 ^ 14 → may_point place (Some target) ≡ true → PointsBack place target
points place target fits may =
    let parts = and_parts (nat_le 12 target) (nat_lt target place) may in
    record { behind_header = leb-true 12 target parts.0; back = ltb-true target place parts.1; fits = fits }

pointing : (message : List ℕ) (place target end : ℕ) (labels more : List (List ℕ)) (rest tail : List ℕ) → list_all is_label labels ≡ true → drop place message ≡ labels_bytes labels ++ rest → end ≡ place + length (labels_bytes labels) + 2 → rest ≡ pointer_bytes target ++ tail → PointsBack place target → LeadsTo message (Some target) more → Spells message place (labels ++ more) end
pointing message place target end labels more rest tail valid layout past bytes back leads =
    let both : drop place message ≡ (labels_bytes labels ++ pointer_bytes target) ++ tail =
    layout ∙ ap (λ (xs : List ℕ). labels_bytes labels ++ xs) bytes ∙ sym (append_assoc (labels_bytes labels) (pointer_bytes target) tail)
    in
    Pointed place target leads.1.0 labels more (labels ++ more) end valid
    (stand place message (labels_bytes labels ++ pointer_bytes target) tail both) back leads.1.1 refl past

pub run_spells : (message : List ℕ) (place : ℕ) (labels more : List (List ℕ)) (run : Run) → Bytes message → place ≤ length message → IsLabelRun message place labels run → LeadsTo message run.target more → Spells message place (labels ++ more) run.end
run_spells message place labels more run fits within stands leads = by (ends_by stands.rest stands.last (rest_bytes message (labels_bytes labels) stands.rest place fits spelled.front) may.is)
  where
    spelled : AreSpelled (drop place message) labels stands.rest
    spelled = runs_spelled (drop place message) labels stands.rest stands.runs

    may : MayEnd place (run_end_of stands.rest) stands.last
    may = may_end place (run_end_of stands.rest) stands.last stands.ends

    past : run.end ≡ place + length (labels_bytes labels) + stands.last.len
    past = end_behind place (length message) (length (labels_bytes labels)) (length stands.rest) stands.last.len run.end within (split_size place message (labels_bytes labels) stands.rest spelled.front) stands.past

    by : EndsBy stands.rest stands.last → Spells message place (labels ++ more) run.end
    by (ByZero tail zero is) =
        ended message place run.end labels more stands.rest tail spelled.front
        (past ∙ ap (λ (l : End). place + length (labels_bytes labels) + l.len) is) zero
        (subst (λ (t : Option ℕ). LeadsTo message t more) (stands.points ∙ ap (λ (l : End). l.target) is) leads)
    by (ByPointer target tail small bytes is) =
        pointing message place target run.end labels more stands.rest tail spelled.valid spelled.front
        (past ∙ ap (λ (l : End). place + length (labels_bytes labels) + l.len) is) bytes
        (points place target small (sym (ap (λ (l : End). may_point place l.target) is) ∙ may.may))
        (subst (λ (t : Option ℕ). LeadsTo message t more) (stands.points ∙ ap (λ (l : End). l.target) is) leads)

-- ---- what is spelled is read

pub ended_run : (message : List ℕ) (place end : ℕ) (labels : List (List ℕ)) → list_all is_label labels ≡ true → StandAt place (name_bytes labels) message → end ≡ place + length (name_bytes labels) → IsLabelRun message place labels (record { end = end; target = None })
ended_run message place end labels valid stands past =
    let tail = drop (length (name_bytes labels)) (drop place message) in
    let layout : drop place message ≡ labels_bytes labels ++ (0 ∷ tail) =
    standing place message (name_bytes labels) stands ∙ append_assoc (labels_bytes labels) (0 ∷ []) tail
    in
    let some : 0 < length (0 ∷ tail) = omega arith in
    let size : end ≡ place + length (labels_bytes labels) + 1 = omega (arith, past, length-append (labels_bytes labels) (0 ∷ [])) in record {
      rest = 0 ∷ tail;
      last = zero_end;
      runs = subst (λ (bytes : List ℕ). Runs bytes labels (0 ∷ tail)) (sym layout) (spelled_runs labels (0 ∷ tail) valid refl);
      ends = refl;
      past = end_before place (length message) (length (labels_bytes labels)) (length (0 ∷ tail)) 1 end some (split_size place message (labels_bytes labels) (0 ∷ tail) layout) size;
      points = refl;
    }

pub pointed_run : (message : List ℕ) (place target end : ℕ) (front : List (List ℕ)) → list_all is_label front ≡ true → StandAt place (labels_bytes front ++ pointer_bytes target) message → PointsBack place target → end ≡ place + length (labels_bytes front) + 2 → IsLabelRun message place front (record { end = end; target = Some target })
pointed_run message place target end front valid stands back past =
    let tail = drop (length (labels_bytes front ++ pointer_bytes target)) (drop place message) in
    let rest = pointer_bytes target ++ tail in
    let last : End = record { len = 2; target = Some target } in
    let layout : drop place message ≡ labels_bytes front ++ (pointer_bytes target ++ tail) =
    standing place message (labels_bytes front ++ pointer_bytes target) stands ∙ append_assoc (labels_bytes front) (pointer_bytes target) tail
    in
    let some : 0 < length (pointer_bytes target ++ tail) = omega arith in record {
      rest = pointer_bytes target ++ tail;
      last = record { len = 2; target = Some target };
      runs = subst (λ (bytes : List ℕ). Runs bytes front (pointer_bytes target ++ tail)) (sym layout) (spelled_runs front (pointer_bytes target ++ tail) valid (no_label_at_pointer target tail back.fits));
      ends =
          ap (option_and_then (allowed place)) (pointer_is_read target tail back.fits)
          ∙ ap (λ (b : Bool). cond b (Some (record { len = 2; target = Some target })) None)
          (and_from (nat_le 12 target) (nat_lt target place) (le-leb 12 target back.behind_header) (lt-ltb target place back.back));
      past = end_before place (length message) (length (labels_bytes front)) (length (pointer_bytes target ++ tail)) 2 end some (split_size place message (labels_bytes front) (pointer_bytes target ++ tail) layout) past;
      points = refl;
    }

-- labels that are spelled begin with a run
pub record Begins (message : List ℕ) (place : ℕ) (labels : List (List ℕ)) (end : ℕ) : Type 0 where
  pub front : List (List ℕ)
  pub others : List (List ℕ)
  pub run : Run
  pub stands : IsLabelRun message place front run
  pub are : labels ≡ front ++ others
  pub leads : LeadsTo message run.target others
  pub past : run.end ≡ end

pub begin_with_run : {message : List ℕ} {place end : ℕ} {labels : List (List ℕ)} → Spells message place labels end → list_all is_label labels ≡ true → Begins message place labels end
begin_with_run {message = m} (Ended place labels end stands past) valid = record {
  front = labels;
  others = [];
  run = record { end = end; target = None };
  stands = ended_run m place end labels valid stands past;
  are = sym (append-nil labels);
  leads = refl;
  past = refl;
}
begin_with_run {message = m} (Pointed place target past front rest labels end valid stands back behind are ends) all = record {
  front = front;
  others = rest;
  run = record { end = end; target = Some target };
  stands = pointed_run m place target end front valid stands back ends;
  are = are;
  leads = ((valid_parts front rest (sym (ap (list_all is_label) are) ∙ all)).1, (past, behind));
  past = refl;
}

-- ---- once

pub run_once : (message : List ℕ) (place : ℕ) (labels others : List (List ℕ)) (run other : Run) → IsLabelRun message place labels run → IsLabelRun message place others other → (labels ≡ others) × (run ≡ other)
run_once message place labels others run other one two = (same.0, λ i. record { end = end i; target = target i })
  where
    same : (labels ≡ others) × (one.rest ≡ two.rest)
    same = runs_once (drop place message) labels others one.rest two.rest one.runs two.runs

    last : one.last ≡ two.last
    last = same_Some one.last two.last (sym one.ends ∙ ap (run_ending place) same.1 ∙ two.ends)

    end : run.end ≡ other.end
    end =
        one.past
        ∙ ap (λ (rest : List ℕ). length message - length rest + one.last.len) same.1
        ∙ ap (λ (l : End). length message - length two.rest + l.len) last
        ∙ sym two.past

    target : run.target ≡ other.target
    target = one.points ∙ ap (λ (l : End). l.target) last ∙ sym two.points

pub spells_once : {message : List ℕ} {place end : ℕ} {labels : List (List ℕ)} → Spells message place labels end → list_all is_label labels ≡ true → (others : List (List ℕ)) (other : ℕ) → list_all is_label others ≡ true → Spells message place others other → (labels ≡ others) × (end ≡ other)
spells_once {message = m} (Ended place labels end stands past) valid others other all again =
    let two = begin_with_run again all in
    let same = run_once m place labels two.front (record { end = end; target = None }) two.run (ended_run m place end labels valid stands past) two.stands in
    let none : two.others ≡ [] = subst (λ (t : Option ℕ). LeadsTo m t two.others) (sym (ap (λ (r : Run). r.target) same.1)) two.leads in (
      same.0 ∙ sym (append-nil two.front) ∙ ap (λ (ls : List (List ℕ)). two.front ++ ls) (sym none) ∙ sym two.are,
      ap (λ (r : Run). r.end) same.1 ∙ two.past,
    )
spells_once {message = m} (Pointed place target past front rest labels end valid stands back behind are ends) all others other each again =
    let two = begin_with_run again each in
    let same = run_once m place front two.front (record { end = end; target = Some target }) two.run (pointed_run m place target end front valid stands back ends) two.stands in
    let leads : LeadsTo m (Some target) two.others = subst (λ (t : Option ℕ). LeadsTo m t two.others) (sym (ap (λ (r : Run). r.target) same.1)) two.leads in
    let more = spells_once behind (valid_parts front rest (sym (ap (list_all is_label) are) ∙ all)).1 two.others leads.1.0 leads.0 leads.1.1 in (
      are ∙ ap (λ (ls : List (List ℕ)). ls ++ rest) same.0 ∙ ap (λ (ls : List (List ℕ)). two.front ++ ls) more.0 ∙ sym two.are,
      ap (λ (r : Run). r.end) same.1 ∙ two.past,
    )

-- a name stands at a place in one way
pub name_once : (message : List ℕ) (place : ℕ) (text other : List ℕ) (end past : ℕ) → ReadsName message place text end → ReadsName message place other past → (text ≡ other) × (end ≡ past)
name_once message place text other end past one two =
    let same = spells_once one.spelled (name_valid one.labels one.name) two.labels past (name_valid two.labels two.name) two.spelled in
    (one.told ∙ ap name_text same.0 ∙ sym two.told, same.1)

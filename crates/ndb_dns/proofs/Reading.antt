-- A name that is read by its first run of labels and by those to which pointers lead.
use Rattle.std.proofs.Common.{◌≡◌, ℕ, ◌+◌, ◌-◌, ◌<◌, ◌≤◌, List, [], ◌∷◌, ◌++◌, length, drop, Option, Some, None, refl, sym, ap, ◌∙◌, arith, subst}
use Rattle.net_base.specs.DomainNames.{ReadsName, Spells}
use Rattle.formats.proofs.Shared.{name_valid}
use Rattle.ndb_dns.specs.declared.name.Run.{Run}
use Rattle.ndb_dns.specs.Runs.{AddsLabels, AddsPointed, AddsRun, AreTooLong, HasNoRun, LeadsTo, LeadsToNone, Runs, behind_label, run_ending, label_of, with_label, with_labels}
use Rattle.std.proofs.lemmas.Option.{none-some, same_Some}
use Rattle.ndb_dns.proofs.Naming.{labels_longer, name_is_short, runs_once, runs_spelled, short_is_name, text_is, with_more}
use Rattle.ndb_dns.proofs.Spelling.{Bytes, begin_with_run, both_valid, leads_valid, run_once, run_spells}

-- ---- labels in front

pub adds_more : (bytes label behind text more rest now : List ℕ) → label_of bytes ≡ Some label → behind ≡ behind_label label bytes → more ≡ with_label text label → AddsLabels behind more rest now → AddsLabels bytes text rest now
adds_more bytes label behind text more rest now is behind_is told adds = record {
  labels = label ∷ adds.labels;
  runs = (is, subst (λ (bs : List ℕ). Runs bs adds.labels rest) behind_is adds.runs);
  adds = record {
    told = adds.adds.told ∙ ap (λ (t : List ℕ). with_labels t adds.labels) told;
    short = adds.adds.short;
  };
}

-- the next label makes the text too long
pub too_long : (bytes label text : List ℕ) → label_of bytes ≡ Some label → 253 < length (with_label text label) → AreTooLong bytes text
too_long bytes label text is long = λ labels rest runs. by labels rest runs
  where
    by : (labels : List (List ℕ)) (rest : List ℕ) → Runs bytes labels rest → 253 < length (with_labels text labels)
    by [] rest runs = absurd (none-some label (sym runs.1 ∙ is))
    by (other ∷ labels) rest runs =
        let same = same_Some label other (sym is ∙ runs.0) in
        let size = ap (λ (l : List ℕ). length (with_label text l)) same in
        omega (arith, long, size, labels_longer (with_label text other) labels)

-- .. or some behind it do
pub too_long_behind : (bytes label behind text more : List ℕ) → label_of bytes ≡ Some label → behind ≡ behind_label label bytes → more ≡ with_label text label → AreTooLong behind more → AreTooLong bytes text
too_long_behind bytes label behind text more is behind_is told long = λ labels rest runs. by labels rest runs
  where
    by : (labels : List (List ℕ)) (rest : List ℕ) → Runs bytes labels rest → 253 < length (with_labels text labels)
    by [] rest runs = absurd (none-some label (sym runs.1 ∙ is))
    by (other ∷ labels) rest runs =
        let same = same_Some label other (sym is ∙ runs.0) in
        let these : Runs behind labels rest = subst (λ (bs : List ℕ). Runs bs labels rest) (ap (λ (l : List ℕ). behind_label l bytes) (sym same) ∙ sym behind_is) runs.1 in
        let size = ap (λ (t : List ℕ). length (with_labels t labels)) (told ∙ ap (λ (l : List ℕ). with_label text l) same) in
        omega (arith, long labels rest these, size)

-- ---- a run

pub no_run_end : (message : List ℕ) (place : ℕ) (front text rest now : List ℕ) → front ≡ drop place message → AddsLabels front text rest now → run_ending place rest ≡ None → HasNoRun message place text
no_run_end message place front text rest now is adds none = λ labels run stands.
    let these : Runs (drop place message) adds.labels rest = subst (λ (bs : List ℕ). Runs bs adds.labels rest) is adds.runs in
    let same = runs_once (drop place message) adds.labels labels rest stands.rest these stands.runs in
    absurd (none-some stands.last (sym none ∙ ap (run_ending place) same.1 ∙ stands.ends))

-- ---- a name

pub name_is_read : (message : List ℕ) (place : ℕ) (first text : List ℕ) (run : Run) (end : ℕ) → Bytes message → place ≤ length message → AddsRun message place [] first run → AddsPointed message run.target first text → end ≡ run.end → ReadsName message place text end
name_is_read message place first text run end fits within one more past =
    let labels = one.labels ++ more.labels in
    let told : text ≡ with_labels [] (one.labels ++ more.labels) =
    more.adds.told ∙ ap (λ (t : List ℕ). with_labels t more.labels) one.adds.told ∙ sym (with_more [] one.labels more.labels)
    in
    let valid = both_valid one.labels more.labels (runs_spelled (drop place message) one.labels one.stands.rest one.stands.runs).valid (leads_valid message run.target more.labels more.leads) in
    let size = ap (λ (t : List ℕ). length t) told in record {
      labels = one.labels ++ more.labels;
      name = short_is_name (one.labels ++ more.labels) valid (omega (arith, size, more.adds.short));
      spelled = subst (λ (e : ℕ). Spells message place (one.labels ++ more.labels) e) (sym past) (run_spells message place one.labels more.labels run fits within one.stands more.leads);
      told = told ∙ text_is (one.labels ++ more.labels) valid;
    }

pub no_name_at_all : (message : List ℕ) (place : ℕ) → HasNoRun message place [] → (text : List ℕ) (end : ℕ) → ReadsName message place text end → ⊥
no_name_at_all message place none text end name =
    let first = begin_with_run name.spelled (name_valid name.labels name.name) in
    let long = none first.front first.run first.stands in
    let more = ap (λ (ls : List (List ℕ)). length (with_labels [] ls)) first.are in
    let size = ap (λ (t : List ℕ). length t) (with_more [] first.front first.others) in
    omega (arith, long, more, size, labels_longer (with_labels [] first.front) first.others, name_is_short name.labels name.name)

pub no_name_behind : (message : List ℕ) (place : ℕ) (first : List ℕ) (run : Run) → AddsRun message place [] first run → LeadsToNone message run.target first → (text : List ℕ) (end : ℕ) → ReadsName message place text end → ⊥
no_name_behind message place first run one none text end name =
    let these = begin_with_run name.spelled (name_valid name.labels name.name) in
    let same = run_once message place these.front one.labels these.run run these.stands one.stands in
    let leads : LeadsTo message run.target these.others = subst (λ (r : Run). LeadsTo message r.target these.others) same.1 these.leads in
    let long = none these.others leads in
    let told = one.adds.told ∙ ap (with_labels []) (sym same.0) in
    let size = ap (λ (t : List ℕ). length (with_labels t these.others)) told in
    let whole = ap (λ (t : List ℕ). length t) (with_more [] these.front these.others) in
    let more = ap (λ (ls : List (List ℕ)). length (with_labels [] ls)) these.are in
    omega (arith, long, size, whole, more, name_is_short name.labels name.name)

-- ---- pointers that are followed

-- what is led to from here is led to from the first one, and gives the same text
pub record Follows (message : List ℕ) (target next : Option ℕ) (first text : List ℕ) : Type 0 where
  pub back : (labels : List (List ℕ)) → LeadsTo message next labels → (before : List (List ℕ)) × (LeadsTo message target before × (with_labels first before ≡ with_labels text labels))
  pub onward : (labels : List (List ℕ)) → LeadsTo message target labels → (others : List (List ℕ)) × (LeadsTo message next others × (with_labels first labels ≡ with_labels text others))

pub follows_at_first : (message : List ℕ) (target : Option ℕ) (text : List ℕ) → Follows message target target text text
follows_at_first message target text = record { back = λ labels leads. (labels, (leads, refl)); onward = λ labels leads. (labels, (leads, refl)) }

-- a run more
pub follow_more : (message : List ℕ) (target : Option ℕ) (place : ℕ) (first text now : List ℕ) (run : Run) → Bytes message → place ≤ length message → Follows message target (Some place) first text → AddsRun message place text now run → Follows message target run.target first now
follow_more message target place first text now run fits within so one = record { back = back; onward = onward }
  where
    back : (labels : List (List ℕ)) → LeadsTo message run.target labels → (before : List (List ℕ)) × (LeadsTo message target before × (with_labels first before ≡ with_labels now labels))
    back labels leads =
        let spells = run_spells message place one.labels labels run fits within one.stands leads in
        let valid = both_valid one.labels labels (runs_spelled (drop place message) one.labels one.stands.rest one.stands.runs).valid (leads_valid message run.target labels leads) in
        let before = so.back (one.labels ++ labels) (valid, (run.end, spells)) in
        (before.0, (before.1.0, before.1.1 ∙ with_more text one.labels labels ∙ ap (λ (t : List ℕ). with_labels t labels) (sym one.adds.told)))

    onward : (labels : List (List ℕ)) → LeadsTo message target labels → (others : List (List ℕ)) × (LeadsTo message run.target others × (with_labels first labels ≡ with_labels now others))
    onward labels leads =
        let there = so.onward labels leads in
        let these = begin_with_run there.1.0.1.1 there.1.0.0 in
        let same = run_once message place these.front one.labels these.run run these.stands one.stands in (
          these.others,
          (
            subst (λ (r : Run). LeadsTo message r.target these.others) same.1 these.leads,
            there.1.1 ∙ ap (with_labels text) these.are ∙ with_more text these.front these.others
                ∙ ap (λ (t : List ℕ). with_labels t these.others) (ap (with_labels text) same.0 ∙ sym one.adds.told),
          ),
        )

pub follows_to_end : (message : List ℕ) (target : Option ℕ) (first text : List ℕ) → Follows message target None first text → length text ≤ 253 → AddsPointed message target first text
follows_to_end message target first text so short =
    let all = so.back [] refl in
    record { labels = all.0; leads = all.1.0; adds = record { told = sym all.1.1; short = short } }

pub follows_to_none : (message : List ℕ) (target : Option ℕ) (place : ℕ) (first text : List ℕ) → Follows message target (Some place) first text → HasNoRun message place text → LeadsToNone message target first
follows_to_none message target place first text so none = λ labels leads.
    let there = so.onward labels leads in
    let these = begin_with_run there.1.0.1.1 there.1.0.0 in
    let long = none these.front these.run these.stands in
    let size = ap (λ (t : List ℕ). length t) (there.1.1 ∙ ap (with_labels text) these.are ∙ with_more text these.front these.others) in
    omega (arith, long, size, labels_longer (with_labels text these.front) these.others)

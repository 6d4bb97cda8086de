use Rattle.std.proofs.Common.{◌≡◌, None, Some, [], ◌∷◌, ◌++◌, rules, ap, sym, subst, ◌∙◌}
use Rattle.std.specs.Prelude.{slice_set}
use Rattle.std.proofs.lemmas.List.{length-set}
use Rattle.indexmap.proofs.CallerLemmas.{insert_entry-new}
use Rattle.net_base.specs.declared.il.StateName.TheVariants as name
use Rattle.net_base.specs.declared.address.Pair.{Pair}
use Rattle.net_base.specs.Directory.{Slot, pair_place}
use Rattle.host_dir.specs.contracts.slots.EndsPartialEq.TheImpl as derived
use Rattle.host_dir.specs.Found.{slot_at}
use Rattle.host_dir.specs.Tables.{IsIndexed, kept_pair, kept_pairs}
use Rattle.host_dir.proofs.Firsts.{at_place}
use Rattle.host_dir.proofs.Index.{absent, given_to, lookup_is, pairs_added, tables_are}
use Rattle.host_dir.proofs.slots.Slots.give.Goals as goal

pub invariant_of-self-2 : goal.invariant_of-self-2
invariant_of-self-2 c =
    let before = c.self.invariant in
    let slots = c.self.inside.slots.items in
    let entries = c.self.inside.given.entries in
    let ends = c.ends_of.result in
    let fresh : pair_place (kept_pair ends) 1 (kept_pairs entries) ≡ None = rw (← c.self.view_is, ← c.ends_of.ensures) at c.requires.new in
    let added : c.insert.new.self.entries ≡ entries ++ (ends, c.args.n) ∷ [] =
    c.in_ok-insert.ensures.entries
    ∙ insert_entry-new derived.eq-value.it c.self.inside.given ends c.args.n (lookup_is (derived.eq-value.it ends) (kept_pair ends) entries (λ e. search rules) ∙ absent (kept_pair ends) 1 entries fresh) in (
      length-set slots c.args.n c.grant.new.self ∙ before.0,
      subst (λ es. IsIndexed (slice_set slots c.args.n c.grant.new.self) es) (sym added)
          (given_to slots entries ends c.args.n c.grant.new.self before.1 fresh (ap (λ (s : Slot). s.pair) c.grant.ensures ∙ ap Some (sym c.ends_of.ensures))),
    )

pub returns-clause-ok : goal.returns-clause-ok
returns-clause-ok c =
    let slots = c.self.inside.slots.items in
    let entries = c.self.inside.given.entries in
    let ends = c.ends_of.result in
    let fresh : pair_place (kept_pair ends) 1 (kept_pairs entries) ≡ None = rw (← c.self.view_is, ← c.ends_of.ensures) at c.requires.new in
    let added : c.insert.new.self.entries ≡ entries ++ (ends, c.args.n) ∷ [] =
    c.in_ok-insert.ensures.entries
    ∙ insert_entry-new derived.eq-value.it c.self.inside.given ends c.args.n (lookup_is (derived.eq-value.it ends) (kept_pair ends) entries (λ e. search rules) ∙ absent (kept_pair ends) 1 entries fresh) in
    let old : c.index_mut-slot.result.now ≡ slot_at slots c.args.n = at_place slots c.args.n c.index_mut-slot.result.now (search rules) c.index_mut-slot.ensures.value in
    rw (← c.self.view_is)
    (tables_are (ap (slice_set slots c.args.n) (c.grant.ensures ∙ ap (λ (s : Slot). record s { kind = name.Granted; pair = Some c.args.pair }) old))
    (ap kept_pairs added ∙ pairs_added ends c.args.n entries ∙ ap (λ (p : Pair). kept_pairs entries ++ p ∷ []) c.ends_of.ensures))

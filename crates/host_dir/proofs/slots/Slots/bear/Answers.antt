use Rattle.std.proofs.Common.{◌≡◌, None, Some, [], ◌∷◌, ◌++◌, rules, ap, sym, subst, ◌∙◌}
use Rattle.std.specs.Prelude.{slice_set}
use Rattle.std.proofs.lemmas.List.{get_or-set_other, length-set}
use Rattle.indexmap.proofs.CallerLemmas.{insert_entry-new}
use Rattle.net_base.specs.declared.actor.Call.{Call}
use Rattle.net_base.specs.declared.address.Pair.{Pair}
use Rattle.net_base.specs.Directory.{Slot, free_slot, pair_place}
use Rattle.host_dir.specs.contracts.slots.EndsPartialEq.TheImpl as derived
use Rattle.host_dir.specs.Found.{slot_at}
use Rattle.host_dir.specs.Tables.{IsIndexed, kept_pair, kept_pairs}
use Rattle.host_dir.proofs.Firsts.{at_place}
use Rattle.host_dir.proofs.Index.{absent, given_to, kept, lookup_is, pairs_added, tables_are}
use Rattle.host_dir.proofs.slots.Slots.bear.Goals as goal

pub invariant_of-self-2 : goal.invariant_of-self-2
invariant_of-self-2 c =
    let before = c.self.invariant in
    let slots = c.self.inside.slots.items in
    let free = c.args.at.free in
    let at = c.args.at.listener in
    let entries = c.self.inside.given.entries in
    let ends = c.ends_of.result in
    let fresh : pair_place (kept_pair ends) 1 (kept_pairs entries) ≡ None = rw (← c.self.view_is, ← c.ends_of.ensures) at c.requires.new in
    let added : c.insert.new.self.entries ≡ entries ++ (ends, c.args.at.free) ∷ [] =
    c.in_ok-insert.ensures.entries
    ∙ insert_entry-new derived.eq-value.it c.self.inside.given ends c.args.at.free (lookup_is (derived.eq-value.it ends) (kept_pair ends) entries (λ e. search rules) ∙ absent (kept_pair ends) 1 entries fresh) in
    let born = slice_set slots free c.bear.new.self in
    let old : c.index_mut-listener.result.now ≡ slot_at born at = at_place born at c.index_mut-listener.result.now (search rules) c.index_mut-listener.ensures.value in (
      length-set born at c.queue.new.self ∙ length-set slots free c.bear.new.self ∙ before.0,
      kept born c.insert.new.self.entries at c.queue.new.self
          (subst (λ es. IsIndexed born es) (sym added)
          (given_to slots entries ends free c.bear.new.self before.1 fresh (ap (λ (s : Slot). s.pair) c.bear.ensures ∙ ap Some (sym c.ends_of.ensures))))
          (search rules)
          (ap (λ (s : Slot). s.pair) c.queue.ensures ∙ ap (λ (s : Slot). s.pair) old),
    )

pub returns-clause-ok : goal.returns-clause-ok
returns-clause-ok c =
    let slots = c.self.inside.slots.items in
    let free = c.args.at.free in
    let at = c.args.at.listener in
    let entries = c.self.inside.given.entries in
    let ends = c.ends_of.result in
    let fresh : pair_place (kept_pair ends) 1 (kept_pairs entries) ≡ None = rw (← c.self.view_is, ← c.ends_of.ensures) at c.requires.new in
    let added : c.insert.new.self.entries ≡ entries ++ (ends, c.args.at.free) ∷ [] =
    c.in_ok-insert.ensures.entries
    ∙ insert_entry-new derived.eq-value.it c.self.inside.given ends c.args.at.free (lookup_is (derived.eq-value.it ends) (kept_pair ends) entries (λ e. search rules) ∙ absent (kept_pair ends) 1 entries fresh) in
    let born = slice_set slots free c.bear.new.self in
    let old : c.index_mut-listener.result.now ≡ slot_at born at = at_place born at c.index_mut-listener.result.now (search rules) c.index_mut-listener.ensures.value in
    let same : slot_at born at ≡ slot_at slots at = get_or-set_other slots free at c.bear.new.self free_slot (λ e. c.requires.apart (sym e)) in
    let call : Call = record { slot = free; generation = c.args.generation } in
    rw (← c.self.view_is)
    (tables_are
    (ap (λ (s : Slot). slice_set born at s) (c.queue.ensures ∙ ap (λ (s : Slot). record s { calls = s.calls ++ call ∷ [] }) (old ∙ same))
    ∙ ap (λ (s : Slot). slice_set (slice_set slots free s) at (record (slot_at slots at) { calls = (slot_at slots at).calls ++ call ∷ [] })) c.bear.ensures)
    (ap kept_pairs added ∙ pairs_added ends free entries ∙ ap (λ (p : Pair). kept_pairs entries ++ p ∷ []) c.ends_of.ensures))

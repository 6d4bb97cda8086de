use Rattle.std.proofs.Common.{ℕ, List, ap, ◌∙◌, arith, length}
use Rattle.std.specs.Prelude.{slice_range}
use Rattle.net_base.specs.declared.ndb.runs.Mark.{Mark}
use Rattle.net_base.specs.Store.{pair_with, value_at}
use Rattle.net_base.proofs.Marks.{mark-within, pair-found}
use Rattle.net_base.proofs.ndb.runs.Runs.pair.Goals as goal

pub slice_bounds-new-count : goal.slice_bounds-new-count
slice_bounds-new-count c =
    let at = mark-within c.args.self.now.pairs.items _ c.args.number c.value_begin-start.result c.index-mark.result.now c.requires.sound.bytes c.requires.within (c.value_begin-start.ensures ∙ ap (λ (ms : List Mark). value_at 0 ms c.args.number) c.deref.ensures.value) c.index-mark.ensures in
    omega (arith, at.0, at.1, at.2)

pub slice_bounds-new-start : goal.slice_bounds-new-start
slice_bounds-new-start c =
    let at = mark-within c.args.self.now.pairs.items _ c.args.number c.value_begin-start.result c.index-mark.result.now c.requires.sound.bytes c.requires.within (c.value_begin-start.ensures ∙ ap (λ (ms : List Mark). value_at 0 ms c.args.number) c.deref.ensures.value) c.index-mark.ensures in
    omega (arith, at.0, at.1, at.2)

pub slice_bounds-new-end : goal.slice_bounds-new-end
slice_bounds-new-end c =
    let at = mark-within c.args.self.now.pairs.items _ c.args.number c.value_begin-start.result c.index-mark.result.now c.requires.sound.bytes c.requires.within (c.value_begin-start.ensures ∙ ap (λ (ms : List Mark). value_at 0 ms c.args.number) c.deref.ensures.value) c.index-mark.ensures in
    omega (arith, at.0, at.1, at.2, ap (λ (bs : List ℕ). length bs) c.deref-2.ensures.value)

pub slice_bounds-new-count-2 : goal.slice_bounds-new-count-2
slice_bounds-new-count-2 c =
    let at = mark-within c.args.self.now.pairs.items _ c.args.number c.value_begin-start.result c.index-mark.result.now c.requires.sound.bytes c.requires.within (c.value_begin-start.ensures ∙ ap (λ (ms : List Mark). value_at 0 ms c.args.number) c.deref.ensures.value) c.index-mark.ensures in
    omega (arith, at.0, at.1, at.2)

pub slice_bounds-new-start-2 : goal.slice_bounds-new-start-2
slice_bounds-new-start-2 c =
    let at = mark-within c.args.self.now.pairs.items _ c.args.number c.value_begin-start.result c.index-mark.result.now c.requires.sound.bytes c.requires.within (c.value_begin-start.ensures ∙ ap (λ (ms : List Mark). value_at 0 ms c.args.number) c.deref.ensures.value) c.index-mark.ensures in
    omega (arith, at.0, at.1, at.2)

pub slice_bounds-new-end-2 : goal.slice_bounds-new-end-2
slice_bounds-new-end-2 c =
    let at = mark-within c.args.self.now.pairs.items _ c.args.number c.value_begin-start.result c.index-mark.result.now c.requires.sound.bytes c.requires.within (c.value_begin-start.ensures ∙ ap (λ (ms : List Mark). value_at 0 ms c.args.number) c.deref.ensures.value) c.index-mark.ensures in
    omega (arith, at.0, at.1, at.2, ap (λ (bs : List ℕ). length bs) c.deref-3.ensures.value)

pub returns : goal.returns
returns c d =
    c.new.ensures
    ∙ ap (λ (bs : List ℕ). pair_with (slice_range bs c.value_begin-start.result c.index-mark.result.now.attr) (slice_range c.deref-3.result.now c.index-mark.result.now.attr c.index-mark.result.now.value)) c.deref-2.ensures.value
    ∙ ap (λ (bs : List ℕ). pair_with (slice_range c.args.self.now.bytes.items c.value_begin-start.result c.index-mark.result.now.attr) (slice_range bs c.index-mark.result.now.attr c.index-mark.result.now.value)) c.deref-3.ensures.value
    ∙ pair-found c.args.self.now.pairs.items c.args.self.now.bytes.items c.args.number c.value_begin-start.result c.index-mark.result.now d c.requires.within (c.value_begin-start.ensures ∙ ap (λ (ms : List Mark). value_at 0 ms c.args.number) c.deref.ensures.value) c.index-mark.ensures

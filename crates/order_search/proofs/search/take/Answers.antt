use Rattle.std.proofs.Common.{List, [], ◌∷◌, ◌++◌, Some, eqb, not, refl, sym, ap, ◌∙◌, length, arith}
use Rattle.std.specs.Option.{option_eq}
use Rattle.std.specs.Prelude.{ℕ, Option}
use Rattle.std.proofs.lemmas.Bool.{false≢true}
use Rattle.net_base.specs.declared.history.Entry.{Entry}
use Rattle.order_search.proofs.Searched.{counted, full, takes_known, takes_new}
use Rattle.order_search.proofs.ToldRuns.{more_sound, same_sound, sought_sound}
use Rattle.order_search.proofs.search.take.Goals as goal

pub returns-then-sought-found-clause-sound : goal.returns-then-sought-found-clause-sound
returns-then-sought-found-clause-sound c = λ w of sound. same_sound w _ _ _ _ sound refl refl

pub returns-then-sought-found-clause-exact : goal.returns-then-sought-found-clause-exact
returns-then-sought-found-clause-exact c = λ none seen found.
    full c.args.world.now c.args.sought.limit seen c.args.found.now _ found c.if-sought-found.true refl refl refl refl

pub returns-then-not-fresh-clause-sound : goal.returns-then-not-fresh-clause-sound
returns-then-not-fresh-clause-sound c = λ w of sound. same_sound w _ _ _ _ sound refl refl

pub returns-then-not-fresh-clause-exact : goal.returns-then-not-fresh-clause-exact
returns-then-not-fresh-clause-exact c = λ none seen found.
    let walk = c.args.walk.now in
    takes_known c.args.world.now c.args.sought.limit walk.preemptions seen walk.history c.args.found.now c.in_ok-telling.telling
    c.requires.walk.tracks.history.world found c.in_ok-telling.ensures.is (omega (arith, c.if-sought-found.false)) (omega (arith, c.fits-found))
    _ refl
    (counted c.args.found.now.entries c.count_entries.new.all walk.runner.count (length walk.history)
    (c.requires.walk.tracks.count_is ∙ ap (λ (h : List Entry). length h) (sym c.requires.walk.history_is)) c.count_entries.ensures)
    refl c.in_ok-fresh.ensures.texts c.in_ok-fresh.fresh c.in_ok-fresh.ensures.fresh c.if-not-fresh.true refl

pub returns-then-ne-clause-sound : goal.returns-then-ne-clause-sound
returns-then-ne-clause-sound c = λ w of sound.
    more_sound c.args.world.now w c.args.sought.losses c.args.sought.preemptions c.args.walk.now.preemptions c.args.walk.now.history c.args.lost.now
    c.args.found.now _ c.in_ok-telling.telling
    (record { bound = c.requires.bound; frames = c.requires.frames; few = c.requires.few; laid = c.requires.laid }) c.in_ok-telling.ensures.is
    (c.in_ok-telling.ensures.losses ∙ c.losses_in.ensures) c.in_ok-number.ensures refl of sound

pub returns-then-ne-clause-exact : goal.returns-then-ne-clause-exact
returns-then-ne-clause-exact c = λ none seen found.
    let walk = c.args.walk.now in
    takes_new c.args.world.now c.args.sought.limit walk.preemptions seen walk.history c.args.found.now c.in_ok-telling.telling
    c.requires.walk.tracks.history.world found c.in_ok-telling.ensures.is (omega (arith, c.if-sought-found.false)) (omega (arith, c.fits-found))
    _ refl
    (counted c.args.found.now.entries c.count_entries.new.all walk.runner.count (length walk.history)
    (c.requires.walk.tracks.count_is ∙ ap (λ (h : List Entry). length h) (sym c.requires.walk.history_is)) c.count_entries.ensures)
    refl c.in_ok-fresh.ensures.texts c.in_ok-fresh.fresh c.in_ok-fresh.ensures.fresh c.if-not-fresh.false c.in_ok-number.ensures

pub returns-clause-sound : goal.returns-clause-sound
returns-clause-sound c = λ w of sound.
    sought_sound c.args.world.now w c.args.sought.losses c.args.sought.preemptions c.args.walk.now.preemptions c.args.walk.now.history c.args.lost.now
    c.args.found.now _ c.in_ok-telling.telling c.in_ok-ended.ended
    (record { bound = c.requires.bound; frames = c.requires.frames; few = c.requires.few; laid = c.requires.laid }) c.in_ok-telling.ensures.is
    (c.in_ok-telling.ensures.losses ∙ c.losses_in.ensures) c.in_ok-ended.ensures c.in_ok-number.ensures c.keep_witness.ensures of sound

pub returns-clause-exact : goal.returns-clause-exact
returns-clause-exact c = λ none seen found.
    absurd (false≢true (sym c.if-ne.false ∙ (c.ne.ensures ∙ ap (λ (o : Option ℕ). not (option_eq eqb o (Some c.in_ok-number.number))) none)))

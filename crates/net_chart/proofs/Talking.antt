-- Things between the columns of conversations, entry by entry.
use Rattle.std.proofs.Common.{◌≡◌, ℕ, ◌+◌, ◌<◌, List, ◌++◌, length, drop, get_or, Option, ap, sym, ◌∙◌, append_assoc}
use Rattle.net_base.specs.declared.history.Entry.{Entry}
use Rattle.net_chart.specs.declared.place.Page.{Page}
use Rattle.net_chart.specs.declared.thing.Thing.{Thing}
use Rattle.net_chart.specs.Drawing.{drawing_of}
use Rattle.net_chart.specs.Sights.{sight_of}
use Rattle.net_chart.specs.Talks.{Talks, talked_by, talks_drawn_from}
use Rattle.net_chart.specs.Things.{Past, drawn_of, past_after, thing_at}
use Rattle.net_chart.proofs.Steps.{drawn_both, dropped}

-- what is drawn of one entry, and of those behind it
pub talks_more : (page : Page) (h es : List Entry) (t : Talks) (i : ℕ) (x : Entry) (past after : Past) (thing shown : Option Thing) (out new all : List ℕ)
    → i < length es → x ≡ get_or es i x → thing ≡ thing_at page.brief h past x → after ≡ past_after page.brief h past x → shown ≡ talked_by t i x (sight_of x) thing
    → new ≡ out ++ drawing_of page (drawn_of x shown) → out ++ drawing_of page (talks_drawn_from page.brief h t past i (drop i es)) ≡ all
    → new ++ drawing_of page (talks_drawn_from page.brief h t after (i + 1) (drop (i + 1) es)) ≡ all
talks_more page h es t i x past after thing shown out new all lt is thing_is after_is shown_is more whole =
    let later = talks_drawn_from page.brief h t (past_after page.brief h past x) (i + 1) (drop (i + 1) es) in
    let here = drawn_of x (talked_by t i x (sight_of x) (thing_at page.brief h past x)) in
    ap (λ (p : Past). new ++ drawing_of page (talks_drawn_from page.brief h t p (i + 1) (drop (i + 1) es))) after_is
    ∙ ap (λ (xs : List ℕ). xs ++ drawing_of page later)
    (more ∙ ap (λ (s : Option Thing). out ++ drawing_of page (drawn_of x s)) (shown_is ∙ ap (λ (o : Option Thing). talked_by t i x (sight_of x) o) thing_is))
    ∙ append_assoc out (drawing_of page here) (drawing_of page later)
    ∙ ap (λ (xs : List ℕ). out ++ xs) (sym (drawn_both page here later))
    ∙ ap (λ (ys : List Entry). out ++ drawing_of page (talks_drawn_from page.brief h t past i ys)) (sym (dropped es i x lt is))
    ∙ whole

-- The copies of each frame.
use Rattle.std.proofs.Common.{◌≡◌, ℕ, ◌+◌, ◌==◌, ◌&&◌, Bool, true, false, cond, List, [], ◌∷◌, ◌++◌, Option, Some, None, refl, ap, sym, subst, ◌∙◌, append_assoc}
use Rattle.std.specs.Prelude.{unwrap_or}
use Rattle.std.specs.Map.{lookup}
use Rattle.std.proofs.lemmas.Bool.{eqb-true, false≢true}
use Rattle.std.proofs.lemmas.List.{append-nil}
use Rattle.indexmap.specs.IndexMap.{insert_entry}
use Rattle.net_base.specs.declared.actor.ActorName.{ActorName}
use Rattle.net_base.specs.declared.actor.ActorName.TheVariants as name
use Rattle.net_base.specs.declared.event.Event.{Event}
use Rattle.net_base.specs.declared.history.Entry.{Entry}
use Rattle.net_base.specs.declared.reply.Reply.{Reply}
use Rattle.net_base.specs.declared.world.World.{World}
use Rattle.packet_rows.specs.declared.deed.Deed.{Deed}
use Rattle.packet_rows.specs.declared.deed.Deed.TheVariants.{Put, Took, Sent, Nothing}
use Rattle.packet_rows.specs.declared.frame.Passage.{Passage}
use Rattle.packet_rows.specs.declared.row.Row.{Row}
use Rattle.packet_rows.specs.Deeds.{deed_of}
use Rattle.packet_rows.specs.Facts.{Facts, copies_at, copies_of, facts_at, facts_by, facts_with, with_copy}
use Rattle.packet_rows.specs.Laws.{takes_frame, takes_from}
use Rattle.packet_rows.specs.Passages.{passage_of, same_two}
use Rattle.packet_rows.specs.Past.{Past, no_past, past_after, past_from, past_of, with_row}
use Rattle.packet_rows.specs.Rows.{row_of}

-- Keys.

same_is : (a b : ℕ × ℕ) → same_two a b ≡ true → a ≡ b
same_is a b e = by (a.0 == b.0) (a.1 == b.1) refl refl e
  where
    by : (u v : Bool) → (a.0 == b.0) ≡ u → (a.1 == b.1) ≡ v → (u && v) ≡ true → a ≡ b
    by true true first second e = pair (eqb-true a.0 b.0 first) (eqb-true a.1 b.1 second)
      where
        pair : {i j m n : ℕ} → i ≡ j → m ≡ n → ◌≡◌ {A = ℕ × ℕ} (i, m) (j, n)
        pair one two = rw (one, two) refl
    by true false first second e = absurd (false≢true e)
    by false v first second e = absurd (false≢true e)

abbrev Copies : Type 0
Copies = List ((ℕ × ℕ) × List ℕ)

-- a frame more
at_more : (es : Copies) (k q : ℕ × ℕ) (f : List ℕ) → lookup (same_two q) (insert_entry same_two es k f) ≡ cond (same_two q k) (Some f) (lookup (same_two q) es)
at_more [] k q f = refl
at_more (e ∷ es) k q f = by (same_two k e.0) refl (at_more es k q f)
  where
    -- the key is here
    here : (b : Bool) → cond b (Some f) (lookup (same_two q) es) ≡ cond b (Some f) (cond b (Some e.1) (lookup (same_two q) es))
    here true = refl
    here false = refl

    -- another key is here
    other : (b : Bool) → same_two q k ≡ b → same_two k e.0 ≡ false → same_two q e.0 ≡ true → Some e.1 ≡ cond b (Some f) (Some e.1)
    other true same apart is =
        absurd (false≢true (sym apart ∙ subst (λ (key : ℕ × ℕ). same_two key e.0 ≡ true) (same_is q k same) is))
    other false same apart is = refl

    later : (b : Bool) → same_two q e.0 ≡ b → same_two k e.0 ≡ false
        → lookup (same_two q) (insert_entry same_two es k f) ≡ cond (same_two q k) (Some f) (lookup (same_two q) es)
        → cond b (Some e.1) (lookup (same_two q) (insert_entry same_two es k f)) ≡ cond (same_two q k) (Some f) (cond b (Some e.1) (lookup (same_two q) es))
    later true is apart rest = other (same_two q k) refl apart is
    later false is apart rest = rest

    by : (b : Bool) → same_two k e.0 ≡ b → lookup (same_two q) (insert_entry same_two es k f) ≡ cond (same_two q k) (Some f) (lookup (same_two q) es)
        → lookup (same_two q) (cond b ((e.0, f) ∷ es) (e ∷ insert_entry same_two es k f)) ≡ cond (same_two q k) (Some f) (lookup (same_two q) (e ∷ es))
    by true is rest =
        here (same_two q e.0) ∙ ap (λ (key : ℕ × ℕ). cond (same_two q key) (Some f) (lookup (same_two q) (e ∷ es))) (sym (same_is k e.0 is))
    by false is rest = later (same_two q e.0) refl is rest

-- a copy more
copy_more : (copies : Copies) (k q : ℕ × ℕ) (s : ℕ)
    → copies_at (with_copy copies k s) q ≡ cond (same_two q k) (copies_at copies q ++ s ∷ []) (copies_at copies q)
copy_more copies k q s =
    ap (λ (o : Option (List ℕ)). unwrap_or o []) (at_more copies k q (copies_at copies k ++ s ∷ [])) ∙ by (same_two q k) refl
  where
    by : (b : Bool) → same_two q k ≡ b
        → unwrap_or (cond (same_two q k) (Some (copies_at copies k ++ s ∷ [])) (lookup (same_two q) copies)) []
        ≡ cond (same_two q k) (copies_at copies q ++ s ∷ []) (copies_at copies q)
    by true e =
        ap (λ (b : Bool). unwrap_or (cond b (Some (copies_at copies k ++ s ∷ [])) (lookup (same_two q) copies)) []) e
        ∙ ap (λ (key : ℕ × ℕ). copies_at copies key ++ s ∷ []) (sym (same_is q k e))
        ∙ sym (ap (λ (b : Bool). cond b (copies_at copies q ++ s ∷ []) (copies_at copies q)) e)
    by false e =
        ap (λ (b : Bool). unwrap_or (cond b (Some (copies_at copies k ++ s ∷ [])) (lookup (same_two q) copies)) []) e
        ∙ sym (ap (λ (b : Bool). cond b (copies_at copies q ++ s ∷ []) (copies_at copies q)) e)

-- Entries.

row_facts : (past : Past) (o : Option Row) → (with_row past o).facts ≡ past.facts
row_facts past None = refl
row_facts past (Some r) = refl

given_copies : (f : Facts) (a : ActorName) (e : Event) (r : Reply) (packet : Option Passage) → (facts_at f a e r packet).copies ≡ f.copies
given_copies f (name.Desk h) e r packet = refl
given_copies f (name.Dir h p) e r packet = refl
given_copies f (name.Conv h p n) e r packet = refl
given_copies f (name.Medium m) e r packet = refl
given_copies f name.Clock e r packet = refl

copies_by : (f : Facts) (s : ℕ) (d : Deed) (q : ℕ × ℕ)
    → copies_at (facts_by f s d).copies q ≡ cond (takes_frame q d) (copies_at f.copies q ++ s ∷ []) (copies_at f.copies q)
copies_by f s (Took m k) q = copy_more f.copies (m, k) q s
copies_by f s (Put m to fate) q = refl
copies_by f s (Sent h header) q = refl
copies_by f s Nothing q = refl

copies_after : (w : World) (h : List Entry) (past : Past) (s : ℕ) (x : Entry) (q : ℕ × ℕ)
    → copies_at (past_after w h past s x).facts.copies q
    ≡ cond (takes_frame q (deed_of x)) (copies_at past.facts.copies q ++ s ∷ []) (copies_at past.facts.copies q)
copies_after w h past s x q =
    let packet : Option Passage = passage_of h past.frames x.cites in
    ap (λ (f : Facts). copies_at f.copies q) (row_facts (record past { facts = facts_with past.facts s x packet }) (row_of w h past.frames s x))
    ∙ copies_by (facts_at past.facts x.actor x.event x.reply packet) s (deed_of x) q
    ∙ ap (λ (c : Copies). cond (takes_frame q (deed_of x)) (copies_at c q ++ s ∷ []) (copies_at c q)) (given_copies past.facts x.actor x.event x.reply packet)

taken_more : (b : Bool) (before later : List ℕ) (s : ℕ) → cond b (before ++ s ∷ []) before ++ later ≡ before ++ cond b (s ∷ later) later
taken_more true before later s = append_assoc before (s ∷ []) later
taken_more false before later s = refl

copies_from : (w : World) (h : List Entry) (past : Past) (s : ℕ) (xs : List Entry) (q : ℕ × ℕ)
    → copies_at (past_from w h past s xs).facts.copies q ≡ copies_at past.facts.copies q ++ takes_from s xs q
copies_from w h past s [] q = sym (append-nil (copies_at past.facts.copies q))
copies_from w h past s (x ∷ xs) q =
    copies_from w h (past_after w h past s x) (s + 1) xs q
    ∙ ap (λ (c : List ℕ). c ++ takes_from (s + 1) xs q) (copies_after w h past s x q)
    ∙ taken_more (takes_frame q (deed_of x)) (copies_at past.facts.copies q) (takes_from (s + 1) xs q) s

pub all_takes : (w : World) (h : List Entry) (q : ℕ × ℕ) → copies_of (past_of w h).facts (Some q) ≡ takes_from 0 h q
all_takes w h q = copies_from w h no_past 0 h q

-- The last entries of steps, kept entry by entry.
use Rattle.std.proofs.Common.{◌≡◌, ℕ, suc, ◌+◌, ◌==◌, ◌&&◌, Bool, true, false, cond, List, [], ◌∷◌, take, Option, Some, None, is_none, is_some, slice_get, refl, sym, ap, subst, ◌∙◌, arith, eq-eqb}
use Rattle.std.proofs.lemmas.Bool.{eqb-true, false≢true}
use Rattle.net_base.specs.declared.history.Entry.{Entry}
use Rattle.net_base.specs.declared.world.Script.{Script}
use Rattle.net_base.specs.declared.world.World.{World}
use Rattle.replay_views.specs.declared.recorded.Latest.{Latest}
use Rattle.replay_views.specs.Recorded.{AreLatest, closes_file, deed_among, deed_noted, is_close, is_of_step, latest_at, latest_of, latest_noted, oldest, same_step, stamps_below, stands_there, with_stamp}

-- a stamp more, or not
latest_with : (h : List Entry) (own : Bool) (k : ℕ) (x : Entry) (stamps : List ℕ) → slice_get h k ≡ Some x
    → cond own (latest_noted (is_close x.event) k (latest_of h stamps)) (latest_of h stamps) ≡ latest_of h (with_stamp own k stamps)
latest_with h true k x [] at = ap (λ (o : Option Entry). Some (record { first = k; last = k; before = None; deed = deed_noted (closes_file o) k None })) (sym at)
latest_with h true k x (j ∷ js) at =
    ap (λ (o : Option Entry). Some (record { first = oldest j js; last = k; before = Some j; deed = deed_noted (closes_file o) k (deed_among h (j ∷ js)) })) (sym at)
latest_with h false k x stamps at = refl

-- an entry more
pub latest_more : (w : World) (h past : List Entry) (k : ℕ) (x : Entry) (old new : List ((ℕ × ℕ) × Latest)) → past ≡ take k h → slice_get h k ≡ Some x
    → AreLatest w h k old
    → ((c : ℕ) (s : Script) (n : ℕ) → slice_get w.scripts c ≡ Some s
    → latest_at new (c, n) ≡ cond (is_of_step w past c s n x) (latest_noted (is_close x.event) k (latest_at old (c, n))) (latest_at old (c, n)))
    → AreLatest w h (k + 1) new
latest_more w h past k x old new same at are more = λ c s n is.
    let own : is_of_step w past c s n x ≡ stands_there w (take k h) c s n (slice_get h k) =
    ap (λ (p : List Entry). is_of_step w p c s n x) same ∙ ap (λ (o : Option Entry). stands_there w (take k h) c s n o) (sym at) in
    let e : suc k ≡ k + 1 = omega arith in
    more c s n is
    ∙ ap (λ (o : Option Latest). cond (is_of_step w past c s n x) (latest_noted (is_close x.event) k o) o) (are c s n is)
    ∙ latest_with h (is_of_step w past c s n x) k x (stamps_below w h c s n k) at
    ∙ ap (λ (b : Bool). latest_of h (with_stamp b k (stamps_below w h c s n k))) own
    ∙ ap (λ (m : ℕ). latest_of h (stamps_below w h c s n m)) e

-- An entry that nothing owed, of a caller at this step.

one_caller : (closes : Bool) (kept : List ((ℕ × ℕ) × Latest)) (k caller step n : ℕ) (new : Option Latest)
    → new ≡ cond (same_step (caller, step) (caller, n)) (latest_noted closes k (latest_at kept (caller, step))) (latest_at kept (caller, n))
    → new ≡ cond (((caller == caller) && true) && (step == n)) (latest_noted closes k (latest_at kept (caller, n))) (latest_at kept (caller, n))
one_caller closes kept k caller step n new is = by (step == n) refl
  where
    whole : (caller == caller) ≡ true
    whole = eq-eqb caller caller refl

    left : (b : Bool) → (step == n) ≡ b → new ≡ cond b (latest_noted closes k (latest_at kept (caller, step))) (latest_at kept (caller, n))
    left b e =
        is
        ∙ ap (λ (v : Bool). cond (v && (step == n)) (latest_noted closes k (latest_at kept (caller, step))) (latest_at kept (caller, n))) whole
        ∙ ap (λ (v : Bool). cond v (latest_noted closes k (latest_at kept (caller, step))) (latest_at kept (caller, n))) e

    right : (b : Bool) → (step == n) ≡ b
        → cond (((caller == caller) && true) && (step == n)) (latest_noted closes k (latest_at kept (caller, n))) (latest_at kept (caller, n))
        ≡ cond b (latest_noted closes k (latest_at kept (caller, n))) (latest_at kept (caller, n))
    right b e =
        ap (λ (v : Bool). cond ((v && true) && (step == n)) (latest_noted closes k (latest_at kept (caller, n))) (latest_at kept (caller, n))) whole
        ∙ ap (λ (v : Bool). cond v (latest_noted closes k (latest_at kept (caller, n))) (latest_at kept (caller, n))) e

    by : (b : Bool) → (step == n) ≡ b
        → new ≡ cond (((caller == caller) && true) && (step == n)) (latest_noted closes k (latest_at kept (caller, n))) (latest_at kept (caller, n))
    by true e = left true e ∙ ap (λ (m : ℕ). latest_noted closes k (latest_at kept (caller, m))) (eqb-true step n e) ∙ sym (right true e)
    by false e = left false e ∙ sym (right false e)

pub noted_so : (closes : Bool) (kept : List ((ℕ × ℕ) × Latest)) (k caller step c n finished : ℕ) (new : Option Latest) (free : Bool) → free ≡ true
    → (caller ≡ c → step ≡ finished)
    → new ≡ cond (same_step (caller, step) (c, n)) (latest_noted closes k (latest_at kept (caller, step))) (latest_at kept (c, n))
    → new ≡ cond (((caller == c) && free) && (finished == n)) (latest_noted closes k (latest_at kept (c, n))) (latest_at kept (c, n))
noted_so closes kept k caller step c n finished new free is_free knows is = by (caller == c) refl
  where
    by : (b : Bool) → (caller == c) ≡ b → new ≡ cond (((caller == c) && free) && (finished == n)) (latest_noted closes k (latest_at kept (c, n))) (latest_at kept (c, n))
    by true e =
        let same : caller ≡ c = eqb-true caller c e in
        let here : new ≡ cond (same_step (caller, step) (caller, n)) (latest_noted closes k (latest_at kept (caller, step))) (latest_at kept (caller, n)) =
        subst (λ (d : ℕ). new ≡ cond (same_step (caller, step) (d, n)) (latest_noted closes k (latest_at kept (caller, step))) (latest_at kept (d, n))) (sym same) is in
        subst (λ (d : ℕ). new ≡ cond (((caller == d) && free) && (finished == n)) (latest_noted closes k (latest_at kept (d, n))) (latest_at kept (d, n))) same
        (subst (λ (m : ℕ). new ≡ cond (((caller == caller) && free) && (m == n)) (latest_noted closes k (latest_at kept (caller, n))) (latest_at kept (caller, n))) (knows same)
        (subst (λ (f : Bool). new ≡ cond (((caller == caller) && f) && (step == n)) (latest_noted closes k (latest_at kept (caller, n))) (latest_at kept (caller, n))) (sym is_free)
        (one_caller closes kept k caller step n new here)))
    by false e =
        is
        ∙ ap (λ (v : Bool). cond (v && (step == n)) (latest_noted closes k (latest_at kept (caller, step))) (latest_at kept (c, n))) e
        ∙ sym (ap (λ (v : Bool). cond ((v && free) && (finished == n)) (latest_noted closes k (latest_at kept (c, n))) (latest_at kept (c, n))) e)

-- an entry that something owed is no step's own
pub owed_so : (closes : Bool) (kept : List ((ℕ × ℕ) × Latest)) (k caller c n finished : ℕ) (free : Bool) → free ≡ false
    → latest_at kept (c, n) ≡ cond (((caller == c) && free) && (finished == n)) (latest_noted closes k (latest_at kept (c, n))) (latest_at kept (c, n))
owed_so closes kept k caller c n finished free owed = sym (ap (λ (v : Bool). cond (v && (finished == n)) (latest_noted closes k (latest_at kept (c, n))) (latest_at kept (c, n))) (none (caller == c)))
  where
    none : (b : Bool) → (b && free) ≡ false
    none true = owed
    none false = refl

-- nor is one of another caller
pub other_so : (closes : Bool) (kept : List ((ℕ × ℕ) × Latest)) (k caller c n finished : ℕ) (free : Bool) → (caller ≡ c → ⊥)
    → latest_at kept (c, n) ≡ cond (((caller == c) && free) && (finished == n)) (latest_noted closes k (latest_at kept (c, n))) (latest_at kept (c, n))
other_so closes kept k caller c n finished free apart =
    sym (ap (λ (v : Bool). cond ((v && free) && (finished == n)) (latest_noted closes k (latest_at kept (c, n))) (latest_at kept (c, n))) (by (caller == c) refl))
  where
    by : (b : Bool) → (caller == c) ≡ b → (caller == c) ≡ false
    by true e = absurd (apart (eqb-true caller c e))
    by false e = e

-- an entry cites something or nothing
pub cites_some : (o : Option ℕ) → is_some o ≡ true → is_none o ≡ false
cites_some (Some k) is = refl
cites_some None is = absurd (false≢true is)

pub cites_none : (o : Option ℕ) → is_some o ≡ false → is_none o ≡ true
cites_none (Some k) is = absurd (false≢true (sym is))
cites_none None is = refl

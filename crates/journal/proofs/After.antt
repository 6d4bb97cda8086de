-- What becomes of a pass and a book after a step with both at hand.
use Rattle.std.proofs.Common.{filter, ◌≡◌, ℕ, ◌<◌, ◌≤◌, inl, inr, ⊎_elim, Bool, true, not, List, [], ◌∷◌, ◌++◌, length, map, replicate, slice_index, zero, suc, if◌then◌else◌, refl, ap, sym, subst, ◌∙◌, arith}
use Rattle.net_base.specs.declared.actor.ActorName.{ActorName}
use Rattle.net_base.specs.declared.noted.Noted.{Noted}
use Rattle.net_base.specs.declared.noted.Number.{Number}
use Rattle.net_base.specs.declared.noted.Number.TheVariants as number
use Rattle.net_base.specs.Stamped.{same_actor, matches, at, clock, latest, moment_noted, In}
use Rattle.journal.specs.declared.law.Roster.{Roster}
use Rattle.journal.specs.declared.law.View.{View}
use mathlib.Core.List.{IsPrefix}
use Rattle.journal.specs.Rule.{Held, Lawful, has_caller, same_number, handed_over, only, clock_of, both_seen, Looks, gain, Adds, MayAdd, Timely}
use Rattle.journal.specs.declared.tokens.Sight.{Sight}
use Rattle.journal.specs.declared.tokens.Volume.{Volume}
use Rattle.journal.specs.Tokens.{Agrees, OnlyCallers, sight, stamped, volume, first_held, HoldsAll, RecordedInBook, LookedWith, Met}
use Rattle.journal.proofs.Bounds.{whole_seen, lawful-before}
use Rattle.journal.proofs.Lists.{at-length, in-gained}
use Rattle.journal.proofs.Steps.{gained, in_has_caller, in-filter, filter_has_caller}
use Rattle.net_base.proofs.Shared.{in_front, in_back, same_itself}

-- the number of an actor is told from those of callers
pub kept_is : (hs : List Held) (a : ActorName) (l : List (ℕ × Noted)) → OnlyCallers hs → filter (λ (h : Held). not (same_number h.0 (number.Actor a))) (hs ++ (number.Actor a, l) ∷ []) ≡ hs
kept_is [] a l o = rw (same_itself a) refl
kept_is ((number.Caller c, es) ∷ hs) a l o = let r = kept_is hs a l (λ k fs i. o k fs (inr i)) in ap (λ (t : List Held). (number.Caller c, es) ∷ t) r
kept_is ((number.Actor b, es) ∷ hs) a l o = absurd (o (number.Actor b) es (inl refl))

pub given_is : (hs : List Held) (a : ActorName) (l : List (ℕ × Noted)) → OnlyCallers hs → filter (λ (h : Held). same_number h.0 (number.Actor a)) (hs ++ (number.Actor a, l) ∷ []) ≡ (number.Actor a, l) ∷ []
given_is [] a l o = rw (same_itself a) refl
given_is ((number.Caller c, es) ∷ hs) a l o = given_is hs a l (λ k fs i. o k fs (inr i))
given_is ((number.Actor b, es) ∷ hs) a l o = absurd (o (number.Actor b) es (inl refl))

map-snoc : (f : Held → Held) (hs : List Held) (h : Held) → map f (hs ++ h ∷ []) ≡ map f hs ++ f h ∷ []
map-snoc f [] h = refl
map-snoc f (x ∷ hs) h = let r = map-snoc f hs h in ap (λ (t : List Held). f x ∷ t) r

pub map-stamped : (xs : List (ℕ × Noted)) (x : ℕ × Noted) → map stamped (xs ++ x ∷ []) ≡ map stamped xs ++ stamped x ∷ []
map-stamped [] x = refl
map-stamped (y ∷ xs) x = let r = map-stamped xs x in ap (λ t. stamped y ∷ t) r

pub gained_callers : (n : ℕ) (x : Noted) (hs : List Held) → OnlyCallers hs → OnlyCallers (map (gain n x) hs)
gained_callers n x hs o k es i = let t = in-gained n x hs k es i in o k t.0 t.1

has_caller-left : (xs ys : List Held) → has_caller xs ≡ true → has_caller (xs ++ ys) ≡ true
has_caller-left [] ys e = absurd (cc e)
has_caller-left ((number.Caller c, es) ∷ xs) ys e = refl
has_caller-left ((number.Actor a, es) ∷ xs) ys e = has_caller-left xs ys e

pub part_agrees : (v : View) (p : Held → Bool) → Agrees v → Agrees record { seen = v.seen; olds = v.olds; held = filter p v.held; clock = v.clock; clocks = v.clocks }
part_agrees v p a = record { lists = λ k es i. a.lists k es (in-filter p v.held (k, es) i).0; clock_is = λ h. a.clock_is (filter_has_caller p v.held h) }

pub part_callers : (p : Held → Bool) (hs : List Held) → OnlyCallers hs → OnlyCallers (filter p hs)
part_callers p hs o k es i = o k es (in-filter p hs (k, es) i).0

pub zeros_at : (n d : ℕ) → slice_index (replicate n 0) d ≡ 0
zeros_at zero d = refl
zeros_at (suc n) zero = refl
zeros_at (suc n) (suc d) = zeros_at n d

has_caller-right : (xs ys : List Held) → has_caller ys ≡ true → has_caller (xs ++ ys) ≡ true
has_caller-right [] ys f = f
has_caller-right ((number.Caller c, es) ∷ xs) ys f = refl
has_caller-right ((number.Actor a, es) ∷ xs) ys f = has_caller-right xs ys f

clock_among : (v : View) → has_caller v.held ≡ true → In v.clock (clock_of v)
clock_among v h = rw h (inl refl)

-- a pass that holds every caller's number has seen all
pub all_seen : (r : Roster) (v : View) (log : List Noted) → Agrees v → Lawful r log → IsPrefix v.seen log → ((k : Number) (es : List (ℕ × Noted)) → In (k, es) v.held → at k log ≡ es) → HoldsAll r (sight v) → log ≡ v.seen
all_seen r v log a l p lists all = whole_seen r log v.seen l p (λ c lt. let t = all c lt in a.lists (number.Caller c) t.0 t.1 ∙ sym (lists (number.Caller c) t.0 t.1))

pub met : (r : Roster) (v u w : View) (n : ℕ) → Agrees v → Agrees u → Looks r (both_seen v u) n w → (p q : Sight) → sight v ≡ p → sight u ≡ q → Met r p q (sight w)
met r v u w n a b d p q e f =
    let whole : Met r (sight v) (sight u) (sight w) = record {
      held = d.held;
      this = d.olds v.seen (inl refl);
      that = d.olds u.seen (inr (inl refl));
      lists = d.lists;
      moment_is = λ h. ap (latest 0) (d.clocks v.clock (has_caller-left v.held u.held h) (in_front v.clock (clock_of v) (clock_of u) (clock_among v h)) ∙ sym (a.clock_is h));
      moment_that = λ h. ap (latest 0) (d.clocks u.clock (has_caller-right v.held u.held h) (in_back u.clock (clock_of v) (clock_of u) (clock_among u h)) ∙ sym (b.clock_is h));
      lawful = d.lawful;
    } in
    subst (λ (z : Sight). Met r p z (sight w)) f (subst (λ (z : Sight). Met r z (sight u) (sight w)) e whole)

one_view : (views : List View) (u w : View) → views ≡ u ∷ [] → views ≡ w ∷ [] → u ≡ w
one_view views u w e f = cc (e, f)

-- the seat that rested in a book holds the book's number
pub rested : (views : List View) (u w : View) (hs : List Held) → views ≡ u ∷ [] → views ≡ w ∷ [] → w.held ≡ hs → u.held ≡ hs
rested views u w hs e f h = ap (λ (z : View). z.held) (one_view views u w e f) ∙ h

pub volume_is : (a : ActorName) (i n : ℕ) (views : List View) (v : View) (k : Number) (list : List (ℕ × Noted)) → views ≡ v ∷ [] → v.held ≡ (k, list) ∷ []
    → volume a i views n ≡ record { actor = a; number = i; seen = v.seen; list = list; room = n }
volume_is a i n views v k list e h =
    ap (λ (vs : List View). volume a i vs n) e ∙ ap (λ (hs : List Held). record { actor = a; number = i; seen = v.seen; list = first_held hs; room = n }) h

module _ (v u : View) (a : ActorName) (list : List (ℕ × Noted)) (agrees : Agrees v) (callers : OnlyCallers v.held) (held : u.held ≡ (number.Actor a, list) ∷ []) where
  pub book_in : In (number.Actor a, list) (both_seen v u).held
  book_in = in_back (number.Actor a, list) v.held u.held (subst (λ (hs : List Held). In (number.Actor a, list) hs) (sym held) (inl refl))

  pub may_add : (r : Roster) (x : Noted) (es : List (ℕ × Noted)) → In (number.Caller x.entry.caller, es) v.held → length es < 131072 → x.entry.actor ≡ a → x.entry.moment ≡ moment_noted v.seen
      → x.entry.event ≡ x.work.event → Timely r v.held x → MayAdd r (both_seen v u) x
  may_add r x es i room is now event timely =
      let h : has_caller v.held ≡ true = in_has_caller v.held x.entry.caller es i in
      record {
        of_caller = es;
        of_actor = list;
        caller = in_front (number.Caller x.entry.caller, es) v.held u.held i;
        actor = subst (λ (b : ActorName). In (number.Actor b, list) (both_seen v u).held) (sym is) book_in;
        moment_is = rw h (now ∙ ap (latest 0) (agrees.clock_is h));
        room = room;
        event_is = event;
        timely = ⊎_elim (λ m. inl m) (λ all. inr (λ c lt. let t = all c lt in (t.0, in_front (number.Caller c, t.0) v.held u.held t.1))) timely;
      }

  module _ (r : Roster) (x : Noted) (n : ℕ) (w : View) (d : Adds r x (both_seen v u) n w) (es : List (ℕ × Noted)) (caller : In (number.Caller x.entry.caller, es) v.held) (is : x.entry.actor ≡ a) where
    all_held : w.held ≡ map (gain n x) v.held ++ (number.Actor a, list ++ (n, x) ∷ []) ∷ []
    all_held =
        let own : matches (number.Actor a) x ≡ true = ap (λ (b : ActorName). same_actor b a) is ∙ same_itself a in
        let g : gain n x (number.Actor a, list) ≡ (number.Actor a, list ++ (n, x) ∷ []) = λ i. (number.Actor a, if own i then list ++ (n, x) ∷ [] else list) in
        d.held ∙ ap (λ (hs : List Held). map (gain n x) (v.held ++ hs)) held ∙ map-snoc (gain n x) v.held (number.Actor a, list) ∙ ap (λ (h : Held). map (gain n x) v.held ++ h ∷ []) g

    pub kept_held : (handed_over (number.Actor a) w).held ≡ map (gain n x) v.held
    kept_held = ap (filter (λ (h : Held). not (same_number h.0 (number.Actor a)))) all_held ∙ kept_is (map (gain n x) v.held) a (list ++ (n, x) ∷ []) (gained_callers n x v.held callers)

    pub given_held : (only (number.Actor a) w).held ≡ (number.Actor a, list ++ (n, x) ∷ []) ∷ []
    given_held = ap (filter (λ (h : Held). same_number h.0 (number.Actor a))) all_held ∙ given_is (map (gain n x) v.held) a (list ++ (n, x) ∷ []) (gained_callers n x v.held callers)

    after : (k : Number) (fs : List (ℕ × Noted)) → at k d.past ≡ fs → at k w.seen ≡ (gain n x (k, fs)).1
    after k fs e = ap (at k) d.seen ∙ sym (gained d.past x k fs (sym e)) ∙ ap (λ (m : ℕ). (gain m x (k, fs)).1) d.stamp

    has : has_caller v.held ≡ true
    has = in_has_caller v.held x.entry.caller es caller

    pub clock_then : at clock d.past ≡ v.clock
    clock_then = d.moment_is (has_caller-left v.held u.held has) ∙ rw has refl

    pub pass_agrees : Agrees (handed_over (number.Actor a) w)
    pass_agrees = record {
      lists = λ k fs i.
          let t = in-gained n x v.held k fs (subst (λ (hs : List Held). In (k, fs) hs) kept_held i) in
          after k t.0 (d.lists k t.0 (in_front (k, t.0) v.held u.held t.1)) ∙ sym t.2;
      clock_is = λ h. after clock v.clock clock_then ∙ sym (d.clock_is ∙ rw has refl);
    }

    pub book_agrees : at (number.Actor a) w.seen ≡ list ++ (n, x) ∷ []
    book_agrees =
        let own : matches (number.Actor a) x ≡ true = ap (λ (b : ActorName). same_actor b a) is ∙ same_itself a in
        after (number.Actor a) list (d.lists (number.Actor a) list book_in) ∙ rw own refl

    pub book_short : length (list ++ (n, x) ∷ []) ≤ 4849664
    book_short =
        let few = d.short in
        let fewer = at-length (number.Actor a) 0 w.seen in
        subst (λ (l : List (ℕ × Noted)). length l ≤ 4849664) book_agrees (omega arith)

    pub recorded : (i m m' : ℕ) (b b' : Volume) (p p' : Sight) → record { actor = a; number = i; seen = u.seen; list = list; room = m } ≡ b
        → record { actor = a; number = i; seen = w.seen; list = list ++ (n, x) ∷ []; room = m' } ≡ b' → sight v ≡ p → sight (handed_over (number.Actor a) w) ≡ p' → RecordedInBook r b p x n b' p'
    recorded i m m' b b' p p' e e' f f' =
        let whole : RecordedInBook r record { actor = a; number = i; seen = u.seen; list = list; room = m } (sight v) x n record { actor = a; number = i; seen = w.seen; list = list ++ (n, x) ∷ []; room = m' } (sight (handed_over (number.Actor a) w)) = record {
          past = d.past;
          stamp_is = d.stamp;
          seen = d.seen;
          pass_before = d.olds v.seen (inl refl);
          book_before = d.olds u.seen (inr (inl refl));
          held = kept_held;
          lists = λ k es i. d.lists k es (in_front (k, es) v.held u.held i);
          actor_list = d.lists (number.Actor a) list book_in;
          moment_is = ap (latest 0) (clock_then ∙ sym (agrees.clock_is has));
          moment_kept = λ other. ap (latest 0) (after clock v.clock clock_then ∙ ap (λ (b : Bool). if b then v.clock ++ (n, x) ∷ [] else v.clock) other ∙ sym (agrees.clock_is has));
          whole = all_seen r v d.past agrees (lawful-before r d.past (x ∷ []) (subst (Lawful r) d.seen d.lawful)) (d.olds v.seen (inl refl)) (λ k es i. d.lists k es (in_front (k, es) v.held u.held i));
          lawful = d.lawful;
          book_list = refl;
          book_actor = (refl, refl);
          book_seen = refl;
        } in
        subst (λ (z : Volume). RecordedInBook r b p x n z p') e' (subst (λ (z : Sight). RecordedInBook r b p x n record { actor = a; number = i; seen = w.seen; list = list ++ (n, x) ∷ []; room = m' } z) f'
        (subst (λ (z : Sight). RecordedInBook r b z x n record { actor = a; number = i; seen = w.seen; list = list ++ (n, x) ∷ []; room = m' } (sight (handed_over (number.Actor a) w))) f
        (subst (λ (z : Volume). RecordedInBook r z (sight v) x n record { actor = a; number = i; seen = w.seen; list = list ++ (n, x) ∷ []; room = m' } (sight (handed_over (number.Actor a) w))) e whole)))

  module _ (r : Roster) (n : ℕ) (w : View) (d : Looks r (both_seen v u) n w) where
    look_held : w.held ≡ v.held ++ (number.Actor a, list) ∷ []
    look_held = d.held ∙ ap (λ (hs : List Held). v.held ++ hs) held

    pub look_kept : (handed_over (number.Actor a) w).held ≡ v.held
    look_kept = ap (filter (λ (h : Held). not (same_number h.0 (number.Actor a)))) look_held ∙ kept_is v.held a list callers

    pub look_given : (only (number.Actor a) w).held ≡ (number.Actor a, list) ∷ []
    look_given = ap (filter (λ (h : Held). same_number h.0 (number.Actor a))) look_held ∙ given_is v.held a list callers

    pub look_lists : (k : Number) (es : List (ℕ × Noted)) → In (k, es) v.held → at k w.seen ≡ es
    look_lists k es i = d.lists k es (subst (λ (hs : List Held). In (k, es) hs) (sym d.held) (in_front (k, es) v.held u.held i))

    pub look_actor : at (number.Actor a) w.seen ≡ list
    look_actor = d.lists (number.Actor a) list (subst (λ (hs : List Held). In (number.Actor a, list) hs) (sym d.held) book_in)

    pub look_clock : has_caller v.held ≡ true → at clock w.seen ≡ v.clock
    look_clock h = d.moment_is (ap has_caller d.held ∙ has_caller-left v.held u.held h) ∙ d.clock_is ∙ rw h refl

    pub look_agrees : Agrees (handed_over (number.Actor a) w)
    look_agrees = record {
      lists = λ k es i. look_lists k es (subst (λ (hs : List Held). In (k, es) hs) look_kept i);
      clock_is = λ h. let has : has_caller v.held ≡ true = ap has_caller (sym look_kept) ∙ h in look_clock has ∙ sym (d.clock_is ∙ rw has refl);
    }

    pub looked_with : (i m : ℕ) (b b' : Volume) (p p' : Sight) → record { actor = a; number = i; seen = u.seen; list = list; room = m } ≡ b
        → record { actor = a; number = i; seen = w.seen; list = list; room = m } ≡ b' → sight v ≡ p → sight (handed_over (number.Actor a) w) ≡ p' → LookedWith r b p n b' p'
    looked_with i m b b' p p' e e' f f' =
        let whole : LookedWith r record { actor = a; number = i; seen = u.seen; list = list; room = m } (sight v) n record { actor = a; number = i; seen = w.seen; list = list; room = m } (sight (handed_over (number.Actor a) w)) = record {
          look = record {
            front_is = d.front;
            before = d.olds v.seen (inl refl);
            held = look_kept;
            lists = look_lists;
            moment_is = λ h. ap (latest 0) (look_clock h ∙ sym (agrees.clock_is h));
            whole = all_seen r v w.seen agrees d.lawful (d.olds v.seen (inl refl)) look_lists;
            lawful = d.lawful;
          };
          book_before = d.olds u.seen (inr (inl refl));
          actor_list = look_actor;
          book_list = refl;
          book_actor = (refl, refl);
          book_seen = refl;
          book_room = refl;
        } in
        subst (λ (z : Volume). LookedWith r b p n z p') e' (subst (λ (z : Sight). LookedWith r b p n record { actor = a; number = i; seen = w.seen; list = list; room = m } z) f'
        (subst (λ (z : Sight). LookedWith r b z n record { actor = a; number = i; seen = w.seen; list = list; room = m } (sight (handed_over (number.Actor a) w))) f
        (subst (λ (z : Volume). LookedWith r z (sight v) n record { actor = a; number = i; seen = w.seen; list = list; room = m } (sight (handed_over (number.Actor a) w))) e whole)))

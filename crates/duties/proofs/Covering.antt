-- One entry more of a caller.
use Rattle.std.proofs.Common.{◌≡◌, ℕ, ◌≤◌, ◌==◌, ◌&&◌, ◌||◌, ◌⊎◌, inl, inr, Bool, true, false, List, [], ◌∷◌, ◌++◌, refl, ap, sym, ◌∙◌, arith}
use Rattle.std.proofs.lemmas.Bool.{and_from, true≢false}
use Rattle.net_base.specs.declared.actor.ActorName.{ActorName}
use Rattle.net_base.specs.declared.actor.ActorName.TheVariants as name
use Rattle.net_base.specs.declared.noted.Noted.{Noted}
use Rattle.net_base.specs.Stamped.{In, same_actor, same_proto}
use Rattle.duties.specs.Marks.{Covers, Marks, is_marked_among, is_conversation}
use Rattle.net_base.proofs.Shared.{number_itself, same_proto_itself}

pub in_either : {A : Type 0} (xs ys : List A) (x : A) → In x (xs ++ ys) → In x xs ⊎ In x ys
in_either [] ys x there = inr there
in_either (y ∷ xs) ys x (inl is) = inl (inl is)
in_either (y ∷ xs) ys x (inr there) = elim (in_either xs ys x there) [ inl left ↦ inl (inr left) | inr right ↦ inr right ]

itself : (a : ActorName) → is_conversation a ≡ true → same_actor a a ≡ true
itself (name.Conv h p n) is = and_from ((h == h) && same_proto p p) (n == n) (and_from (h == h) (same_proto p p) (number_itself h) (same_proto_itself p)) (number_itself n)
itself (name.Desk h) is = absurd (true≢false (sym is))
itself (name.Dir h p) is = absurd (true≢false (sym is))
itself (name.Medium m) is = absurd (true≢false (sym is))
itself name.Clock is = absurd (true≢false (sym is))

among_front : (as' : List ActorName) (a b : ActorName) → is_marked_among as' b ≡ true → is_marked_among (as' ++ a ∷ []) b ≡ true
among_front [] a b is = absurd (true≢false (sym is))
among_front (k ∷ as') a b is = by_test (same_actor k b) is (among_front as' a b)
  where
    by_test : (t : Bool) → (t || is_marked_among as' b) ≡ true → (is_marked_among as' b ≡ true → is_marked_among (as' ++ a ∷ []) b ≡ true)
        → (t || is_marked_among (as' ++ a ∷ []) b) ≡ true
    by_test true is rest = refl
    by_test false is rest = rest is

among_last : (as' : List ActorName) (a : ActorName) → is_conversation a ≡ true → is_marked_among (as' ++ a ∷ []) a ≡ true
among_last [] a is = ap (λ (t : Bool). t || false) (itself a is)
among_last (k ∷ as') a is = by_test (same_actor k a) (among_last as' a is)
  where
    by_test : (t : Bool) → is_marked_among (as' ++ a ∷ []) a ≡ true → (t || is_marked_among (as' ++ a ∷ []) a) ≡ true
    by_test true rest = refl
    by_test false rest = rest

module _ (own : List (ℕ × Noted)) (x : Noted) (a : ActorName) (stamp : ℕ) (m : Marks) (covers : Covers own m) (at : x.entry.actor ≡ a) where
  -- elsewhere than at a conversation
  pub covers_other : is_conversation a ≡ false → Covers (own ++ (stamp, x) ∷ []) m
  covers_other other = record {
    each = λ y there is from. elim (in_either own ((stamp, x) ∷ []) y there) [
      | inl old ↦ covers.each y old is from
      | inr new ↦ absurd (not_this y new is)
    ];
    within = λ y there is. elim (in_either own ((stamp, x) ∷ []) y there) [
      | inl old ↦ covers.within y old is
      | inr new ↦ absurd (not_this y new is)
    ];
  }
    where
      not_this : (y : ℕ × Noted) → In y ((stamp, x) ∷ []) → is_conversation y.1.entry.actor ≡ true → ⊥
      not_this y (inl same) is = true≢false (sym is ∙ (ap (λ (z : ℕ × Noted). is_conversation z.1.entry.actor) same ∙ (ap is_conversation at ∙ other)))
      not_this y (inr none) is = none

  module _ (m' : Marks) (since : m'.since ≡ m.since) (last : m.last ≤ m'.last) (passes : stamp ≤ m'.last)
      (keeps : (b : ActorName) → is_marked_among m.actors b ≡ true → is_marked_among m'.actors b ≡ true) (there_now : is_marked_among m'.actors a ≡ true) where
    pub covers_more : Covers (own ++ (stamp, x) ∷ []) m'
    covers_more = record {
      each = λ y there is from. elim (in_either own ((stamp, x) ∷ []) y there) [
        | inl old ↦ keeps y.1.entry.actor (covers.each y old is (omega (arith, since, from)))
        | inr new ↦ this y new
      ];
      within = λ y there is. elim (in_either own ((stamp, x) ∷ []) y there) [
        | inl old ↦ omega (arith, last, covers.within y old is)
        | inr new ↦ this_within y new
      ];
    }
      where
        this : (y : ℕ × Noted) → In y ((stamp, x) ∷ []) → is_marked_among m'.actors y.1.entry.actor ≡ true
        this y (inl same) = ap (λ (z : ℕ × Noted). is_marked_among m'.actors z.1.entry.actor) same ∙ (ap (is_marked_among m'.actors) at ∙ there_now)
        this y (inr none) = absurd none

        this_within : (y : ℕ × Noted) → In y ((stamp, x) ∷ []) → y.0 ≤ m'.last
        this_within y (inl same) = omega (arith, passes, ap (λ (z : ℕ × Noted). z.0) same)
        this_within y (inr none) = absurd none

-- at a conversation that is noted already
pub covers_again : (own : List (ℕ × Noted)) (x : Noted) (a : ActorName) (stamp : ℕ) (m : Marks) (last room : ℕ) → Covers own m → x.entry.actor ≡ a
    → m.last ≤ last → stamp ≤ last → is_marked_among m.actors a ≡ true → Covers (own ++ (stamp, x) ∷ []) (record { actors = m.actors; since = m.since; last = last; room = room })
covers_again own x a stamp m last room covers at le passes is =
    covers_more own x a stamp m covers at (record { actors = m.actors; since = m.since; last = last; room = room }) refl le passes (λ b among. among) is

-- or at a new one
pub covers_new : (own : List (ℕ × Noted)) (x : Noted) (a : ActorName) (stamp : ℕ) (m : Marks) (actors : List ActorName) (last room : ℕ) → Covers own m → x.entry.actor ≡ a
    → m.last ≤ last → stamp ≤ last → is_conversation a ≡ true → actors ≡ m.actors ++ a ∷ [] → Covers (own ++ (stamp, x) ∷ []) (record { actors = actors; since = m.since; last = last; room = room })
covers_new own x a stamp m actors last room covers at le passes is adds =
    covers_more own x a stamp m covers at (record { actors = actors; since = m.since; last = last; room = room }) refl le passes
    (λ b among. ap (λ (l : List ActorName). is_marked_among l b) adds ∙ among_front m.actors a b among)
    (ap (λ (l : List ActorName). is_marked_among l a) adds ∙ among_last m.actors a is)

-- Actors, books and locks in the order of their numbers.
use Rattle.std.proofs.Common.{◌≡◌, ℕ, zero, suc, ◌+◌, ◌<◌, ◌≤◌, ◌⊎◌, nat_le, inl, inr, true, false, List, [], ◌∷◌, ◌++◌, length, map, reverse, Some, get_or, slice_get, refl, ap, sym, subst, ◌∙◌, arith, append_assoc}
use Rattle.std.specs.Option.{option_map}
use Rattle.std.proofs.lemmas.Bool.{and_parts, leb-true}
use Rattle.std.proofs.lemmas.List.{append-nil, length-map, map-append, reverse-append}
use Rattle.std.proofs.lemmas.Option.{none-some, same_Some, slice_get-map, slice_get_read}
use Rattle.net_base.specs.declared.actor.ActorName.{ActorName}
use Rattle.net_base.specs.declared.actor.ActorName.TheVariants as name
use Rattle.net_base.specs.declared.world.World.{World}
use Rattle.net_base.specs.Actors.{has_actor}
use Rattle.net_base.specs.Stamped.{In}
use Rattle.net_base.specs.World.{IsWorld, is_within}
use Rattle.journal.specs.declared.tokens.Volume.{Volume}
use Rattle.journal.specs.Tokens.{AreBlank, Distinct}
use Rattle.net_actors.specs.Numbers.{count_in, is_actor_among, number_in_world, number_of}
use Rattle.ip_route.specs.Kept.{HostWays}
use Rattle.journal.specs.declared.law.Roster.{Roster}
use Rattle.net_locks.specs.Rosters.{AreNumbered, AreReplayed, AreUnused, IsNetOf, IsReplayed}

abbrev pub actors_of : List Volume → List ActorName
actors_of bs = map (λ (b : Volume). b.actor) bs

-- Numbers.

pub in_get : (xs : List ActorName) (a : ActorName) → In a xs → (k : ℕ) × (slice_get xs k ≡ Some a)
in_get [] a is = absurd is
in_get (x ∷ xs) a (inl is) = (0, ap (λ (b : ActorName). Some b) (sym is))
in_get (x ∷ xs) a (inr there) = let rest = in_get xs a there in (suc rest.0, rest.1)

get_in : (xs : List ActorName) (k : ℕ) (a : ActorName) → slice_get xs k ≡ Some a → In a xs
get_in [] k a is = absurd (none-some a is)
get_in (x ∷ xs) zero a is = inl (sym (same_Some x a is))
get_in (x ∷ xs) (suc k) a is = inr (get_in xs k a is)

get_within : (xs : List ActorName) (k : ℕ) → k < length xs → (a : ActorName) × (slice_get xs k ≡ Some a)
get_within [] k lt = absurd (omega (arith, lt))
get_within (x ∷ xs) zero lt = (x, refl)
get_within (x ∷ xs) (suc k) lt = get_within xs k (omega (arith, lt))

shift : (n : ℕ) → suc (n + 1) ≡ suc n + 1
shift n = omega arith

succ_is : (k : ℕ) → suc k ≡ k + 1
succ_is k = omega arith

zero_on : (k : ℕ) → k ≡ 0 + k
zero_on k = omega arith

moved_on : (m k : ℕ) → m + (k + 1) ≡ m + 1 + k
moved_on m k = omega arith

many_more : (xs : List ActorName) (x : ActorName) → length (xs ++ x ∷ []) ≡ length xs + 1
many_more [] x = refl
many_more (y ∷ ys) x = ap suc (many_more ys x) ∙ shift (length ys)

last_get : (xs : List ActorName) (x : ActorName) (k : ℕ) (b : ActorName) → slice_get (xs ++ x ∷ []) k ≡ Some b → (slice_get xs k ≡ Some b) ⊎ ((k ≡ length xs) × (b ≡ x))
last_get [] x zero b is = inr (refl, sym (same_Some x b is))
last_get [] x (suc k) b is = absurd (none-some b is)
last_get (y ∷ ys) x zero b is = inl is
last_get (y ∷ ys) x (suc k) b is = up (last_get ys x k b is)
  where
    up : (slice_get ys k ≡ Some b) ⊎ ((k ≡ length ys) × (b ≡ x)) → (slice_get ys k ≡ Some b) ⊎ ((suc k ≡ suc (length ys)) × (b ≡ x))
    up (inl e) = inl e
    up (inr e) = inr (ap suc e.0, e.1)

module _ (w : World) where
  -- the actor at a number
  pub at_number : ((a b : ActorName) → has_actor w a ≡ true → has_actor w b ≡ true → number_in_world w a ≡ number_in_world w b → a ≡ b)
      → (n : ℕ) (actors : List ActorName) → AreNumbered w n actors → (k : ℕ) (a b : ActorName) → slice_get actors k ≡ Some b → has_actor w a ≡ true → number_in_world w a ≡ k → b ≡ a
  at_number apart n actors are k a b is has number =
      let each = are.each k b is in apart b a each.0 has (each.1 ∙ sym number)

  -- each actor of the world is among them
  pub has_number : ((a : ActorName) → has_actor w a ≡ true → number_in_world w a < count_in w)
      → ((a b : ActorName) → has_actor w a ≡ true → has_actor w b ≡ true → number_in_world w a ≡ number_in_world w b → a ≡ b)
      → (actors : List ActorName) → AreNumbered w (count_in w) actors → (a : ActorName) → has_actor w a ≡ true → In a actors
  has_number below apart actors are a has =
      let there = get_within actors (number_in_world w a) (omega (arith, below a has, are.many)) in
      subst (λ (b : ActorName). In b actors) (at_number apart (count_in w) actors are (number_in_world w a) a there.0 there.1 has refl)
      (get_in actors (number_in_world w a) there.0 there.1)

  -- one more
  pub numbered_on : (n : ℕ) (actors : List ActorName) (a : ActorName) → AreNumbered w n actors → has_actor w a ≡ true → number_in_world w a ≡ n → AreNumbered w (n + 1) (actors ++ a ∷ [])
  numbered_on n actors a are has number =
      record { many = many_more actors a ∙ ap (λ (k : ℕ). k + 1) are.many; each = λ k b is. place k b (last_get actors a k b is) }
    where
      place : (k : ℕ) (b : ActorName) → (slice_get actors k ≡ Some b) ⊎ ((k ≡ length actors) × (b ≡ a)) → (has_actor w b ≡ true) × (number_in_world w b ≡ k)
      place k b (inl e) = are.each k b e
      place k b (inr e) = (ap (has_actor w) e.1 ∙ has, ap (number_in_world w) e.1 ∙ (number ∙ (sym are.many ∙ sym e.0)))

  pub numbered_none : AreNumbered w 0 []
  numbered_none = record { many = refl; each = λ k b is. absurd (none-some b is) }

  apart_from : (m : ℕ) (xs : List ActorName) → ((k : ℕ) (a : ActorName) → slice_get xs k ≡ Some a → number_in_world w a ≡ m + k) → Distinct xs
  apart_from m [] each = tt
  apart_from m (x ∷ xs) each = (
    λ i. let at_k = in_get xs x i in absurd (omega (arith, each (at_k.0 + 1) x (up at_k.0 at_k.1), each 0 x refl)),
    apart_from (m + 1) xs (λ k a is. each (k + 1) a (up' k a is) ∙ moved_on m k),
  )
    where
      up : (k : ℕ) → slice_get xs k ≡ Some x → slice_get (x ∷ xs) (k + 1) ≡ Some x
      up k is = subst (λ (n : ℕ). slice_get (x ∷ xs) n ≡ Some x) (succ_is k) is

      up' : (k : ℕ) (a : ActorName) → slice_get xs k ≡ Some a → slice_get (x ∷ xs) (k + 1) ≡ Some a
      up' k a is = subst (λ (n : ℕ). slice_get (x ∷ xs) n ≡ Some a) (succ_is k) is

  -- no actor stands twice
  pub numbered_apart : (n : ℕ) (actors : List ActorName) → AreNumbered w n actors → Distinct actors
  numbered_apart n actors are = apart_from 0 actors (λ k a is. (are.each k a is).1 ∙ zero_on k)

-- the world has each actor that is among as many
pub among_has : (w : World) (a : ActorName) → is_actor_among (length w.hosts) (length w.media) a ≡ has_actor w a
among_has w (name.Desk h) = refl
among_has w (name.Dir h p) = refl
among_has w (name.Conv h p n) = refl
among_has w (name.Medium m) = refl
among_has w name.Clock = refl

pub among_in : (w : World) (hosts media : ℕ) (a : ActorName) → hosts ≡ length w.hosts → media ≡ length w.media → is_actor_among hosts media a ≡ has_actor w a
among_in w hosts media a h m = cc (among_has w a, h, m)

pub number_at : (w : World) (hosts media : ℕ) (a : ActorName) → hosts ≡ length w.hosts → media ≡ length w.media → number_of hosts media a ≡ number_in_world w a
number_at w hosts media a h m = cc (h, m)

module _ (w : World) (r : Roster) (hosts media : ℕ) (ways : List HostWays) (names : List ActorName) (net : IsNetOf w r hosts media ways names) (a : ActorName) where
  among_is : is_actor_among hosts media a ≡ has_actor w a
  among_is = cc (among_has w a, net.hosts_are, net.media_are)

  number_is : number_of hosts media a ≡ number_in_world w a
  number_is = cc (net.hosts_are, net.media_are)

  -- an actor that isn't among as many isn't there
  pub absent_at : is_actor_among hosts media a ≡ false → has_actor w a ≡ false
  absent_at is = sym among_is ∙ is

  -- one that is, is
  pub present_at : is_actor_among hosts media a ≡ true → has_actor w a ≡ true
  present_at is = sym among_is ∙ is

  -- its lock stands at its number
  pub within_at : ((b : ActorName) → has_actor w b ≡ true → number_in_world w b < count_in w) → is_actor_among hosts media a ≡ true → number_of hosts media a < length names
  within_at below is = omega (arith, below a (sym among_is ∙ is), number_is, ap (λ (l : List ActorName). length l) net.actors_are, net.roster.actors_are.many)

  pub found_at : ((b d : ActorName) → has_actor w b ≡ true → has_actor w d ≡ true → number_in_world w b ≡ number_in_world w d → b ≡ d)
      → is_actor_among hosts media a ≡ true → (b : ActorName) → slice_get names (number_of hosts media a) ≡ Some b → b ≡ a
  found_at apart is b there =
      at_number w apart (count_in w) r.actors net.roster.actors_are (number_of hosts media a) a b
      (subst (λ (l : List ActorName). slice_get l (number_of hosts media a) ≡ Some b) net.actors_are there) (sym among_is ∙ is) (sym number_is)

-- what stands at a number
pub named_at : {A : Type 0} (f : A → ActorName) (xs : List A) (k : ℕ) (x : A) → k < length (map f xs) → x ≡ get_or xs k x → slice_get (map f xs) k ≡ Some (f x)
named_at f xs k x lt is =
    slice_get-map f xs k ∙ ap (option_map f) (slice_get_read xs (length xs) k x refl (subst (λ (n : ℕ). k < n) (length-map xs f) lt) is)

-- Few.

pub within_most : (least most n : ℕ) → is_within least most n ≡ true → n ≤ most
within_most least most n is = leb-true n most (and_parts (nat_le least n) (nat_le n most) is).1

module _ (w : World) (is : IsWorld w) where
  pub few_hosts : length w.hosts ≤ 8
  few_hosts = within_most 1 8 (length w.hosts) is.some_hosts

  pub few_media : length w.media ≤ 4
  few_media = within_most 1 4 (length w.media) is.some_media

  pub few_scripts : length w.scripts ≤ 32
  few_scripts = leb-true (length w.scripts) 32 is.few_scripts

  pub few_actors : (actors : List ActorName) → AreNumbered w (count_in w) actors → length actors < 2147483648
  few_actors actors are = omega (arith, are.many, few_hosts, few_media)

-- Books.

pub in_books : (bs : List Volume) (a : ActorName) → In a (actors_of bs) → (b : Volume) × In b bs × (b.actor ≡ a)
in_books [] a is = absurd is
in_books (b ∷ bs) a (inl is) = (b, inl refl, sym is)
in_books (b ∷ bs) a (inr there) = let rest = in_books bs a there in (rest.0, inr rest.1, rest.2)

pub blank_names : (n : ℕ) (names : List ActorName) (bs : List Volume) → AreBlank n names bs → (actors_of bs ≡ names) × AreUnused bs
blank_names n [] [] is = (refl, tt)
blank_names n [] (b ∷ bs) is = absurd is
blank_names n (a ∷ names) [] is = absurd is
blank_names n (a ∷ names) (b ∷ bs) is = let r = blank_names (n + 1) names bs is.1 in (cc (is.0.actor, r.0), (is.0.list, r.1))

pub unused_parts : (bs : List Volume) (b : Volume) → AreUnused (bs ++ b ∷ []) → AreUnused bs × (b.list ≡ [])
unused_parts [] b all = (tt, all.0)
unused_parts (x ∷ bs) b all = let r = unused_parts bs b all.1 in ((all.0, r.0), r.1)

unused_more : (bs : List Volume) (b : Volume) → AreUnused bs → b.list ≡ [] → AreUnused (bs ++ b ∷ [])
unused_more [] b all is = (is, tt)
unused_more (x ∷ bs) b all is = (all.0, unused_more bs b all.1 is)

pub unused_reverse : (bs : List Volume) → AreUnused bs → AreUnused (reverse bs)
unused_reverse [] all = tt
unused_reverse (b ∷ bs) all = subst (λ (l : List Volume). AreUnused l) (sym (reverse-append (b ∷ []) bs)) (unused_more (reverse bs) b (unused_reverse bs all.1) all.0)

in_back : (a : ActorName) (xs ys : List ActorName) → In a ys → In a (xs ++ ys)
in_back a [] ys there = there
in_back a (x ∷ xs) ys there = inr (in_back a xs ys there)

-- One after another: what was made of the first ones, with what stands for those that are left.
module _ {A B : Type 0} (f : A → ActorName) (g : B → ActorName) where
  -- one more is taken, and one more made of it
  pub taken_on : (made : List A) (left rest : List B) (all : List ActorName) (a : A) (b : B) → map f made ++ map g (reverse left) ≡ all → left ≡ rest ++ b ∷ []
      → f a ≡ g b → map f (made ++ a ∷ []) ++ map g (reverse rest) ≡ all
  taken_on made left rest all a b so is same =
      ap (λ (l : List ActorName). l ++ map g (reverse rest)) (map-append f made (a ∷ []))
      ∙ (append_assoc (map f made) (f a ∷ []) (map g (reverse rest))
      ∙ (ap (λ (n : ActorName). map f made ++ n ∷ map g (reverse rest)) same
      ∙ (ap (λ (l : List B). map f made ++ map g l) (sym (ap reverse is ∙ reverse-append rest (b ∷ []))) ∙ so)))

  -- what is taken was there
  pub taken_in : (made : List A) (left rest : List B) (all : List ActorName) (b : B) → map f made ++ map g (reverse left) ≡ all → left ≡ rest ++ b ∷ [] → In (g b) all
  taken_in made left rest all b so is =
      subst (λ (l : List ActorName). In (g b) l) so
      (in_back (g b) (map f made) (map g (reverse left))
      (subst (λ (l : List B). In (g b) (map g l)) (sym (ap reverse is ∙ reverse-append rest (b ∷ []))) (inl refl)))

  -- in the end
  pub taken_all : (made : List A) (left : List B) (all : List ActorName) → map f made ++ map g (reverse left) ≡ all → left ≡ [] → map f made ≡ all
  taken_all made left all so none = sym (append-nil (map f made)) ∙ (ap (λ (l : List B). map f made ++ map g (reverse l)) (sym none) ∙ so)

-- each actor of the roster is the world's
pub known : (w : World) (n : ℕ) (actors : List ActorName) → AreNumbered w n actors → (a : ActorName) → In a actors → has_actor w a ≡ true
known w n actors are a i = let at_k = in_get actors a i in (are.each at_k.0 a at_k.1).0

last_or : (bs : List Volume) (b d : Volume) → In d (bs ++ b ∷ []) → In d bs ⊎ (d ≡ b)
last_or [] b d (inl is) = inr is
last_or [] b d (inr none) = absurd none
last_or (x ∷ bs) b d (inl is) = inl (inl is)
last_or (x ∷ bs) b d (inr there) = more (last_or bs b d there)
  where
    more : In d bs ⊎ (d ≡ b) → In d (x ∷ bs) ⊎ (d ≡ b)
    more (inl i) = inl (inr i)
    more (inr e) = inr e

-- one book more
pub replayed_on : (w : World) (bs : List Volume) (b : Volume) → AreReplayed w bs → IsReplayed w b.actor b.list → AreReplayed w (bs ++ b ∷ [])
replayed_on w bs b all is d i = place (last_or bs b d i)
  where
    place : In d bs ⊎ (d ≡ b) → IsReplayed w d.actor d.list
    place (inl there) = all d there
    place (inr e) = subst (λ (x : Volume). IsReplayed w x.actor x.list) (sym e) is

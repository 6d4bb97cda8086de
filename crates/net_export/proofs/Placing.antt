-- Sessions' scripts in their places: the sessions so far are in them, and the other scripts as they were.
use Rattle.std.proofs.Common.{◌≡◌, ℕ, zero, suc, ◌+◌, ◌<◌, ◌≤◌, ◌||◌, nat_lt, nat_le, not, Bool, true, false, List, [], ◌∷◌, length, take, get_or, Some, slice_get, ◌⊎◌, inl, inr, refl, sym, ap, subst, ◌∙◌, arith}
use Rattle.std.specs.List.{list_all, list_any}
use Rattle.std.proofs.lemmas.Bool.{and_from, and_parts, eq-eqb, true≢false, cases_eq}
use Rattle.std.proofs.lemmas.List.{take_all}
use Rattle.std.proofs.lemmas.Option.{none-some, same_Some, slice_get_read, slice_get_within}
use Rattle.net_base.specs.declared.world.Script.{Script}
use Rattle.net_base.specs.declared.world.Step.{Step}
use Rattle.net_base.specs.Stamped.{In}
use Rattle.net_base.specs.World.{IsWorld, all_apart, is_script, is_step}
use Rattle.history_laws.proofs.Shared.{all_at}
use Rattle.session_script.specs.declared.world.Session.{Session}
use Rattle.session_script.specs.declared.world.SessionWorld.{SessionWorld}
use Rattle.net_base.specs.SessionScript.{IsScript}
use Rattle.session_script.specs.Worlds.{HaveHosts, HaveStreams, IsTranslated, Translates, same_place}
use Rattle.net_base.specs.declared.world.World.{World}
use Rattle.net_export.specs.Answered.{ArePlayed}
use Rattle.net_export.specs.Placed.{PlaysSession, PutsSession}
use Rattle.net_base.proofs.Shared.{there_at}

-- The sessions so far.

in_more : (ss : List Session) (n : ℕ) (x y : Session) → slice_get ss n ≡ Some x → In y (take (suc n) ss) → In y (take n ss) ⊎ (y ≡ x)
in_more [] n x y is there = absurd (none-some x is)
in_more (z ∷ ss) zero x y is (inl same) = inr (same ∙ same_Some z x is)
in_more (z ∷ ss) zero x y is (inr there) = absurd there
in_more (z ∷ ss) (suc n) x y is (inl same) = inl (inl same)
in_more (z ∷ ss) (suc n) x y is (inr there) = elim (in_more ss n x y is there) [ inl before ↦ inl (inr before) | inr last ↦ inr last ]

before_more : (ss : List Session) (n : ℕ) (y : Session) → In y (take n ss) → In y (take (suc n) ss)
before_more [] n y there = absurd (none n there)
  where
    none : (n : ℕ) → In y (take n []) → ⊥
    none zero there = there
    none (suc n) there = there
before_more (z ∷ ss) zero y there = absurd there
before_more (z ∷ ss) (suc n) y (inl same) = inl same
before_more (z ∷ ss) (suc n) y (inr there) = inr (before_more ss n y there)

last_more : (ss : List Session) (n : ℕ) (x : Session) → slice_get ss n ≡ Some x → In x (take (suc n) ss)
last_more [] n x is = absurd (none-some x is)
last_more (z ∷ ss) zero x is = inl (sym (same_Some z x is))
last_more (z ∷ ss) (suc n) x is = inr (last_more ss n x is)

-- it is one of all
pub in_all : (ss : List Session) (n : ℕ) (x : Session) → slice_get ss n ≡ Some x → In x ss
in_all [] n x is = absurd (none-some x is)
in_all (z ∷ ss) zero x is = inl (sym (same_Some z x is))
in_all (z ∷ ss) (suc n) x is = inr (in_all ss n x is)

-- no other that passes has its place
none_passes : (p : Session → Bool) (ss : List Session) (n : ℕ) (x : Session) → not (list_any p ss) ≡ true → slice_get ss n ≡ Some x → p x ≡ true → ⊥
none_passes p [] n x none is passes = none-some x is
none_passes p (z ∷ ss) n x none is passes = by n (p z) refl none is (none_passes p ss)
  where
    by : (n : ℕ) (b : Bool) → p z ≡ b → not (b || list_any p ss) ≡ true → slice_get (z ∷ ss) n ≡ Some x
        → ((n : ℕ) (x : Session) → not (list_any p ss) ≡ true → slice_get ss n ≡ Some x → p x ≡ true → ⊥) → ⊥
    by n true here none is rest = true≢false (sym none)
    by zero false here none is rest = true≢false (sym passes ∙ (sym (ap p (same_Some z x is)) ∙ here))
    by (suc n) false here none is rest = rest n x none is passes

places_apart : (ss : List Session) (n : ℕ) (x y : Session) → all_apart same_place ss ≡ true → slice_get ss n ≡ Some x → In y (take n ss) → y.place ≡ x.place → ⊥
places_apart [] n x y apart is there same = none-some x is
places_apart (z ∷ ss) zero x y apart is there same = there
places_apart (z ∷ ss) (suc n) x y apart is (inl first) same =
    none_passes (same_place z) ss n x (and_parts (not (list_any (same_place z) ss)) (all_apart same_place ss) apart).0 is
    (eq-eqb z.place x.place (sym (ap (λ (u : Session). u.place) first) ∙ same))
places_apart (z ∷ ss) (suc n) x y apart is (inr there) same =
    places_apart ss n x y (and_parts (not (list_any (same_place z) ss)) (all_apart same_place ss) apart).1 is there same

-- The world so far.

-- the world with the first n sessions alone
abbrev pub first_of : ℕ → SessionWorld → SessionWorld
first_of n s = record s { sessions = take n s.sessions }

pub record Placing (s : SessionWorld) (n : ℕ) (now : List Script) : Type 0 where
  pub count : length now ≡ length s.world.scripts
  pub each : (c : ℕ) (before after : Script) → slice_get s.world.scripts c ≡ Some before → slice_get now c ≡ Some after
      → Translates (first_of n s) c before after
  pub sayable : list_all (is_script (length s.world.hosts)) now ≡ true

pub placing_none : (s : SessionWorld) → IsWorld s.world → Placing s 0 s.world.scripts
placing_none s is =
    record {
      count = refl;
      each = λ c before after one two.
          let same : after ≡ before = same_Some after before (sym two ∙ one) in
          record { host = ap (λ (x : Script). x.host) same; script = λ none. same; session = λ x there at. absurd there };
      sayable = is.scripts;
    }

all_from : {X : Type 0} (p : X → Bool) (xs : List X) → ((c : ℕ) (x : X) → slice_get xs c ≡ Some x → p x ≡ true) → list_all p xs ≡ true
all_from p [] each = refl
all_from p (x ∷ xs) each = and_from (p x) (list_all p xs) (each 0 x refl) (all_from p xs (λ c y is. each (suc c) y is))

sayable_more : (hosts : ℕ) (x : Session) (old new : List Script) → PutsSession x old new → list_all (is_script hosts) old ≡ true
    → list_all (is_script hosts) new ≡ true
sayable_more hosts x old new puts all = all_from (is_script hosts) new (λ c y is. each c y is (cases_eq c x.place))
  where
    each : (c : ℕ) (y : Script) → slice_get new c ≡ Some y → (c ≡ x.place) ⊎ (c ≡ x.place → ⊥) → is_script hosts y ≡ true
    each c y is (inr other) = all_at (is_script hosts) old c y all (sym (puts.others c other) ∙ is)
    each c y is (inl same) =
        let stood = there_at old c (omega (arith, slice_get_within new c y is, puts.count)) in
        let own : PlaysSession x stood.0 y = puts.own stood.0 y (ap (λ (k : ℕ). slice_get old k) (sym same) ∙ stood.1)
        (ap (λ (k : ℕ). slice_get new k) (sym same) ∙ is) in
        let host : nat_lt y.host hosts ≡ true =
        subst (λ (h : ℕ). nat_lt h hosts ≡ true) (sym own.host)
        (and_parts (nat_lt stood.0.host hosts) (list_all is_step stood.0.steps) (all_at (is_script hosts) old c stood.0 all stood.1)).0 in
        and_from (nat_lt y.host hosts) (list_all is_step y.steps) host own.sayable

translates_more : (s : SessionWorld) (n : ℕ) (x : Session) (old new : List Script) → HaveStreams s → slice_get s.sessions n ≡ Some x
    → Placing s n old → PutsSession x old new
    → (c : ℕ) (before after : Script) → slice_get s.world.scripts c ≡ Some before → slice_get new c ≡ Some after → (c ≡ x.place) ⊎ (c ≡ x.place → ⊥)
    → Translates (first_of (suc n) s) c before after
translates_more s n x old new streams is placing puts c before after one two (inl same) =
    let stood = there_at old c (omega (arith, slice_get_within new c after two, puts.count)) in
    let own : PlaysSession x stood.0 after = puts.own stood.0 after (ap (λ (k : ℕ). slice_get old k) (sym same) ∙ stood.1)
    (ap (λ (k : ℕ). slice_get new k) (sym same) ∙ two) in
    let so_far = placing.each c before stood.0 one stood.1 in
    record {
      host = own.host ∙ so_far.host;
      script = λ none. absurd (none x (last_more s.sessions n x is) (sym same));
      session = λ y there at. elim (in_more s.sessions n x y is there) [
        | inl earlier ↦ absurd (places_apart s.sessions n x y streams.apart is earlier (at ∙ same))
        | inr last ↦ subst (λ (z : Session). IsScript z.stream after.steps) (sym last) own.session
      ];
    }
translates_more s n x old new streams is placing puts c before after one two (inr other) =
    let so_far = placing.each c before after one (sym (puts.others c other) ∙ two) in
    record {
      host = so_far.host;
      script = λ none. so_far.script (λ y there at. none y (before_more s.sessions n y there) at);
      session = λ y there at. elim (in_more s.sessions n x y is there) [
        | inl earlier ↦ so_far.session y earlier at
        | inr last ↦ absurd (other (sym at ∙ ap (λ (z : Session). z.place) last))
      ];
    }

-- The session that a loop is at.

pub session_at : (s : SessionWorld) (items : List Session) (n : ℕ) (x : Session) → items ≡ s.sessions → n < length items → x ≡ get_or items n x
    → slice_get s.sessions n ≡ Some x
session_at s items n x all below is = subst (λ (xs : List Session). slice_get xs n ≡ Some x) all (slice_get_read items (length items) n x refl below is)

pub has_place : (s : SessionWorld) (n : ℕ) (x : Session) (now : List Script) → HaveStreams s → Placing s n now → slice_get s.sessions n ≡ Some x
    → x.place < length now
has_place s n x now streams placing is = omega (arith, streams.places x (in_all s.sessions n x is), placing.count)

pub stream_at : (s : SessionWorld) (n : ℕ) (x : Session) → HaveStreams s → slice_get s.sessions n ≡ Some x → (steps : List Step) × IsScript x.stream steps
stream_at s n x streams is = streams.streams x (in_all s.sessions n x is)

-- its script was put in its place
pub placing_more : (s : SessionWorld) (n : ℕ) (x : Session) (old new : List Script) → HaveStreams s → Placing s n old → PutsSession x old new
    → slice_get s.sessions n ≡ Some x → Placing s (n + 1) new
placing_more s n x old new streams placing puts is =
    let more : Placing s (suc n) new =
    record {
      count = puts.count ∙ placing.count;
      each = λ c before after one two. translates_more s n x old new streams is placing puts c before after one two (cases_eq c x.place);
      sayable = sayable_more (length s.world.hosts) x old new puts placing.sayable;
    } in
    subst (λ (k : ℕ). Placing s k new) (omega arith) more

-- Behind the last one.

pub past_all : (s : SessionWorld) (items : List Session) (n : ℕ) → items ≡ s.sessions → length items ≤ n → length s.sessions ≤ n
past_all s items n all past = omega (arith, past, ap (λ (xs : List Session). length xs) all)

pub all_placed : (s : SessionWorld) (n : ℕ) (now : List Script) → Placing s n now → length s.sessions ≤ n → IsTranslated s (record s.world { scripts = now })
all_placed s n now placing all =
    record {
      others = refl;
      count = placing.count;
      each =
          λ c before after one two. subst (λ (ss : List Session). Translates (record s { sessions = ss }) c before after) (take_all n s.sessions all)
          (placing.each c before after one two);
    }

pub is_world : (s : SessionWorld) (n : ℕ) (now : List Script) → IsWorld s.world → Placing s n now → IsWorld (record s.world { scripts = now })
is_world s n now is placing =
    record {
      end = is.end;
      seed = is.seed;
      some_media = is.some_media;
      media = is.media;
      media_named = is.media_named;
      some_hosts = is.some_hosts;
      hosts = is.hosts;
      hosts_named = is.hosts_named;
      hosts_addressed = is.hosts_addressed;
      few_scripts = ap (λ (k : ℕ). nat_le k 32) placing.count ∙ is.few_scripts;
      scripts = placing.sayable;
      versions_timed = is.versions_timed;
      versions = is.versions;
    }

-- Sessions of the translated world.

pub are_played : (s : SessionWorld) (w : World) → HaveStreams s → HaveHosts s → IsTranslated s w → ArePlayed w s.sessions
are_played s w streams hosts is x there =
    let before = there_at s.world.scripts x.place (streams.places x there) in
    let after = there_at w.scripts x.place (omega (arith, streams.places x there, is.count)) in
    let now = is.each x.place before.0 after.0 before.1 after.1 in
    record { as_script = after.0; stands = after.1; host = now.host ∙ hosts x before.0 there before.1; plays = now.session x there refl }

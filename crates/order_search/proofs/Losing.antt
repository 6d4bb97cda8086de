-- Worlds that lose chosen frames: they are worlds, and the frames that were lost before make no difference.
use Rattle.std.proofs.Common.{◌≡◌, ℕ, zero, suc, ◌+◌, ◌^◌, ◌<◌, ◌≤◌, ◌==◌, ◌&&◌, Bool, true, false, not, List, [], ◌∷◌, ◌++◌, drop, filter, length, map, Some, nat_le, nat_lt, refl, sym, ap, subst, ◌∙◌, slice_get, arith}
use Rattle.std.proofs.lemmas.Bool.Decides.{nat_tests}
use Rattle.std.specs.Prelude.{bytes_eq}
use Rattle.std.specs.List.{list_all, list_any}
use Rattle.std.proofs.lemmas.Bool.{and_parts, or_parts, not_from_false, not-true, le-leb, leb-true, eqb-true, eqb-false}
use Rattle.std.proofs.lemmas.List.{append-nil, append_assoc}
use Rattle.std.proofs.lemmas.List.Folds.{list_all-append, list_any-append}
use Rattle.net_base.specs.declared.world.FateRange.{FateRange}
use Rattle.net_base.specs.declared.world.MediumSpec.{MediumSpec}
use Rattle.net_base.specs.declared.world.World.{World}
use Rattle.net_base.specs.World.{IsWorld, all_apart, are_media, is_host, is_medium, is_range, is_script, is_within, overlap}
use Rattle.net_base.proofs.Shared.{apart_turned, length_map, neither, next_one, past_all}
use Rattle.order_search.specs.Losses.{AreFrames, fate_line, fates_without, is_frame, is_on, medium_without, same_frame, without}
use Rattle.order_search.specs.declared.losses.Frame.{Frame}

-- Loops.

-- one frame of the link more
pub fate_more : (lost : List Frame) (n medium : ℕ) (f : Frame) (out new was : List FateRange) → slice_get lost n ≡ Some f → (f.medium == medium) ≡ true
    → new ≡ out ++ fate_line f ∷ [] → out ++ fates_without (drop n lost) medium ≡ was → new ++ fates_without (drop (n + 1) lost) medium ≡ was
fate_more lost n medium f out new was is here more all =
    ap (λ (l : List FateRange). l ++ fates_without (drop (n + 1) lost) medium) more
    ∙ (append_assoc out (fate_line f ∷ []) (fates_without (drop (n + 1) lost) medium) ∙ (ap (λ (l : List FateRange). out ++ l) (sym first) ∙ all))
  where
    on : fates_without (f ∷ drop (n + 1) lost) medium ≡ fate_line f ∷ fates_without (drop (n + 1) lost) medium
    on = rw here refl

    first : fates_without (drop n lost) medium ≡ fate_line f ∷ fates_without (drop (n + 1) lost) medium
    first = ap (λ (fs : List Frame). fates_without fs medium) (next_one lost n f is) ∙ on

-- one of another link
pub fate_other : (lost : List Frame) (n medium : ℕ) (f : Frame) (out was : List FateRange) → slice_get lost n ≡ Some f → (f.medium == medium) ≡ false
    → out ++ fates_without (drop n lost) medium ≡ was → out ++ fates_without (drop (n + 1) lost) medium ≡ was
fate_other lost n medium f out was is apart all = ap (λ (l : List FateRange). out ++ l) (sym first) ∙ all
  where
    off : fates_without (f ∷ drop (n + 1) lost) medium ≡ fates_without (drop (n + 1) lost) medium
    off = rw apart refl

    first : fates_without (drop n lost) medium ≡ fates_without (drop (n + 1) lost) medium
    first = ap (λ (fs : List Frame). fates_without fs medium) (next_one lost n f is) ∙ off

pub fates_done : (lost : List Frame) (n medium : ℕ) (out was : List FateRange) → length lost ≤ n → out ++ fates_without (drop n lost) medium ≡ was → out ≡ was
fates_done lost n medium out was le all =
    sym (append-nil out) ∙ (ap (λ (fs : List Frame). out ++ fates_without fs medium) (sym (past_all lost n le)) ∙ all)

-- one link more
pub medium_more : (lost : List Frame) (media : List MediumSpec) (n : ℕ) (s : MediumSpec) (out new was : List MediumSpec) → slice_get media n ≡ Some s
    → new ≡ out ++ medium_without lost s ∷ [] → out ++ map (medium_without lost) (drop n media) ≡ was → new ++ map (medium_without lost) (drop (n + 1) media) ≡ was
medium_more lost media n s out new was is more all =
    ap (λ (l : List MediumSpec). l ++ map (medium_without lost) (drop (n + 1) media)) more
    ∙ (append_assoc out (medium_without lost s ∷ []) (map (medium_without lost) (drop (n + 1) media))
    ∙ (ap (λ (ms : List MediumSpec). out ++ map (medium_without lost) ms) (sym (next_one media n s is)) ∙ all))

pub media_done : (lost : List Frame) (media : List MediumSpec) (n : ℕ) (out was : List MediumSpec) → length media ≤ n
    → out ++ map (medium_without lost) (drop n media) ≡ was → out ≡ was
media_done lost media n out was le all =
    sym (append-nil out) ∙ (ap (λ (ms : List MediumSpec). out ++ map (medium_without lost) ms) (sym (past_all media n le)) ∙ all)

-- Frames.

same_turned : (f g : Frame) → same_frame f g ≡ false → same_frame g f ≡ false
same_turned f g apart = by (f.medium == g.medium) refl
  where
    by : (b : Bool) → (f.medium == g.medium) ≡ b → same_frame g f ≡ false
    by false is = rw (apart_turned f.medium g.medium is) refl
    by true is = by_number (g.medium == f.medium)
      where
        number : (f.number == g.number) ≡ false
        number = ap (λ (b : Bool). b && (f.number == g.number)) (sym is) ∙ apart

        by_number : (b : Bool) → (b && (g.number == f.number)) ≡ false
        by_number true = apart_turned f.number g.number number
        by_number false = refl

apart_more : (fs : List Frame) (f : Frame) → all_apart same_frame fs ≡ true → list_any (same_frame f) fs ≡ false → all_apart same_frame (fs ++ f ∷ []) ≡ true
apart_more [] f apart none = refl
apart_more (g ∷ fs) f apart none = rw (later, apart_more fs f parts.1 others.1) refl
  where
    parts : (not (list_any (same_frame g) fs) ≡ true) × (all_apart same_frame fs ≡ true)
    parts = and_parts (not (list_any (same_frame g) fs)) (all_apart same_frame fs) apart

    others : (same_frame f g ≡ false) × (list_any (same_frame f) fs ≡ false)
    others = or_parts (same_frame f g) (list_any (same_frame f) fs) none

    later : list_any (same_frame g) (fs ++ f ∷ []) ≡ false
    later =
        list_any-append (same_frame g) fs (f ∷ [])
        ∙ neither (list_any (same_frame g) fs) (list_any (same_frame g) (f ∷ [])) (not-true (list_any (same_frame g) fs) parts.0)
        (neither (same_frame g f) false (same_turned f g others.0) refl)

some_number : (n : ℕ) → (n ≡ 0 → ⊥) → 1 ≤ n
some_number zero apart = absurd (apart refl)
some_number (suc n) apart = omega arith

-- a frame more that has a number, and is new
pub frame_added : (fs new : List Frame) (f : Frame) → AreFrames fs → (f.number ≡ 0 → ⊥) → f.number < 2 ^ 64 → list_any (same_frame f) fs ≡ false
    → new ≡ fs ++ f ∷ [] → AreFrames new
frame_added fs new f are some small none more = subst AreFrames (sym more) (record {
  numbered = list_all-append is_frame fs (f ∷ []) ∙ rw (are.numbered, one) refl;
  apart = apart_more fs f are.apart none;
})
  where
    one : is_frame f ≡ true
    one = rw (le-leb 1 f.number (some_number f.number some), below) refl
      where
        below : nat_lt f.number (2 ^ 64) ≡ true
        below = grind (arith, nat_tests, small)

pub no_frames : (fs : List Frame) → fs ≡ [] → AreFrames fs
no_frames fs is = subst AreFrames (sym is) (record { numbered = refl; apart = refl })

-- Links.

range_is : (f : Frame) → is_frame f ≡ true → is_range (fate_line f) ≡ true
range_is f is = rw (parts.0, le-leb f.number f.number (omega arith), parts.1) refl
  where
    parts : (nat_le 1 f.number ≡ true) × (nat_lt f.number (2 ^ 64) ≡ true)
    parts = and_parts (nat_le 1 f.number) (nat_lt f.number (2 ^ 64)) is

ranges_are : (fs : List Frame) (m : ℕ) → list_all is_frame fs ≡ true → list_all is_range (fates_without fs m) ≡ true
ranges_are [] m are = refl
ranges_are (f ∷ fs) m are = by parts.0 (ranges_are fs m parts.1) (f.medium == m) refl
  where
    parts : (is_frame f ≡ true) × (list_all is_frame fs ≡ true)
    parts = and_parts (is_frame f) (list_all is_frame fs) are

    by : is_frame f ≡ true → list_all is_range (fates_without fs m) ≡ true → (b : Bool) → (f.medium == m) ≡ b
        → list_all is_range (fates_without (f ∷ fs) m) ≡ true
    by this rest true on = rw (on, range_is f this, rest) refl
    by this rest false off = rw (off, rest) refl

line_apart : (f g : Frame) (m : ℕ) → (f.medium == m) ≡ true → (g.medium == m) ≡ true → same_frame f g ≡ false → overlap (fate_line f) (fate_line g) ≡ false
line_apart f g m on here apart = grind (arith, nat_tests, on, here, apart)

lines_apart : (f : Frame) (fs : List Frame) (m : ℕ) → (f.medium == m) ≡ true → list_any (same_frame f) fs ≡ false
    → list_any (overlap (fate_line f)) (fates_without fs m) ≡ false
lines_apart f [] m on none = refl
lines_apart f (g ∷ fs) m on none = by (lines_apart f fs m on parts.1) (g.medium == m) refl
  where
    parts : (same_frame f g ≡ false) × (list_any (same_frame f) fs ≡ false)
    parts = or_parts (same_frame f g) (list_any (same_frame f) fs) none

    by : list_any (overlap (fate_line f)) (fates_without fs m) ≡ false → (b : Bool) → (g.medium == m) ≡ b
        → list_any (overlap (fate_line f)) (fates_without (g ∷ fs) m) ≡ false
    by rest true here =
        rw here (neither (overlap (fate_line f) (fate_line g)) (list_any (overlap (fate_line f)) (fates_without fs m)) (line_apart f g m on here parts.0) rest)
    by rest false off = rw off rest

fates_apart : (fs : List Frame) (m : ℕ) → all_apart same_frame fs ≡ true → all_apart overlap (fates_without fs m) ≡ true
fates_apart [] m apart = refl
fates_apart (f ∷ fs) m apart = by (fates_apart fs m parts.1) (f.medium == m) refl
  where
    parts : (not (list_any (same_frame f) fs) ≡ true) × (all_apart same_frame fs ≡ true)
    parts = and_parts (not (list_any (same_frame f) fs)) (all_apart same_frame fs) apart

    by : all_apart overlap (fates_without fs m) ≡ true → (b : Bool) → (f.medium == m) ≡ b → all_apart overlap (fates_without (f ∷ fs) m) ≡ true
    by rest true on = rw (on, lines_apart f fs m on (not-true (list_any (same_frame f) fs) parts.0), rest) refl
    by rest false off = rw (off, rest) refl

-- the tests of a link that losses do not change, then those of its losses
medium_parts : (a b c d e f : Bool) → (a && (b && (c && (d && (e && f))))) ≡ true → (x y : Bool) → x ≡ true → y ≡ true
    → (a && (b && (c && (true && (x && y))))) ≡ true
medium_parts true true true true true true is x y one two = rw (one, two) refl
medium_parts false b c d e f is x y one two = absurd cc
medium_parts true false c d e f is x y one two = absurd cc
medium_parts true true false d e f is x y one two = absurd cc
medium_parts true true true false e f is x y one two = absurd cc
medium_parts true true true true false f is x y one two = absurd cc
medium_parts true true true true true false is x y one two = absurd cc

medium_stays : (lost : List Frame) (n : ℕ) (s : MediumSpec) → AreFrames lost → is_medium n s ≡ true → is_medium n (medium_without lost s) ≡ true
medium_stays lost n s are is =
    medium_parts (s.number == n) _ (is_within 576 16384 s.mtu) (nat_le (s.loss + s.twice + s.later) 1000) (list_all is_range s.fates) (all_apart overlap s.fates) is
    (list_all is_range (fates_without lost s.number)) (all_apart overlap (fates_without lost s.number)) (ranges_are lost s.number are.numbered)
    (fates_apart lost s.number are.apart)

media_stay : (lost : List Frame) (n : ℕ) (ms : List MediumSpec) → AreFrames lost → are_media n ms ≡ true → are_media n (map (medium_without lost) ms) ≡ true
media_stay lost n [] are is = refl
media_stay lost n (s ∷ ms) are is =
    let parts = and_parts (is_medium n s) (are_media (n + 1) ms) is in
    rw (medium_stays lost n s are parts.0, media_stay lost (n + 1) ms are parts.1) refl

names_stay : (lost : List Frame) (ms : List MediumSpec) → map (λ (s : MediumSpec). s.name) (map (medium_without lost) ms) ≡ map (λ (s : MediumSpec). s.name) ms
names_stay lost [] = refl
names_stay lost (s ∷ ms) = ap (λ (names : List (List ℕ)). s.name ∷ names) (names_stay lost ms)

-- Worlds.

-- a world that loses frames is one that a file can say
pub world_without : (w : World) (lost : List Frame) → IsWorld w → AreFrames lost → IsWorld (without w lost)
world_without w lost is are = record {
  end = is.end;
  seed = is.seed;
  some_media = ap (is_within 1 4) (length_map (medium_without lost) w.media) ∙ is.some_media;
  media = media_stay lost 0 w.media are is.media;
  media_named = ap (all_apart bytes_eq) (names_stay lost w.media) ∙ is.media_named;
  some_hosts = is.some_hosts;
  hosts = ap (λ (n : ℕ). list_all (is_host n) w.hosts) (length_map (medium_without lost) w.media) ∙ is.hosts;
  hosts_named = is.hosts_named;
  hosts_addressed = is.hosts_addressed;
  few_scripts = is.few_scripts;
  scripts = is.scripts;
  versions_timed = is.versions_timed;
  versions = is.versions;
}

media_again : (before lost : List Frame) (ms : List MediumSpec) → map (medium_without lost) (map (medium_without before) ms) ≡ map (medium_without lost) ms
media_again before lost [] = refl
media_again before lost (s ∷ ms) = ap (λ (rest : List MediumSpec). medium_without lost s ∷ rest) (media_again before lost ms)

-- the frames that were lost before make no difference
pub without_again : (w : World) (before lost : List Frame) → without (without w before) lost ≡ without w lost
without_again w before lost = ap (λ (ms : List MediumSpec). record w { media = ms }) (media_again before lost w.media)

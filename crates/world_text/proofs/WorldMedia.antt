-- The lines of the media behind one another: the world so far is what they say, and each line fits exactly where all of them do.
use Rattle.std.proofs.Common.{◌≡◌, ℕ, ◌+◌, ◌<◌, ◌≤◌, suc, Bool, true, false, not, ◌&&◌, ◌||◌, List, [], ◌∷◌, ◌++◌, length, refl, sym, ap, ◌∙◌, arith, Option, Some, None, append-nil, length-append}
use Rattle.std.specs.Prelude.{⊤, bytes_eq, filter_map, get_or, nat_le, nat_lt, if◌then◌else◌}
use Rattle.std.specs.List.{cons_option, list_all, list_any}
use Rattle.std.proofs.lemmas.Bool.{and_parts, false≢true, or_parts, not-false, lt-leb}
use Rattle.std.proofs.lemmas.Bool.Decides.{nat_tests}
use Rattle.std.proofs.lemmas.List.Elements.{filter_map-append}
use Rattle.std.proofs.lemmas.List.Folds.{list_all-append, list_any-append}
use Rattle.std.proofs.lemmas.Option.{none-some}
use Rattle.net_base.specs.declared.world.Fate.{Fate}
use Rattle.net_base.specs.declared.world.FateRange.{FateRange}
use Rattle.net_base.specs.declared.timer.Timers.{Timers}
use Rattle.net_base.specs.declared.world.MediumSpec.{MediumSpec}
use Rattle.net_base.specs.World.{all_apart, overlap}
use Rattle.world_text.specs.declared.line.Frames.{Frames}
use Rattle.world_text.specs.declared.line.LineCause.{LineCause}
use Rattle.world_text.specs.declared.line.LineCause.TheVariants as cause
use Rattle.world_text.specs.declared.line.MediumLine.{MediumLine}
use Rattle.world_text.specs.declared.line.MediumLine.TheVariants as medium
use Rattle.world_text.specs.WorldLines.{Draft, after_medium_line, has_fate, has_medium, is_before, is_fated, is_medium_named, is_past, is_rated, medium_line_cause, on_named_medium, plain_medium, range_of, refuse, with_fate, with_rates}
use Rattle.world_text.specs.WorldSpelling.{EachBehind, IsBehindMedium, Rates, SaysMedium, fate_on, media_named, media_said, medium_names, medium_said, name_said, no_rates, rated_name, rates_on}
use Rattle.world_text.specs.LineFit.{fit_medium_line}
use Rattle.world_text.proofs.WorldLists.{all-parts, all-push, any-map, apart-front, apart-push, each-front, each-last, each-none, each-push, false-of-not, none-if, same-bytes}
use Rattle.net_base.proofs.Shared.{and_none, same_text, equal_texts}

-- Causes.

-- no cause holds
pub unrefused : (c : LineCause) (b : Bool) (greater : Option LineCause) → refuse c b greater ≡ None → (b ≡ false) × (greater ≡ None)
unrefused c true greater e = absurd (none-some c (sym e))
unrefused c false greater e = (refl, e)

pub passes : (c : LineCause) (b : Bool) (greater : Option LineCause) → b ≡ false → greater ≡ None → refuse c b greater ≡ None
passes c b greater e rest = ap (λ v. if v then Some c else greater) e ∙ rest

-- Names.

abbrev pub names : List MediumLine → List (List ℕ)
names lines = filter_map name_said lines

pub names-media : (all : List MediumLine) (n : ℕ) (lines : List MediumLine) → medium_names (media_named all n lines) ≡ names lines
names-media all n [] = refl
names-media all n (medium.Medium called mtu ∷ lines) = ap (λ ns. called ∷ ns) (names-media all (n + 1) lines)
names-media all n (medium.Rates called loss twice later ∷ lines) = names-media all n lines
names-media all n (medium.Fate called f x ∷ lines) = names-media all n lines

pub any-named : (called : List ℕ) (all : List MediumLine) (n : ℕ) (lines : List MediumLine) → list_any (is_medium_named called) (media_named all n lines) ≡ list_any (bytes_eq called) (names lines)
any-named called all n lines =
    sym (any-map (bytes_eq called) (λ (s : MediumSpec). s.name) (media_named all n lines)) ∙ ap (list_any (bytes_eq called)) (names-media all n lines)

pub count-named : (all : List MediumLine) (n : ℕ) (lines : List MediumLine) → length (media_named all n lines) ≡ length (names lines)
count-named all n [] = refl
count-named all n (medium.Medium called mtu ∷ lines) = ap (λ k. suc k) (count-named all (n + 1) lines)
count-named all n (medium.Rates called loss twice later ∷ lines) = count-named all n lines
count-named all n (medium.Fate called f x ∷ lines) = count-named all n lines

-- a name that stands before stands among all
pub named-front : (called : List ℕ) (lines before rest : List MediumLine) → lines ≡ before ++ rest → SaysMedium called before → SaysMedium called lines
named-front called lines before rest e says =
    ap (λ ls. list_any (bytes_eq called) (names ls)) e
    ∙ (ap (list_any (bytes_eq called)) (filter_map-append name_said before rest)
    ∙ (list_any-append (bytes_eq called) (names before) (names rest) ∙ ap (λ b. b || list_any (bytes_eq called) (names rest)) says))

-- no line has a fate for a name that isn't a medium's
pub unfated : (called : List ℕ) (lines : List MediumLine) → EachBehind IsBehindMedium lines → list_any (bytes_eq called) (names lines) ≡ false → filter_map (fate_on called) lines ≡ []
unfated called lines behind none = none-if (fate_on called) lines at
  where
    by : (other : List ℕ) (f : FateRange) (before rest : List MediumLine) → lines ≡ before ++ rest → SaysMedium other before → (b : Bool) → bytes_eq called other ≡ b → (if b then Some f else None) ≡ None
    by other f before rest e says false is = refl
    by other f before rest e says true is =
        absurd (false≢true (sym none ∙ named-front called lines before rest e (ap (λ c. list_any (bytes_eq c) (names before)) (equal_texts called other is) ∙ says)))

    at : (before : List MediumLine) (x : MediumLine) (rest : List MediumLine) → lines ≡ before ++ x ∷ rest → fate_on called x ≡ None
    at before (medium.Medium other mtu) rest e = refl
    at before (medium.Rates other loss twice later) rest e = refl
    at before (medium.Fate other f x) rest e =
        by other (range_of f x) before (medium.Fate other f x ∷ rest) e (behind before (medium.Fate other f x) rest e) (bytes_eq called other) refl

-- no rates are said of a name that stands in none
pub unrated : (called : List ℕ) (lines : List MediumLine) → list_any (bytes_eq called) (filter_map rated_name lines) ≡ false → filter_map (rates_on called) lines ≡ []
unrated called [] none = refl
unrated called (medium.Medium other mtu ∷ lines) none = unrated called lines none
unrated called (medium.Fate other f x ∷ lines) none = unrated called lines none
unrated called (medium.Rates other loss twice later ∷ lines) none =
    let parts = or_parts (bytes_eq called other) (list_any (bytes_eq called) (filter_map rated_name lines)) none in
    ap (λ b. cons_option (if b then Some (record { loss = loss; twice = twice; later = later }) else None) (filter_map (rates_on called) lines)) parts.0
    ∙ unrated called lines parts.1

pub rates-unnamed : (called : List ℕ) (lines : List MediumLine) → EachBehind IsBehindMedium lines → list_any (bytes_eq called) (names lines) ≡ false → filter_map (rates_on called) lines ≡ []
rates-unnamed called lines behind none = none-if (rates_on called) lines at
  where
    by : (other : List ℕ) (r : Rates) (before rest : List MediumLine) → lines ≡ before ++ rest → SaysMedium other before → (b : Bool) → bytes_eq called other ≡ b → (if b then Some r else None) ≡ None
    by other r before rest e says false is = refl
    by other r before rest e says true is =
        absurd (false≢true (sym none ∙ named-front called lines before rest e (ap (λ c. list_any (bytes_eq c) (names before)) (equal_texts called other is) ∙ says)))

    at : (before : List MediumLine) (x : MediumLine) (rest : List MediumLine) → lines ≡ before ++ x ∷ rest → rates_on called x ≡ None
    at before (medium.Medium other mtu) rest e = refl
    at before (medium.Fate other f x) rest e = refl
    at before (medium.Rates other loss twice later) rest e =
        by other (record { loss = loss; twice = twice; later = later }) before (medium.Rates other loss twice later ∷ rest) e
        ((behind before (medium.Rates other loss twice later) rest e).0) (bytes_eq called other) refl

-- One line more.

abbrev medium_with : ℕ → List ℕ → ℕ → List Rates → List FateRange → MediumSpec
medium_with n called mtu rates fates = record {
  number = n;
  name = called;
  mtu = mtu;
  loss = (get_or rates 0 no_rates).loss;
  twice = (get_or rates 0 no_rates).twice;
  later = (get_or rates 0 no_rates).later;
  fates = fates;
}

-- what is said of a medium with one line more
said-push : (all : List MediumLine) (x : MediumLine) (n : ℕ) (called : List ℕ) (mtu : ℕ)
    → medium_said (all ++ x ∷ []) n called mtu
    ≡ medium_with n called mtu (filter_map (rates_on called) all ++ cons_option (rates_on called x) []) (filter_map (fate_on called) all ++ cons_option (fate_on called x) [])
said-push all x n called mtu =
    ap (λ rs. medium_with n called mtu rs (filter_map (fate_on called) (all ++ x ∷ []))) (filter_map-append (rates_on called) all (x ∷ []))
    ∙ ap (medium_with n called mtu (filter_map (rates_on called) all ++ cons_option (rates_on called x) [])) (filter_map-append (fate_on called) all (x ∷ []))

-- a line that says a medium says nothing of another one
said-medium : (all : List MediumLine) (other : List ℕ) (size n : ℕ) (called : List ℕ) (mtu : ℕ) → medium_said (all ++ medium.Medium other size ∷ []) n called mtu ≡ medium_said all n called mtu
said-medium all other size n called mtu =
    said-push all (medium.Medium other size) n called mtu
    ∙ (ap (λ rs. medium_with n called mtu rs (filter_map (fate_on called) all ++ [])) (append-nil (filter_map (rates_on called) all))
    ∙ ap (medium_with n called mtu (filter_map (rates_on called) all)) (append-nil (filter_map (fate_on called) all)))

count_up : (n k : ℕ) → n + 1 + k ≡ n + suc k
count_up n k = omega arith

medium-pushed : (all : List MediumLine) (called : List ℕ) (mtu n : ℕ) (lines : List MediumLine)
    → media_named (all ++ medium.Medium called mtu ∷ []) n (lines ++ medium.Medium called mtu ∷ [])
    ≡ media_named all n lines ++ medium_said all (n + length (names lines)) called mtu ∷ []
medium-pushed all called mtu n [] =
    ap (λ s. s ∷ []) (said-medium all called mtu n called mtu) ∙ ap (λ k. medium_said all k called mtu ∷ []) (omega arith)
medium-pushed all called mtu n (medium.Medium other size ∷ lines) =
    ap (λ s. s ∷ media_named (all ++ medium.Medium called mtu ∷ []) (n + 1) (lines ++ medium.Medium called mtu ∷ [])) (said-medium all called mtu n other size)
    ∙ (ap (λ ss. medium_said all n other size ∷ ss) (medium-pushed all called mtu (n + 1) lines)
    ∙ ap (λ k. medium_said all n other size ∷ (media_named all (n + 1) lines ++ medium_said all k called mtu ∷ [])) (count_up n (length (names lines))))
medium-pushed all called mtu n (medium.Rates other loss twice later ∷ lines) = medium-pushed all called mtu n lines
medium-pushed all called mtu n (medium.Fate other f x ∷ lines) = medium-pushed all called mtu n lines

-- a line that says no medium
quiet : (all : List MediumLine) (y : MediumLine) (n : ℕ) (lines : List MediumLine) → ((m : ℕ) → media_named all m (y ∷ []) ≡ []) → media_named all n (lines ++ y ∷ []) ≡ media_named all n lines
quiet all y n [] none = none n
quiet all y n (medium.Medium other mtu ∷ lines) none = ap (λ ss. medium_said all n other mtu ∷ ss) (quiet all y (n + 1) lines none)
quiet all y n (medium.Rates other a b c ∷ lines) none = quiet all y n lines none
quiet all y n (medium.Fate other f x ∷ lines) none = quiet all y n lines none

said-rates : (all : List MediumLine) (other : List ℕ) (loss twice later n : ℕ) (called : List ℕ) (mtu : ℕ) → filter_map (rates_on other) all ≡ []
    → medium_said (all ++ medium.Rates other loss twice later ∷ []) n called mtu
    ≡ (if bytes_eq other called then with_rates loss twice later (medium_said all n called mtu) else medium_said all n called mtu)
said-rates all other loss twice later n called mtu none = said-push all (medium.Rates other loss twice later) n called mtu ∙ by (bytes_eq other called) refl
  where
    r : Rates
    r = record { loss = loss; twice = twice; later = later }

    by : (b : Bool) → bytes_eq other called ≡ b
        → medium_with n called mtu (filter_map (rates_on called) all ++ cons_option (if bytes_eq called other then Some r else None) []) (filter_map (fate_on called) all ++ [])
        ≡ (if b then with_rates loss twice later (medium_said all n called mtu) else medium_said all n called mtu)
    by true is =
        ap (λ v. medium_with n called mtu (filter_map (rates_on called) all ++ cons_option (if v then Some r else None) []) (filter_map (fate_on called) all ++ [])) (same-bytes called other ∙ is)
        ∙ (ap (λ rs. medium_with n called mtu (rs ++ r ∷ []) (filter_map (fate_on called) all ++ [])) (ap (λ c. filter_map (rates_on c) all) (sym (equal_texts other called is)) ∙ none)
        ∙ ap (medium_with n called mtu (r ∷ [])) (append-nil (filter_map (fate_on called) all)))
    by false is =
        ap (λ v. medium_with n called mtu (filter_map (rates_on called) all ++ cons_option (if v then Some r else None) []) (filter_map (fate_on called) all ++ [])) (same-bytes called other ∙ is)
        ∙ (ap (λ rs. medium_with n called mtu rs (filter_map (fate_on called) all ++ [])) (append-nil (filter_map (rates_on called) all))
        ∙ ap (medium_with n called mtu (filter_map (rates_on called) all)) (append-nil (filter_map (fate_on called) all)))

rates-pushed : (all : List MediumLine) (called : List ℕ) (loss twice later n : ℕ) (lines : List MediumLine) → filter_map (rates_on called) all ≡ []
    → media_named (all ++ medium.Rates called loss twice later ∷ []) n lines ≡ on_named_medium called (with_rates loss twice later) (media_named all n lines)
rates-pushed all called loss twice later n [] none = refl
rates-pushed all called loss twice later n (medium.Medium other mtu ∷ lines) none =
    ap (λ s. s ∷ media_named (all ++ medium.Rates called loss twice later ∷ []) (n + 1) lines) (said-rates all called loss twice later n other mtu none)
    ∙ ap (λ ss. (if bytes_eq called other then with_rates loss twice later (medium_said all n other mtu) else medium_said all n other mtu) ∷ ss) (rates-pushed all called loss twice later (n + 1) lines none)
rates-pushed all called loss twice later n (medium.Rates other a b c ∷ lines) none = rates-pushed all called loss twice later n lines none
rates-pushed all called loss twice later n (medium.Fate other f x ∷ lines) none = rates-pushed all called loss twice later n lines none

said-fate : (all : List MediumLine) (other : List ℕ) (f : Frames) (x : Fate) (n : ℕ) (called : List ℕ) (mtu : ℕ)
    → medium_said (all ++ medium.Fate other f x ∷ []) n called mtu
    ≡ (if bytes_eq other called then with_fate (range_of f x) (medium_said all n called mtu) else medium_said all n called mtu)
said-fate all other f x n called mtu = said-push all (medium.Fate other f x) n called mtu ∙ by (bytes_eq other called) refl
  where
    by : (b : Bool) → bytes_eq other called ≡ b
        → medium_with n called mtu (filter_map (rates_on called) all ++ []) (filter_map (fate_on called) all ++ cons_option (if bytes_eq called other then Some (range_of f x) else None) [])
        ≡ (if b then with_fate (range_of f x) (medium_said all n called mtu) else medium_said all n called mtu)
    by true is =
        ap (λ v. medium_with n called mtu (filter_map (rates_on called) all ++ []) (filter_map (fate_on called) all ++ cons_option (if v then Some (range_of f x) else None) [])) (same-bytes called other ∙ is)
        ∙ ap (λ rs. medium_with n called mtu rs (filter_map (fate_on called) all ++ range_of f x ∷ [])) (append-nil (filter_map (rates_on called) all))
    by false is =
        ap (λ v. medium_with n called mtu (filter_map (rates_on called) all ++ []) (filter_map (fate_on called) all ++ cons_option (if v then Some (range_of f x) else None) [])) (same-bytes called other ∙ is)
        ∙ (ap (λ rs. medium_with n called mtu rs (filter_map (fate_on called) all ++ [])) (append-nil (filter_map (rates_on called) all))
        ∙ ap (medium_with n called mtu (filter_map (rates_on called) all)) (append-nil (filter_map (fate_on called) all)))

fate-pushed : (all : List MediumLine) (called : List ℕ) (f : Frames) (x : Fate) (n : ℕ) (lines : List MediumLine)
    → media_named (all ++ medium.Fate called f x ∷ []) n lines ≡ on_named_medium called (with_fate (range_of f x)) (media_named all n lines)
fate-pushed all called f x n [] = refl
fate-pushed all called f x n (medium.Medium other mtu ∷ lines) =
    ap (λ s. s ∷ media_named (all ++ medium.Fate called f x ∷ []) (n + 1) lines) (said-fate all called f x n other mtu)
    ∙ ap (λ ss. (if bytes_eq called other then with_fate (range_of f x) (medium_said all n other mtu) else medium_said all n other mtu) ∷ ss) (fate-pushed all called f x (n + 1) lines)
fate-pushed all called f x n (medium.Rates other a b c ∷ lines) = fate-pushed all called f x n lines
fate-pushed all called f x n (medium.Fate other g y ∷ lines) = fate-pushed all called f x n lines

-- The world so far.

abbrev pub media_group : List MediumLine → ℕ
media_group [] = 3
media_group (x ∷ lines) = 4

-- what lines of media lead to
abbrev pub media_draft : Timers → ℕ → ℕ → List MediumLine → Draft
media_draft kind e s lines = record {
  group = media_group lines;
  end = e;
  seed = s;
  timers = kind;
  media = media_said lines;
  rated = filter_map rated_name lines;
  hosts = [];
  scripts = [];
}

-- a medium has a new name
abbrev pub IsNew : List MediumLine → MediumLine → Type 0
IsNew lines (medium.Medium called mtu) = list_any (bytes_eq called) (names lines) ≡ false
IsNew lines (medium.Rates called loss twice later) = ⊤
IsNew lines (medium.Fate called f x) = ⊤

group-pushed : (lines : List MediumLine) (x : MediumLine) → media_group (lines ++ x ∷ []) ≡ 4
group-pushed [] x = refl
group-pushed (y ∷ lines) x = refl

pub group-said : (called : List ℕ) (lines : List MediumLine) → SaysMedium called lines → media_group lines ≡ 4
group-said called [] says = absurd (false≢true says)
group-said called (x ∷ lines) says = refl

abbrev draft_with : ℕ → Timers → ℕ → ℕ → List MediumSpec → List (List ℕ) → Draft
draft_with g kind e s media rated = record { group = g; end = e; seed = s; timers = kind; media = media; rated = rated; hosts = []; scripts = [] }

plain-said : (lines : List MediumLine) (n : ℕ) (called : List ℕ) (mtu : ℕ) → EachBehind IsBehindMedium lines → list_any (bytes_eq called) (names lines) ≡ false
    → medium_said lines n called mtu ≡ plain_medium n called mtu
plain-said lines n called mtu behind new =
    ap (λ rs. medium_with n called mtu rs (filter_map (fate_on called) lines)) (rates-unnamed called lines behind new)
    ∙ ap (medium_with n called mtu []) (unfated called lines behind new)

from_zero : (n : ℕ) → n ≡ 0 + n
from_zero n = omega arith

-- a line that fits leads on to what all lines say
pub media-after : (kind : Timers) (e s : ℕ) (lines : List MediumLine) (x : MediumLine) → EachBehind IsBehindMedium lines → IsBehindMedium lines x → IsNew lines x
    → after_medium_line (media_draft kind e s lines) x ≡ media_draft kind e s (lines ++ x ∷ [])
media-after kind e s lines (medium.Medium called mtu) behind here new =
    ap (λ ms. draft_with 4 kind e s ms (filter_map rated_name lines))
    (ap (λ k. media_said lines ++ plain_medium k called mtu ∷ []) (count-named lines 0 lines)
    ∙ (ap (λ m. media_said lines ++ m ∷ []) (sym (plain-said lines (length (names lines)) called mtu behind new))
    ∙ (ap (λ k. media_said lines ++ medium_said lines k called mtu ∷ []) (from_zero (length (names lines))) ∙ sym (medium-pushed lines called mtu 0 lines))))
    ∙ (ap (λ g. draft_with g kind e s (media_said (lines ++ medium.Medium called mtu ∷ [])) (filter_map rated_name lines)) (sym (group-pushed lines (medium.Medium called mtu)))
    ∙ ap (draft_with (media_group (lines ++ medium.Medium called mtu ∷ [])) kind e s (media_said (lines ++ medium.Medium called mtu ∷ [])))
    (sym (filter_map-append rated_name lines (medium.Medium called mtu ∷ []) ∙ append-nil (filter_map rated_name lines))))
media-after kind e s lines (medium.Rates called loss twice later) behind here new =
    ap (λ ms. draft_with (media_group lines) kind e s ms (filter_map rated_name lines ++ called ∷ []))
    (sym (quiet (lines ++ medium.Rates called loss twice later ∷ []) (medium.Rates called loss twice later) 0 lines (λ m. refl)
    ∙ rates-pushed lines called loss twice later 0 lines (unrated called lines here.1)))
    ∙ (ap (λ g. draft_with g kind e s (media_said (lines ++ medium.Rates called loss twice later ∷ [])) (filter_map rated_name lines ++ called ∷ []))
    (group-said called lines here.0 ∙ sym (group-pushed lines (medium.Rates called loss twice later)))
    ∙ ap (draft_with (media_group (lines ++ medium.Rates called loss twice later ∷ [])) kind e s (media_said (lines ++ medium.Rates called loss twice later ∷ [])))
    (sym (filter_map-append rated_name lines (medium.Rates called loss twice later ∷ []))))
media-after kind e s lines (medium.Fate called f x) behind here new =
    ap (λ ms. draft_with (media_group lines) kind e s ms (filter_map rated_name lines))
    (sym (quiet (lines ++ medium.Fate called f x ∷ []) (medium.Fate called f x) 0 lines (λ m. refl) ∙ fate-pushed lines called f x 0 lines))
    ∙ (ap (λ g. draft_with g kind e s (media_said (lines ++ medium.Fate called f x ∷ [])) (filter_map rated_name lines)) (group-said called lines here ∙ sym (group-pushed lines (medium.Fate called f x)))
    ∙ ap (draft_with (media_group (lines ++ medium.Fate called f x ∷ [])) kind e s (media_said (lines ++ medium.Fate called f x ∷ [])))
    (sym (filter_map-append rated_name lines (medium.Fate called f x ∷ []) ∙ append-nil (filter_map rated_name lines))))

-- Lines that fit.

abbrev pub has_sum : MediumLine → Bool
has_sum (medium.Medium called mtu) = true
has_sum (medium.Rates called loss twice later) = nat_le (loss + twice + later) 1000
has_sum (medium.Fate called f x) = true

-- what the lines of the media owe
pub record FineMedia (lines : List MediumLine) : Type 0 where
  pub fit : list_all fit_medium_line lines ≡ true
  pub sums : list_all has_sum lines ≡ true
  pub behind : EachBehind IsBehindMedium lines
  pub apart : all_apart bytes_eq (names lines) ≡ true
  pub few : length (names lines) ≤ 4
  pub fated : (called : List ℕ) → all_apart overlap (filter_map (fate_on called) lines) ≡ true

pub fine-none : FineMedia []
fine-none = record { fit = refl; sums = refl; behind = each-none IsBehindMedium; apart = refl; few = omega arith; fated = λ called. refl }

both_swap : (a b : Bool) → (a && b) ≡ (b && a)
both_swap true true = refl
both_swap true false = refl
both_swap false true = refl
both_swap false false = refl

pub same-overlap : (f g : FateRange) → overlap f g ≡ overlap g f
same-overlap f g = both_swap (nat_le f.first g.last) (nat_le g.first f.last)

le-from-lt : (n : ℕ) → nat_lt 1000 n ≡ false → nat_le n 1000 ≡ true
le-from-lt n e = grind (arith, nat_tests)

lt-from-le : (n : ℕ) → nat_le n 1000 ≡ true → nat_lt 1000 n ≡ false
lt-from-le n e = grind (arith, nat_tests)

pub room-from : (m n : ℕ) → nat_le m n ≡ false → n < m
room-from m n e = grind (arith, nat_tests)

pub names-pushed : (lines : List MediumLine) (called : List ℕ) (mtu : ℕ) → names (lines ++ medium.Medium called mtu ∷ []) ≡ names lines ++ called ∷ []
names-pushed lines called mtu = filter_map-append name_said lines (medium.Medium called mtu ∷ [])

same-names : (lines : List MediumLine) (x : MediumLine) → name_said x ≡ None → names (lines ++ x ∷ []) ≡ names lines
same-names lines x e = filter_map-append name_said lines (x ∷ []) ∙ (ap (λ o. names lines ++ cons_option o []) e ∙ append-nil (names lines))

same-fates : (called : List ℕ) (lines : List MediumLine) (x : MediumLine) → fate_on called x ≡ None → filter_map (fate_on called) (lines ++ x ∷ []) ≡ filter_map (fate_on called) lines
same-fates called lines x e =
    filter_map-append (fate_on called) lines (x ∷ []) ∙ (ap (λ o. filter_map (fate_on called) lines ++ cons_option o []) e ∙ append-nil (filter_map (fate_on called) lines))

more-fates : (called : List ℕ) (lines : List MediumLine) (x : MediumLine) (f : FateRange) → fate_on called x ≡ Some f → filter_map (fate_on called) (lines ++ x ∷ []) ≡ filter_map (fate_on called) lines ++ f ∷ []
more-fates called lines x f e =
    filter_map-append (fate_on called) lines (x ∷ []) ∙ ap (λ o. filter_map (fate_on called) lines ++ cons_option o []) e

-- a medium with this name has the fates that lines say of it
any-fated : (called : List ℕ) (f : FateRange) (all : List MediumLine) (n : ℕ) (lines : List MediumLine)
    → list_any (is_fated called f) (media_named all n lines) ≡ (list_any (bytes_eq called) (names lines) && list_any (overlap f) (filter_map (fate_on called) all))
any-fated called f all n [] = refl
any-fated called f all n (medium.Medium other mtu ∷ lines) =
    ap (λ b. (bytes_eq called other && list_any (overlap f) (filter_map (fate_on other) all)) || b) (any-fated called f all (n + 1) lines)
    ∙ by (bytes_eq called other) refl
  where
    same : (a b : Bool) → ((true && a) || (b && a)) ≡ ((true || b) && a)
    same true true = refl
    same true false = refl
    same false true = refl
    same false false = refl

    by : (v : Bool) → bytes_eq called other ≡ v
        → ((v && list_any (overlap f) (filter_map (fate_on other) all)) || (list_any (bytes_eq called) (names lines) && list_any (overlap f) (filter_map (fate_on called) all)))
        ≡ ((v || list_any (bytes_eq called) (names lines)) && list_any (overlap f) (filter_map (fate_on called) all))
    by false is = refl
    by true is =
        ap (λ c. (true && list_any (overlap f) (filter_map (fate_on c) all)) || (list_any (bytes_eq called) (names lines) && list_any (overlap f) (filter_map (fate_on called) all))) (sym (equal_texts called other is))
        ∙ same (list_any (overlap f) (filter_map (fate_on called) all)) (list_any (bytes_eq called) (names lines))
any-fated called f all n (medium.Rates other a b c ∷ lines) = any-fated called f all n lines
any-fated called f all n (medium.Fate other g y ∷ lines) = any-fated called f all n lines

-- the tests of a line, of what lines say
knows : (kind : Timers) (e s : ℕ) (called : List ℕ) (lines : List MediumLine) → has_medium called (media_draft kind e s lines) ≡ list_any (bytes_eq called) (names lines)
knows kind e s called lines = any-named called lines 0 lines

not-past : (lines : List MediumLine) → nat_lt 4 (media_group lines) ≡ false
not-past [] = refl
not-past (x ∷ lines) = refl

not-before : (lines : List MediumLine) → nat_lt (media_group lines) 3 ≡ false
not-before [] = refl
not-before (x ∷ lines) = refl

pub record FitsBehind (lines : List MediumLine) (x : MediumLine) : Type 0 where
  pub fine : FineMedia (lines ++ x ∷ [])
  pub behind : IsBehindMedium lines x
  pub new : IsNew lines x

fits-medium : (kind : Timers) (e s : ℕ) (lines : List MediumLine) (called : List ℕ) (mtu : ℕ) → FineMedia lines → fit_medium_line (medium.Medium called mtu) ≡ true
    → medium_line_cause (media_draft kind e s lines) (medium.Medium called mtu) ≡ None → FitsBehind lines (medium.Medium called mtu)
fits-medium kind e s lines called mtu k fit good =
    let x : MediumLine = medium.Medium called mtu in
    let name = unrefused cause.NameTwice (has_medium called (media_draft kind e s lines)) _ good in
    let limit = unrefused cause.OverLimit (nat_le 4 (length (media_said lines))) _ name.1 in
    let new : list_any (bytes_eq called) (names lines) ≡ false = sym (knows kind e s called lines) ∙ name.0 in
    record {
      fine = record {
        fit = all-push fit_medium_line lines x k.fit fit;
        sums = all-push has_sum lines x k.sums refl;
        behind = each-push IsBehindMedium lines x k.behind tt;
        apart = ap (all_apart bytes_eq) (names-pushed lines called mtu)
            ∙ (apart-push bytes_eq same-bytes (names lines) called ∙ (ap (λ b. not b && all_apart bytes_eq (names lines)) new ∙ k.apart));
        few = let len = ap (λ (ns : List (List ℕ)). length ns) (names-pushed lines called mtu) in
            let more = length-append (names lines) (called ∷ []) in
            let count = count-named lines 0 lines in
            let room = room-from 4 (length (media_said lines)) limit.0 in omega (arith, len, more, count, room);
        fated = λ other. ap (all_apart overlap) (same-fates other lines x refl) ∙ k.fated other;
      };
      behind = tt;
      new = new;
    }

fits-rates : (kind : Timers) (e s : ℕ) (lines : List MediumLine) (called : List ℕ) (loss twice later : ℕ) → FineMedia lines → fit_medium_line (medium.Rates called loss twice later) ≡ true
    → medium_line_cause (media_draft kind e s lines) (medium.Rates called loss twice later) ≡ None → FitsBehind lines (medium.Rates called loss twice later)
fits-rates kind e s lines called loss twice later k fit good =
    let x : MediumLine = medium.Rates called loss twice later in
    let name = unrefused cause.UnknownName (not (has_medium called (media_draft kind e s lines))) _ good in
    let order = unrefused cause.OutOfOrder (is_past 4 (media_draft kind e s lines) || is_rated called (media_draft kind e s lines)) _ name.1 in
    let total = unrefused cause.FateClash (nat_lt 1000 (loss + twice + later)) _ order.1 in
    let says : SaysMedium called lines = sym (knows kind e s called lines) ∙ not-false (has_medium called (media_draft kind e s lines)) name.0 in
    let once = (or_parts (is_past 4 (media_draft kind e s lines)) (is_rated called (media_draft kind e s lines)) order.0).1 in
    record {
      fine = record {
        fit = all-push fit_medium_line lines x k.fit fit;
        sums = all-push has_sum lines x k.sums (le-from-lt (loss + twice + later) total.0);
        behind = each-push IsBehindMedium lines x k.behind (says, once);
        apart = ap (all_apart bytes_eq) (same-names lines x refl) ∙ k.apart;
        few = let len = ap (λ (ns : List (List ℕ)). length ns) (same-names lines x refl) in let few = k.few in omega (arith, len, few);
        fated = λ other. ap (all_apart overlap) (same-fates other lines x refl) ∙ k.fated other;
      };
      behind = (says, once);
      new = tt;
    }

fated-pushed : (called : List ℕ) (f : Frames) (x : Fate) (lines : List MediumLine) (other : List ℕ) → all_apart overlap (filter_map (fate_on other) lines) ≡ true
    → list_any (overlap (range_of f x)) (filter_map (fate_on called) lines) ≡ false → all_apart overlap (filter_map (fate_on other) (lines ++ medium.Fate called f x ∷ [])) ≡ true
fated-pushed called f x lines other before free = by (bytes_eq other called) refl
  where
    r : FateRange
    r = range_of f x

    by : (b : Bool) → bytes_eq other called ≡ b → all_apart overlap (filter_map (fate_on other) (lines ++ medium.Fate called f x ∷ [])) ≡ true
    by false is = ap (all_apart overlap) (same-fates other lines (medium.Fate called f x) (ap (λ v. if v then Some (range_of f x) else None) is)) ∙ before
    by true is =
        ap (all_apart overlap) (more-fates other lines (medium.Fate called f x) r (ap (λ v. if v then Some (range_of f x) else None) is))
        ∙ (apart-push overlap same-overlap (filter_map (fate_on other) lines) r
        ∙ (ap (λ c. not (list_any (overlap r) (filter_map (fate_on c) lines)) && all_apart overlap (filter_map (fate_on other) lines)) (equal_texts other called is)
        ∙ (ap (λ b. not b && all_apart overlap (filter_map (fate_on other) lines)) free ∙ before)))

fits-fate : (kind : Timers) (e s : ℕ) (lines : List MediumLine) (called : List ℕ) (f : Frames) (x : Fate) → FineMedia lines → fit_medium_line (medium.Fate called f x) ≡ true
    → medium_line_cause (media_draft kind e s lines) (medium.Fate called f x) ≡ None → FitsBehind lines (medium.Fate called f x)
fits-fate kind e s lines called f x k fit good =
    let l : MediumLine = medium.Fate called f x in
    let name = unrefused cause.UnknownName (not (has_medium called (media_draft kind e s lines))) _ good in
    let order = unrefused cause.OutOfOrder (is_past 4 (media_draft kind e s lines)) _ name.1 in
    let clash = unrefused cause.FateClash (has_fate called (range_of f x) (media_draft kind e s lines)) _ order.1 in
    let says : SaysMedium called lines = sym (knows kind e s called lines) ∙ not-false (has_medium called (media_draft kind e s lines)) name.0 in
    let free : list_any (overlap (range_of f x)) (filter_map (fate_on called) lines) ≡ false =
    sym (any-fated called (range_of f x) lines 0 lines ∙ ap (λ b. b && list_any (overlap (range_of f x)) (filter_map (fate_on called) lines)) says) ∙ clash.0 in
    record {
      fine = record {
        fit = all-push fit_medium_line lines l k.fit fit;
        sums = all-push has_sum lines l k.sums refl;
        behind = each-push IsBehindMedium lines l k.behind says;
        apart = ap (all_apart bytes_eq) (same-names lines l refl) ∙ k.apart;
        few = let len = ap (λ (ns : List (List ℕ)). length ns) (same-names lines l refl) in let few = k.few in omega (arith, len, few);
        fated = λ other. fated-pushed called f x lines other (k.fated other) free;
      };
      behind = says;
      new = tt;
    }

-- a line that isn't bad fits behind lines that do
pub media-fits : (kind : Timers) (e s : ℕ) (lines : List MediumLine) (x : MediumLine) → FineMedia lines → fit_medium_line x ≡ true → medium_line_cause (media_draft kind e s lines) x ≡ None → FitsBehind lines x
media-fits kind e s lines (medium.Medium called mtu) k fit good = fits-medium kind e s lines called mtu k fit good
media-fits kind e s lines (medium.Rates called loss twice later) k fit good = fits-rates kind e s lines called loss twice later k fit good
media-fits kind e s lines (medium.Fate called f x) k fit good = fits-fate kind e s lines called f x k fit good

-- Back from lines that fit.

pub media-front : (lines more : List MediumLine) → FineMedia (lines ++ more) → FineMedia lines
media-front lines more k = record {
  fit = (and_parts (list_all fit_medium_line lines) (list_all fit_medium_line more) (sym (list_all-append fit_medium_line lines more) ∙ k.fit)).0;
  sums = (and_parts (list_all has_sum lines) (list_all has_sum more) (sym (list_all-append has_sum lines more) ∙ k.sums)).0;
  behind = each-front IsBehindMedium lines more k.behind;
  apart = apart-front bytes_eq (names lines) (names more) (ap (all_apart bytes_eq) (sym (filter_map-append name_said lines more)) ∙ k.apart);
  few = let len = ap (λ (ns : List (List ℕ)). length ns) (filter_map-append name_said lines more) in
      let all = length-append (names lines) (names more) in
      let few = k.few in omega (arith, len, all, few);
  fated = λ called. apart-front overlap (filter_map (fate_on called) lines) (filter_map (fate_on called) more)
      (ap (all_apart overlap) (sym (filter_map-append (fate_on called) lines more)) ∙ k.fated called);
}

-- behind lines that fit a line that does isn't bad
pub record GoodBehind (kind : Timers) (e s : ℕ) (lines : List MediumLine) (x : MediumLine) : Type 0 where
  pub fine : FineMedia lines
  pub good : medium_line_cause (media_draft kind e s lines) x ≡ None
  pub new : IsNew lines x
  pub behind : IsBehindMedium lines x

good-medium : (kind : Timers) (e s : ℕ) (lines : List MediumLine) (called : List ℕ) (mtu : ℕ) → FineMedia (lines ++ medium.Medium called mtu ∷ []) → GoodBehind kind e s lines (medium.Medium called mtu)
good-medium kind e s lines called mtu k =
    let apart = and_parts (not (list_any (bytes_eq called) (names lines))) (all_apart bytes_eq (names lines))
    (sym (ap (all_apart bytes_eq) (names-pushed lines called mtu) ∙ apart-push bytes_eq same-bytes (names lines) called) ∙ k.apart) in
    let new = false-of-not (list_any (bytes_eq called) (names lines)) apart.0 in
    let room : length (media_said lines) < 4 =
    let len = ap (λ (ns : List (List ℕ)). length ns) (names-pushed lines called mtu) in
    let more = length-append (names lines) (called ∷ []) in
    let count = count-named lines 0 lines in
    let few = k.few in omega (arith, len, more, count, few) in
    record {
      fine = media-front lines (medium.Medium called mtu ∷ []) k;
      good = passes cause.NameTwice (has_medium called (media_draft kind e s lines)) _ (knows kind e s called lines ∙ new)
          (passes cause.OverLimit (nat_le 4 (length (media_said lines))) _ (lt-leb 4 (length (media_said lines)) room)
          (passes cause.OutOfOrder (is_past 4 (media_draft kind e s lines)) _ (not-past lines)
          (passes cause.MissingPart (is_before 3 (media_draft kind e s lines)) None (not-before lines) refl)));
      new = new;
      behind = tt;
    }

good-rates : (kind : Timers) (e s : ℕ) (lines : List MediumLine) (called : List ℕ) (loss twice later : ℕ) → FineMedia (lines ++ medium.Rates called loss twice later ∷ []) → GoodBehind kind e s lines (medium.Rates called loss twice later)
good-rates kind e s lines called loss twice later k =
    let x : MediumLine = medium.Rates called loss twice later in
    let here = each-last IsBehindMedium lines x k.behind in
    record {
      fine = media-front lines (x ∷ []) k;
      good = passes cause.UnknownName (not (has_medium called (media_draft kind e s lines))) _ (ap not (knows kind e s called lines) ∙ ap not here.0)
          (passes cause.OutOfOrder (is_past 4 (media_draft kind e s lines) || is_rated called (media_draft kind e s lines)) _ (ap (λ b. b || is_rated called (media_draft kind e s lines)) (not-past lines) ∙ here.1)
          (passes cause.FateClash (nat_lt 1000 (loss + twice + later)) None (lt-from-le (loss + twice + later) ((all-parts has_sum lines x k.sums).1)) refl));
      new = tt;
      behind = here;
    }

good-fate : (kind : Timers) (e s : ℕ) (lines : List MediumLine) (called : List ℕ) (f : Frames) (x : Fate) → FineMedia (lines ++ medium.Fate called f x ∷ []) → GoodBehind kind e s lines (medium.Fate called f x)
good-fate kind e s lines called f x k =
    let l : MediumLine = medium.Fate called f x in
    let r : FateRange = range_of f x in
    let says = each-last IsBehindMedium lines l k.behind in
    let own : bytes_eq called called ≡ true = same_text called in
    let apart = and_parts (not (list_any (overlap r) (filter_map (fate_on called) lines))) (all_apart overlap (filter_map (fate_on called) lines))
    (sym (ap (all_apart overlap) (more-fates called lines l r (ap (λ v. if v then Some r else None) own)) ∙ apart-push overlap same-overlap (filter_map (fate_on called) lines) r) ∙ k.fated called) in
    record {
      fine = media-front lines (l ∷ []) k;
      good = passes cause.UnknownName (not (has_medium called (media_draft kind e s lines))) _ (ap not (knows kind e s called lines) ∙ ap not says)
          (passes cause.OutOfOrder (is_past 4 (media_draft kind e s lines)) _ (not-past lines)
          (passes cause.FateClash (has_fate called r (media_draft kind e s lines)) None
          (any-fated called r lines 0 lines
          ∙ (ap (λ b. list_any (bytes_eq called) (names lines) && b) (false-of-not (list_any (overlap r) (filter_map (fate_on called) lines)) apart.0) ∙ and_none (list_any (bytes_eq called) (names lines)))) refl));
      new = tt;
      behind = says;
    }

pub media-good : (kind : Timers) (e s : ℕ) (lines : List MediumLine) (x : MediumLine) → FineMedia (lines ++ x ∷ []) → GoodBehind kind e s lines x
media-good kind e s lines (medium.Medium called mtu) k = good-medium kind e s lines called mtu k
media-good kind e s lines (medium.Rates called loss twice later) k = good-rates kind e s lines called loss twice later k
media-good kind e s lines (medium.Fate called f x) k = good-fate kind e s lines called f x k

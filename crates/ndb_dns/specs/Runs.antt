-- A name by runs of labels: each begins where the pointer that ends the last one points.
use Rattle.std.specs.Prelude.{◌≡◌, ◌<◌, ◌≤◌, ◌⊎◌, ℕ, ◌+◌, ◌-◌, ◌*◌, ◌==◌, Bool, true, ◌&&◌, nat_lt, nat_le, List, [], ◌∷◌, ◌++◌, length, take, drop, Option, Some, None, option_and_then, if◌then◌else◌}
use Rattle.std.specs.List.{list_all}
use Rattle.net_base.specs.NdbText.{is_empty}
use Rattle.net_base.specs.DomainNames.{Spells, is_label, lowered}
use Rattle.ndb_dns.specs.declared.fault.DnsError.{DnsError}
use Rattle.ndb_dns.specs.declared.fault.DnsError.TheVariants as error
use Rattle.ndb_dns.specs.declared.name.End.{End}
use Rattle.ndb_dns.specs.declared.name.Run.{Run}

-- ---- labels

-- the label that bytes begin with
abbrev pub label_of : List ℕ → Option (List ℕ)
label_of [] = None
label_of (count ∷ bytes) =
    if is_label (take count bytes) && length (take count bytes) == count then Some (take count bytes) else None

-- what stands behind a label in front
abbrev pub behind_label : List ℕ → List ℕ → List ℕ
behind_label label bytes = drop (length label) (drop 1 bytes)

-- bytes begin with these labels, and the rest begins with none
abbrev pub Runs : List ℕ → List (List ℕ) → List ℕ → Type 0
Runs bytes [] rest = (rest ≡ bytes) × (label_of bytes ≡ None)
Runs bytes (label ∷ labels) rest = (label_of bytes ≡ Some label) × Runs (behind_label label bytes) labels rest

-- ---- what ends them

abbrev pub zero_end : End
zero_end = record { len = 1; target = None }

-- a number whose first two bits are set is a pointer
abbrev pub pointer_in : ℕ → Option End
pointer_in number = if nat_lt number 49152 then None else Some (record { len = 2; target = Some (number - 49152) })

abbrev pub pointer_behind : ℕ → List ℕ → Option End
pointer_behind high [] = None
pointer_behind high (low ∷ bytes) = pointer_in (256 * high + low)

-- a zero byte or a pointer that bytes begin with
abbrev pub run_end_of : List ℕ → Option End
run_end_of [] = None
run_end_of (high ∷ bytes) = if high == 0 then Some zero_end else pointer_behind high bytes

-- the pointer of labels that begin at a place may point there
abbrev pub may_point : ℕ → Option ℕ → Bool
may_point place None = true
may_point place (Some target) = nat_le 12 target && nat_lt target place

abbrev pub allowed : ℕ → End → Option End
allowed place last = if may_point place last.target then Some last else None

abbrev pub run_ending : ℕ → List ℕ → Option End
run_ending place rest = option_and_then (allowed place) (run_end_of rest)

-- ---- runs

-- labels stand from a place on up to what ends them
pub record IsLabelRun (message : List ℕ) (place : ℕ) (labels : List (List ℕ)) (run : Run) : Type 0 where
  pub rest : List ℕ
  pub last : End
  pub runs : Runs (drop place message) labels rest
  pub ends : run_ending place rest ≡ Some last
  pub past : run.end ≡ length message - length rest + last.len
  pub points : run.target ≡ last.target

-- the labels to which a pointer leads, if there is one
abbrev pub LeadsTo : List ℕ → Option ℕ → List (List ℕ) → Type 0
LeadsTo message None labels = labels ≡ []
LeadsTo message (Some target) labels = (list_all is_label labels ≡ true) × ((past : ℕ) × Spells message target labels past)

-- ---- texts

-- a text with one label more, behind a dot where it isn't the first
abbrev pub with_label : List ℕ → List ℕ → List ℕ
with_label text label = (if is_empty text then [] else text ++ 46 ∷ []) ++ lowered label

abbrev pub with_labels : List ℕ → List (List ℕ) → List ℕ
with_labels text [] = text
with_labels text (label ∷ labels) = with_labels (with_label text label) labels

-- a text and what it became with these labels, which is short enough
pub record AddsLabelRun (text labelled : List ℕ) (labels : List (List ℕ)) : Type 0 where
  pub told : labelled ≡ with_labels text labels
  pub short : length labelled ≤ 253

-- ---- what is done and what is refused

pub record AddsLabels (bytes text rest now : List ℕ) : Type 0 where
  pub labels : List (List ℕ)
  pub runs : Runs bytes labels rest
  pub adds : AddsLabelRun text now labels

-- the text gets too long with labels that bytes begin with
abbrev pub AreTooLong : List ℕ → List ℕ → Type 0
AreTooLong bytes text =
    (labels : List (List ℕ)) (rest : List ℕ) → Runs bytes labels rest → 253 < length (with_labels text labels)

pub record AddsRun (message : List ℕ) (place : ℕ) (text now : List ℕ) (run : Run) : Type 0 where
  pub labels : List (List ℕ)
  pub stands : IsLabelRun message place labels run
  pub adds : AddsLabelRun text now labels

-- no labels stand from a place on with which the text is short enough
abbrev pub HasNoRun : List ℕ → ℕ → List ℕ → Type 0
HasNoRun message place text =
    (labels : List (List ℕ)) (run : Run) → IsLabelRun message place labels run → 253 < length (with_labels text labels)

pub record AddsPointed (message : List ℕ) (target : Option ℕ) (text now : List ℕ) : Type 0 where
  pub labels : List (List ℕ)
  pub leads : LeadsTo message target labels
  pub adds : AddsLabelRun text now labels

-- .. and a pointer leads to none
abbrev pub LeadsToNone : List ℕ → Option ℕ → List ℕ → Type 0
LeadsToNone message target text =
    (labels : List (List ℕ)) → LeadsTo message target labels → 253 < length (with_labels text labels)

-- an error is want of memory, which may come at any time, or tells the format, and then this holds
abbrev pub IsRunRefused : DnsError → Type 0 → Type 0
IsRunRefused e P = (e ≡ error.Memory) ⊎ ((e ≡ error.Format) × P)

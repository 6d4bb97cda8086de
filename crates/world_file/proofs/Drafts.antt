-- What lines change of a world so far.
use Rattle.std.proofs.Common.{◌≡◌, ℕ, ◌-◌, ◌<◌, ◌≤◌, ◌==◌, Bool, true, false, not, List, length, get_or, sym, ap, subst, ◌∙◌, arith, Option, Some, None}
use Rattle.std.specs.Prelude.{bit_and, bytes_eq, is_none, slice_set, if◌then◌else◌, map}
use Rattle.std.specs.List.{last_or, list_any, position_or_len}
use Rattle.std.specs.Option.{option_map_or}
use Rattle.std.proofs.lemmas.Bool.{true≢false}
use Rattle.std.proofs.lemmas.List.Sums.{prefix_len-le-length}
use Rattle.net_base.specs.declared.world.HostSpec.{HostSpec}
use Rattle.net_base.specs.declared.world.MediumSpec.{MediumSpec}
use Rattle.net_base.specs.declared.world.RouteLine.{RouteLine}
use Rattle.net_base.specs.declared.world.Script.{Script}
use Rattle.net_base.specs.Routes.{has_ip}
use Rattle.net_base.specs.World.{all_apart, is_mask}
use Rattle.world_text.specs.declared.line.LineCause.{LineCause}
use Rattle.world_text.specs.declared.line.LineCause.TheVariants as cause
use Rattle.world_text.specs.WorldLines.{Draft, at_last, has_iface_on, has_medium, host_under, if_cause, is_medium_named, is_net, is_under, knows_network, medium_number, on_named_medium, reaches, refuse, route_cause}
use Rattle.world_text.proofs.Shared.{unrefused}
use Rattle.world_file.proofs.Placed.{last_is, last_set, medium_none, medium_set}

-- Other lists.

pub with_media : (d e : Draft) (now : List MediumSpec) (f : List MediumSpec → List MediumSpec) → d ≡ e → now ≡ f d.media → record d { media = now } ≡ record e { media = f e.media }
with_media d e now f same is = ap (λ (ms : List MediumSpec). record d { media = ms }) is ∙ ap (λ (x : Draft). record x { media = f x.media }) same

pub with_hosts : (d e : Draft) (now : List HostSpec) (f : List HostSpec → List HostSpec) → d ≡ e → now ≡ f d.hosts → record d { hosts = now } ≡ record e { hosts = f e.hosts }
with_hosts d e now f same is = ap (λ (hs : List HostSpec). record d { hosts = hs }) is ∙ ap (λ (x : Draft). record x { hosts = f x.hosts }) same

pub with_scripts : (d e : Draft) (now : List Script) (f : List Script → List Script) → d ≡ e → now ≡ f d.scripts → record d { scripts = now } ≡ record e { scripts = f e.scripts }
with_scripts d e now f same is = ap (λ (ss : List Script). record d { scripts = ss }) is ∙ ap (λ (x : Draft). record x { scripts = f x.scripts }) same

-- the list stays where it is what it was
pub same_media : (e : Draft) (f : List MediumSpec → List MediumSpec) → f e.media ≡ e.media → e ≡ record e { media = f e.media }
same_media e f is = ap (λ (ms : List MediumSpec). record e { media = ms }) (sym is)

-- Places.

pub small_place : {A : Type 0} (p : A → Bool) (xs ys : List A) (n most : ℕ) → n ≡ position_or_len p xs → xs ≡ ys → length ys ≤ most → n ≤ most
small_place p xs ys n most at same few =
    let within = prefix_len-le-length (λ x. not (p x)) xs in
    let long = ap length same in omega (arith, at, within, long, few)

pub set_last : {A : Type 0} (f : A → A) (xs : List A) (len : ℕ) (d new : A) → len ≡ length xs → 0 < len → d ≡ get_or xs (len - 1) d → new ≡ f d → slice_set xs (len - 1) new ≡ at_last f xs
set_last f xs len d new e lt is to = last_set f xs (len - 1) d new (omega (arith, e, lt)) (to ∙ ap f is)

pub set_medium : (called : List ℕ) (f : MediumSpec → MediumSpec) (ms : List MediumSpec) (n : ℕ) (d new : MediumSpec) → all_apart bytes_eq (map (λ (s : MediumSpec). s.name) ms) ≡ true
    → n ≡ position_or_len (is_medium_named called) ms → n < length ms → d ≡ get_or ms n d → new ≡ f d → slice_set ms n new ≡ on_named_medium called f ms
set_medium called f ms n d new apart at lt is to =
    ap (λ (m : ℕ). slice_set ms m new) at
    ∙ medium_set called f ms d new apart (subst (λ (m : ℕ). m < length ms) at lt) (to ∙ ap f (is ∙ ap (λ (m : ℕ). get_or ms m d) at))

-- no medium has the name where its place is past the last
pub past_name : (called : List ℕ) (f : MediumSpec → MediumSpec) (xs ms : List MediumSpec) (n len : ℕ) → n ≡ position_or_len (is_medium_named called) xs → xs ≡ ms → len ≡ length xs → len ≤ n
    → on_named_medium called f ms ≡ ms
past_name called f xs ms n len at same long past =
    let all = ap length same in
    let there = at ∙ ap (position_or_len (is_medium_named called)) same in
    medium_none called f ms (λ lt. omega (arith, there, lt, all, long, past))

-- The host that lines stand under.

-- what doesn't hold of it doesn't hold of the last host
pub not_last : (holds : HostSpec → Bool) (d e : Draft) (len : ℕ) (h : HostSpec) → d ≡ e → len ≡ length d.hosts → 0 < len → h ≡ get_or d.hosts (len - 1) h
    → is_none (host_under e) ≡ false → is_under holds e ≡ false → holds h ≡ false
not_last holds d e len h same many lt is under none =
    by (d.group == 5) (last_or None d.hosts) (last_is None d.hosts (len - 1) h (omega (arith, many, lt)) ∙ ap (λ (x : HostSpec). Some x) (sym is))
    (ap (λ (x : Draft). is_none (host_under x)) same ∙ under)
    (ap (λ (x : Draft). is_under holds x) same ∙ none)
  where
    by : (b : Bool) (o : Option HostSpec) → o ≡ Some h → is_none (if b then o else None) ≡ false → option_map_or holds (if b then o else None) false ≡ false → holds h ≡ false
    by true o found some free = ap (λ (x : Option HostSpec). option_map_or holds x false) (sym found) ∙ free
    by false o found some free = absurd (true≢false some)

-- a line of an interface that isn't bad has a network of its own
pub new_iface : (d : Draft) (called : List ℕ) (ip mask : ℕ) → if_cause d called ip mask ≡ None → is_under (knows_network (bit_and ip mask) mask) d ≡ false
new_iface d called ip mask good =
    let six : Option LineCause = refuse cause.RouteTwice (is_under (knows_network (bit_and ip mask) mask) d) None in
    let five : Option LineCause = refuse cause.BadMask (not (is_mask mask)) six in
    let four : Option LineCause = refuse cause.OutOfOrder (is_none (host_under d)) five in
    let three : Option LineCause = refuse cause.AddressTwice (list_any (has_ip ip) d.hosts) four in
    let two : Option LineCause = refuse cause.NameTwice (is_under (has_iface_on (medium_number called d)) d) three in
    let a = unrefused cause.UnknownName (not (has_medium called d)) two good in
    let b = unrefused cause.NameTwice (is_under (has_iface_on (medium_number called d)) d) three a.1 in
    let c = unrefused cause.AddressTwice (list_any (has_ip ip) d.hosts) four b.1 in
    let e = unrefused cause.OutOfOrder (is_none (host_under d)) five c.1 in
    let f = unrefused cause.BadMask (not (is_mask mask)) six e.1 in
    (unrefused cause.RouteTwice (is_under (knows_network (bit_and ip mask) mask) d) None f.1).0

-- a route that isn't bad leads to a network of its own
pub new_route : (d : Draft) (l : RouteLine) → route_cause d l ≡ None → is_under (knows_network l.net l.mask) d ≡ false
new_route d l good =
    let four : Option LineCause = refuse cause.FarGateway (not (is_under (reaches l.gateway) d)) None in
    let three : Option LineCause = refuse cause.RouteTwice (is_under (knows_network l.net l.mask) d) four in
    let two : Option LineCause = refuse cause.BadMask (not (is_net l.net l.mask)) three in
    let a = unrefused cause.OutOfOrder (is_none (host_under d)) two good in
    let b = unrefused cause.BadMask (not (is_net l.net l.mask)) three a.1 in
    (unrefused cause.RouteTwice (is_under (knows_network l.net l.mask) d) four b.1).0

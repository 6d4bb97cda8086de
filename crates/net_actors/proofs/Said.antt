-- What a world says of the host or the medium of an actor.
use Rattle.std.proofs.Common.{◌≡◌, ◌≢◌, ℕ, zero, suc, ◌+◌, ◌<◌, ◌==◌, Bool, true, false, List, [], ◌∷◌, length, get_or, AllPairs, slice_get, Some, nat_lt, refl, ap, sym, subst, ◌∙◌, arith}
use Rattle.std.specs.List.{list_all}
use Rattle.std.proofs.lemmas.Bool.{and_parts, eqb-true, ltb-true, true≢false, false≢true}
use Rattle.std.proofs.lemmas.Option.{slice_get_read}
use Rattle.net_base.specs.declared.address.Proto.{Proto}
use Rattle.net_base.specs.declared.address.Proto.TheVariants as proto
use Rattle.net_base.specs.declared.world.HostSpec.{HostSpec}
use Rattle.net_base.specs.declared.world.MediumSpec.{MediumSpec}
use Rattle.net_base.specs.declared.world.Version.{Version}
use Rattle.net_base.specs.declared.world.World.{World}
use Rattle.net_base.specs.Desk.{opening_desk}
use Rattle.net_base.specs.Versions.{are_timed}
use Rattle.net_base.specs.World.{IsWorld, are_media, is_host, is_medium, is_name, is_nets}
use Rattle.net_actors.specs.AtDesk.{AreNets, AtDesk, IsAtSome, IsDeskOf, desk_at}

all_at : {A : Type 0} (p : A → Bool) (xs : List A) (i : ℕ) (d : A) → list_all p xs ≡ true → i < length xs → p (get_or xs i d) ≡ true
all_at p [] i d all lt = absurd (omega (arith, lt))
all_at p (x ∷ xs) zero d all lt = (and_parts (p x) (list_all p xs) all).0
all_at p (x ∷ xs) (suc i) d all lt = all_at p xs i d (and_parts (p x) (list_all p xs) all).1 (omega (arith, lt))

media_at : (n : ℕ) (ss : List MediumSpec) (i : ℕ) (d : MediumSpec) → are_media n ss ≡ true → i < length ss → (k : ℕ) × (is_medium k (get_or ss i d) ≡ true)
media_at n [] i d all lt = absurd (omega (arith, lt))
media_at n (s ∷ ss) zero d all lt = (n, (and_parts (is_medium n s) (are_media (n + 1) ss) all).0)
media_at n (s ∷ ss) (suc i) d all lt = media_at (n + 1) ss i d (and_parts (is_medium n s) (are_media (n + 1) ss) all).1 (omega (arith, lt))

-- Nets.

abbrev is_il : Proto → Bool
is_il proto.Il = true
is_il proto.Udp = false

apart : proto.Il ≡ proto.Udp → ⊥
apart e = true≢false (ap is_il e)

one_net : (p : Proto) → AllPairs (λ (net other : Proto). net ≢ other) (p ∷ [])
one_net p i j d lt within = absurd (omega (arith, lt, within))

two_nets : (p q : Proto) → p ≢ q → AllPairs (λ (net other : Proto). net ≢ other) (p ∷ q ∷ [])
two_nets p q ne zero (suc zero) d lt within = ne
two_nets p q ne zero zero d lt within = absurd (omega (arith, lt))
two_nets p q ne zero (suc (suc j)) d lt within = absurd (omega (arith, within))
two_nets p q ne (suc i) j d lt within = absurd (omega (arith, lt, within))

pub are_nets : (nets : List Proto) → is_nets nets ≡ true → AreNets nets
are_nets (proto.Il ∷ []) is = record { some = omega arith; once = one_net proto.Il }
are_nets (proto.Udp ∷ []) is = record { some = omega arith; once = one_net proto.Udp }
are_nets (proto.Il ∷ proto.Udp ∷ []) is = record { some = omega arith; once = two_nets proto.Il proto.Udp apart }
are_nets (proto.Udp ∷ proto.Il ∷ []) is = record { some = omega arith; once = two_nets proto.Udp proto.Il (λ e. apart (sym e)) }
are_nets _ is = absurd (false≢true is)

-- Hosts.

pub host_nets : (w : World) (xs : List HostSpec) (h : ℕ) (s : HostSpec) → IsWorld w → nat_lt h (length w.hosts) ≡ true → xs ≡ w.hosts → s ≡ get_or xs h s → is_nets s.nets ≡ true
host_nets w xs h s world has same at =
    let here = all_at (is_host (length w.media)) w.hosts h s world.hosts (ltb-true h (length w.hosts) has) in
    let is = at ∙ ap (λ (ys : List HostSpec). get_or ys h s) same in
    subst (λ (t : HostSpec). is_nets t.nets ≡ true) (sym is)
    (and_parts (is_nets (get_or w.hosts h s).nets) _ (and_parts (is_name (get_or w.hosts h s).name) _ here).1).0

read_at : {A : Type 0} (xs ys : List A) (i : ℕ) (s : A) → nat_lt i (length ys) ≡ true → xs ≡ ys → s ≡ get_or xs i s → slice_get ys i ≡ Some s
read_at xs ys i s has same at = slice_get_read ys (length ys) i s refl (ltb-true i (length ys) has) (at ∙ ap (λ (zs : List _). get_or zs i s) same)

-- a world has a first version
timed_some : (dbs : List Version) → are_timed dbs ≡ true → 0 < length dbs
timed_some [] timed = absurd (false≢true timed)
timed_some (v ∷ vs) timed = omega arith

pub some_versions : (w : World) (dbs : List Version) → IsWorld w → dbs ≡ w.dbs → 0 < length dbs
some_versions w dbs world is = subst (λ (vs : List Version). 0 < length vs) (sym is) (timed_some w.dbs world.versions_timed)

pub desk_is : (w : World) (xs : List HostSpec) (h : ℕ) (s : HostSpec) (dbs : List Version) (d : AtDesk) → nat_lt h (length w.hosts) ≡ true → xs ≡ w.hosts → s ≡ get_or xs h s → dbs ≡ w.dbs
    → d ≡ record { dbs = dbs; name = s.name; nets = s.nets; version = 0 } → IsDeskOf w h d
desk_is w xs h s dbs d has same at is made = record {
  databases = ap (λ (e : AtDesk). e.dbs) made ∙ is;
  host = subst (IsAtSome d) (sym (read_at xs w.hosts h s has same at)) (record { name_is = ap (λ (e : AtDesk). e.name) made; nets_are = ap (λ (e : AtDesk). e.nets) made });
}

-- the desk that was never asked to read again
pub desk_opens : (dbs : List Version) (s : HostSpec) (d : AtDesk) → d ≡ record { dbs = dbs; name = s.name; nets = s.nets; version = 0 } → desk_at d ≡ opening_desk
desk_opens dbs s d made = ap desk_at made

-- Media.

pub medium_spec : (w : World) (xs : List MediumSpec) (n : ℕ) (s : MediumSpec) → IsWorld w → nat_lt n (length w.media) ≡ true → xs ≡ w.media → s ≡ get_or xs n s → is_medium s.number s ≡ true
medium_spec w xs n s world has same at =
    let here = media_at 0 w.media n s world.media (ltb-true n (length w.media) has) in
    let is = at ∙ ap (λ (ys : List MediumSpec). get_or ys n s) same in
    let good : is_medium here.0 s ≡ true = subst (λ (t : MediumSpec). is_medium here.0 t ≡ true) (sym is) here.1 in
    let number = eqb-true s.number here.0 (and_parts (s.number == here.0) _ good).0 in
    subst (λ (k : ℕ). is_medium k s ≡ true) (sym number) good

pub medium_at : (w : World) (xs : List MediumSpec) (n : ℕ) (s : MediumSpec) → nat_lt n (length w.media) ≡ true → xs ≡ w.media → s ≡ get_or xs n s → slice_get w.media n ≡ Some s
medium_at w xs n s has same at = read_at xs w.media n s has same at

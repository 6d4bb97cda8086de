-- What holds between two lines of one answer.
use Rattle.std.proofs.Common.{◌≡◌, ◌≢◌, ℕ, ◌+◌, ◌*◌, ◌^◌, ◌<◌, ◌≤◌, ◌==◌, ◌&&◌, ◌||◌, Bool, true, false, not, cond, leb, List, [], ◌∷◌, ◌++◌, map, refl, sym, ap, ◌∙◌, subst, Option, Some, None, arith}
use Rattle.std.specs.Prelude.{filter, filter_map, flat_map, option_to_list, bytes_eq, codes, AllPairs, option_and_then}
use Rattle.std.specs.Option.{option_map_or}
use Rattle.std.proofs.lemmas.Bool.Decides.{nat_tests}
use Rattle.std.proofs.lemmas.List.Elements.{All-cons, All-nil}
use Rattle.std.proofs.lemmas.Slice.Eq.{bytes_eq-Decides}
use Rattle.net_base.specs.Ndb.{NdbPair}
use Rattle.net_base.specs.declared.address.Proto.{Proto}
use Rattle.net_base.specs.Addresses.{read_digits, within, read_byte, read_port, join_bytes, join_words, read_address, address_text, parts_at}
use Rattle.net_base.specs.Networks.{Network, own_networks, is_on}
use Rattle.net_base.specs.Search.{all_beside}
use Rattle.net_base.specs.Cs.{CsAnswer, Lines, Query, read_query, answer_read, answer_query, cs_list, refused_where_empty, nets_of, proto_name, host_words, address_texts, host_addresses, word_addresses, is_numeric, name_attr, once_each, named_ports, ports_of, cs_line, address_lines, is_any}
use Rattle.net_model.specs.CsOrder.{Dials, MayPrecede, OnFirst}
use Rattle.net_base.proofs.Shared.{IsWithout}
use Rattle.history_laws.proofs.Shared.{Each, Later, each_weaker, each_any, each_both, each_append, each_map, each_filter, each_passes, each_filter_map, each_flat_map, later_append, later_filter, later_map, later_flat_map, pairs_from_later, later_from_pairs}
use Rattle.net_model.proofs.CsTexts.{SameDial, same_line, same_address, address_without}

-- Numbers that are read are within their bounds.

within_is : (least greatest m n : ℕ) → within least greatest m ≡ Some n → n ≤ greatest
within_is least greatest m n e = at (leb least m) refl (leb m greatest) refl e
  where
    at : (a : Bool) → leb least m ≡ a → (b : Bool) → leb m greatest ≡ b → cond (a && b) (Some m) None ≡ Some n → n ≤ greatest
    at true ea true eb found = let same : m ≡ n = cc in grind (arith, nat_tests)
    at true ea false eb found = absurd cc
    at false ea b eb found = absurd cc

bounded : (greatest least n : ℕ) (o : Option ℕ) → option_and_then (within least greatest) o ≡ Some n → n ≤ greatest
bounded greatest least n None e = absurd cc
bounded greatest least n (Some m) e = within_is least greatest m n e

byte_small : (word : List ℕ) (n : ℕ) → read_byte word ≡ Some n → n ≤ 255
byte_small word n e = bounded 255 0 n (read_digits 3 word) e

pub port_small : (word : List ℕ) (n : ℕ) → read_port word ≡ Some n → n < 2 ^ 16
port_small word n e = let small = bounded 65535 1 n (read_digits 5 word) e in omega arith

joined_small : (a b c d : Option ℕ) → ((n : ℕ) → a ≡ Some n → n ≤ 255) → ((n : ℕ) → b ≡ Some n → n ≤ 255) → ((n : ℕ) → c ≡ Some n → n ≤ 255) → ((n : ℕ) → d ≡ Some n → n ≤ 255) → (ip : ℕ) → join_bytes a b c d ≡ Some ip → ip < 2 ^ 32
joined_small (Some a) (Some b) (Some c) (Some d) fa fb fc fd ip e =
    let la = fa a refl in let lb = fb b refl in let lc = fc c refl in let ld = fd d refl in
    let same : ((a * 256 + b) * 256 + c) * 256 + d ≡ ip = cc in
    omega arith
joined_small (Some a) (Some b) (Some c) None fa fb fc fd ip e = absurd cc
joined_small (Some a) (Some b) None d fa fb fc fd ip e = absurd cc
joined_small (Some a) None c d fa fb fc fd ip e = absurd cc
joined_small None b c d fa fb fc fd ip e = absurd cc

words_small : (words : List (List ℕ)) (ip : ℕ) → join_words words ≡ Some ip → ip < 2 ^ 32
words_small (a ∷ b ∷ c ∷ d ∷ []) ip e =
    joined_small (read_byte a) (read_byte b) (read_byte c) (read_byte d) (byte_small a) (byte_small b) (byte_small c) (byte_small d) ip e
words_small (a ∷ b ∷ c ∷ d ∷ f ∷ more) ip e = absurd cc
words_small (a ∷ b ∷ c ∷ []) ip e = absurd cc
words_small (a ∷ b ∷ []) ip e = absurd cc
words_small (a ∷ []) ip e = absurd cc
words_small [] ip e = absurd cc

address_small : (word : List ℕ) (ip : ℕ) → read_address word ≡ Some ip → ip < 2 ^ 32
address_small word ip e = words_small (parts_at 46 word) ip e

-- Each number once.

each_once : (P : ℕ → Type 0) (ns : List ℕ) → Each P ns → Each P (once_each ns)
each_once P [] all = tt
each_once P (n ∷ ns) all = (all.0, each_filter P (λ m. not (m == n)) (once_each ns) (each_once P ns all.1))

apart_from_test : (n m : ℕ) → not (m == n) ≡ true → n ≢ m
apart_from_test n m e same = grind (arith, nat_tests)

later_once : (ns : List ℕ) → Later (λ n m. n ≢ m) (once_each ns)
later_once [] = tt
later_once (n ∷ ns) = (
  each_weaker (λ m. not (m == n) ≡ true) (λ m. n ≢ m) (apart_from_test n) (filter (λ m. not (m == n)) (once_each ns)) (each_passes (λ m. not (m == n)) (once_each ns)),
  later_filter (λ m k. m ≢ k) (λ m. not (m == n)) (once_each ns) (later_once ns),
)

-- The ports of a service.

each_option : (P : ℕ → Type 0) (o : Option ℕ) → ((n : ℕ) → o ≡ Some n → P n) → Each P (option_to_list o)
each_option P None holds = tt
each_option P (Some n) holds = (holds n refl, tt)

ports_at : (o : Option ℕ) (named : List ℕ) → ((n : ℕ) → o ≡ Some n → n < 2 ^ 16) → Each (λ p. p < 2 ^ 16) named → Each (λ p. p < 2 ^ 16) (option_map_or (λ port. port ∷ []) o named)
ports_at None named small all = all
ports_at (Some port) named small all = (small port refl, tt)

ports_small : (db : List (List (List NdbPair))) (service : List ℕ) (net : Proto) → Each (λ p. p < 2 ^ 16) (ports_of db service net)
ports_small db service net =
    ports_at (read_port service) (named_ports db service net) (port_small service)
    (each_once (λ p. p < 2 ^ 16) (filter_map read_port (all_beside (proto_name net) service (codes "port") db))
    (each_filter_map (λ p. p < 2 ^ 16) read_port port_small (all_beside (proto_name net) service (codes "port") db)))

once_at : (o : Option ℕ) (named : List ℕ) → Later (λ p q. p ≢ q) named → Later (λ p q. p ≢ q) (option_map_or (λ port. port ∷ []) o named)
once_at None named all = all
once_at (Some port) named all = (tt, tt)

ports_once : (db : List (List (List NdbPair))) (service : List ℕ) (net : Proto) → Later (λ p q. p ≢ q) (ports_of db service net)
ports_once db service net =
    once_at (read_port service) (named_ports db service net) (later_once (filter_map read_port (all_beside (proto_name net) service (codes "port") db)))

-- The addresses of a host.

word_at : (db : List (List (List NdbPair))) (word : List ℕ) (numeric : Bool) → Each (λ ip. ip < 2 ^ 32) (cond numeric (option_to_list (read_address word)) (filter_map read_address (all_beside (name_attr word) word (codes "ip") db)))
word_at db word true = each_option (λ ip. ip < 2 ^ 32) (read_address word) (address_small word)
word_at db word false = each_filter_map (λ ip. ip < 2 ^ 32) read_address address_small (all_beside (name_attr word) word (codes "ip") db)

-- one on the networks may stand before one that isn't
abbrev pub OnBefore : List Network → ℕ → ℕ → Type 0
OnBefore networks ip other = is_on networks other ≡ true → is_on networks ip ≡ true

off_from_test : (b : Bool) → not b ≡ true → b ≡ true → ⊥
off_from_test true e same = absurd cc
off_from_test false e same = absurd cc

addresses_small : (db : List (List (List NdbPair))) (me host : List ℕ) → Each (λ ip. ip < 2 ^ 32) (host_addresses db me host)
addresses_small db me host =
    let found = flat_map (word_addresses db) (host_words db me host) in
    let all = each_once (λ ip. ip < 2 ^ 32) found (each_flat_map (λ ip. ip < 2 ^ 32) (word_addresses db) (λ word. word_at db word (is_numeric word)) (host_words db me host)) in
    each_append (λ ip. ip < 2 ^ 32) (filter (is_on (own_networks me db)) (once_each found)) (filter (λ ip. not (is_on (own_networks me db) ip)) (once_each found))
    (each_filter (λ ip. ip < 2 ^ 32) (is_on (own_networks me db)) (once_each found) all)
    (each_filter (λ ip. ip < 2 ^ 32) (λ ip. not (is_on (own_networks me db) ip)) (once_each found) all)

-- an address on the networks is another than one that isn't
first_apart : (networks : List Network) (ips : List ℕ) → Later (λ ip other. ip ≢ other) ips → Later (λ ip other. ip ≢ other) (filter (is_on networks) ips ++ filter (λ ip. not (is_on networks ip)) ips)
first_apart networks ips all =
    later_append (λ ip other. ip ≢ other) (filter (is_on networks) ips) (filter (λ ip. not (is_on networks ip)) ips)
    (later_filter (λ ip other. ip ≢ other) (is_on networks) ips all)
    (later_filter (λ ip other. ip ≢ other) (λ ip. not (is_on networks ip)) ips all)
    (each_weaker (λ ip. is_on networks ip ≡ true) (λ ip. Each (λ other. ip ≢ other) (filter (λ ip. not (is_on networks ip)) ips))
    (λ ip on. each_weaker (λ other. not (is_on networks other) ≡ true) (λ other. ip ≢ other)
    (λ other off same. off_from_test (is_on networks other) off (ap (is_on networks) (sym same) ∙ on))
    (filter (λ ip. not (is_on networks ip)) ips) (each_passes (λ ip. not (is_on networks ip)) ips))
    (filter (is_on networks) ips) (each_passes (is_on networks) ips))

later_of_all : (networks : List Network) (ips : List ℕ) → Each (λ ip. is_on networks ip ≡ true) ips → Later (OnBefore networks) ips
later_of_all networks [] all = tt
later_of_all networks (ip ∷ ips) all = (each_any (OnBefore networks ip) (λ other on. all.0) ips, later_of_all networks ips all.1)

later_of_none : (networks : List Network) (ips : List ℕ) → Each (λ ip. not (is_on networks ip) ≡ true) ips → Later (OnBefore networks) ips
later_of_none networks [] all = tt
later_of_none networks (ip ∷ ips) all = (
  each_weaker (λ other. not (is_on networks other) ≡ true) (OnBefore networks ip) (λ other off on. absurd (off_from_test (is_on networks other) off on)) ips all.1,
  later_of_none networks ips all.1,
)

first_on : (networks : List Network) (ips : List ℕ) → Later (OnBefore networks) (filter (is_on networks) ips ++ filter (λ ip. not (is_on networks ip)) ips)
first_on networks ips =
    later_append (OnBefore networks) (filter (is_on networks) ips) (filter (λ ip. not (is_on networks ip)) ips)
    (later_of_all networks (filter (is_on networks) ips) (each_passes (is_on networks) ips))
    (later_of_none networks (filter (λ ip. not (is_on networks ip)) ips) (each_passes (λ ip. not (is_on networks ip)) ips))
    (each_weaker (λ ip. is_on networks ip ≡ true) (λ ip. Each (OnBefore networks ip) (filter (λ ip. not (is_on networks ip)) ips))
    (λ ip on. each_any (OnBefore networks ip) (λ other _. on) (filter (λ ip. not (is_on networks ip)) ips))
    (filter (is_on networks) ips) (each_passes (is_on networks) ips))

-- The texts of the addresses.

pub any_text : (host : List ℕ) → is_any host ≡ true → host ≡ codes "*"
any_text host any = (bytes_eq-Decides host (codes "*")).0 any

abbrev Clean : List ℕ → Type 0
Clean text = IsWithout 33 text

any_clean : Clean (codes "*")
any_clean = All-cons (λ (x : ℕ). (x == 33) ≡ false) 42 [] refl (All-nil (λ (x : ℕ). (x == 33) ≡ false))

-- an address on the networks may stand before another, as they are written
abbrev TextBefore : List Network → List ℕ → List ℕ → Type 0
TextBefore networks text later =
    (ip other : ℕ) → ip < 2 ^ 32 → other < 2 ^ 32 → text ≡ address_text ip → later ≡ address_text other
    → is_on networks other ≡ true → is_on networks ip ≡ true

texts_clean : (db : List (List (List NdbPair))) (me host : List ℕ) (any : Bool) → is_any host ≡ any → Each Clean (cond any (host ∷ []) (map address_text (host_addresses db me host)))
texts_clean db me host true e = (subst Clean (sym (any_text host e)) any_clean, tt)
texts_clean db me host false e =
    each_map Clean address_text (host_addresses db me host)
    (each_weaker (λ ip. ip < 2 ^ 32) (λ ip. Clean (address_text ip)) (λ ip small. address_without 33 ip (omega arith) small) (host_addresses db me host) (addresses_small db me host))

texts_apart : (db : List (List (List NdbPair))) (me host : List ℕ) (any : Bool) → Later (λ text later. text ≢ later) (cond any (host ∷ []) (map address_text (host_addresses db me host)))
texts_apart db me host true = (tt, tt)
texts_apart db me host false =
    later_map (λ text later. text ≢ later) (λ ip other. ip ≢ other) (λ ip. ip < 2 ^ 32) address_text
    (λ ip other small low apart same. apart (same_address ip other small low same))
    (host_addresses db me host) (addresses_small db me host)
    (first_apart (own_networks me db) (once_each (flat_map (word_addresses db) (host_words db me host))) (later_once (flat_map (word_addresses db) (host_words db me host))))

texts_on : (db : List (List (List NdbPair))) (me host : List ℕ) (any : Bool) → Later (TextBefore (own_networks me db)) (cond any (host ∷ []) (map address_text (host_addresses db me host)))
texts_on db me host true = (tt, tt)
texts_on db me host false =
    later_map (TextBefore (own_networks me db)) (OnBefore (own_networks me db)) (λ ip. ip < 2 ^ 32) address_text
    (λ ip other small low before x y fits room is_x is_y on.
    ap (is_on (own_networks me db)) (sym (same_address ip x small fits is_x))
    ∙ before (ap (is_on (own_networks me db)) (same_address other y low room is_y) ∙ on))
    (host_addresses db me host) (addresses_small db me host)
    (first_on (own_networks me db) (once_each (flat_map (word_addresses db) (host_words db me host))))

-- The lines.

-- R between two lines of one address, of two addresses of one net, and of two nets
record Relates (R : List ℕ → List ℕ → Type 0) (S : List ℕ → List ℕ → Type 0) : Type 0 where
  ports : (net : Proto) (text : List ℕ) (port other : ℕ) → Clean text → port < 2 ^ 16 → other < 2 ^ 16 → port ≢ other → R (cs_line net text port) (cs_line net text other)
  texts : (net : Proto) (text later : List ℕ) (port other : ℕ) → Clean text → Clean later → S text later → port < 2 ^ 16 → other < 2 ^ 16 → R (cs_line net text port) (cs_line net later other)
  nets : (net other_net : Proto) (text later : List ℕ) (port other : ℕ) → net ≢ other_net → Clean text → Clean later → port < 2 ^ 16 → other < 2 ^ 16 → R (cs_line net text port) (cs_line other_net later other)

-- each line at one address against each at another
cross_lines : (R : List ℕ → List ℕ → Type 0) (net other_net : Proto) (text later : List ℕ) → ((port other : ℕ) → port < 2 ^ 16 → other < 2 ^ 16 → R (cs_line net text port) (cs_line other_net later other)) → (ports others : List ℕ) → Each (λ p. p < 2 ^ 16) ports → Each (λ p. p < 2 ^ 16) others → Each (λ line. Each (R line) (map (cs_line other_net later) others)) (map (cs_line net text) ports)
cross_lines R net other_net text later gives ports others small low =
    each_map (λ line. Each (R line) (map (cs_line other_net later) others)) (cs_line net text) ports
    (each_weaker (λ p. p < 2 ^ 16) (λ port. Each (R (cs_line net text port)) (map (cs_line other_net later) others))
    (λ port fits. each_map (R (cs_line net text port)) (cs_line other_net later) others
    (each_weaker (λ p. p < 2 ^ 16) (λ other. R (cs_line net text port) (cs_line other_net later other)) (λ other room. gives port other fits room) others low))
    ports small)

at_net : (db : List (List (List NdbPair))) (service : List ℕ) (R S : List ℕ → List ℕ → Type 0) → Relates R S → (texts : List (List ℕ)) → Each Clean texts → Later S texts → (net : Proto) → Later R (address_lines db service texts net)
at_net db service R S relates texts clean all net =
    later_flat_map R S Clean (λ text. map (cs_line net text) (ports_of db service net))
    (λ text is_clean. later_map R (λ p q. p ≢ q) (λ p. p < 2 ^ 16) (cs_line net text)
    (λ p q small low apart. relates.ports net text p q is_clean small low apart)
    (ports_of db service net) (ports_small db service net) (ports_once db service net))
    (λ text later is_clean later_clean s. cross_lines R net net text later
    (λ p q small low. relates.texts net text later p q is_clean later_clean s small low)
    (ports_of db service net) (ports_of db service net) (ports_small db service net) (ports_small db service net))
    texts clean all

-- each line of one net against each of another
cross_texts : (db : List (List (List NdbPair))) (service : List ℕ) (R S : List ℕ → List ℕ → Type 0) → Relates R S → (net other_net : Proto) → net ≢ other_net → (text : List ℕ) → Clean text → (texts : List (List ℕ)) → Each Clean texts → Each (λ line. Each (R line) (address_lines db service texts other_net)) (map (cs_line net text) (ports_of db service net))
cross_texts db service R S relates net other_net apart text clean [] all =
    each_any (λ line. Each (R line) []) (λ line. tt) (map (cs_line net text) (ports_of db service net))
cross_texts db service R S relates net other_net apart text clean (later ∷ texts) all =
    each_both (λ line. Each (R line) (map (cs_line other_net later) (ports_of db service other_net))) (λ line. Each (R line) (address_lines db service texts other_net)) (λ line. Each (R line) (address_lines db service (later ∷ texts) other_net))
    (λ line here rest. each_append (R line) (map (cs_line other_net later) (ports_of db service other_net)) (address_lines db service texts other_net) here rest)
    (map (cs_line net text) (ports_of db service net))
    (cross_lines R net other_net text later (λ p q small low. relates.nets net other_net text later p q apart clean all.0 small low)
    (ports_of db service net) (ports_of db service other_net) (ports_small db service net) (ports_small db service other_net))
    (cross_texts db service R S relates net other_net apart text clean texts all.1)

cross_nets : (db : List (List (List NdbPair))) (service : List ℕ) (R S : List ℕ → List ℕ → Type 0) → Relates R S → (net other_net : Proto) → net ≢ other_net → (fronts texts : List (List ℕ)) → Each Clean fronts → Each Clean texts → Each (λ line. Each (R line) (address_lines db service texts other_net)) (address_lines db service fronts net)
cross_nets db service R S relates net other_net apart [] texts clean all = tt
cross_nets db service R S relates net other_net apart (text ∷ fronts) texts clean all =
    each_append (λ line. Each (R line) (address_lines db service texts other_net)) (map (cs_line net text) (ports_of db service net)) (address_lines db service fronts net)
    (cross_texts db service R S relates net other_net apart text clean.0 texts all)
    (cross_nets db service R S relates net other_net apart fronts texts clean.1 all)

all_lines : (db : List (List (List NdbPair))) (service : List ℕ) (R S : List ℕ → List ℕ → Type 0) → Relates R S → (texts : List (List ℕ)) → Each Clean texts → Later S texts → (nets : List Proto) → Later (λ net other. net ≢ other) nets → Later R (flat_map (address_lines db service texts) nets)
all_lines db service R S relates texts clean all nets apart =
    later_flat_map R (λ net other. net ≢ other) (λ net. Unit {0}) (address_lines db service texts)
    (λ net _. at_net db service R S relates texts clean all net)
    (λ net other _ _ differ. cross_nets db service R S relates net other differ texts texts clean clean)
    nets (each_any (λ net. Unit {0}) (λ net. tt) nets) apart

-- what is answered with lines
past_test : {X : Type 0} (number : ℕ) (xs : List X) (answer : CsAnswer) (lines : List (List ℕ)) → refused_where_empty number xs answer ≡ Lines lines → answer ≡ Lines lines
past_test number [] answer lines e = absurd cc
past_test number (x ∷ xs) answer lines e = e

lines_are : (db : List (List (List NdbPair))) (me : List ℕ) (nets : List Proto) (query : Query) (lines : List (List ℕ)) → answer_query db me nets query ≡ Lines lines → flat_map (address_lines db query.service (address_texts db me query.host)) (nets_of nets query.net) ≡ lines
lines_are db me nets query lines e =
    let chosen = nets_of nets query.net in
    let texts = address_texts db me query.host in
    let all = Lines (flat_map (address_lines db query.service texts) chosen) in
    let with_ports = refused_where_empty 4 (flat_map (ports_of db query.service) chosen) all in
    let with_texts = refused_where_empty 3 texts with_ports in
    let with_words = refused_where_empty 5 (host_words db me query.host) with_texts in
    let one = past_test 2 chosen with_words lines e in
    let two = past_test 5 (host_words db me query.host) with_texts lines one in
    let three = past_test 3 texts with_ports lines two in
    let four = past_test 4 (flat_map (ports_of db query.service) chosen) all lines three in
    cc

law_of : (R S : List ℕ → List ℕ → Type 0) → Relates R S → (db : List (List (List NdbPair))) (me : List ℕ) (nets : List Proto) → Later (λ net other. net ≢ other) nets → ((host : List ℕ) (any : Bool) → Later S (cond any (host ∷ []) (map address_text (host_addresses db me host)))) → (query : Option Query) (lines : List (List ℕ)) → answer_read db me nets query ≡ Lines lines → Later R lines
law_of R S relates db me nets apart holds None lines e = absurd cc
law_of R S relates db me nets apart holds (Some query) lines e =
    subst (Later R) (lines_are db me nets query lines e)
    (all_lines db query.service R S relates (address_texts db me query.host)
    (texts_clean db me query.host (is_any query.host) refl) (holds query.host (is_any query.host))
    (nets_of nets query.net) (later_filter (λ net other. net ≢ other) (λ net. bytes_eq query.net (codes "net") || bytes_eq query.net (proto_name net)) nets apart))

differ : Relates (λ line later. line ≢ later) (λ text later. text ≢ later)
differ = record {
  ports = λ net text port other clean small low apart same. apart (same_line net net text text port other clean clean small low same).same_port;
  texts = λ net text later port other clean later_clean apart small low same. apart (same_line net net text later port other clean later_clean small low same).same_text;
  nets = λ net other_net text later port other apart clean later_clean small low same. apart (same_line net other_net text later port other clean later_clean small low same).same_net;
}

-- no line stands twice
pub once : (db : List (List (List NdbPair))) (me : List ℕ) (nets : List Proto) (text : List ℕ) (lines : List (List ℕ)) → AllPairs (λ net other. net ≢ other) nets → cs_list db me nets text ≡ Lines lines → AllPairs (λ line later. line ≢ later) lines
once db me nets text lines apart e =
    pairs_from_later (λ line later. line ≢ later) lines
    (law_of (λ line later. line ≢ later) (λ text later. text ≢ later) differ db me nets
    (later_from_pairs (λ net other. net ≢ other) nets apart) (texts_apart db me) (read_query text) lines e)

-- what a line tells to connect to
dialled : (net : Proto) (text : List ℕ) (port : ℕ) → Clean text → port < 2 ^ 16 → (asked : Proto) (ip : ℕ) → (dials : Dials (cs_line net text port) asked ip) → SameDial net asked text (address_text ip) port dials.1.0
dialled net text port clean small asked ip dials =
    same_line net asked text (address_text ip) port dials.1.0 clean (address_without 33 ip (omega arith) dials.0) small dials.1.1 dials.1.2

precede : (networks : List Network) → Relates (MayPrecede networks) (TextBefore networks)
precede networks = record {
  ports = λ net text port other clean small low apart asked ip next dials later_dials on.
      ap (is_on networks) (same_address ip next dials.0 later_dials.0 (sym (dialled net text port clean small asked ip dials).same_text ∙ (dialled net text other clean low asked next later_dials).same_text)) ∙ on;
  texts = λ net text later port other clean later_clean before small low asked ip next dials later_dials on.
      before ip next dials.0 later_dials.0 (dialled net text port clean small asked ip dials).same_text (dialled net later other later_clean low asked next later_dials).same_text on;
  nets = λ net other_net text later port other apart clean later_clean small low asked ip next dials later_dials on.
      absurd (apart ((dialled net text port clean small asked ip dials).same_net ∙ sym (dialled other_net later other later_clean low asked next later_dials).same_net));
}

-- within each net, addresses on the asker's own networks stand first
pub own_before : (db : List (List (List NdbPair))) (me : List ℕ) (nets : List Proto) (text : List ℕ) (lines : List (List ℕ)) → AllPairs (λ net other. net ≢ other) nets → cs_list db me nets text ≡ Lines lines → OnFirst (own_networks me db) lines
own_before db me nets text lines apart e =
    pairs_from_later (MayPrecede (own_networks me db)) lines
    (law_of (MayPrecede (own_networks me db)) (TextBefore (own_networks me db)) (precede (own_networks me db)) db me nets
    (later_from_pairs (λ net other. net ≢ other) nets apart) (texts_on db me) (read_query text) lines e)

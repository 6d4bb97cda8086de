-- The answer to a query, by the steps of the resolver.
use Rattle.std.proofs.Common.{◌≡◌, ℕ, ◌<◌, not, List, [], ◌∷◌, ◌++◌, length, map, refl, sym, ap, ◌∙◌, Some, arith}
use Rattle.std.specs.Prelude.{filter, flat_map}
use Rattle.std.proofs.lemmas.List.Elements.{filter_agree}
use Rattle.net_base.specs.Ndb.{NdbPair}
use Rattle.net_base.specs.declared.address.Proto.{Proto}
use Rattle.net_base.specs.Networks.{own_networks, is_on}
use Rattle.net_base.specs.Cs.{CsAnswer, Lines, Refused, Query, read_query, answer_read, cs_list, refused_where_empty, nets_of, host_words, address_texts, own_first, ports_of, cs_line, address_lines}
use Rattle.ndb_search.specs.declared.prefixes.Prefix.{Prefix}
use Rattle.ndb_search.specs.Prefixes.{covers}
use Rattle.cs_resolver.specs.declared.line.Target.{Target}
use Rattle.cs_resolver.specs.Targets.{target_text, target_texts, covered_first}

-- the prefixes of a system's own networks sort as the networks do
pub covered_first_is : (prefixes : List Prefix) (me : List ℕ) (db : List (List (List NdbPair))) (ips : List ℕ) → ((ip : ℕ) → covers prefixes ip ≡ is_on (own_networks me db) ip) → covered_first prefixes ips ≡ own_first me db ips
covered_first_is prefixes me db ips same =
    ap (λ front. front ++ filter (λ ip. not (covers prefixes ip)) ips) (filter_agree (covers prefixes) (is_on (own_networks me db)) same ips)
    ∙ ap (λ back. filter (is_on (own_networks me db)) ips ++ back)
    (filter_agree (λ ip. not (covers prefixes ip)) (λ ip. not (is_on (own_networks me db) ip)) (λ ip. ap not (same ip)) ips)

-- the lines of a net, address by address
pub lines_of_is : (db : List (List (List NdbPair))) (service : List ℕ) (targets : List Target) (net : Proto) → flat_map (λ target. map (cs_line net (target_text target)) (ports_of db service net)) targets ≡ address_lines db service (target_texts targets) net
lines_of_is db service [] net = refl
lines_of_is db service (target ∷ targets) net =
    ap (λ rest. map (cs_line net (target_text target)) (ports_of db service net) ++ rest) (lines_of_is db service targets net)

-- What is missing first.

module _ (db : List (List (List NdbPair))) (me : List ℕ) (nets : List Proto) (text : List ℕ) (query : Query) (read : read_query text ≡ Some query) where
  abbrev answer_by : List Proto → List (List ℕ) → List (List ℕ) → CsAnswer
  answer_by named words texts =
      refused_where_empty 2 named (refused_where_empty 5 words (refused_where_empty 3 texts (refused_where_empty 4 (flat_map (ports_of db query.service) named) (Lines (flat_map (address_lines db query.service texts) named)))))

  found : (named : List Proto) (words texts : List (List ℕ)) → named ≡ nets_of nets query.net → words ≡ host_words db me query.host → texts ≡ address_texts db me query.host → cs_list db me nets text ≡ answer_by named words texts
  found named words texts e f g =
      ap (answer_read db me nets) read
      ∙ ap (λ (ns : List Proto). answer_by ns (host_words db me query.host) (address_texts db me query.host)) (sym e)
      ∙ ap (λ (ws : List (List ℕ)). answer_by named ws (address_texts db me query.host)) (sym f)
      ∙ ap (λ (ts : List (List ℕ)). answer_by named words ts) (sym g)

  -- no net has the name
  pub no_net : (named : List Proto) → named ≡ nets_of nets query.net → length named ≡ 0 → cs_list db me nets text ≡ Refused 2
  no_net [] e none = found [] (host_words db me query.host) (address_texts db me query.host) e refl refl
  no_net (net ∷ named) e none = absurd (omega arith)

  -- there is no value
  pub no_value : (named : List Proto) (words : List (List ℕ)) → named ≡ nets_of nets query.net → 0 < length named → words ≡ host_words db me query.host → length words ≡ 0 → cs_list db me nets text ≡ Refused 5
  no_value [] words e some f none = absurd (omega arith)
  no_value (net ∷ named) [] e some f none = found (net ∷ named) [] (address_texts db me query.host) e f refl
  no_value (net ∷ named) (word ∷ words) e some f none = absurd (omega arith)

  -- there is no address
  pub no_host : (named : List Proto) (words texts : List (List ℕ)) → named ≡ nets_of nets query.net → 0 < length named → words ≡ host_words db me query.host → 0 < length words → texts ≡ address_texts db me query.host → length texts ≡ 0 → cs_list db me nets text ≡ Refused 3
  no_host [] words texts e some f words_some g none = absurd (omega arith)
  no_host (net ∷ named) [] texts e some f words_some g none = absurd (omega arith)
  no_host (net ∷ named) (word ∷ words) [] e some f words_some g none = found (net ∷ named) (word ∷ words) [] e f g
  no_host (net ∷ named) (word ∷ words) (t ∷ texts) e some f words_some g none = absurd (omega arith)

append_empty : {X : Type 0} (xs ys : List X) → xs ++ ys ≡ [] → (xs ≡ []) × (ys ≡ [])
append_empty [] ys e = (refl, e)
append_empty (x ∷ xs) ys e = absurd cc

map_empty : {X Y : Type 0} (f : X → Y) (xs : List X) → map f xs ≡ [] → xs ≡ []
map_empty f [] e = refl
map_empty f (x ∷ xs) e = absurd cc

-- without lines for an address there is no port
no_ports : (db : List (List (List NdbPair))) (service : List ℕ) (address : List ℕ) (addresses : List (List ℕ)) (nets : List Proto) → flat_map (address_lines db service (address ∷ addresses)) nets ≡ [] → flat_map (ports_of db service) nets ≡ []
no_ports db service address addresses [] e = refl
no_ports db service address addresses (net ∷ nets) e =
    let parts = append_empty (address_lines db service (address ∷ addresses) net) (flat_map (address_lines db service (address ∷ addresses)) nets) e in
    let here = append_empty (map (cs_line net address) (ports_of db service net)) (address_lines db service addresses net) parts.0 in
    ap (λ ports. ports ++ flat_map (ports_of db service) nets) (map_empty (cs_line net address) (ports_of db service net) here.0)
    ∙ no_ports db service address addresses nets parts.1

-- without ports there are no lines
no_lines : (db : List (List (List NdbPair))) (service : List ℕ) (addresses : List (List ℕ)) (nets : List Proto) → flat_map (ports_of db service) nets ≡ [] → flat_map (address_lines db service addresses) nets ≡ []
no_lines db service addresses [] e = refl
no_lines db service addresses (net ∷ nets) e =
    let parts = append_empty (ports_of db service net) (flat_map (ports_of db service) nets) e in
    ap (λ lines. lines ++ flat_map (address_lines db service addresses) nets) (ap (λ ports. flat_map (λ address. map (cs_line net address) ports) addresses) parts.0 ∙ none addresses)
    ∙ no_lines db service addresses nets parts.1
  where
    none : (texts : List (List ℕ)) → flat_map (λ address. map (cs_line net address) []) texts ≡ []
    none [] = refl
    none (text ∷ texts) = none texts

-- there is an address and no line, or there is a line
module _ (db : List (List (List NdbPair))) (me : List ℕ) (nets : List Proto) (text : List ℕ) (query : Query) (read : read_query text ≡ Some query) where
  pub no_service : (named : List Proto) (words texts lines : List (List ℕ)) → named ≡ nets_of nets query.net → 0 < length named → words ≡ host_words db me query.host → 0 < length words → texts ≡ address_texts db me query.host → 0 < length texts → lines ≡ flat_map (address_lines db query.service texts) named → length lines ≡ 0 → cs_list db me nets text ≡ Refused 4
  no_service [] words texts lines e some f words_some g texts_some h none = absurd (omega arith)
  no_service (net ∷ named) [] texts lines e some f words_some g texts_some h none = absurd (omega arith)
  no_service (net ∷ named) (word ∷ words) [] lines e some f words_some g texts_some h none = absurd (omega arith)
  no_service (net ∷ named) (word ∷ words) (t ∷ texts) (line ∷ lines) e some f words_some g texts_some h none = absurd (omega arith)
  no_service (net ∷ named) (word ∷ words) (t ∷ texts) [] e some f words_some g texts_some h none =
      found db me nets text query read (net ∷ named) (word ∷ words) (t ∷ texts) e f g
      ∙ ap (λ ports. refused_where_empty 4 ports (Lines (flat_map (address_lines db query.service (t ∷ texts)) (net ∷ named)))) (no_ports db query.service t texts (net ∷ named) (sym h))

  pub with_lines : (named : List Proto) (words texts lines : List (List ℕ)) → named ≡ nets_of nets query.net → 0 < length named → words ≡ host_words db me query.host → 0 < length words → texts ≡ address_texts db me query.host → 0 < length texts → lines ≡ flat_map (address_lines db query.service texts) named → 0 < length lines → cs_list db me nets text ≡ Lines lines
  with_lines [] words texts lines e some f words_some g texts_some h more = absurd (omega arith)
  with_lines (net ∷ named) [] texts lines e some f words_some g texts_some h more = absurd (omega arith)
  with_lines (net ∷ named) (word ∷ words) [] lines e some f words_some g texts_some h more = absurd (omega arith)
  with_lines (net ∷ named) (word ∷ words) (t ∷ texts) lines e some f words_some g texts_some h more =
      found db me nets text query read (net ∷ named) (word ∷ words) (t ∷ texts) e f g
      ∙ at (flat_map (ports_of db query.service) (net ∷ named)) refl
      ∙ ap Lines (sym h)
    where
      at : (ports : List ℕ) → flat_map (ports_of db query.service) (net ∷ named) ≡ ports → refused_where_empty 4 ports (Lines (flat_map (address_lines db query.service (t ∷ texts)) (net ∷ named))) ≡ Lines (flat_map (address_lines db query.service (t ∷ texts)) (net ∷ named))
      at [] none = absurd (omega (arith, ap length (h ∙ no_lines db query.service (t ∷ texts) (net ∷ named) none)))
      at (port ∷ ports) some_port = refl

-- where there is a target, there is a text
pub some_texts : (targets : List Target) → 0 < length targets → 0 < length (target_texts targets)
some_texts [] some = absurd (omega arith)
some_texts (target ∷ targets) some = omega arith

-- where there is no target, there is no text
pub no_texts : (targets : List Target) → length targets ≡ 0 → length (target_texts targets) ≡ 0
no_texts [] none = refl
no_texts (target ∷ targets) none = absurd (omega arith)

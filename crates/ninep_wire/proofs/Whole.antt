-- What a decoder needs: bytes that spell a message have its header and are read as it, and what is read is spelled so.
use Rattle.std.proofs.Common.{◌≡◌, ℕ, ◌+◌, ◌≤◌, true, cond, eqb, List, [], ◌++◌, length, drop, Some, None, refl, sym, ap, subst, ◌∙◌, arith}
use Rattle.std.proofs.lemmas.Bool.{eqb-true}
use Rattle.std.proofs.lemmas.List.{append-nil, nil_from_length, drop-drop, get_or-drop, length-drop}
use Rattle.std.proofs.lemmas.Option.{cond_some}
use Rattle.byteorder.specs.Endian.{little_number}
use Rattle.byteorder.specs.Numbers.{little_number-reads_back}
use Rattle.net_base.specs.declared.ninep.Tmsg.{Tmsg}
use Rattle.net_base.specs.declared.ninep.Tmsg.TheVariants as t
use Rattle.net_base.specs.declared.ninep.Rmsg.{Rmsg}
use Rattle.net_base.specs.declared.ninep.Rmsg.TheVariants as r
use Rattle.net_base.specs.NinepFaults.{HasSize, is_r_type, is_t_type, tag_field, type_field}
use Rattle.net_base.specs.NinepFields.{number_bytes, Holds}
use Rattle.net_base.specs.NinepMessages.{framed, longest, t_type, t_tag, t_fields, t_bytes, IsTmsg, SpellsT, r_type, r_tag, r_fields, r_bytes, IsRmsg, SpellsR}
use Rattle.net_base.specs.NinepReading.{all_of, t_at, t_of, r_at, r_of}
use Rattle.ninep_wire.proofs.Laws.{IsBytes, IsBytes-drop, bind_some, front_1, front_2, front_4}
use Rattle.ninep_wire.proofs.Requests.{IsT, t_takes, t_again}
use Rattle.ninep_wire.proofs.Responses.{IsR, r_takes, r_again}

-- ---- headers

-- bytes with a good header are framed by what it says
headed : (bytes : List ℕ) → IsBytes bytes → HasSize bytes → (bytes ≡ framed (type_field bytes) (tag_field bytes) (drop 7 bytes)) × Holds 2 (tag_field bytes)
headed bytes fits sized =
    let f4 = front_4 bytes fits (omega (arith, sized.header)) in
    let f1 = front_1 (drop 4 bytes) (IsBytes-drop 4 bytes fits) (omega (arith, sized.header, length-drop 4 bytes)) in
    let f2 = front_2 (drop 5 bytes) (IsBytes-drop 5 bytes fits) (omega (arith, sized.header, length-drop 5 bytes)) in
    let kind : little_number 1 (drop 4 bytes) ≡ type_field bytes = omega (arith, get_or-drop 4 bytes 0 0) in
    let size : little_number 4 bytes ≡ 7 + length (drop 7 bytes) = sized.whole ∙ omega (arith, sized.header, length-drop 7 bytes) in
    let behind : drop 5 bytes ≡ number_bytes 2 (tag_field bytes) ++ drop 7 bytes =
    f2.0 ∙ ap (λ (rest : List ℕ). number_bytes 2 (tag_field bytes) ++ rest) (drop-drop 2 5 bytes) in
    let tail : drop 4 bytes ≡ number_bytes 1 (type_field bytes) ++ (number_bytes 2 (tag_field bytes) ++ drop 7 bytes) =
    f1.0 ∙ ap (λ (n : ℕ). number_bytes 1 n ++ drop 1 (drop 4 bytes)) kind ∙ ap (λ (rest : List ℕ). number_bytes 1 (type_field bytes) ++ rest)
    (drop-drop 1 4 bytes ∙ behind) in (
      f4.0 ∙ ap (λ (rest : List ℕ). number_bytes 4 (little_number 4 bytes) ++ rest) tail
          ∙ ap (λ (n : ℕ). number_bytes 4 n ++ (number_bytes 1 (type_field bytes) ++ (number_bytes 2 (tag_field bytes) ++ drop 7 bytes))) size,
      f2.1,
    )

-- the header of bytes
pub record Heads (n tag : ℕ) (fields bytes : List ℕ) : Type 0 where
  pub sized : HasSize bytes
  pub kind : type_field bytes ≡ n
  pub tagged : tag_field bytes ≡ tag
  pub rest : drop 7 bytes ≡ fields

frame_heads : (n tag : ℕ) (fields : List ℕ) → Holds 1 n → Holds 2 tag → length (framed n tag fields) ≤ longest → Heads n tag fields (framed n tag fields)
frame_heads n tag fields kind tagged short = record {
  sized = record {
    header = omega arith;
    whole = little_number-reads_back 4 (7 + length fields) (number_bytes 1 n ++ (number_bytes 2 tag ++ fields)) (omega (arith, short)) ∙ omega arith;
    short = short;
  };
  kind = omega (arith, kind);
  tagged = little_number-reads_back 2 tag fields tagged;
  rest = refl;
}

-- ---- T-messages

low_t : (m : Tmsg) → Holds 1 (t_type m)
low_t (t.Version tag msize version) = omega arith
low_t (t.Auth tag afid uname aname) = omega arith
low_t (t.Attach tag fid afid uname aname) = omega arith
low_t (t.Flush tag oldtag) = omega arith
low_t (t.Walk tag fid newfid names) = omega arith
low_t (t.Open tag fid mode) = omega arith
low_t (t.Create tag fid name perm mode) = omega arith
low_t (t.Read tag fid offset count) = omega arith
low_t (t.Write tag fid offset bytes) = omega arith
low_t (t.Clunk tag fid) = omega arith
low_t (t.Remove tag fid) = omega arith
low_t (t.Stat tag fid) = omega arith
low_t (t.Wstat tag fid stat) = omega arith

known_t : (m : Tmsg) → is_t_type (t_type m) ≡ true
known_t (t.Version tag msize version) = refl
known_t (t.Auth tag afid uname aname) = refl
known_t (t.Attach tag fid afid uname aname) = refl
known_t (t.Flush tag oldtag) = refl
known_t (t.Walk tag fid newfid names) = refl
known_t (t.Open tag fid mode) = refl
known_t (t.Create tag fid name perm mode) = refl
known_t (t.Read tag fid offset count) = refl
known_t (t.Write tag fid offset bytes) = refl
known_t (t.Clunk tag fid) = refl
known_t (t.Remove tag fid) = refl
known_t (t.Stat tag fid) = refl
known_t (t.Wstat tag fid stat) = refl

-- bytes that spell a message begin with its header
pub t_heads : (m : Tmsg) (bytes : List ℕ) → SpellsT m bytes → Heads (t_type m) (t_tag m) (t_fields m) bytes
unfolding t_bytes
t_heads m bytes s =
    subst (Heads (t_type m) (t_tag m) (t_fields m)) (sym s.spelled)
    (frame_heads (t_type m) (t_tag m) (t_fields m) (low_t m) s.tag (subst (λ (x : List ℕ). length x ≤ longest) s.spelled s.short))

-- .. of a type that is one
pub t_knows : (m : Tmsg) (bytes : List ℕ) → SpellsT m bytes → is_t_type (type_field bytes) ≡ true
t_knows m bytes s = ap is_t_type (t_heads m bytes s).kind ∙ known_t m

t_whole : (m : Tmsg) → IsTmsg m → all_of (t_at (t_type m) (t_tag m)) (t_fields m) ≡ Some m
t_whole m fits =
    let read : t_at (t_type m) (t_tag m) (t_fields m) ≡ Some (m, []) = ap (t_at (t_type m) (t_tag m)) (sym (append-nil (t_fields m))) ∙ t_again m [] fits in
    rw read refl

-- .. and are read as it
pub t_only : (m : Tmsg) (bytes : List ℕ) → SpellsT m bytes → t_of bytes ≡ Some m
t_only m bytes s =
    let h = t_heads m bytes s in
    rw (h.kind, h.tagged, h.rest) (t_whole m s.fields)

-- what is read, with nothing behind it, is spelled so
pub t_found : (bytes : List ℕ) (m : Tmsg) → IsBytes bytes → HasSize bytes → t_of bytes ≡ Some m
    → SpellsT m bytes
unfolding t_bytes
t_found bytes m fits sized e =
    let a = bind_some (t_at (type_field bytes) (tag_field bytes) (drop 7 bytes)) (λ x. cond (eqb (length x.1) 0) (Some x.0) None) m e in
    let g = cond_some (eqb (length a.0.1) 0) a.0.0 m a.2 in
    let none : a.0.1 ≡ [] = nil_from_length a.0.1 (eqb-true _ _ g.0) in
    let one = t_takes (type_field bytes) (tag_field bytes) (drop 7 bytes) a.0.0 a.0.1 (IsBytes-drop 7 bytes fits) a.1 in
    let is : IsT (type_field bytes) (tag_field bytes) (drop 7 bytes) m [] =
    subst (λ (r : List ℕ). IsT (type_field bytes) (tag_field bytes) (drop 7 bytes) m r) none
    (subst (λ (y : Tmsg). IsT (type_field bytes) (tag_field bytes) (drop 7 bytes) y a.0.1) g.1 one) in
    let text : drop 7 bytes ≡ t_fields m = is.fields.parts ∙ append-nil (t_fields m) in
    let head = headed bytes fits sized in
    record {
      tag = subst (Holds 2) (sym is.tagged) head.1;
      fields = is.fits;
      short = sized.short;
      spelled = head.0
          ∙ ap (λ (n : ℕ). framed n (tag_field bytes) (drop 7 bytes)) (sym is.kind)
          ∙ ap (λ (n : ℕ). framed (t_type m) n (drop 7 bytes)) (sym is.tagged)
          ∙ ap (framed (t_type m) (t_tag m)) text;
    }

-- ---- R-messages

low_r : (m : Rmsg) → Holds 1 (r_type m)
low_r (r.Version tag msize version) = omega arith
low_r (r.Auth tag aqid) = omega arith
low_r (r.Attach tag q) = omega arith
low_r (r.Error tag ename) = omega arith
low_r (r.Flush tag) = omega arith
low_r (r.Walk tag qids) = omega arith
low_r (r.Open tag q iounit) = omega arith
low_r (r.Create tag q iounit) = omega arith
low_r (r.Read tag bytes) = omega arith
low_r (r.Write tag count) = omega arith
low_r (r.Clunk tag) = omega arith
low_r (r.Remove tag) = omega arith
low_r (r.Stat tag stat) = omega arith
low_r (r.Wstat tag) = omega arith

known_r : (m : Rmsg) → is_r_type (r_type m) ≡ true
known_r (r.Version tag msize version) = refl
known_r (r.Auth tag aqid) = refl
known_r (r.Attach tag q) = refl
known_r (r.Error tag ename) = refl
known_r (r.Flush tag) = refl
known_r (r.Walk tag qids) = refl
known_r (r.Open tag q iounit) = refl
known_r (r.Create tag q iounit) = refl
known_r (r.Read tag bytes) = refl
known_r (r.Write tag count) = refl
known_r (r.Clunk tag) = refl
known_r (r.Remove tag) = refl
known_r (r.Stat tag stat) = refl
known_r (r.Wstat tag) = refl

-- bytes that spell a message begin with its header
pub r_heads : (m : Rmsg) (bytes : List ℕ) → SpellsR m bytes → Heads (r_type m) (r_tag m) (r_fields m) bytes
unfolding r_bytes
r_heads m bytes s =
    subst (Heads (r_type m) (r_tag m) (r_fields m)) (sym s.spelled)
    (frame_heads (r_type m) (r_tag m) (r_fields m) (low_r m) s.tag (subst (λ (x : List ℕ). length x ≤ longest) s.spelled s.short))

-- .. of a type that is one
pub r_knows : (m : Rmsg) (bytes : List ℕ) → SpellsR m bytes → is_r_type (type_field bytes) ≡ true
r_knows m bytes s = ap is_r_type (r_heads m bytes s).kind ∙ known_r m

r_whole : (m : Rmsg) → IsRmsg m → all_of (r_at (r_type m) (r_tag m)) (r_fields m) ≡ Some m
r_whole m fits =
    let read : r_at (r_type m) (r_tag m) (r_fields m) ≡ Some (m, []) = ap (r_at (r_type m) (r_tag m)) (sym (append-nil (r_fields m))) ∙ r_again m [] fits in
    rw read refl

-- .. and are read as it
pub r_only : (m : Rmsg) (bytes : List ℕ) → SpellsR m bytes → r_of bytes ≡ Some m
r_only m bytes s =
    let h = r_heads m bytes s in
    rw (h.kind, h.tagged, h.rest) (r_whole m s.fields)

-- what is read, with nothing behind it, is spelled so
pub r_found : (bytes : List ℕ) (m : Rmsg) → IsBytes bytes → HasSize bytes → r_of bytes ≡ Some m
    → SpellsR m bytes
unfolding r_bytes
r_found bytes m fits sized e =
    let a = bind_some (r_at (type_field bytes) (tag_field bytes) (drop 7 bytes)) (λ x. cond (eqb (length x.1) 0) (Some x.0) None) m e in
    let g = cond_some (eqb (length a.0.1) 0) a.0.0 m a.2 in
    let none : a.0.1 ≡ [] = nil_from_length a.0.1 (eqb-true _ _ g.0) in
    let one = r_takes (type_field bytes) (tag_field bytes) (drop 7 bytes) a.0.0 a.0.1 (IsBytes-drop 7 bytes fits) a.1 in
    let is : IsR (type_field bytes) (tag_field bytes) (drop 7 bytes) m [] =
    subst (λ (r : List ℕ). IsR (type_field bytes) (tag_field bytes) (drop 7 bytes) m r) none
    (subst (λ (y : Rmsg). IsR (type_field bytes) (tag_field bytes) (drop 7 bytes) y a.0.1) g.1 one) in
    let text : drop 7 bytes ≡ r_fields m = is.fields.parts ∙ append-nil (r_fields m) in
    let head = headed bytes fits sized in
    record {
      tag = subst (Holds 2) (sym is.tagged) head.1;
      fields = is.fits;
      short = sized.short;
      spelled = head.0
          ∙ ap (λ (n : ℕ). framed n (tag_field bytes) (drop 7 bytes)) (sym is.kind)
          ∙ ap (λ (n : ℕ). framed (r_type m) n (drop 7 bytes)) (sym is.tagged)
          ∙ ap (framed (r_type m) (r_tag m)) text;
    }

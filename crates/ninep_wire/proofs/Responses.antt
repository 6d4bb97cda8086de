-- The R-messages of each type: what is read of a type is that type's message, and it is read again.
use Rattle.std.proofs.Common.{◌≡◌, ℕ, cond, eqb, List, [], ◌++◌, Some, None, refl, sym, ap, subst, inl, inr}
use Rattle.std.proofs.lemmas.Bool.{eqb-true}
use Rattle.net_base.specs.declared.ninep.Qid.{Qid}
use Rattle.net_base.specs.declared.ninep.Rmsg.{Rmsg}
use Rattle.net_base.specs.declared.ninep.Rmsg.TheVariants as r
use Rattle.net_base.specs.NinepMessages.{r_type, r_tag, r_fields, IsRmsg}
use Rattle.net_base.specs.NinepReading.{Reader, making, nothing}
use Rattle.net_base.specs.NinepReading.{r_version, r_auth, r_attach, r_error, r_walk, r_open, r_create, r_read, r_write, r_stat, r_at}
use Rattle.ninep_wire.proofs.Laws.{IsBytes, Takes, some_is, making_takes}
use Rattle.ninep_wire.proofs.Layouts.{Layout, counted_bytes, file, files, long, text, followed, layout_again, chosen}

-- bytes begin with the fields of this message, which has this type and this tag
pub record IsR (n tag : ℕ) (bytes : List ℕ) (m : Rmsg) (rest : List ℕ) : Type 0 where
  pub kind : r_type m ≡ n
  pub tagged : r_tag m ≡ tag
  pub fields : Takes bytes (r_fields m) rest
  pub fits : IsRmsg m

abbrev FindsR : ℕ → ℕ → Reader Rmsg → Type 0
FindsR n tag read = (bytes : List ℕ) (m : Rmsg) (rest : List ℕ) → IsBytes bytes → read bytes ≡ Some (m, rest) → IsR n tag bytes m rest

r_made : {A : Type 0} (l : Layout A) (n tag : ℕ) (made : A → Rmsg) → ((x : A) → r_type (made x) ≡ n) → ((x : A) → r_tag (made x) ≡ tag)
    → ((x : A) → l.spell x ≡ r_fields (made x)) → ((x : A) → l.Is x → IsRmsg (made x)) → FindsR n tag (making l.read made)
r_made l n tag made kind tagged spelled fitting bytes m rest fits e =
    let a = making_takes l.read made l.spell l.Is l.reads bytes m rest fits e in
    subst (λ (y : Rmsg). IsR n tag bytes y rest) a.1
    (record { kind = kind a.0; tagged = tagged a.0; fields = subst (λ (front : List ℕ). Takes bytes front rest) (spelled a.0) a.2.0; fits = fitting a.0 a.2.1 })

r_or : (n k tag : ℕ) (p q : Reader Rmsg) → FindsR k tag p → FindsR n tag q → FindsR n tag (λ bytes. cond (eqb n k) (p bytes) (q bytes))
r_or n k tag p q first others bytes m rest fits e =
    elim (chosen (eqb n k) (p bytes) (q bytes) (Some (m, rest)) e) [
      | inl h ↦ subst (λ (i : ℕ). IsR i tag bytes m rest) (sym (eqb-true _ _ h.0)) (first bytes m rest fits h.1)
      | inr h ↦ others bytes m rest fits h.1
    ]

nothing_takes : (n tag : ℕ) (m : Rmsg) → r_type m ≡ n → r_tag m ≡ tag → r_fields m ≡ [] → IsRmsg m → FindsR n tag (nothing m)
nothing_takes n tag m kind tagged empty is bytes y rest fits e =
    subst (λ (x : Rmsg × List ℕ). IsR n tag bytes x.0 x.1) (some_is (m, bytes) (y, rest) e)
    (record { kind = kind; tagged = tagged; fields = record { parts = ap (λ (front : List ℕ). front ++ bytes) (sym empty); rest_fits = fits }; fits = is })

r_version_takes : (tag : ℕ) → FindsR 101 tag (r_version tag)
unfolding r_version
r_version_takes tag = r_made (followed long text) 101 tag (λ f. r.Version tag f.0 f.1) (λ x. refl) (λ x. refl) (λ x. refl) (λ x p. p)

r_auth_takes : (tag : ℕ) → FindsR 103 tag (r_auth tag)
unfolding r_auth
r_auth_takes tag = r_made file 103 tag (λ f. r.Auth tag f) (λ x. refl) (λ x. refl) (λ x. refl) (λ x p. p)

r_attach_takes : (tag : ℕ) → FindsR 105 tag (r_attach tag)
unfolding r_attach
r_attach_takes tag = r_made file 105 tag (λ f. r.Attach tag f) (λ x. refl) (λ x. refl) (λ x. refl) (λ x p. p)

r_error_takes : (tag : ℕ) → FindsR 107 tag (r_error tag)
unfolding r_error
r_error_takes tag = r_made text 107 tag (λ f. r.Error tag f) (λ x. refl) (λ x. refl) (λ x. refl) (λ x p. p)

r_walk_takes : (tag : ℕ) → FindsR 111 tag (r_walk tag)
unfolding r_walk
r_walk_takes tag = r_made files 111 tag (λ f. r.Walk tag f) (λ x. refl) (λ x. refl) (λ x. refl) (λ x p. p)

r_open_takes : (tag : ℕ) → FindsR 113 tag (r_open tag)
unfolding r_open
r_open_takes tag = r_made (followed file long) 113 tag (λ f. r.Open tag f.0 f.1) (λ x. refl) (λ x. refl) (λ x. refl) (λ x p. p)

r_create_takes : (tag : ℕ) → FindsR 115 tag (r_create tag)
unfolding r_create
r_create_takes tag = r_made (followed file long) 115 tag (λ f. r.Create tag f.0 f.1) (λ x. refl) (λ x. refl) (λ x. refl) (λ x p. p)

r_read_takes : (tag : ℕ) → FindsR 117 tag (r_read tag)
unfolding r_read
r_read_takes tag = r_made counted_bytes 117 tag (λ f. r.Read tag f) (λ x. refl) (λ x. refl) (λ x. refl) (λ x p. p)

r_write_takes : (tag : ℕ) → FindsR 119 tag (r_write tag)
unfolding r_write
r_write_takes tag = r_made long 119 tag (λ f. r.Write tag f) (λ x. refl) (λ x. refl) (λ x. refl) (λ x p. p)

r_stat_takes : (tag : ℕ) → FindsR 125 tag (r_stat tag)
unfolding r_stat
r_stat_takes tag = r_made text 125 tag (λ f. r.Stat tag f) (λ x. refl) (λ x. refl) (λ x. refl) (λ x p. p)

none_r : (n tag : ℕ) → FindsR n tag (λ bytes. None)
none_r n tag bytes m rest fits e = absurd cc

abbrev after_r_127 : ℕ → ℕ → Reader Rmsg
after_r_127 n tag bytes = cond (eqb n 127) (nothing (r.Wstat tag) bytes) None

from_r_127 : (n tag : ℕ) → FindsR n tag (after_r_127 n tag)
from_r_127 n tag = r_or n 127 tag (nothing (r.Wstat tag)) (λ bytes. None) (nothing_takes 127 tag (r.Wstat tag) refl refl refl tt) (none_r n tag)

abbrev after_r_125 : ℕ → ℕ → Reader Rmsg
after_r_125 n tag bytes = cond (eqb n 125) (r_stat tag bytes) (after_r_127 n tag bytes)

from_r_125 : (n tag : ℕ) → FindsR n tag (after_r_125 n tag)
from_r_125 n tag = r_or n 125 tag (r_stat tag) (after_r_127 n tag) (r_stat_takes tag) (from_r_127 n tag)

abbrev after_r_123 : ℕ → ℕ → Reader Rmsg
after_r_123 n tag bytes = cond (eqb n 123) (nothing (r.Remove tag) bytes) (after_r_125 n tag bytes)

from_r_123 : (n tag : ℕ) → FindsR n tag (after_r_123 n tag)
from_r_123 n tag = r_or n 123 tag (nothing (r.Remove tag)) (after_r_125 n tag) (nothing_takes 123 tag (r.Remove tag) refl refl refl tt) (from_r_125 n tag)

abbrev after_r_121 : ℕ → ℕ → Reader Rmsg
after_r_121 n tag bytes = cond (eqb n 121) (nothing (r.Clunk tag) bytes) (after_r_123 n tag bytes)

from_r_121 : (n tag : ℕ) → FindsR n tag (after_r_121 n tag)
from_r_121 n tag = r_or n 121 tag (nothing (r.Clunk tag)) (after_r_123 n tag) (nothing_takes 121 tag (r.Clunk tag) refl refl refl tt) (from_r_123 n tag)

abbrev after_r_119 : ℕ → ℕ → Reader Rmsg
after_r_119 n tag bytes = cond (eqb n 119) (r_write tag bytes) (after_r_121 n tag bytes)

from_r_119 : (n tag : ℕ) → FindsR n tag (after_r_119 n tag)
from_r_119 n tag = r_or n 119 tag (r_write tag) (after_r_121 n tag) (r_write_takes tag) (from_r_121 n tag)

abbrev after_r_117 : ℕ → ℕ → Reader Rmsg
after_r_117 n tag bytes = cond (eqb n 117) (r_read tag bytes) (after_r_119 n tag bytes)

from_r_117 : (n tag : ℕ) → FindsR n tag (after_r_117 n tag)
from_r_117 n tag = r_or n 117 tag (r_read tag) (after_r_119 n tag) (r_read_takes tag) (from_r_119 n tag)

abbrev after_r_115 : ℕ → ℕ → Reader Rmsg
after_r_115 n tag bytes = cond (eqb n 115) (r_create tag bytes) (after_r_117 n tag bytes)

from_r_115 : (n tag : ℕ) → FindsR n tag (after_r_115 n tag)
from_r_115 n tag = r_or n 115 tag (r_create tag) (after_r_117 n tag) (r_create_takes tag) (from_r_117 n tag)

abbrev after_r_113 : ℕ → ℕ → Reader Rmsg
after_r_113 n tag bytes = cond (eqb n 113) (r_open tag bytes) (after_r_115 n tag bytes)

from_r_113 : (n tag : ℕ) → FindsR n tag (after_r_113 n tag)
from_r_113 n tag = r_or n 113 tag (r_open tag) (after_r_115 n tag) (r_open_takes tag) (from_r_115 n tag)

abbrev after_r_111 : ℕ → ℕ → Reader Rmsg
after_r_111 n tag bytes = cond (eqb n 111) (r_walk tag bytes) (after_r_113 n tag bytes)

from_r_111 : (n tag : ℕ) → FindsR n tag (after_r_111 n tag)
from_r_111 n tag = r_or n 111 tag (r_walk tag) (after_r_113 n tag) (r_walk_takes tag) (from_r_113 n tag)

abbrev after_r_109 : ℕ → ℕ → Reader Rmsg
after_r_109 n tag bytes = cond (eqb n 109) (nothing (r.Flush tag) bytes) (after_r_111 n tag bytes)

from_r_109 : (n tag : ℕ) → FindsR n tag (after_r_109 n tag)
from_r_109 n tag = r_or n 109 tag (nothing (r.Flush tag)) (after_r_111 n tag) (nothing_takes 109 tag (r.Flush tag) refl refl refl tt) (from_r_111 n tag)

abbrev after_r_107 : ℕ → ℕ → Reader Rmsg
after_r_107 n tag bytes = cond (eqb n 107) (r_error tag bytes) (after_r_109 n tag bytes)

from_r_107 : (n tag : ℕ) → FindsR n tag (after_r_107 n tag)
from_r_107 n tag = r_or n 107 tag (r_error tag) (after_r_109 n tag) (r_error_takes tag) (from_r_109 n tag)

abbrev after_r_105 : ℕ → ℕ → Reader Rmsg
after_r_105 n tag bytes = cond (eqb n 105) (r_attach tag bytes) (after_r_107 n tag bytes)

from_r_105 : (n tag : ℕ) → FindsR n tag (after_r_105 n tag)
from_r_105 n tag = r_or n 105 tag (r_attach tag) (after_r_107 n tag) (r_attach_takes tag) (from_r_107 n tag)

abbrev after_r_103 : ℕ → ℕ → Reader Rmsg
after_r_103 n tag bytes = cond (eqb n 103) (r_auth tag bytes) (after_r_105 n tag bytes)

from_r_103 : (n tag : ℕ) → FindsR n tag (after_r_103 n tag)
from_r_103 n tag = r_or n 103 tag (r_auth tag) (after_r_105 n tag) (r_auth_takes tag) (from_r_105 n tag)

pub r_takes : (n tag : ℕ) → FindsR n tag (r_at n tag)
unfolding r_at
r_takes n tag = r_or n 101 tag (r_version tag) (after_r_103 n tag) (r_version_takes tag) (from_r_103 n tag)

-- a message of this reader is read again
abbrev AgainR : (ℕ → Reader Rmsg) → Rmsg → Type 0
AgainR read m = (rest : List ℕ) → IsRmsg m → read (r_tag m) (r_fields m ++ rest) ≡ Some (m, rest)

r_version_again : (tag msize : ℕ) (version : List ℕ) → AgainR r_version (r.Version tag msize version)
unfolding r_version
r_version_again tag msize version rest fits = layout_again (followed long text) (λ f. r.Version tag f.0 f.1) (msize, version) rest fits

r_auth_again : (tag : ℕ) (aqid : Qid) → AgainR r_auth (r.Auth tag aqid)
unfolding r_auth
r_auth_again tag aqid rest fits = layout_again file (λ f. r.Auth tag f) aqid rest fits

r_attach_again : (tag : ℕ) (q : Qid) → AgainR r_attach (r.Attach tag q)
unfolding r_attach
r_attach_again tag q rest fits = layout_again file (λ f. r.Attach tag f) q rest fits

r_error_again : (tag : ℕ) (ename : List ℕ) → AgainR r_error (r.Error tag ename)
unfolding r_error
r_error_again tag ename rest fits = layout_again text (λ f. r.Error tag f) ename rest fits

r_walk_again : (tag : ℕ) (qids : List Qid) → AgainR r_walk (r.Walk tag qids)
unfolding r_walk
r_walk_again tag qids rest fits = layout_again files (λ f. r.Walk tag f) qids rest fits

r_open_again : (tag : ℕ) (q : Qid) (iounit : ℕ) → AgainR r_open (r.Open tag q iounit)
unfolding r_open
r_open_again tag q iounit rest fits = layout_again (followed file long) (λ f. r.Open tag f.0 f.1) (q, iounit) rest fits

r_create_again : (tag : ℕ) (q : Qid) (iounit : ℕ) → AgainR r_create (r.Create tag q iounit)
unfolding r_create
r_create_again tag q iounit rest fits = layout_again (followed file long) (λ f. r.Create tag f.0 f.1) (q, iounit) rest fits

r_read_again : (tag : ℕ) (bytes : List ℕ) → AgainR r_read (r.Read tag bytes)
unfolding r_read
r_read_again tag bytes rest fits = layout_again counted_bytes (λ f. r.Read tag f) bytes rest fits

r_write_again : (tag count : ℕ) → AgainR r_write (r.Write tag count)
unfolding r_write
r_write_again tag count rest fits = layout_again long (λ f. r.Write tag f) count rest fits

r_stat_again : (tag : ℕ) (stat : List ℕ) → AgainR r_stat (r.Stat tag stat)
unfolding r_stat
r_stat_again tag stat rest fits = layout_again text (λ f. r.Stat tag f) stat rest fits

pub r_again : (m : Rmsg) (rest : List ℕ) → IsRmsg m → r_at (r_type m) (r_tag m) (r_fields m ++ rest) ≡ Some (m, rest)
unfolding r_at
r_again (r.Version tag msize version) rest fits = r_version_again tag msize version rest fits
r_again (r.Auth tag aqid) rest fits = r_auth_again tag aqid rest fits
r_again (r.Attach tag q) rest fits = r_attach_again tag q rest fits
r_again (r.Error tag ename) rest fits = r_error_again tag ename rest fits
r_again (r.Flush tag) rest fits = refl
r_again (r.Walk tag qids) rest fits = r_walk_again tag qids rest fits
r_again (r.Open tag q iounit) rest fits = r_open_again tag q iounit rest fits
r_again (r.Create tag q iounit) rest fits = r_create_again tag q iounit rest fits
r_again (r.Read tag bytes) rest fits = r_read_again tag bytes rest fits
r_again (r.Write tag count) rest fits = r_write_again tag count rest fits
r_again (r.Clunk tag) rest fits = refl
r_again (r.Remove tag) rest fits = refl
r_again (r.Stat tag stat) rest fits = r_stat_again tag stat rest fits
r_again (r.Wstat tag) rest fits = refl

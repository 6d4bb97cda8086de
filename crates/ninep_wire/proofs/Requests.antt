-- The T-messages of each type: what is read of a type is that type's message, and it is read again.
use Rattle.std.proofs.Common.{◌≡◌, ℕ, cond, eqb, List, ◌++◌, Some, None, refl, sym, subst, inl, inr}
use Rattle.std.proofs.lemmas.Bool.{eqb-true}
use Rattle.net_base.specs.declared.ninep.Tmsg.{Tmsg}
use Rattle.net_base.specs.declared.ninep.Tmsg.TheVariants as t
use Rattle.net_base.specs.NinepMessages.{t_type, t_tag, t_fields, IsTmsg}
use Rattle.net_base.specs.NinepReading.{Reader, making}
use Rattle.net_base.specs.NinepReading.{t_version, t_auth, t_attach, t_flush, t_walk, t_open, t_create, t_read, t_write, t_clunk, t_remove, t_stat, t_wstat, t_at}
use Rattle.ninep_wire.proofs.Laws.{IsBytes, Takes, making_takes}
use Rattle.ninep_wire.proofs.Layouts.{Layout, byte, counted_bytes, long, text, texts, vast, word, followed, layout_again, chosen}

-- bytes begin with the fields of this message, which has this type and this tag
pub record IsT (n tag : ℕ) (bytes : List ℕ) (m : Tmsg) (rest : List ℕ) : Type 0 where
  pub kind : t_type m ≡ n
  pub tagged : t_tag m ≡ tag
  pub fields : Takes bytes (t_fields m) rest
  pub fits : IsTmsg m

abbrev FindsT : ℕ → ℕ → Reader Tmsg → Type 0
FindsT n tag read = (bytes : List ℕ) (m : Tmsg) (rest : List ℕ) → IsBytes bytes → read bytes ≡ Some (m, rest) → IsT n tag bytes m rest

t_made : {A : Type 0} (l : Layout A) (n tag : ℕ) (made : A → Tmsg) → ((x : A) → t_type (made x) ≡ n) → ((x : A) → t_tag (made x) ≡ tag)
    → ((x : A) → l.spell x ≡ t_fields (made x)) → ((x : A) → l.Is x → IsTmsg (made x)) → FindsT n tag (making l.read made)
t_made l n tag made kind tagged spelled fitting bytes m rest fits e =
    let a = making_takes l.read made l.spell l.Is l.reads bytes m rest fits e in
    subst (λ (y : Tmsg). IsT n tag bytes y rest) a.1
    (record { kind = kind a.0; tagged = tagged a.0; fields = subst (λ (front : List ℕ). Takes bytes front rest) (spelled a.0) a.2.0; fits = fitting a.0 a.2.1 })

t_or : (n k tag : ℕ) (p q : Reader Tmsg) → FindsT k tag p → FindsT n tag q → FindsT n tag (λ bytes. cond (eqb n k) (p bytes) (q bytes))
t_or n k tag p q first others bytes m rest fits e =
    elim (chosen (eqb n k) (p bytes) (q bytes) (Some (m, rest)) e) [
      | inl h ↦ subst (λ (i : ℕ). IsT i tag bytes m rest) (sym (eqb-true _ _ h.0)) (first bytes m rest fits h.1)
      | inr h ↦ others bytes m rest fits h.1
    ]

t_version_takes : (tag : ℕ) → FindsT 100 tag (t_version tag)
unfolding t_version
t_version_takes tag = t_made (followed long text) 100 tag (λ f. t.Version tag f.0 f.1) (λ x. refl) (λ x. refl) (λ x. refl) (λ x p. p)

t_auth_takes : (tag : ℕ) → FindsT 102 tag (t_auth tag)
unfolding t_auth
t_auth_takes tag = t_made (followed long (followed text text)) 102 tag (λ f. t.Auth tag f.0 f.1.0 f.1.1) (λ x. refl) (λ x. refl) (λ x. refl) (λ x p. p)

t_attach_takes : (tag : ℕ) → FindsT 104 tag (t_attach tag)
unfolding t_attach
t_attach_takes tag =
    t_made (followed long (followed long (followed text text))) 104 tag (λ f. t.Attach tag f.0 f.1.0 f.1.1.0 f.1.1.1)
    (λ x. refl) (λ x. refl) (λ x. refl) (λ x p. p)

t_flush_takes : (tag : ℕ) → FindsT 108 tag (t_flush tag)
unfolding t_flush
t_flush_takes tag = t_made word 108 tag (λ f. t.Flush tag f) (λ x. refl) (λ x. refl) (λ x. refl) (λ x p. p)

t_walk_takes : (tag : ℕ) → FindsT 110 tag (t_walk tag)
unfolding t_walk
t_walk_takes tag = t_made (followed long (followed long texts)) 110 tag (λ f. t.Walk tag f.0 f.1.0 f.1.1) (λ x. refl) (λ x. refl) (λ x. refl) (λ x p. p)

t_open_takes : (tag : ℕ) → FindsT 112 tag (t_open tag)
unfolding t_open
t_open_takes tag = t_made (followed long byte) 112 tag (λ f. t.Open tag f.0 f.1) (λ x. refl) (λ x. refl) (λ x. refl) (λ x p. p)

t_create_takes : (tag : ℕ) → FindsT 114 tag (t_create tag)
unfolding t_create
t_create_takes tag =
    t_made (followed long (followed text (followed long byte))) 114 tag (λ f. t.Create tag f.0 f.1.0 f.1.1.0 f.1.1.1)
    (λ x. refl) (λ x. refl) (λ x. refl) (λ x p. p)

t_read_takes : (tag : ℕ) → FindsT 116 tag (t_read tag)
unfolding t_read
t_read_takes tag = t_made (followed long (followed vast long)) 116 tag (λ f. t.Read tag f.0 f.1.0 f.1.1) (λ x. refl) (λ x. refl) (λ x. refl) (λ x p. p)

t_write_takes : (tag : ℕ) → FindsT 118 tag (t_write tag)
unfolding t_write
t_write_takes tag =
    t_made (followed long (followed vast counted_bytes)) 118 tag (λ f. t.Write tag f.0 f.1.0 f.1.1) (λ x. refl) (λ x. refl) (λ x. refl) (λ x p. p)

t_clunk_takes : (tag : ℕ) → FindsT 120 tag (t_clunk tag)
unfolding t_clunk
t_clunk_takes tag = t_made long 120 tag (λ f. t.Clunk tag f) (λ x. refl) (λ x. refl) (λ x. refl) (λ x p. p)

t_remove_takes : (tag : ℕ) → FindsT 122 tag (t_remove tag)
unfolding t_remove
t_remove_takes tag = t_made long 122 tag (λ f. t.Remove tag f) (λ x. refl) (λ x. refl) (λ x. refl) (λ x p. p)

t_stat_takes : (tag : ℕ) → FindsT 124 tag (t_stat tag)
unfolding t_stat
t_stat_takes tag = t_made long 124 tag (λ f. t.Stat tag f) (λ x. refl) (λ x. refl) (λ x. refl) (λ x p. p)

t_wstat_takes : (tag : ℕ) → FindsT 126 tag (t_wstat tag)
unfolding t_wstat
t_wstat_takes tag = t_made (followed long text) 126 tag (λ f. t.Wstat tag f.0 f.1) (λ x. refl) (λ x. refl) (λ x. refl) (λ x p. p)

none_t : (n tag : ℕ) → FindsT n tag (λ bytes. None)
none_t n tag bytes m rest fits e = absurd cc

abbrev after_t_126 : ℕ → ℕ → Reader Tmsg
after_t_126 n tag bytes = cond (eqb n 126) (t_wstat tag bytes) None

from_t_126 : (n tag : ℕ) → FindsT n tag (after_t_126 n tag)
from_t_126 n tag = t_or n 126 tag (t_wstat tag) (λ bytes. None) (t_wstat_takes tag) (none_t n tag)

abbrev after_t_124 : ℕ → ℕ → Reader Tmsg
after_t_124 n tag bytes = cond (eqb n 124) (t_stat tag bytes) (after_t_126 n tag bytes)

from_t_124 : (n tag : ℕ) → FindsT n tag (after_t_124 n tag)
from_t_124 n tag = t_or n 124 tag (t_stat tag) (after_t_126 n tag) (t_stat_takes tag) (from_t_126 n tag)

abbrev after_t_122 : ℕ → ℕ → Reader Tmsg
after_t_122 n tag bytes = cond (eqb n 122) (t_remove tag bytes) (after_t_124 n tag bytes)

from_t_122 : (n tag : ℕ) → FindsT n tag (after_t_122 n tag)
from_t_122 n tag = t_or n 122 tag (t_remove tag) (after_t_124 n tag) (t_remove_takes tag) (from_t_124 n tag)

abbrev after_t_120 : ℕ → ℕ → Reader Tmsg
after_t_120 n tag bytes = cond (eqb n 120) (t_clunk tag bytes) (after_t_122 n tag bytes)

from_t_120 : (n tag : ℕ) → FindsT n tag (after_t_120 n tag)
from_t_120 n tag = t_or n 120 tag (t_clunk tag) (after_t_122 n tag) (t_clunk_takes tag) (from_t_122 n tag)

abbrev after_t_118 : ℕ → ℕ → Reader Tmsg
after_t_118 n tag bytes = cond (eqb n 118) (t_write tag bytes) (after_t_120 n tag bytes)

from_t_118 : (n tag : ℕ) → FindsT n tag (after_t_118 n tag)
from_t_118 n tag = t_or n 118 tag (t_write tag) (after_t_120 n tag) (t_write_takes tag) (from_t_120 n tag)

abbrev after_t_116 : ℕ → ℕ → Reader Tmsg
after_t_116 n tag bytes = cond (eqb n 116) (t_read tag bytes) (after_t_118 n tag bytes)

from_t_116 : (n tag : ℕ) → FindsT n tag (after_t_116 n tag)
from_t_116 n tag = t_or n 116 tag (t_read tag) (after_t_118 n tag) (t_read_takes tag) (from_t_118 n tag)

abbrev after_t_114 : ℕ → ℕ → Reader Tmsg
after_t_114 n tag bytes = cond (eqb n 114) (t_create tag bytes) (after_t_116 n tag bytes)

from_t_114 : (n tag : ℕ) → FindsT n tag (after_t_114 n tag)
from_t_114 n tag = t_or n 114 tag (t_create tag) (after_t_116 n tag) (t_create_takes tag) (from_t_116 n tag)

abbrev after_t_112 : ℕ → ℕ → Reader Tmsg
after_t_112 n tag bytes = cond (eqb n 112) (t_open tag bytes) (after_t_114 n tag bytes)

from_t_112 : (n tag : ℕ) → FindsT n tag (after_t_112 n tag)
from_t_112 n tag = t_or n 112 tag (t_open tag) (after_t_114 n tag) (t_open_takes tag) (from_t_114 n tag)

abbrev after_t_110 : ℕ → ℕ → Reader Tmsg
after_t_110 n tag bytes = cond (eqb n 110) (t_walk tag bytes) (after_t_112 n tag bytes)

from_t_110 : (n tag : ℕ) → FindsT n tag (after_t_110 n tag)
from_t_110 n tag = t_or n 110 tag (t_walk tag) (after_t_112 n tag) (t_walk_takes tag) (from_t_112 n tag)

abbrev after_t_108 : ℕ → ℕ → Reader Tmsg
after_t_108 n tag bytes = cond (eqb n 108) (t_flush tag bytes) (after_t_110 n tag bytes)

from_t_108 : (n tag : ℕ) → FindsT n tag (after_t_108 n tag)
from_t_108 n tag = t_or n 108 tag (t_flush tag) (after_t_110 n tag) (t_flush_takes tag) (from_t_110 n tag)

abbrev after_t_104 : ℕ → ℕ → Reader Tmsg
after_t_104 n tag bytes = cond (eqb n 104) (t_attach tag bytes) (after_t_108 n tag bytes)

from_t_104 : (n tag : ℕ) → FindsT n tag (after_t_104 n tag)
from_t_104 n tag = t_or n 104 tag (t_attach tag) (after_t_108 n tag) (t_attach_takes tag) (from_t_108 n tag)

abbrev after_t_102 : ℕ → ℕ → Reader Tmsg
after_t_102 n tag bytes = cond (eqb n 102) (t_auth tag bytes) (after_t_104 n tag bytes)

from_t_102 : (n tag : ℕ) → FindsT n tag (after_t_102 n tag)
from_t_102 n tag = t_or n 102 tag (t_auth tag) (after_t_104 n tag) (t_auth_takes tag) (from_t_104 n tag)

pub t_takes : (n tag : ℕ) → FindsT n tag (t_at n tag)
unfolding t_at
t_takes n tag = t_or n 100 tag (t_version tag) (after_t_102 n tag) (t_version_takes tag) (from_t_102 n tag)

-- a message of this reader is read again
abbrev AgainT : (ℕ → Reader Tmsg) → Tmsg → Type 0
AgainT read m = (rest : List ℕ) → IsTmsg m → read (t_tag m) (t_fields m ++ rest) ≡ Some (m, rest)

t_version_again : (tag msize : ℕ) (version : List ℕ) → AgainT t_version (t.Version tag msize version)
unfolding t_version
t_version_again tag msize version rest fits = layout_again (followed long text) (λ f. t.Version tag f.0 f.1) (msize, version) rest fits

t_auth_again : (tag afid : ℕ) (uname aname : List ℕ) → AgainT t_auth (t.Auth tag afid uname aname)
unfolding t_auth
t_auth_again tag afid uname aname rest fits =
    layout_again (followed long (followed text text)) (λ f. t.Auth tag f.0 f.1.0 f.1.1) (afid, (uname, aname)) rest fits

t_attach_again : (tag fid afid : ℕ) (uname aname : List ℕ) → AgainT t_attach (t.Attach tag fid afid uname aname)
unfolding t_attach
t_attach_again tag fid afid uname aname rest fits =
    layout_again (followed long (followed long (followed text text))) (λ f. t.Attach tag f.0 f.1.0 f.1.1.0 f.1.1.1) (fid, (afid, (uname, aname))) rest fits

t_flush_again : (tag oldtag : ℕ) → AgainT t_flush (t.Flush tag oldtag)
unfolding t_flush
t_flush_again tag oldtag rest fits = layout_again word (λ f. t.Flush tag f) oldtag rest fits

t_walk_again : (tag fid newfid : ℕ) (names : List (List ℕ)) → AgainT t_walk (t.Walk tag fid newfid names)
unfolding t_walk
t_walk_again tag fid newfid names rest fits =
    layout_again (followed long (followed long texts)) (λ f. t.Walk tag f.0 f.1.0 f.1.1) (fid, (newfid, names)) rest fits

t_open_again : (tag fid mode : ℕ) → AgainT t_open (t.Open tag fid mode)
unfolding t_open
t_open_again tag fid mode rest fits = layout_again (followed long byte) (λ f. t.Open tag f.0 f.1) (fid, mode) rest fits

t_create_again : (tag fid : ℕ) (name : List ℕ) (perm mode : ℕ) → AgainT t_create (t.Create tag fid name perm mode)
unfolding t_create
t_create_again tag fid name perm mode rest fits =
    layout_again (followed long (followed text (followed long byte))) (λ f. t.Create tag f.0 f.1.0 f.1.1.0 f.1.1.1) (fid, (name, (perm, mode))) rest fits

t_read_again : (tag fid offset count : ℕ) → AgainT t_read (t.Read tag fid offset count)
unfolding t_read
t_read_again tag fid offset count rest fits =
    layout_again (followed long (followed vast long)) (λ f. t.Read tag f.0 f.1.0 f.1.1) (fid, (offset, count)) rest fits

t_write_again : (tag fid offset : ℕ) (bytes : List ℕ) → AgainT t_write (t.Write tag fid offset bytes)
unfolding t_write
t_write_again tag fid offset bytes rest fits =
    layout_again (followed long (followed vast counted_bytes)) (λ f. t.Write tag f.0 f.1.0 f.1.1) (fid, (offset, bytes)) rest fits

t_clunk_again : (tag fid : ℕ) → AgainT t_clunk (t.Clunk tag fid)
unfolding t_clunk
t_clunk_again tag fid rest fits = layout_again long (λ f. t.Clunk tag f) fid rest fits

t_remove_again : (tag fid : ℕ) → AgainT t_remove (t.Remove tag fid)
unfolding t_remove
t_remove_again tag fid rest fits = layout_again long (λ f. t.Remove tag f) fid rest fits

t_stat_again : (tag fid : ℕ) → AgainT t_stat (t.Stat tag fid)
unfolding t_stat
t_stat_again tag fid rest fits = layout_again long (λ f. t.Stat tag f) fid rest fits

t_wstat_again : (tag fid : ℕ) (stat : List ℕ) → AgainT t_wstat (t.Wstat tag fid stat)
unfolding t_wstat
t_wstat_again tag fid stat rest fits = layout_again (followed long text) (λ f. t.Wstat tag f.0 f.1) (fid, stat) rest fits

pub t_again : (m : Tmsg) (rest : List ℕ) → IsTmsg m → t_at (t_type m) (t_tag m) (t_fields m ++ rest) ≡ Some (m, rest)
unfolding t_at
t_again (t.Version tag msize version) rest fits = t_version_again tag msize version rest fits
t_again (t.Auth tag afid uname aname) rest fits = t_auth_again tag afid uname aname rest fits
t_again (t.Attach tag fid afid uname aname) rest fits = t_attach_again tag fid afid uname aname rest fits
t_again (t.Flush tag oldtag) rest fits = t_flush_again tag oldtag rest fits
t_again (t.Walk tag fid newfid names) rest fits = t_walk_again tag fid newfid names rest fits
t_again (t.Open tag fid mode) rest fits = t_open_again tag fid mode rest fits
t_again (t.Create tag fid name perm mode) rest fits = t_create_again tag fid name perm mode rest fits
t_again (t.Read tag fid offset count) rest fits = t_read_again tag fid offset count rest fits
t_again (t.Write tag fid offset bytes) rest fits = t_write_again tag fid offset bytes rest fits
t_again (t.Clunk tag fid) rest fits = t_clunk_again tag fid rest fits
t_again (t.Remove tag fid) rest fits = t_remove_again tag fid rest fits
t_again (t.Stat tag fid) rest fits = t_stat_again tag fid rest fits
t_again (t.Wstat tag fid stat) rest fits = t_wstat_again tag fid stat rest fits

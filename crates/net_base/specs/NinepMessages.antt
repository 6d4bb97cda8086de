-- The messages of 9P2000 as bytes: size[4] type[1] tag[2], and then the fields of the type.
use Rattle.std.specs.Prelude.{◌≡◌, ◌≤◌, ℕ, ◌+◌, List, [], ◌++◌, length}
use Rattle.net_base.specs.declared.ninep.Tmsg.{Tmsg}
use Rattle.net_base.specs.declared.ninep.Tmsg.TheVariants as t
use Rattle.net_base.specs.declared.ninep.Rmsg.{Rmsg}
use Rattle.net_base.specs.declared.ninep.Rmsg.TheVariants as r
use Rattle.net_base.specs.declared.ninep.Qid.{Qid}
use Rattle.net_base.specs.NinepFields.{number_bytes, counted, string, qid, many, Holds, Counts, IsQid, AreFew}

-- no message of this network is longer
abbrev pub longest : ℕ
longest = 8216

-- a message with this type, this tag and these fields; its size counts its own four bytes
abbrev pub framed : ℕ → ℕ → List ℕ → List ℕ
framed kind tag fields = number_bytes 4 (7 + length fields) ++ (number_bytes 1 kind ++ (number_bytes 2 tag ++ fields))

-- ---- T-messages: what a client asks

abbrev pub t_type : Tmsg → ℕ
t_type (t.Version tag msize version) = 100
t_type (t.Auth tag afid uname aname) = 102
t_type (t.Attach tag fid afid uname aname) = 104
t_type (t.Flush tag oldtag) = 108
t_type (t.Walk tag fid newfid names) = 110
t_type (t.Open tag fid mode) = 112
t_type (t.Create tag fid name perm mode) = 114
t_type (t.Read tag fid offset count) = 116
t_type (t.Write tag fid offset bytes) = 118
t_type (t.Clunk tag fid) = 120
t_type (t.Remove tag fid) = 122
t_type (t.Stat tag fid) = 124
t_type (t.Wstat tag fid stat) = 126

abbrev pub t_tag : Tmsg → ℕ
t_tag (t.Version tag msize version) = tag
t_tag (t.Auth tag afid uname aname) = tag
t_tag (t.Attach tag fid afid uname aname) = tag
t_tag (t.Flush tag oldtag) = tag
t_tag (t.Walk tag fid newfid names) = tag
t_tag (t.Open tag fid mode) = tag
t_tag (t.Create tag fid name perm mode) = tag
t_tag (t.Read tag fid offset count) = tag
t_tag (t.Write tag fid offset bytes) = tag
t_tag (t.Clunk tag fid) = tag
t_tag (t.Remove tag fid) = tag
t_tag (t.Stat tag fid) = tag
t_tag (t.Wstat tag fid stat) = tag

-- the fields behind the tag, in their order
abbrev pub t_fields : Tmsg → List ℕ
t_fields (t.Version tag msize version) = number_bytes 4 msize ++ string version
t_fields (t.Auth tag afid uname aname) = number_bytes 4 afid ++ (string uname ++ string aname)
t_fields (t.Attach tag fid afid uname aname) = number_bytes 4 fid ++ (number_bytes 4 afid ++ (string uname ++ string aname))
t_fields (t.Flush tag oldtag) = number_bytes 2 oldtag
t_fields (t.Walk tag fid newfid names) = number_bytes 4 fid ++ (number_bytes 4 newfid ++ many string names)
t_fields (t.Open tag fid mode) = number_bytes 4 fid ++ number_bytes 1 mode
t_fields (t.Create tag fid name perm mode) = number_bytes 4 fid ++ (string name ++ (number_bytes 4 perm ++ number_bytes 1 mode))
t_fields (t.Read tag fid offset count) = number_bytes 4 fid ++ (number_bytes 8 offset ++ number_bytes 4 count)
t_fields (t.Write tag fid offset bytes) = number_bytes 4 fid ++ (number_bytes 8 offset ++ counted 4 bytes)
t_fields (t.Clunk tag fid) = number_bytes 4 fid
t_fields (t.Remove tag fid) = number_bytes 4 fid
t_fields (t.Stat tag fid) = number_bytes 4 fid
t_fields (t.Wstat tag fid stat) = number_bytes 4 fid ++ string stat

-- its fields hold what they should
abbrev pub IsTmsg : Tmsg → Type 0
IsTmsg (t.Version tag msize version) = Holds 4 msize × Counts 2 version
IsTmsg (t.Auth tag afid uname aname) = Holds 4 afid × (Counts 2 uname × Counts 2 aname)
IsTmsg (t.Attach tag fid afid uname aname) = Holds 4 fid × (Holds 4 afid × (Counts 2 uname × Counts 2 aname))
IsTmsg (t.Flush tag oldtag) = Holds 2 oldtag
IsTmsg (t.Walk tag fid newfid names) = Holds 4 fid × (Holds 4 newfid × AreFew (Counts 2) names)
IsTmsg (t.Open tag fid mode) = Holds 4 fid × Holds 1 mode
IsTmsg (t.Create tag fid name perm mode) = Holds 4 fid × (Counts 2 name × (Holds 4 perm × Holds 1 mode))
IsTmsg (t.Read tag fid offset count) = Holds 4 fid × (Holds 8 offset × Holds 4 count)
IsTmsg (t.Write tag fid offset bytes) = Holds 4 fid × (Holds 8 offset × Counts 4 bytes)
IsTmsg (t.Clunk tag fid) = Holds 4 fid
IsTmsg (t.Remove tag fid) = Holds 4 fid
IsTmsg (t.Stat tag fid) = Holds 4 fid
IsTmsg (t.Wstat tag fid stat) = Holds 4 fid × Counts 2 stat

-- the one spelling of a T-message
unfoldable pub t_bytes : Tmsg → List ℕ
t_bytes m = framed (t_type m) (t_tag m) (t_fields m)

-- these bytes spell the T-message
pub record SpellsT (m : Tmsg) (bytes : List ℕ) : Type 0 where
  pub tag : Holds 2 (t_tag m)
  pub fields : IsTmsg m
  pub short : length bytes ≤ longest
  pub spelled : bytes ≡ t_bytes m

-- the names of a walk
abbrev pub t_names : Tmsg → List (List ℕ)
t_names (t.Walk tag fid newfid names) = names
t_names _ = []

-- ---- R-messages: what the server answers, each of the type after its request's; an error answers any request

abbrev pub r_type : Rmsg → ℕ
r_type (r.Version tag msize version) = 101
r_type (r.Auth tag aqid) = 103
r_type (r.Attach tag qid) = 105
r_type (r.Error tag ename) = 107
r_type (r.Flush tag) = 109
r_type (r.Walk tag qids) = 111
r_type (r.Open tag qid iounit) = 113
r_type (r.Create tag qid iounit) = 115
r_type (r.Read tag bytes) = 117
r_type (r.Write tag count) = 119
r_type (r.Clunk tag) = 121
r_type (r.Remove tag) = 123
r_type (r.Stat tag stat) = 125
r_type (r.Wstat tag) = 127

abbrev pub r_tag : Rmsg → ℕ
r_tag (r.Version tag msize version) = tag
r_tag (r.Auth tag aqid) = tag
r_tag (r.Attach tag qid) = tag
r_tag (r.Error tag ename) = tag
r_tag (r.Flush tag) = tag
r_tag (r.Walk tag qids) = tag
r_tag (r.Open tag qid iounit) = tag
r_tag (r.Create tag qid iounit) = tag
r_tag (r.Read tag bytes) = tag
r_tag (r.Write tag count) = tag
r_tag (r.Clunk tag) = tag
r_tag (r.Remove tag) = tag
r_tag (r.Stat tag stat) = tag
r_tag (r.Wstat tag) = tag

abbrev pub r_fields : Rmsg → List ℕ
r_fields (r.Version tag msize version) = number_bytes 4 msize ++ string version
r_fields (r.Auth tag aqid) = qid aqid
r_fields (r.Attach tag q) = qid q
r_fields (r.Error tag ename) = string ename
r_fields (r.Flush tag) = []
r_fields (r.Walk tag qids) = many qid qids
r_fields (r.Open tag q iounit) = qid q ++ number_bytes 4 iounit
r_fields (r.Create tag q iounit) = qid q ++ number_bytes 4 iounit
r_fields (r.Read tag bytes) = counted 4 bytes
r_fields (r.Write tag count) = number_bytes 4 count
r_fields (r.Clunk tag) = []
r_fields (r.Remove tag) = []
r_fields (r.Stat tag stat) = string stat
r_fields (r.Wstat tag) = []

abbrev pub IsRmsg : Rmsg → Type 0
IsRmsg (r.Version tag msize version) = Holds 4 msize × Counts 2 version
IsRmsg (r.Auth tag aqid) = IsQid aqid
IsRmsg (r.Attach tag q) = IsQid q
IsRmsg (r.Error tag ename) = Counts 2 ename
IsRmsg (r.Flush tag) = Unit {0}
IsRmsg (r.Walk tag qids) = AreFew IsQid qids
IsRmsg (r.Open tag q iounit) = IsQid q × Holds 4 iounit
IsRmsg (r.Create tag q iounit) = IsQid q × Holds 4 iounit
IsRmsg (r.Read tag bytes) = Counts 4 bytes
IsRmsg (r.Write tag count) = Holds 4 count
IsRmsg (r.Clunk tag) = Unit {0}
IsRmsg (r.Remove tag) = Unit {0}
IsRmsg (r.Stat tag stat) = Counts 2 stat
IsRmsg (r.Wstat tag) = Unit {0}

-- the one spelling of an R-message
unfoldable pub r_bytes : Rmsg → List ℕ
r_bytes m = framed (r_type m) (r_tag m) (r_fields m)

-- these bytes spell the R-message
pub record SpellsR (m : Rmsg) (bytes : List ℕ) : Type 0 where
  pub tag : Holds 2 (r_tag m)
  pub fields : IsRmsg m
  pub short : length bytes ≤ longest
  pub spelled : bytes ≡ r_bytes m

-- the qids of a walk's answer
abbrev pub r_qids : Rmsg → List Qid
r_qids (r.Walk tag qids) = qids
r_qids _ = []

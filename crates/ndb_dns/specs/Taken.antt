-- What a reply has taken of the records that were offered to it: the first ones, as far as they fit.
use Rattle.std.specs.Prelude.{◌≡◌, ◌≤◌, ℕ, ◌+◌, nat_lt, List, ◌++◌, length, flat_map}
use Rattle.net_base.specs.DomainAnswers.{fitting}
use Rattle.ndb_dns.specs.declared.reply.Records.{Records}

-- of these, offered in order where there was this much room
pub record TookRecord (start : ℕ) (offered : List (List ℕ)) (r : Records) : Type 0 where
  pub bytes : r.bytes ≡ flat_map (λ x. x) (fitting start offered)
  pub count : r.count ≡ length (fitting start offered)
  pub cut : r.cut ≡ nat_lt (length (fitting start offered)) (length offered)
  pub room : length r.bytes + r.room ≡ start

-- each record has bytes, so that there are few
abbrev pub AreFewTaken : Records → Type 0
AreFewTaken r = r.count + r.room ≤ 512

-- these were offered too
pub record AddsTaken (old : Records) (more : List (List ℕ)) (new : Records) : Type 0 where
  pub few : AreFewTaken new
  pub took : (start : ℕ) (offered : List (List ℕ)) → TookRecord start offered old → TookRecord start (offered ++ more) new

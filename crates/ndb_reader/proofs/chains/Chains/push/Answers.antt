use Rattle.std.proofs.Common.{ℕ, ap, sym, subst, ◌∙◌, ◌+◌, ◌∷◌, [], List, length, arith, length-append}
use Rattle.ndb_reader.specs.Chains.{AreNexts}
use Rattle.std.proofs.lemmas.Grind.{get_or_default_zero}
use Rattle.ndb_reader.proofs.Entries.{heads-push, nexts-push}
use Rattle.ndb_reader.proofs.chains.Chains.push.Goals as goal

pub returns-clause-chains : goal.returns-clause-chains
returns-clause-chains c = λ buckets are.
    let head = c.index.result.now in
    record {
      count = ap length c.in_ok-push.ensures.items ∙ omega (arith, length-append c.args.self.now.nexts.items (head ∷ []), are.count);
      heads = heads-push c.args.self.now.heads.items buckets c.args.bucket (c.len-entry.result + 1) c.requires (omega (arith, c.len-entry.ensures, are.count)) are.heads;
      nexts = subst (λ (nexts : List ℕ). AreNexts nexts (c.args.bucket ∷ buckets)) (sym c.in_ok-push.ensures.items)
          (nexts-push c.args.self.now.nexts.items buckets c.args.bucket head are.count (c.index.ensures ∙ get_or_default_zero c.args.self.now.heads.items c.args.bucket head c.requires ∙ are.heads c.args.bucket c.requires) are.nexts);
    }

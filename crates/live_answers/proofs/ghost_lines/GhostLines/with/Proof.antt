-- It makes a struct without bytes, with the lines that its clause names. Assumes `Logic`.
use Rattle.std.proofs.Common.{[], ◌∷◌, ◌++◌, refl}
use Rattle.std.proofs.raw_atomic.Walks.{proved}
use mir.Syntax.{a_type, dcons, dnil, named}
use mir.Val.{Val, vptr}
use mir.MapTy.{inst_fn}
use base.Logic.{SProp}
use contract.Running.{tables}
use types.Kit.{‵, raw, ◌⊛◌, ◌$◌, ◌∵◌, !, qed, move, keep, split, fjoin, use0, suffices, done}
use types.Part.{agg}
use types.Run.{enter, returns, and_then, no_more}
use types.ByLocal.{alloc_all, pass_all, free_all, look_at, get, sets}
use denote.Builtin.{RefOf}
use denote.Exit.{yes}
use denote.Param.{param, bounded}
use denote.RattleType.{owns}
use denote.Ref.{shr_vals, shr_Tells}
use denote.Signature.{types_at, plain}
use denote.Steps.{nothing}
use denote.Triple.Entry.{alive}
use denote.Triple.Walked.{Stays, says, stay_dropped, walk_of, Goes-dropped, ends_at}
use Rattle.live_answers.proofs.NoBytes.{nothing_in, owned, made}
use Rattle.live_answers.specs.contracts.ghost_lines.GhostLines as GhostLines
use Rattle.live_answers.specs.contracts.ghost_lines.GhostLines.with as f
use Rattle.live_answers.proofs.ghost_lines.GhostLines.with.Statement.{statement}
use Rattle.live_answers.proofs.ghost_lines.GhostLines.with.Code as code

pub with_spec : {M : Type 1} → statement M
with_spec 𝓤 𝓛 𝓜 𝓡 wired C L d dict _ =
    let T = f.ended C d dict in let c = f.clauses C d dict 𝓛 𝓜.mem 𝓡.returns in let 𝓣 = tables 𝓤 𝓛.H 𝓜 𝓡 𝓡.env in
    let inst = bounded (a_type ∷ []) (C, tt) (dcons dict dnil) in let fn = inst_fn inst code.function in
    let self = RefOf (0 ∷ []) tt (plain (λ _. GhostLines.the_row)) (λ _. tt) in let change = RefOf (1 ∷ []) tt (plain (λ _. param 0 C)) (λ _. tt) in
    let hs : Stays T.signature.params T.kept = (stay_dropped self yes, (stay_dropped change yes, tt)) in
    proved 𝓛 T hs c 𝓜 𝓡 (Goes-dropped 𝓛 3 self yes (λ κs x w. refl), (Goes-dropped 𝓛 3 change yes (λ κs x w. refl), tt)) (f.Key.name inst) fn (code.unfolded 𝓤 𝓛.H 𝓜 𝓡 wired (C, tt) dict)
    (λ κs. (shr_vals, (shr_vals, tt))) (λ κs. (shr_Tells (named 0) κs.0 GhostLines.the_row, (shr_Tells (named 1) κs.1.0 (param 0 C), tt))) (λ κs qs bounds a gh are.
    let p = vptr a.0.ref_ptr.0 a.0.ref_ptr.1 in let q = vptr a.1.0.ref_ptr.0 a.1.0.ref_ptr.1 in
    let r : GhostLines.the_row.Denot = record { marker = record {}; list = a.0.now.list ++ d.line a.1.0.now ∷ [] } in
    let y : (walk_of 𝓛 T hs c).Ghost = ((κs, qs, bounds, a, (p ∷ [], (q ∷ [], tt))), gh) in let Post : Val → SProp 𝓤 = (walk_of 𝓛 T hs c).post y in
    qed 𝓛 ((raw (alive 𝓛 T.signature κs qs) ⊛ ‵ (owns (types_at T.signature.params κs) a y.0.4)) ∷ raw ((c κs a).requires gh) ∷ []) ∵ split ! $ keep ! (0 ∷ []) $
    enter ! 𝓣.C 𝓣.Λ fn (p ∷ q ∷ []) Post $ alloc_all ! (λ l. pass_all ! refl ((tt, tt), ((tt, tt), tt)) $
    sets ! (agg ! (no_more !)) refl (tt, tt) $ sets ! (agg ! (and_then ! (get ! refl) (no_more !))) refl (tt, (tt, tt)) $
    use0 𝓛 (‵ (owned r)) (made 𝓛 r) $
    returns ! (look_at ! 0 refl) $ free_all ! refl $
    suffices ! _ (ends_at 𝓛 T hs c y nothing_in r (tt, (tt, tt)) (tt, (tt, tt))) $ says ! refl $
    nothing ! $ nothing ! $ fjoin ! $ nothing ! $ fjoin ! $ move ! (2 ∷ 0 ∷ 1 ∷ []) $ done !))

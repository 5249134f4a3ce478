-- `into_box` makes the box again.
use Rattle.std.proofs.Common.{◌≡◌, List, [], ◌∷◌, ◌++◌, refl, sym, ap, ◌∙◌, subst}
use Rattle.std.specs.Prelude.{Some}
use Rattle.std.specs.Option.{IsSome}
use seplogic.Ra.Ura.{Ura}
use base.Fraction.{full_share}
use mir.Syntax.{Args, a_type, dcons, dnil}
use prog.Model.{Model}
use prog.Wired.{Wired}
use types.Logic.{Logic}
use denote.Param.{bounded}
use denote.Triple.Spec.{Meets}
use Rattle.std.proofs.boxed.Box.from_raw.Symbol.{name as symbol}
use Rattle.c_api.proofs.Destruct++none.drop.Code as undropped
use mir.Val.{Val, vptr}
use base.Logic.{SProp, ent, emp, id⊢}
use base.Fml.{ftrue, flft}
use prog.Wp.{WpFn}
use types.Kit.{‵, raw, ◌⊛◌, some, later, at_ret, ◌$◌, ◌∵◌, !, qed, by, move, keep, drop, split, split3, join, fsplit, fjoin, pick, suffices, use0, use1, await, rewrite, feq_i}
use types.Run.{stop, fld, of_opd, no_more, and_then, first, blocks, exec, returns, enter}
use types.ByLocal.{alloc_all, pass_all, free_all, look_at, get, get_in, sets, lands_last, env}
use types.Part.{sub, whole}
use types.Tokens.{lft_new}
use contract.Monad.{fact, fact_i}
use contract.BorrowLft.{◌⊑◌, ⊑_static}
use contract.Running.{Running, tables, tables_of}
use denote.Exit.{yes}
use denote.RattleType.{RattleType, owns}
use denote.Signature.{types_at, plain}
use denote.RawPtr.{block_ptr}
use denote.Steps.{nothing, only, heard}
use denote.Param.{layout}
use denote.Triple.Clauses.{Lasts, lasts}
use denote.Triple.Spec.{triple_of}
use denote.Triple.Call.{calls_at_last}
use denote.Triple.Walked.{Stays, stay_dropped, Goes-dropped, walk_of}
use Rattle.std.proofs.raw_atomic.Walks.{proved_at, leaves}
use Rattle.std.proofs.VecSteps.Shapes.{after}
use Rattle.std.proofs.alloc.Calls.{handle_tells}
use Rattle.std.proofs.cell.Inside.{Good}
use Rattle.std.proofs.BoxSteps.Form as box
use Rattle.std.proofs.BoxSteps.Steps.{box_out, box_in}
use Rattle.std.specs.contracts.boxed.Box.from_raw as callee
use Rattle.std.proofs.boxed.Box.from_raw.Met.{met}
use Rattle.std.proofs.impls.GlobalAllocator.TheImpl.Met.{passed}
use denote.Param.NoDrop.{glues}
use Rattle.c_api.specs.contracts.slot.Slot as slot
use Rattle.c_api.proofs.Owned.{fm, R, X, G, H as Heap, E, one, some_of, slot_out}
use Rattle.c_api.specs.contracts.slot.Slot.into_box as f
use Rattle.c_api.proofs.slot.Slot.into_box.Statement.{statement}
use Rattle.c_api.proofs.slot.Slot.into_box.Code as code

abbrev stayed : Stays f.ended.signature.params f.ended.kept
stayed = (stay_dropped (plain (λ _. slot.the_row)) yes, (stay_dropped (plain (λ _. G)) yes, tt))

abbrev args : Args
args = bounded (a_type ∷ a_type ∷ []) (X, (Heap, tt)) (dcons E.al.d (dcons E.al.drops dnil))

-- the callee, at these types
known : {M : Type 1} (𝓤 : Ura M) (𝓛 : Logic 𝓤) (𝓜 : Model 𝓤 𝓛.H) (𝓡 : Running 𝓤 𝓛.H 𝓜) → Wired 𝓡.env code.code
    → Meets 𝓛 (callee.signature X Heap E.al.g E.al.d E.al.drops) (𝓡.run (𝓡.env (symbol args))) (callee.spec X Heap E.al.g E.al.d E.al.drops 𝓛 𝓜.mem 𝓡.returns)
unfolding tables_of undropped.code
known {M} 𝓤 𝓛 𝓜 𝓡 wired =
    met 𝓤 𝓛 𝓜 𝓡 (code.calls-std_alloc::boxed::Box::from_raw 𝓡.env wired) X Heap E.laws E.al.laws E.al.g E.al.d E.al.drops
    (passed 𝓡.env (code.calls-std_heap::GlobalAllocator::allocate 𝓡.env wired) (code.calls-std_heap::GlobalAllocator::deallocate 𝓡.env wired) (code.calls-std_heap::GlobalAllocator::grow 𝓡.env wired) (code.calls-std_heap::GlobalAllocator::shrink 𝓡.env wired) M 𝓤 𝓛 𝓜 𝓡)
    (glues "c_api::Destruct++none::drop" 𝓡.env (code.calls-c_api::Destruct++none::drop 𝓡.env wired) Heap E.al.laws M 𝓤 𝓛 𝓜 𝓡)

pub into_box_spec : {M : Type 1} → statement M
into_box_spec 𝓤 𝓛 𝓜 𝓡 wired =
    let H = 𝓛.H in let 𝓣 = tables 𝓤 H 𝓜 𝓡 𝓡.env in let c = f.clauses 𝓛 𝓜.mem 𝓡.returns in let fn = code.function in
    proved_at 𝓛 f.ended stayed c 𝓜 𝓡 (Goes-dropped 𝓛 0 (plain (λ _. slot.the_row)) yes (λ κs x w. refl), (Goes-dropped 𝓛 0 (plain (λ _. G)) yes (λ κs x w. refl), tt))
    f.Key.name fn (code.unfolded 𝓤 H 𝓜 𝓡 wired) (λ z are.
    let v = z.0.3.0 in let a = z.0.3.1.0 in let Post : Val → SProp 𝓤 = (walk_of 𝓛 f.ended stayed c).post z in let Run : List Val → SProp 𝓤 = λ ws. WpFn 𝓤 H 𝓣.C 𝓣.Λ fn ws Post in
    qed 𝓛 ((‵ ftrue ⊛ ‵ (owns (types_at f.signature.params tt) z.0.3 z.0.4)) ∷ raw (fact 𝓤 (IsSome v.host)) ∷ []) ∵ split ! $ drop ! $ move ! (1 ∷ []) $ heard ! (IsSome v.host) (λ has.
    let found = some_of v.host has in let x = found.0 in
    fsplit ! $ slot_out ! v x z.0.4.0 found.1 (λ b o e ws. move ! (1 ∷ []) $ fsplit ! $ handle_tells E.al ! a z.0.4.1.0 (λ h eh fits.
    let w : Val = one (vptr b o) in let B : RattleType = box.B E in
    suffices ! (Run (w ∷ h ∷ [])) (subst (λ (us : List Val). ent 𝓤 (Run (w ∷ h ∷ [])) (Run us)) (sym (λ i. ws i ++ (eh i ++ []))) (id⊢ 𝓤 (Run (w ∷ h ∷ [])))) $
    enter ! 𝓣.C 𝓣.Λ fn (w ∷ h ∷ []) Post $ alloc_all ! (λ l. pass_all ! refl ((tt, (tt, tt)), (fits, tt)) $ let Ev = env fn.locals l in
    sets ! (of_opd ! (get_in ! (fld ! refl (stop !)) (sub ! 0 refl (whole !)))) refl (tt, tt) $
    first ! $ blocks ! $ sets ! (of_opd ! (get ! refl)) refl (tt, tt) $
    -- [the handle; nothing; the box]
    lft_new ! tt (λ α. lft_new ! tt (λ β.
    let κ = α ∷ [] in let λ₁ = β ∷ [] in
    let k = triple_of 𝓛 (callee.signature X Heap E.al.g E.al.d E.al.drops) (callee.spec X Heap E.al.g E.al.d E.al.drops 𝓛 𝓜.mem 𝓡.returns) in
    let y : k.Ghost = (((κ, (λ₁, tt)), (full_share, (full_share, tt)), tt, (a, (block_ptr b o, tt)), (h ∷ [], (vptr b o ∷ [], tt))), x) in
    let toks = ‵ (flft κ full_share) ⊛ ‵ (flft λ₁ full_share) ⊛ ‵ ftrue in
    let Callee = callee.ended X Heap E.al.g E.al.d E.al.drops in
    move ! (4 ∷ []) $ use0 𝓛 (raw (fact 𝓤 (λ₁ ⊑ Heap.lives))) (fact_i 𝓤 (λ₁ ⊑ Heap.lives) (emp 𝓤) (⊑_static λ₁)) $ join ! $
    use0 𝓛 (raw (fact 𝓤 (κ ⊑ X.lives))) (fact_i 𝓤 (κ ⊑ X.lives) (emp 𝓤) (⊑_static κ)) $ join ! $
    -- [what is required; two tokens; the handle; nothing]
    move ! (4 ∷ []) $ feq_i ! (List Val) (vptr b o ∷ []) (vptr b o ∷ []) refl $ fjoin ! $ move ! (4 ∷ 0 ∷ []) $ fjoin ! $
    nothing ! $ move ! (3 ∷ 0 ∷ []) $ join ! $ move ! (3 ∷ 0 ∷ []) $ join ! $ join ! $ join ! $ use1 𝓛 (raw (k.pre y)) (id⊢ 𝓤 _) $
    calls_at_last ! (fm 𝓛 𝓜 𝓡) k (known 𝓤 𝓛 𝓜 𝓡 wired) y (and_then ! (get ! refl) (and_then ! (get ! refl) (no_more !))) (λ u.
    use1 𝓛 (later (some (λ (r : B.Denot). (toks ⊛ ‵ (B.own_val r (u ∷ []))) ⊛ some (λ (ls : Lasts Callee y.0.0 y.0.3). ‵ (lasts Callee y.0.0 y.0.3 ls) ⊛ (raw (fact 𝓤 (r.value ≡ x)) ⊛ raw (fact 𝓤 (r.alloc ≡ a))))))) (id⊢ 𝓤 (k.post y u)) $
    await ! tt $ pick ! (λ r. split ! $ move ! (1 ∷ []) $ pick ! (λ ls. split3 ! $ drop ! $ heard ! (r.value ≡ x) (λ ex. drop ! $ split ! $ drop ! $
    box_out E ! r (u ∷ []) (λ b' o' h' e' us fits'. box_in E ! r b' o' r.value e' refl $ rewrite ! 0 (λ (xs : List Val). ‵ (B.own_val r xs)) (sym us) refl $
    let good : Good (layout B) u = subst (Good (layout B)) (sym (ap only us)) (box.box_typed E h' b' o' fits') in
    lands_last ! refl good $ exec ! 𝓣.C 𝓣.Λ Ev (after 2 fn.body) (at_ret Ev Post) $ sets ! (of_opd ! (get ! refl)) refl good $
    returns ! (look_at ! 0 refl) $ free_all ! refl $
    use0 𝓛 (raw (fact 𝓤 (v.host ≡ Some r.value))) (fact_i 𝓤 (v.host ≡ Some r.value) (emp 𝓤) (found.1 ∙ ap (λ (i : R.Denot). Some i) (sym ex))) $
    nothing ! $ nothing ! $ fjoin ! $ nothing ! $ fjoin ! $ nothing ! $ keep ! (0 ∷ 1 ∷ 3 ∷ 2 ∷ []) $ by ! (leaves 𝓛 f.ended stayed c z u r (tt, (tt, tt)) (tt, (tt, tt)))))))))))))))

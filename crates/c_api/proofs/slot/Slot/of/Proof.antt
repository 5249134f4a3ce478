-- `of` takes the box apart.
use Rattle.std.proofs.Common.{◌≡◌, List, [], ◌∷◌, ◌++◌, refl, sym, ap, ◌∙◌, subst}
use Rattle.std.specs.Prelude.{Some}
use seplogic.Ra.Ura.{Ura}
use base.Fraction.{full_share}
use mir.Syntax.{Args, a_type, dcons}
use prog.Model.{Model}
use prog.Wired.{Wired}
use types.Logic.{Logic}
use denote.Param.{bounded}
use denote.Triple.Spec.{Meets}
use Rattle.std.proofs.boxed.Box.into_raw.Symbol.{name as into_raw}
use Rattle.c_api.proofs.Destruct++none.drop.Code as undropped
use mir.Raw.{raw as bare}
use mir.Syntax.{impl, tnil, dnil, method, Dict}
use mir.Val.{Val, vptr}
use base.Logic.{SProp, ent, emp, never, id⊢, fst∗}
use base.Fml.{ftrue, flft}
use prog.Wp.{WpFn}
use types.Logic.{sem}
use types.Kit.{‵, raw, ◌⊛◌, some, later, ◌$◌, ◌∵◌, !, qed, by, move, keep, drop, split, join, fsplit, fjoin, pick, suffices, use0, use1, await, feq_l}
use types.Run.{of_opd, no_more, and_then, returns, enter}
use types.ByLocal.{alloc_all, pass_all, free_all, look_at, get, sets, lands_as}
use types.Part.{agg}
use types.Tokens.{lft_new}
use contract.Monad.{fact, fact_i}
use contract.BorrowLft.{◌⊑◌, ⊑_static}
use contract.Running.{Running, tables, tables_of}
use denote.Exit.{yes}
use denote.RattleType.{RattleType, owns}
use denote.Signature.{types_at, plain}
use denote.Builtin.{RawPtr}
use denote.RawPtr.{Ptr, block_ptr, null_ptr, ptr_val, in_a_block}
use denote.Steps.{nothing, only}
use denote.Param.{layout, layouts, param}
use denote.Param.NoDrop.{glues}
use denote.Triple.Carry.{AllWithin}
use denote.Triple.Clauses.{Lasts, lasts, at_exit}
use denote.Triple.Spec.{triple_of}
use denote.Triple.Call.{calls_at}
use denote.Triple.Walked.{Stays, Fit, stay_dropped, Goes-dropped, walk_of}
use borrow.Fn.Glue.{glue_by}
use borrow.Fn.Impl.{via_longer, method_Known}
use borrow.Fn.Kinds.{ended_of, stays}
use borrow.Fn.Run.{Over}
use Rattle.std.proofs.raw_atomic.Walks.{proved_at, leaves}
use Rattle.std.specs.Box.Ownership.{box_owns}
use Rattle.std.specs.contracts.boxed.Box as boxed
use Rattle.c_api.specs.Owned.{chunk}
use Rattle.std.proofs.BoxSteps.Form as box
use Rattle.std.proofs.BoxSteps.Steps.{box_out, box_in}
use Rattle.std.specs.contracts.boxed.Box.into_raw as callee
use Rattle.std.proofs.boxed.Box.into_raw.Met.{met}
use Rattle.std.proofs.impls.GlobalAllocator.TheImpl.Met.{passed}
use Rattle.c_api.proofs.c_api++host++Host+Destruct.drop.Kinds as kinds
use Rattle.c_api.proofs.c_api++host++Host+Destruct.drop.Met as dropped
use Rattle.c_api.proofs.c_api++host++Host+Destruct.drop.Reads as reads
use Rattle.c_api.proofs.c_api++host++Host+Destruct.drop.Symbol as dropping
use Rattle.c_api.proofs.Owned.{fm, R, X, G, H as Heap, E, one, slot_in, lent, lent_result}
use Rattle.c_api.specs.contracts.slot.Slot.of as f
use Rattle.c_api.proofs.slot.Slot.of.Statement.{statement}
use Rattle.c_api.proofs.slot.Slot.of.Code as code

abbrev drops : Dict
drops = impl ("c_api::c_api++host++Host+Destruct::drop" ∷ []) tnil dnil

abbrev Boxed : RattleType
Boxed = boxed.the_row R G E.al.g

abbrev stayed : Stays f.ended.signature.params f.ended.kept
stayed = (stay_dropped (plain (λ _. Boxed)) yes, tt)

abbrev args : Args
args = bounded (a_type ∷ a_type ∷ []) (X, (Heap, tt)) (dcons E.al.d (dcons E.al.drops (dcons drops dnil)))

-- the callee, at these types
known : {M : Type 1} (𝓤 : Ura M) (𝓛 : Logic 𝓤) (𝓜 : Model 𝓤 𝓛.H) (𝓡 : Running 𝓤 𝓛.H 𝓜) → Wired 𝓡.env code.code
    → Meets 𝓛 (callee.signature X Heap E.al.g E.al.d E.al.drops drops) (𝓡.run (𝓡.env (into_raw args))) (callee.spec X Heap E.al.g E.al.d E.al.drops drops 𝓛 𝓜.mem 𝓡.returns)
unfolding tables_of undropped.code
known {M} 𝓤 𝓛 𝓜 𝓡 wired =
    let gone = code.calls-c_api::c_api++host++Host+Destruct::drop 𝓡.env wired in
    let E' = ended_of 0 kinds.ps kinds.r in
    let call = method drops 0 (layouts [] tt) in
    met 𝓤 𝓛 𝓜 𝓡 (code.calls-std_alloc::boxed::Box::into_raw 𝓡.env wired) X Heap E.laws E.al.laws E.al.g E.al.d E.al.drops drops
    (passed 𝓡.env (code.calls-std_heap::GlobalAllocator::allocate 𝓡.env wired) (code.calls-std_heap::GlobalAllocator::deallocate 𝓡.env wired) (code.calls-std_heap::GlobalAllocator::grow 𝓡.env wired) (code.calls-std_heap::GlobalAllocator::shrink 𝓡.env wired) M 𝓤 𝓛 𝓜 𝓡)
    (glues "c_api::Destruct++none::drop" 𝓡.env (code.calls-c_api::Destruct++none::drop 𝓡.env wired) Heap E.al.laws M 𝓤 𝓛 𝓜 𝓡)
    (glue_by X E.laws (record { M = M; 𝓤 = 𝓤; 𝓛 = 𝓛; 𝓜 = 𝓜; 𝓡 = 𝓡 }) drops 𝓡.env
    (λ κs a. Lasts E' tt a) (λ κs a. lasts E' tt a) (λ κs a x ws. Fit E' (stays kinds.ps) tt a ws × reads.Learnt tt a x (at_exit E' tt a ws))
    (λ κs a. AllWithin 1 (κs.0, tt) (X.lives, tt) × Unit {0}) 0 tt (λ κs a h. ((h, tt), tt))
    (via_longer 𝓛 (Over 𝓛 𝓜 𝓡 𝓡.env) 1 lent lent_result
    (λ κs a. Lasts E' tt a) (λ κs a. lasts E' tt a) (λ κs a x ws. Fit E' (stays kinds.ps) tt a ws × reads.Learnt tt a x (at_exit E' tt a ws))
    (λ κs a. AllWithin 1 (κs.0, tt) (X.lives, tt) × Unit {0}) call 0 tt (λ κs. tt) (λ κs a. reads.Asked tt a) (λ κs a p. (tt, tt))
    (λ κs bd within a vss qs. method_Known 0 kinds.ps kinds.r reads.requires reads.ensures reads.Asked reads.Learnt reads.known (record { M = M; 𝓤 = 𝓤; 𝓛 = 𝓛; 𝓜 = 𝓜; 𝓡 = 𝓡 })
    dropping.name call (dropping.as_method 𝓡.env gone call refl) (dropped.met 𝓤 𝓛 𝓜 𝓡 gone) ((tt, qs, tt, a, vss), tt))))

pub of_spec : {M : Type 1} → statement M
of_spec 𝓤 𝓛 𝓜 𝓡 wired =
    let H = 𝓛.H in let 𝓣 = tables 𝓤 H 𝓜 𝓡 𝓡.env in let c = f.clauses 𝓛 𝓜.mem 𝓡.returns in let fn = code.function in
    proved_at 𝓛 f.ended stayed c 𝓜 𝓡 (Goes-dropped 𝓛 0 (plain (λ _. Boxed)) yes (λ κs x w. refl), tt)
    f.Key.name fn (code.unfolded 𝓤 H 𝓜 𝓡 wired) (λ z are.
    let v = z.0.3.0 in let Post : Val → SProp 𝓤 = (walk_of 𝓛 f.ended stayed c).post z in let Run : List Val → SProp 𝓤 = λ ws. WpFn 𝓤 H 𝓣.C 𝓣.Λ fn ws Post in
    qed 𝓛 ((‵ ftrue ⊛ ‵ (owns (types_at f.signature.params tt) z.0.3 z.0.4)) ∷ raw ((c z.0.0 z.0.3).requires z.1) ∷ []) ∵ split ! $ drop ! $ fsplit ! $
    box_out E ! v z.0.4.0 (λ b o h e ws fits. box_in E ! v b o v.value e refl $
    let w : Val = box.word E h b o in let typed = box.box_typed E h b o fits in
    suffices ! (Run (w ∷ [])) (subst (λ (us : List Val). ent 𝓤 (Run (w ∷ [])) (Run us)) (sym (λ i. ws i ++ [])) (id⊢ 𝓤 (Run (w ∷ [])))) $
    enter ! 𝓣.C 𝓣.Λ fn (w ∷ []) Post $ alloc_all ! (λ l. pass_all ! refl (typed, tt) $
    sets ! (of_opd ! (get ! refl)) refl typed $
    -- [the box; nothing; nothing]
    lft_new ! tt (λ α. lft_new ! tt (λ β.
    let κ = α ∷ [] in let λ₁ = β ∷ [] in
    let k = triple_of 𝓛 (callee.signature X Heap E.al.g E.al.d E.al.drops drops) (callee.spec X Heap E.al.g E.al.d E.al.drops drops 𝓛 𝓜.mem 𝓡.returns) in
    let Callee = callee.ended X Heap E.al.g E.al.d E.al.drops drops in
    let y : k.Ghost = (((κ, (λ₁, tt)), (full_share, (full_share, tt)), tt, (v, tt), (w ∷ [], tt)), tt) in
    let toks = ‵ (flft κ full_share) ⊛ ‵ (flft λ₁ full_share) ⊛ ‵ ftrue in
    -- [two tokens; the box; nothing; nothing]
    move ! (4 ∷ []) $ use0 𝓛 (raw (fact 𝓤 (λ₁ ⊑ Heap.lives))) (fact_i 𝓤 (λ₁ ⊑ Heap.lives) (emp 𝓤) (⊑_static λ₁)) $ join ! $
    use0 𝓛 (raw (fact 𝓤 (κ ⊑ X.lives))) (fact_i 𝓤 (κ ⊑ X.lives) (emp 𝓤) (⊑_static κ)) $ join ! $
    move ! (3 ∷ 4 ∷ []) $ fjoin ! $ nothing ! $ move ! (3 ∷ 0 ∷ []) $ join ! $ move ! (3 ∷ 0 ∷ []) $ join ! $ join ! $ join ! $ use1 𝓛 (raw (k.pre y)) (id⊢ 𝓤 _) $
    calls_at ! (fm 𝓛 𝓜 𝓡) k (known 𝓤 𝓛 𝓜 𝓡 wired) y (and_then ! (get ! refl) (no_more !)) (λ u.
    use1 𝓛 (later (some (λ (r : Ptr). (toks ⊛ ‵ (RawPtr.own_val r (u ∷ []))) ⊛ some (λ (ls : Lasts Callee y.0.0 y.0.3). ‵ (lasts Callee y.0.0 y.0.3 ls) ⊛ ‵ (box_owns chunk (param 0 X) r v.value))))) (id⊢ 𝓤 (k.post y u)) $
    await ! tt $ pick ! (λ r. split ! $ move ! (1 ∷ []) $ pick ! (λ ls. split ! $ drop ! $
    in_a_block ! r (λ p. box_owns chunk (param 0 X) p v.value) (fst∗ 𝓤 (never 𝓤) (sem 𝓛 (chunk (bare (layout X)) null_ptr))) (λ b' o' e'.
    move ! (1 ∷ []) $ split ! $ drop ! $ feq_l ! (λ eu.
    lands_as ! (ap only (eu ∙ ap (λ (p : Ptr). ptr_val p ∷ []) e')) refl (tt, tt) $
    sets ! (of_opd ! (get ! refl)) refl (tt, tt) $
    sets ! (agg ! (and_then ! (get ! refl) (no_more !))) refl (tt, (tt, tt)) $
    slot_in ! b' o' v.value $
    returns ! (look_at ! 0 refl) $ free_all ! refl $
    use0 𝓛 (raw (fact 𝓤 (Some v.value ≡ Some v.value))) (fact_i 𝓤 (Some v.value ≡ Some v.value) (emp 𝓤) refl) $
    nothing ! $ nothing ! $ fjoin ! $ nothing ! $ keep ! (0 ∷ 1 ∷ 3 ∷ 2 ∷ []) $
    by ! (leaves 𝓛 f.ended stayed c z (one (vptr b' o')) (record { held = block_ptr b' o'; host = Some v.value }) (tt, tt) (tt, tt))))))))))))

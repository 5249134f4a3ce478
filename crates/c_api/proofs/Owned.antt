-- A slot by value: its pointer, and the box that lies there.
use Rattle.std.proofs.lemmas.Bool.{false≢true}
use Rattle.std.proofs.Common.{◌≡◌, ℕ, List, [], ◌∷◌, ◌++◌, refl, subst}
use Rattle.std.specs.Prelude.{Option, Some, None}
use seplogic.Ra.Ura.{Ura}
use mir.Syntax.{impl, tcons, tnil, dnil, Dict}
use mir.Raw.{raw as bare}
use mir.Val.{Val, vptr, vstruct, vcons, vnil, of_list}
use base.Logic.{never, fst∗}
use prog.Model.{Model}
use sound.WpLaws.{FmC}
use contract.Running.{Running, tables}
use denote.Triple.Table.{framed}
use types.Logic.{Logic, sem}
use types.Kit.{Item, Goal, Seq, Step, step, ‵, ◌$◌, drop, fsplit, fjoin, fpick, fpack, rewrite, feq_i, feq_l}
use denote.RattleType.{RattleType, Valss}
use denote.Builtin.{RawPtr}
use denote.Memory.{lone}
use denote.RawPtr.{Ptr, block_ptr, null_ptr, ptr_val, in_a_block}
use denote.Steps.{nothing}
use denote.Exit.{no}
use denote.Param.{layout, param, arg}
use denote.Param.Laws.{Laws, param_laws, arg_laws}
use denote.Param.Mute.{Mute-seen}
use borrow.Fn.Kinds.{ParamKind, ResultKind, r_unit}
use borrow.Kind.Owned.{p_owned}
use denote.Struct.Struct.{within}
use denote.Struct.Owning.{shape}
use Rattle.std.specs.Box.Ownership.{box_owns}
use Rattle.std.specs.Option.{IsSome}
use Rattle.std.specs.contracts.alloc.Global as Heap
use Rattle.std.proofs.alloc.Global.TheLaws as heap
use Rattle.std.specs.contracts.impls.GlobalAllocator.TheImpl as Im
use Rattle.std.proofs.BoxSteps.Form.{Bx}
use Rattle.c_api.specs.declared.host.Host.{Host}
use Rattle.c_api.specs.contracts.host.Host as inner
use Rattle.c_api.proofs.host.Host.TheLaws as inner_laws
use Rattle.c_api.specs.declared.slot.Slot as S
use Rattle.c_api.specs.contracts.slot.Slot as slot
use Rattle.c_api.specs.Owned.{chunk, owns_if}

abbrev pub R : RattleType
R = inner.the_row

abbrev pub G : RattleType
G = Heap.the_row

-- as an argument of a generic call
abbrev pub H : RattleType
H = arg (bare (layout G)) no G

abbrev pub heap_laws : Laws H
heap_laws = arg_laws (bare (layout G)) no G heap.the_row_laws refl

abbrev pub X : RattleType
X = arg (bare (layout R)) no R

abbrev pub value_laws : Laws X
value_laws = arg_laws (bare (layout R)) no R inner_laws.the_row_laws refl

abbrev pub no_drop : Dict
no_drop = impl ("c_api::Destruct++none::drop" ∷ []) (tcons (layout H) tnil) dnil

abbrev pub E : Bx
E = record { row = X; laws = value_laws; al = record { row = H; laws = heap_laws; g = Im.ghosts; d = Im.dict; drops = no_drop } }

abbrev pub one : Val → Val
one v = vstruct (vcons v vnil)

pub some_of : (o : Option Host) → IsSome o → (x : Host) × (o ≡ Some x)
some_of None s = absurd (false≢true s)
some_of (Some x) s = (x, refl)

pub fm : {M : Type 1} {𝓤 : Ura M} (𝓛 : Logic 𝓤) (𝓜 : Model 𝓤 𝓛.H) (𝓡 : Running 𝓤 𝓛.H 𝓜) → FmC 𝓤 𝓛.H 𝓛.laws (tables 𝓤 𝓛.H 𝓜 𝓡 𝓡.env).C
fm {𝓤 = 𝓤} 𝓛 𝓜 𝓡 f = framed 𝓤 𝓛.H 𝓜 (tables 𝓤 𝓛.H 𝓜 𝓡 𝓡.env) f

-- what drops a value that is lent to a generic function
abbrev pub lent : List (ParamKind 1)
lent = p_owned (param 0 X) refl no (Mute-seen (λ x. tt)) (λ M 𝓤 𝓛. (param_laws 0 X value_laws).lawful 𝓛) ∷ []

abbrev pub lent_result : ResultKind 1
lent_result = r_unit

module _ {M : Type 1} {𝓤 : Ura M} {𝓛 : Logic 𝓤} {K : Type 0} {Γ : List (Item 𝓤)} {Go : Goal 𝓤 𝓛.H} where
  pub slot_out : K → (d : S.Slot) (x : Host) (vs : List Val) → d.host ≡ Some x
      → ((b o : ℕ) → d.held ≡ block_ptr b o → vs ≡ one (vptr b o) ∷ [] → Seq K 𝓛 (‵ (box_owns chunk R (block_ptr b o) x) ∷ Γ) Go)
      → Seq K 𝓛 (‵ (slot.the_row.own_val d vs) ∷ Γ) Go
  slot_out t d x vs is k =
      fsplit t $ fpick t (λ vss. fsplit t $ feq_l t (λ ev. fsplit t $ feq_l t (λ ep. drop t $
      rewrite t 0 (λ (i : Option Host). ‵ (owns_if d.held i)) is refl $
      in_a_block t d.held (λ p. box_owns chunk R p x) (fst∗ 𝓤 (never 𝓤) (sem 𝓛 (chunk (bare (lone R.mir)) null_ptr))) (λ b o e. k b o e
      (subst (λ (p : Ptr). vs ≡ vstruct (of_list (ptr_val p ∷ [])) ∷ []) e
      (subst (λ (ps : List Val). vs ≡ vstruct (of_list (ps ++ [])) ∷ []) ep ev))))))

  pub slot_in : K → (b o : ℕ) (x : Host)
      → Step K 𝓛 (‵ (slot.the_row.own_val (record { held = block_ptr b o; host = Some x }) (one (vptr b o) ∷ [])) ∷ Γ) Go (‵ (box_owns chunk R (block_ptr b o) x) ∷ Γ) Go
  slot_in t b o x = step (λ s. let v : Val = one (vptr b o) in
      nothing t $ feq_i t (List Val) (vptr b o ∷ []) (vptr b o ∷ []) refl $ fjoin t $ feq_i t (List Val) (v ∷ []) (v ∷ []) refl $ fjoin t $
      fpack t (Valss (RawPtr ∷ [])) (within (shape slot.the_type) (block_ptr b o, tt) (v ∷ [])) (vptr b o ∷ [], tt) $ fjoin t $ s)

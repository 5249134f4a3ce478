-- Rows once one is emptied.
use Rattle.std.proofs.Common.{◌≡◌, ℕ, zero, suc, ◌<◌, List, [], ◌∷◌, ◌++◌, length, get_or, set, refl, sym, ap, subst, ◌∙◌, ⊎_elim, arith}
use Rattle.datasets.specs.Clones.{IsTied, AreTied}
use Rattle.file_system.specs.Rows.{Row, new_row}
use Rattle.datasets.proofs.Ties.{row_snaps, in_set}

-- one without snapshots in place of another without them takes none away
emptied_snaps : (rows : List Row) (i : ℕ) (r e : Row) → i < length rows → e ≡ get_or rows i e → e.system.snaps ≡ [] → r.system.snaps ≡ [] → row_snaps (set rows i r) ≡ row_snaps rows
emptied_snaps [] i r e lt is was now = absurd (omega arith)
emptied_snaps (x ∷ rows) zero r e lt is was now = ap (λ l. l ++ row_snaps rows) (now ∙ sym was ∙ ap (λ (y : Row). y.system.snaps) is)
emptied_snaps (x ∷ rows) (suc i) r e lt is was now = ap (λ l. x.system.snaps ++ l) (emptied_snaps rows i r e (omega arith) is was now)

-- a new row in place of one without snapshots stands above nothing, and no other stood above it
pub tied_emptied : (rows : List Row) (i : ℕ) (r e : Row) (name : List ℕ) → AreTied rows → i < length rows → e ≡ get_or rows i e → e.system.snaps ≡ [] → r ≡ new_row name → AreTied (set rows i r)
tied_emptied rows i r e name tied lt is bare new x h =
    subst (λ ts. IsTied ts x) (sym (emptied_snaps rows i r e lt is bare (ap (λ (y : Row). y.system.snaps) new)))
    (⊎_elim (λ it. subst (IsTied (row_snaps rows)) (sym (it ∙ new)) refl) (λ k. tied x k) (in_set rows i r x h))

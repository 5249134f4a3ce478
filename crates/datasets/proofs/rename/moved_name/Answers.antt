use Rattle.std.proofs.Common.{◌≡◌, ◌++◌, ℕ, List, Some, length, drop, sym, ap, subst, ◌∙◌}
use Rattle.std.specs.Prelude.{IfOk}
use Rattle.base.specs.Reading.{name_of}
use Rattle.datasets.proofs.MovedNames.{moved_is_read, reads_ok, reads_err}
use Rattle.datasets.proofs.rename.moved_name.Goals as goal

bytes : (c : goal.After-drop-bytes-2) → c.deref.result.now ≡ c.args.to.now ++ drop (length c.args.from.now) c.args.name.now
bytes c =
    c.deref.ensures.value ∙ c.in_ok-extend_from_slice-2.ensures.items
    ∙ ap (λ (l : List ℕ). l ++ c.split_at.result.1.now) (c.in_ok-extend_from_slice.ensures.items ∙ ap (λ (l : List ℕ). l ++ c.as_bytes-4.result.now) c.in_ok-bytes.ensures.items ∙ c.as_bytes-4.ensures.value)
    ∙ ap (λ (l : List ℕ). c.args.to.now ++ l) (c.split_at.ensures.back ∙ (λ i. drop (length (c.as_bytes-2.ensures.value i)) (c.as_bytes.ensures.value i)))

read : (c : goal.After-drop-bytes-2) → name_of c.deref.result.now ≡ Some c.deref.result.now
read c =
    subst (λ (l : List ℕ). name_of l ≡ Some l) (sym (bytes c))
    (moved_is_read c.args.from.now c.args.to.now c.args.name.now
    (subst (λ (l : List ℕ). name_of l ≡ Some l) c.as_bytes-4.ensures.value c.as_bytes-4.ensures.reads)
    (subst (λ (l : List ℕ). name_of l ≡ Some l) c.as_bytes.ensures.value c.as_bytes.ensures.reads)
    c.requires.family c.requires.short)

pub returns-clause-ok : goal.returns-clause-ok
returns-clause-ok c = subst (λ (l : List ℕ). IfOk c.read.result (λ n. n ≡ l)) (bytes c) (reads_ok c.deref.result.now c.read.result c.read.ensures (read c))

pub returns-clause-err : goal.returns-clause-err
returns-clause-err c = reads_err c.deref.result.now c.read.result c.read.ensures (read c)

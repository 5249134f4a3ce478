-- Names with a mark, from the readers of their parts.
use Rattle.std.proofs.Common.{◌≡◌, ℕ, ◌+◌, ◌-◌, ◌≤◌, Bool, true, false, cond, eqb, List, Option, Some, None, length, get_or, take, drop, refl, ap, ◌∙◌, arith, length-drop}
use Rattle.std.proofs.lemmas.List.{take_all}
use Rattle.std.proofs.lemmas.Bool.{le-ltb}
use Rattle.std.specs.List.{position}
use Rattle.base.specs.declared.name.target.Target.{Target}
use Rattle.base.specs.declared.name.target.Target.TheVariants.{Snapshot, Bookmark}
use Rattle.base.specs.Names.{name_limit, is_component, is_mark, is_name}
use Rattle.base.specs.Reading.{component_of, name_of, target_of}

-- what was read was allowed, and is the bytes
some_allowed : (b : Bool) (bs x : List ℕ) → cond b (Some bs) None ≡ Some x → (b ≡ true) × (bs ≡ x)
some_allowed true bs x e = (refl, cc)
some_allowed false bs x e = cc

-- a snapshot with these parts where its mark is `@`, and else a bookmark
abbrev pub marked_if : List ℕ → List ℕ → Bool → Option Target
marked_if front back at = cond at (Some (Snapshot (record { file_system = front; component = back }))) (Some (Bookmark (record { file_system = front; component = back })))

pub target_marked : (bs : List ℕ) (n : ℕ) (front back : List ℕ) → position is_mark bs ≡ Some n → length bs ≤ name_limit → name_of (take n bs) ≡ Some front → component_of (take (length bs - (n + 1)) (drop (n + 1) bs)) ≡ Some back → target_of bs ≡ marked_if front back (eqb (get_or bs n 0) 64)
unfolding target_of name_of component_of
target_marked bs n front back at small one other =
    let one' = some_allowed (is_name (take n bs)) (take n bs) front one in
    let whole : take (length bs - (n + 1)) (drop (n + 1) bs) ≡ drop (n + 1) bs = take_all _ _ (omega (arith, length-drop (n + 1) bs)) in
    let other' = some_allowed (is_component (drop (n + 1) bs)) (drop (n + 1) bs) back (rw whole at other) in
    let few = le-ltb name_limit (length bs) small in
    rw (at, few, one'.0, other'.0) (ap (λ (x : List ℕ). marked_if x (drop (n + 1) bs) (eqb (get_or bs n 0) 64)) one'.1 ∙ ap (λ (x : List ℕ). marked_if front x (eqb (get_or bs n 0) 64)) other'.1)

-- Which names are of a family.
use Rattle.std.proofs.Common.{◌≡◌, Bool, true, false, cond, List, [], ◌∷◌, ◌++◌, map, sym, ap, ◌∙◌, append_assoc}
use Rattle.std.specs.List.{filter}
use Rattle.base.specs.declared.name.member.Member.{Member}
use Rattle.datasets.specs.Rows.{Row}
use Rattle.model.specs.requests.Snapshot.{named_with}
use Rattle.world.specs.Tables.{Datasets, world_of}
use Rattle.model.specs.Hierarchy.{is_in_family}
use Rattle.snap.specs.Taking.{all_of}

-- the names of a family's file systems among these, with a component
abbrev pub members_of : Member → List Row → List Member
members_of name rows = map (λ n. record name { file_system = n }) (filter (is_in_family name.file_system) (map (λ (r : Row). r.name) rows))

module _ (name : Member) (rows rest : List Row) (r : Row) (left : rows ≡ r ∷ rest) (xs all : List Member) (so_far : xs ++ members_of name rows ≡ all) where
  pub with_member : is_in_family name.file_system r.name ≡ true → (ys : List Member) (m : Member) → ys ≡ xs ++ m ∷ [] → m ≡ record name { file_system = r.name } → ys ++ members_of name rest ≡ all
  with_member is ys m grown made =
      (λ i. grown i ++ members_of name rest) ∙ append_assoc xs (m ∷ []) (members_of name rest) ∙ (λ i. xs ++ made i ∷ members_of name rest)
      ∙ ap (λ b. xs ++ map (λ n. record name { file_system = n }) (cond b (r.name ∷ filter (is_in_family name.file_system) (map (λ (r : Row). r.name) rest)) (filter (is_in_family name.file_system) (map (λ (r : Row). r.name) rest)))) (sym is)
      ∙ ap (λ l. xs ++ members_of name l) (sym left) ∙ so_far

  pub without_member : is_in_family name.file_system r.name ≡ false → xs ++ members_of name rest ≡ all
  without_member is =
      ap (λ b. xs ++ map (λ n. record name { file_system = n }) (cond b (r.name ∷ filter (is_in_family name.file_system) (map (λ (r : Row). r.name) rest)) (filter (is_in_family name.file_system) (map (λ (r : Row). r.name) rest)))) (sym is)
      ∙ ap (λ l. xs ++ members_of name l) (sym left) ∙ so_far

-- one name more
pub grows : (t : Datasets) (recursive : Bool) (x : Member) (left rest : List Member) → left ≡ x ∷ rest → (xs all : List Member) → xs ++ all_of t left recursive ≡ all
    → (ys added : List Member) → ys ≡ xs ++ added → added ≡ named_with (world_of t) recursive x → ys ++ all_of t rest recursive ≡ all
grows t recursive x left rest left_is xs all so_far ys added grown is =
    (λ i. grown i ++ all_of t rest recursive) ∙ append_assoc xs added (all_of t rest recursive) ∙ (λ i. xs ++ (is i ++ all_of t rest recursive))
    ∙ ap (λ l. xs ++ all_of t l recursive) (sym left_is) ∙ so_far

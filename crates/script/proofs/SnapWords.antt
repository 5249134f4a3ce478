-- Lemmas on words that name snapshots.
use Rattle.std.proofs.Common.{Bor, ◌≡◌, ◌<◌, ℕ, Bool, eqb, List, length, arith, [], ◌∷◌, ◌++◌, Option, None, Some, refl, sym, ap, ◌∙◌, append_assoc}
use Rattle.std.proofs.lemmas.List.Splits.{length-slice_split}
use Rattle.std.specs.Option.{option_map, option_and_then, option_copied}
use Rattle.base.specs.declared.name.member.Member.{Member}
use Rattle.base.specs.Reading.{snap_of}
use Rattle.model.specs.declared.request.Request.TheVariants.{Snapshot}
use Rattle.script.specs.Words.{words_of}
use Rattle.script.specs.Reading.{words_left}
use Rattle.script.specs.Meaning.{Asks, named, snap_names_of, snapshots_of}

-- these names and then those, where there are any
abbrev pub after_names : List Member → Option (List Member) → Option (List Member)
after_names ms others = option_map (λ ns. ms ++ ns) others

after_one : (ms : List Member) (m : Member) (others : Option (List Member)) → after_names (ms ++ m ∷ []) others ≡ after_names ms (option_map (λ ns. m ∷ ns) others)
after_one ms m None = refl
after_one ms m (Some ns) = ap Some (append_assoc ms (m ∷ []) ns)

after_name : (ms : List Member) (m : Member) (w : List ℕ) (ws : List (List ℕ)) → snap_of w ≡ Some m
    → after_names (ms ++ m ∷ []) (snap_names_of ws) ≡ after_names ms (snap_names_of (w ∷ ws))
after_name ms m w ws e =
    after_one ms m (snap_names_of ws)
    ∙ ap (λ o. after_names ms (option_and_then (λ k. option_map (λ ns. k ∷ ns) (snap_names_of ws)) o)) (sym e)

some_names : (recursive : Bool) (words : List (List ℕ)) (names : List Member) → 0 < length words → snap_names_of words ≡ Some names
    → snapshots_of recursive words ≡ Asks (Snapshot names recursive)
unfolding snapshots_of
some_names recursive [] names more e = absurd (omega arith)
some_names recursive (w ∷ ws) names more e = ap (λ o. named o (λ ns. Asks (Snapshot ns recursive))) e

-- a line has a word
pub snapshots_asked : (recursive : Bool) (line : List ℕ) (names : List Member) → snap_names_of (words_of line) ≡ Some names
    → snapshots_of recursive (words_of line) ≡ Asks (Snapshot names recursive)
snapshots_asked recursive line names e = some_names recursive (words_of line) names (omega (arith, length-slice_split (λ b. eqb b 32) line)) e

-- the next of the words that are left named a snapshot
pub names_kept : (left : Option (Bor (List ℕ))) (line : Bor (List ℕ)) (ms ns : List Member) (m : Member) (w : List ℕ) (ws : List (List ℕ)) (whole : Option (List Member))
    → after_names ms (snap_names_of (words_left (option_copied left))) ≡ whole → left ≡ Some line → words_of line.now ≡ w ∷ ws → snap_of w ≡ Some m → ns ≡ ms ++ m ∷ []
    → after_names ns (snap_names_of ws) ≡ whole
names_kept left line ms ns m w ws whole so_far some words read longer =
    ap (λ is. after_names is (snap_names_of ws)) longer ∙ after_name ms m w ws read ∙ ap (λ l. after_names ms (snap_names_of l)) (sym words)
    ∙ ap (λ l. after_names ms (snap_names_of (words_left (option_copied l)))) (sym some) ∙ so_far

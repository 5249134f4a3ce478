use Rattle.std.proofs.Common.{◌≡◌, ◌≢◌, ◌∙◌, rules}
use Rattle.stream.specs.Spelling.{magic, AreGuids}
use Rattle.stream.proofs.Passing.{Passes-trans}
use Rattle.stream.proofs.Parts.{AreEights, header_refused, header_passes, number_8}
use Rattle.stream.proofs.reader.read_header.Goals as goal

pub returns-then-ne-clause-bad : goal.returns-then-ne-clause-bad
returns-then-ne-clause-bad g c = λ _.
    let eights : AreEights c.in_ok-text.text c.in_ok-source.source c.in_ok-target.target = record { text_len = c.in_ok-text.ensures.length; source_len = c.in_ok-source.ensures.length; target_len = c.in_ok-target.ensures.length } in
    let first = Passes-trans _ _ _ _ _ _ _ _ c.in_ok-text.ensures.ok c.in_ok-source.ensures.ok in
    let all = Passes-trans _ _ _ _ _ _ _ _ first c.in_ok-target.ensures.ok in
    let differs : c.in_ok-text.text ≢ magic = search rules in
    header_refused _ _ _ _ _ _ _ _ _ all eights (c.read_u64-source.ensures ∙ number_8 c.in_ok-source.source) (c.read_u64-target.ensures ∙ number_8 c.in_ok-target.target) (λ e _. differs e)

pub returns-then-not-are_guids-clause-bad : goal.returns-then-not-are_guids-clause-bad
returns-then-not-are_guids-clause-bad g c = λ _.
    let eights : AreEights c.in_ok-text.text c.in_ok-source.source c.in_ok-target.target = record { text_len = c.in_ok-text.ensures.length; source_len = c.in_ok-source.ensures.length; target_len = c.in_ok-target.ensures.length } in
    let first = Passes-trans _ _ _ _ _ _ _ _ c.in_ok-text.ensures.ok c.in_ok-source.ensures.ok in
    let all = Passes-trans _ _ _ _ _ _ _ _ first c.in_ok-target.ensures.ok in
    let refused : AreGuids c.read_u64-source.result c.read_u64-target.result → ⊥ = search rules in
    header_refused _ _ _ _ _ _ _ _ _ all eights (c.read_u64-source.ensures ∙ number_8 c.in_ok-source.source) (c.read_u64-target.ensures ∙ number_8 c.in_ok-target.target) (λ _ guids. refused guids)

pub returns-clause-ok : goal.returns-clause-ok
returns-clause-ok g c =
    let eights : AreEights c.in_ok-text.text c.in_ok-source.source c.in_ok-target.target = record { text_len = c.in_ok-text.ensures.length; source_len = c.in_ok-source.ensures.length; target_len = c.in_ok-target.ensures.length } in
    let first = Passes-trans _ _ _ _ _ _ _ _ c.in_ok-text.ensures.ok c.in_ok-source.ensures.ok in
    let all = Passes-trans _ _ _ _ _ _ _ _ first c.in_ok-target.ensures.ok in
    let is : c.in_ok-text.text ≡ magic = search rules in
    let guids : AreGuids c.read_u64-source.result c.read_u64-target.result = search rules in
    (guids, header_passes _ _ _ _ _ _ _ _ _ all eights c.in_ok-source.ensures.bytes c.in_ok-target.ensures.bytes is (c.read_u64-source.ensures ∙ number_8 c.in_ok-source.source) (c.read_u64-target.ensures ∙ number_8 c.in_ok-target.target))

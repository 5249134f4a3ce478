-- What a request adds to the counts of a pool.
use Rattle.std.proofs.Common.{◌≡◌, ◌≤◌, ◌∙◌, false, refl, sym, subst, arith}
use Rattle.model.specs.declared.reply.Reply.{Reply}
use Rattle.model.specs.declared.request.Request.{Request}
use Rattle.steps.specs.Edits.{datasets_of}
use Rattle.steps.specs.Reached.{HasRead}
use Rattle.pool.specs.Kinds.{kind_of}
use Rattle.pool.specs.Reached.{changes_blocks, reaches_lists, IsMetered}
use Rattle.pool.specs.Shown.{Shown}
use Rattle.pool.specs.declared.kind.Kind.TheVariants.{Question}

module _ (old : Shown) (q : Request) (r : Reply) where
  -- one that doesn't only read, by what it changes
  pub changed : (new : Shown) → (kind_of q ≡ Question → ⊥) → (changes_blocks q ≡ false → new.nodes ≡ old.nodes) → (reaches_lists q ≡ false → new.segments ≡ old.segments)
      → old.nodes ≤ new.nodes → old.segments ≤ new.segments → IsMetered old q r new
  changed new other nodes segments more further = record {
    never_lower = more;
    segments_never_lower = further;
    nodes = λ none. nodes none.1;
    segments = segments;
    read = λ is. absurd (other is);
  }

  -- one that reaches nothing at all
  pub unmoved : (kind_of q ≡ Question → ⊥) → IsMetered old q r old
  unmoved other = changed old other (λ none. refl) (λ none. refl) (omega arith) (omega arith)

  -- and where what comes after it reaches nothing
  pub carried : (mid new : Shown) → IsMetered old q r mid → new.nodes ≡ mid.nodes → new.segments ≡ mid.segments → IsMetered old q r new
  carried mid new was nodes segments = record {
    never_lower = omega (arith, nodes, was.never_lower);
    segments_never_lower = omega (arith, segments, was.segments_never_lower);
    nodes = λ none. nodes ∙ was.nodes none;
    segments = λ none. segments ∙ was.segments none;
    read = λ is. subst (HasRead (datasets_of old.state) q r old.segments) (sym segments) (was.read is);
  }

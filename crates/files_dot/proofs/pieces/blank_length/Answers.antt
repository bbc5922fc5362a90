-- The first `*/` ends the comment.
use Rattle.std.proofs.Common.{◌∙◌, refl, subst, sym}
use Rattle.files_dot.specs.Pieces.{IsCommentEnd, IsFirst}
use Rattle.files_dot.specs.Pieces.IsBlank.{comment}
use Rattle.files_dot.proofs.TokenLemmas.{tail_is}
use Rattle.files_dot.proofs.pieces.blank_length.Goals as goal

pub returns-in-Some-clause-blank : goal.returns-in-Some-clause-blank
returns-in-Some-clause-blank c _ =
    comment c.in-Some.inside (sym c.byte_at-first.ensures.value ∙ c.if-first-ne47.false)
    (sym c.byte_at-second.ensures.value ∙ c.if-second-ne42.false)
    (subst (λ tail. IsFirst (IsCommentEnd tail) c.in-Some.inside) (tail_is 2 c.args.text.now)
    c.in-Some.ensures.some) refl

-- Strings in quotes, a byte after another.
use Rattle.std.specs.Prelude.{slice_index}
use Rattle.std.specs.List.{fold}
use Rattle.std.proofs.Common.{◌≡◌, ◌≢◌, ◌<◌, ℕ, ◌+◌, Bool, true, false, List, [], ◌∷◌, ◌++◌, take, length, get_or, sym, ap, ◌∙◌, append-nil, append_assoc, ◌⊎◌, inl, inr}
use Rattle.std.proofs.lemmas.Bool.{true≢false}
use Rattle.std.proofs.lemmas.List.{take_more}
use Rattle.std.proofs.lemmas.List.Sums.{fold_more}
use Rattle.files_dot.specs.Pieces.{IsQuote, escapes, stands_for, text_of}

text_of-more : (e : Bool) (xs : List ℕ) (b : ℕ) →
    text_of e (xs ++ b ∷ []) ≡ text_of e xs ++ stands_for (fold escapes e xs) b
text_of-more e [] b = append-nil (stands_for e b)
text_of-more e (x ∷ xs) b =
    ap (λ l. stands_for e x ++ l) (text_of-more (escapes e x) xs b)
    ∙ sym (append_assoc (stands_for e x) (text_of (escapes e x) xs) (stands_for (fold escapes (escapes e x) xs) b))

module _ (inside : List ℕ) (i : ℕ) (is_escaped : Bool) (state : is_escaped ≡ fold escapes false (take i inside)) where
  -- another byte between quotes
  pub quoted_more : (byte : ℕ) (old now next : List ℕ) (after : Bool) → i < length inside → byte ≡ get_or inside i 0 →
      now ≡ old ++ text_of false (take i inside) → after ≡ escapes is_escaped byte →
      next ≡ now ++ stands_for is_escaped byte → (after ≡ fold escapes false (take (i + 1) inside))
      × (next ≡ old ++ text_of false (take (i + 1) inside))
  quoted_more byte old now next after less is text after_is next_is = (
    after_is ∙ ap (λ e. escapes e byte) state ∙ ap (escapes (fold escapes false (take i inside))) is
        ∙ sym (fold_more escapes false inside i 0 less),
    next_is ∙ ap (λ l. l ++ stands_for is_escaped byte) text
        ∙ append_assoc old (text_of false (take i inside)) (stands_for is_escaped byte)
        ∙ ap (λ l. old ++ l) (ap (λ e. text_of false (take i inside) ++ stands_for e byte) state
        ∙ sym (text_of-more false (take i inside) byte)
        ∙ ap (text_of false) (ap (λ b. take i inside ++ b ∷ []) is ∙ sym (take_more inside i 0 less))),
  )

  pub quote_is_not_here : (is_escaped ≡ true) ⊎ (slice_index inside i ≢ 34) → ¬ IsQuote inside i
  quote_is_not_here (inl escaped) quote = true≢false (sym escaped ∙ state ∙ quote.1)
  quote_is_not_here (inr other) quote = other quote.0

-- What a text is, by the words that were read.
use Rattle.std.specs.Prelude.{IfErr, IfOk}
use Rattle.std.proofs.Common.{◌≡◌, inr, ℕ, ◌+◌, ◌<◌, ◌≤◌, Some, List, [], ◌∷◌, ◌++◌, Result, Ok, Err, length, take, drop, map, get_or, sym, ap, subst, ◌∙◌}
use Rattle.std.specs.Option.{option_and_then}
use Rattle.std.proofs.lemmas.List.{drop_more, map-append, take-append-drop, take_all, take_more}
use Rattle.files_condition.specs.declared.fault.ConditionFault.{ConditionFault}
use Rattle.files_condition.specs.declared.fault.ConditionFault.TheVariants.{Memory, Word as Fault}
use Rattle.files_condition.specs.declared.words.Word.{Word}
use Rattle.files_condition.specs.Conditions.{IsCondition, IsExpression, Test, Tree, disjunction}
use Rattle.files_condition.specs.Places.{IsConditionFault}
use Rattle.files_condition.specs.Reading.{IsEnded, IsRefused, IsUnended, State, run, start, step}
use Rattle.files_condition.specs.Words.{AreWordsOf, Token, token_of}
use Rattle.files_condition.proofs.CompleteLemmas.{run_then}
use Rattle.files_condition.proofs.PlaceLemmas.{IsFaultOf, refused, unended}
use Rattle.files_condition.proofs.StepLemmas.{end_read, run_read, start_read}

-- what follows of a value, or of a fault
pub when_ok : {T E : Type 0} (r : Result T E) (P Q : T → Type 0) → ((x : T) → P x → Q x) → IfOk r P → IfOk r Q
when_ok (Ok x) P Q each is = each x is
when_ok (Err e) P Q each is = tt

pub when_err : {T E : Type 0} (r : Result T E) (P Q : E → Type 0) → ((e : E) → P e → Q e) → IfErr r P → IfErr r Q
when_err (Ok x) P Q each is = tt
when_err (Err e) P Q each is = each e is

module _ (whole : List ℕ) (items : List Word) (are : AreWordsOf whole (map token_of items)) (s : State) where
  fault_of : (fault : ConditionFault) → IsFaultOf (length whole + 1) (map token_of items) fault →
      IsConditionFault whole fault
  fault_of Memory is = tt
  fault_of (Fault column expected) is = inr (map token_of items, are, is)

  -- while words are read
  module _ (i : ℕ) (d : Word) (less : i < length items) (ran : run start (map token_of (take i items)) ≡ Some s) where
    abbrev before : List Token
    before = map token_of (take i items)

    pub run_more : (t : State) → step s (token_of (get_or items i d)) ≡ Some t →
        run start (map token_of (take (i + 1) items)) ≡ Some t
    run_more t is =
        ap (λ l. run start (map token_of l)) (take_more items i d less)
        ∙ ap (run start) (map-append token_of (take i items) (get_or items i d ∷ []))
        ∙ run_then start s before (token_of (get_or items i d) ∷ []) ran
        ∙ ap (option_and_then (λ u. run u [])) is

    cut : map token_of items ≡ before ++ token_of (get_or items i d) ∷ map token_of (drop (i + 1) items)
    cut = ap (map token_of) (sym (take-append-drop i items) ∙ ap (λ l. take i items ++ l) (drop_more items i d less))
        ∙ map-append token_of (take i items) (get_or items i d ∷ drop (i + 1) items)

    pub word_fault : (fault : ConditionFault) → IsRefused s (token_of (get_or items i d)) fault →
        IsConditionFault whole fault
    word_fault fault is = fault_of fault
        (subst (λ l. IsFaultOf (length whole + 1) l fault) (sym cut)
        (refused s before (map token_of (drop (i + 1) items)) (token_of (get_or items i d)) (length whole + 1) fault
        ran is))

  -- when all were read
  module _ (i : ℕ) (past : length items ≤ i) (ran : run start (map token_of (take i items)) ≡ Some s) where
    ran_all : run start (map token_of items) ≡ Some s
    ran_all = ap (λ l. run start (map token_of l)) (sym (take_all i items past)) ∙ ran

    pub end_fault : (fault : ConditionFault) → IsUnended s (length whole + 1) fault → IsConditionFault whole fault
    end_fault fault is = fault_of fault (unended s (map token_of items) (length whole + 1) fault ran_all is)

    pub is_condition : (tests : List Test) (tree : Tree) → IsEnded s tests tree → IsCondition whole tests tree
    is_condition tests tree is = record {
      words = map token_of items;
      are_words = are;
      are_condition =
          subst (λ l. IsExpression disjunction 0 (map token_of items) l tree) (sym is.tests_are)
          (subst (λ t. IsExpression disjunction 0 (map token_of items) s.tests t) (sym is.tree_is)
          (end_read s (map token_of items) is.last (run_read start s [] (map token_of items) start_read ran_all)
          is.next is.outer));
    }

-- The laws of the table of an LALR(1) grammar.
use Rattle.std.proofs.Common.{◌≡◌, ◌∙◌, ℕ, List, [], ◌∷◌, None, Some, Result, Ok, Err, Vec, Global, length, refl, sym, subst, eqb-true, ap, arith}
use Rattle.std.specs.Result.{IfOk, result_err}
use Rattle.std.proofs.lemmas.Option.{none-some, same_Some}
use Rattle.vob_lr.specs.Conflicts.{AreConflicts, AreDecided}
use Rattle.vob_lr.specs.Derivations.{IsParse, IsSentence, SentencesHaveParses}
use Rattle.vob_lr.specs.Languages.{IsLalr, rules_of}
use Rattle.vob_lr.specs.Stops.{IsSound}
use Rattle.vob_lr.specs.Tables.{TableView}
use Rattle.vob_lr.specs.declared.parse.ParseError.{ParseError}
use Rattle.vob_lr.specs.declared.parse.ParseError.TheVariants.{TooLong, Unexpected}
use Rattle.vob_lr.specs.declared.table.Conflict.{Conflict}
use Rattle.tables_tests.proofs.language.is_sentence.Goals as goal

nothing_long : {A : Type 0} (xs : List A) → length xs ≡ 0 → xs ≡ []
nothing_long [] none = refl
nothing_long (x ∷ xs) none = absurd (omega (arith, none))

-- a parse is one of a sentence
yes : (table : TableView) (tokens : List ℕ) → SentencesHaveParses → (result : Result (Vec ℕ Global) ParseError) →
    result_err result ≡ None → IfOk result (λ rules. IsParse (rules_of table) tokens rules.items) →
    IsSentence (rules_of table) tokens
yes table tokens law (Ok rules) none parse = (law (rules_of table) tokens).1 (rules.items, parse)
yes table tokens law (Err e) none parse = absurd (none-some e (sym none))

-- no conflict, and none that was decided
lalr : (table : TableView) → IsSound table → (conflicts decided : Vec Conflict Global) →
    AreConflicts table.cells conflicts.items → AreDecided table decided.items → conflicts.len ≡ 0 →
    decided.len ≡ 0 → IsLalr table
lalr table sound conflicts decided are all none nothing = record {
  sound = sound;
  conflicts = subst (λ (xs : List Conflict). AreConflicts table.cells xs)
      (nothing_long conflicts.items (omega (arith, conflicts.ok.0, none))) are;
  decided = subst (λ (xs : List Conflict). AreDecided table xs)
      (nothing_long decided.items (omega (arith, decided.ok.0, nothing))) all;
}

-- the error of a refusal
refused : (result : Result (Vec ℕ Global) ParseError) (e : ParseError) → result_err result ≡ Some e → result ≡ Err e
refused (Ok rules) e same = absurd (none-some e same)
refused (Err f) e same = ap Err (same_Some f e same)

pub returns-in_default-clause-yes : goal.returns-in_default-clause-yes
returns-in_default-clause-yes c = λ _.
    yes c.args.table.now c.args.tokens.now c.sentences_have_parses.ensures c.parse.result
    (sym c.err.ensures.value ∙ c.in_default.is) c.parse.ensures.derives

pub returns-in-Unexpected : goal.returns-in-Unexpected
returns-in-Unexpected c =
    let own = lalr c.args.table.now c.lookaheads-states.ensures.sound c.in_ok-conflicts.field-0
    c.in_ok-decided.field-0 c.in_ok-conflicts.ensures c.in_ok-decided.ensures
    (eqb-true c.in_ok-conflicts.field-0.len 0 (sym c.is_empty.ensures ∙ c.if-not-is_empty.false))
    (eqb-true c.in_ok-decided.field-0.len 0
    (sym c.is_empty-else-not-is_empty.ensures ∙ c.if-not-is_empty-2.false)) in
    let n = c.in-Unexpected.at in
    let is = sym c.err.ensures.value ∙ c.in-Some.is ∙ ap Some c.in-Unexpected.is in record {
      yes = λ same. absurd (cc);
      no = λ _. (c.errors_are_early.ensures c.args.table.now own c.args.tokens.now n
          (c.parse.ensures.unexpected n (refused c.parse.result (Unexpected n) is))).1;
    }

pub returns-in-TooLong : goal.returns-in-TooLong
returns-in-TooLong c =
    let own = lalr c.args.table.now c.lookaheads-states.ensures.sound c.in_ok-conflicts.field-0
    c.in_ok-decided.field-0 c.in_ok-conflicts.ensures c.in_ok-decided.ensures
    (eqb-true c.in_ok-conflicts.field-0.len 0 (sym c.is_empty.ensures ∙ c.if-not-is_empty.false))
    (eqb-true c.in_ok-decided.field-0.len 0
    (sym c.is_empty-else-not-is_empty.ensures ∙ c.if-not-is_empty-2.false)) in
    let is = sym c.err.ensures.value ∙ c.in-Some.is ∙ ap Some c.in-TooLong.is in record {
      yes = λ same. absurd (cc);
      no = λ _. c.too_long_is_no_sentence.ensures c.args.table.now own c.args.tokens.now
          (c.parse.ensures.too_long (refused c.parse.result TooLong is));
    }

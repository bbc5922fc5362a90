-- The lines of sets.
use Rattle.std.proofs.Common.{◌≡◌, ◌↔◌, ℕ, Bool, true, List, [], refl}
use Rattle.std.specs.Prelude.{slice_index_or}
use Rattle.std.specs.List.{flat_map, range_with_len}
use Rattle.vob_block.specs.Packing.{item}
use Rattle.vob_lr.specs.Grammar.{AreFirst, AreFollow, AreNullable}
use Rattle.vob_lr.specs.Those.{AreThose}
use Rattle.vob_lr.specs.declared.grammar.Grammar.{Grammar}
use Rattle.files_text.specs.Printed.{members}
use Rattle.files_text.proofs.PrintedLemmas.{members-has, members-rise}
use Rattle.files_grammar.specs.SetText.{SaysSets, nonterminal_lines}
use Rattle.files_grammar.specs.declared.file.SymbolNames.{SymbolNames}

-- the members of a set that has those of which P holds
pub members_those : (P : ℕ → Type 0) (set : List Bool) → ((t : ℕ) → (item set t ≡ true) ↔ P t) →
    AreThose P (members set)
members_those P set each = record {
  each = λ t. (
    (λ there. (each t).0 ((members-has set t).0 there)),
    (λ holds. (members-has set t).1 ((each t).1 holds)),
  );
  rise = members-rise set;
}

-- the lines of a nonterminal by its place in the sets
abbrev pub lines_at : SymbolNames → List Bool → List (List Bool) → List (List Bool) → ℕ → List ℕ
lines_at names nullable first follow a = nonterminal_lines names a (item nullable a)
    (members (slice_index_or first a [])) (members (slice_index_or follow a []))

pub says_sets : (grammar : Grammar) (names : SymbolNames) (nullable : List Bool) (first follow : List (List Bool)) →
    AreNullable grammar nullable → AreFirst grammar first → AreFollow grammar follow →
    SaysSets grammar names (flat_map (lines_at names nullable first follow) (range_with_len 0 grammar.nonterminals))
says_sets grammar names nullable first follow empties firsts follows = record {
  nullable = item nullable;
  first = λ a. members (slice_index_or first a []);
  follow = λ a. members (slice_index_or follow a []);
  are_nullable = empties.each;
  are_first = λ a. members_those _ (slice_index_or first a []) (firsts.each a);
  are_follow = λ a. members_those _ (slice_index_or follow a []) (follows.each a);
  lines = refl;
}
